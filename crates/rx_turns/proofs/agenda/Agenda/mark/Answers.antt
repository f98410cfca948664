use Rattle.rx_turns.proofs.Admitted.{listed_as}
use Rattle.rx_turns.proofs.Marked.{marks_all, apart_marked, depths_marked}
use Rattle.rx_turns.proofs.Trimmed.{marks_behind}
use Rattle.rx_turns.proofs.agenda.Agenda.mark.Goals as goal

pub returns : goal.returns
returns c =
    marks_behind c.args.by c.args.ticket c.args.self.now.rows.items c.trim.new.rows.items c.mark-self.new.rows.items c.args.self.now.lists
    c.args.self.now.words.items c.trim.ensures.told
    (marks_all c.args.by c.args.ticket c.trim.new.rows.items c.mark-self.new.rows.items c.mark-self.ensures.each c.mark-self.ensures.many c.args.self.now.lists
    c.args.self.now.words.items)

pub invariant_of-self : goal.invariant_of-self
invariant_of-self c =
    let tied = c.args.self.now.tied in
    let told = c.trim.ensures.told in
    let each = c.mark-self.ensures.each in
    let many = c.mark-self.ensures.many in
    let rows = c.trim.new.rows.items in
    let new = c.mark-self.new.rows.items in
    record {
      tied = record {
        listed = listed_as rows new c.args.self.now.lists many told.listed;
        counted = tied.counted;
        worded = tied.worded;
        apart = apart_marked c.args.by c.args.ticket rows new each many told.apart;
        begun = c.mark-self.ensures.settled;
        depths = depths_marked c.args.by c.args.ticket rows new each many c.args.self.now.deepest (c.trim.ensures.depths c.args.self.now.deepest tied.depths);
      };
    }
