use Rattle.rx_audit.proofs.Common.{List, Bool, false, set, length, sym, ap, ◌∙◌, Subscribers}
use Rattle.rx_audit.proofs.SubscriberRows.{rows_less, rows_still}
use Rattle.rx_audit.proofs.subscribers.unlist.Goals.{in-Some, in_default}
use Rattle.rx_audit.proofs.subscribers.unlist.Goals as goal

pub returns-clause-linked : goal.returns-clause-linked
returns-clause-linked c =
    let h = c.args.past.now in
    let old = c.args.subs.now in
    let size = length old.listed.items in
    elim c.match-listed_hub.branch [
      | in-Some w ↦ rows_less w.in-Some.g c.args.s c.requires (sym w.in-Some.ensures) (c.put_mark.ensures ∙ ap (λ (ms : List Bool). set ms c.args.s false)
          (ap (λ (x : Subscribers). x.listed.items) w.subs-is ∙ w.join_neighbours.ensures.listed))
          (ap (λ (x : Subscribers). x.last.items) w.subs-is ∙ w.join_neighbours.ensures.last)
          (ap (λ (x : Subscribers). x.before.items) w.subs-is ∙ w.join_neighbours.ensures.before)
          (ap (λ (x : Subscribers). x.after.items) w.subs-is ∙ w.join_neighbours.ensures.after)
          (ap (λ (x : Subscribers). x.counts.items) w.subs-is ∙ w.join_neighbours.ensures.counts)
      | in_default w ↦ rows_still _ c.args.s c.requires (sym w.in_default.ensures)
          (c.put_mark.ensures ∙ ap (λ (ms : List Bool). set ms c.args.s false) (ap (λ (x : Subscribers). x.listed.items) w.subs-is))
          (ap (λ (x : Subscribers). x.last.items) w.subs-is) (ap (λ (x : Subscribers). x.before.items) w.subs-is)
          (ap (λ (x : Subscribers). x.after.items) w.subs-is) (ap (λ (x : Subscribers). x.counts.items) w.subs-is)
    ]
