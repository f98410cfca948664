use Rattle.rx_audit.proofs.Common.{◌≡◌, ℕ, ◌++◌, [], ◌∷◌, length, subst, ap, ◌∙◌, arith, Children, AreChildren, AreLinked, AreHubs}
use Rattle.rx_audit.proofs.DueLists.{IsOneMore, all_after}
use Rattle.rx_audit.proofs.advance.advance.Goals as goal
use Rattle.std.proofs.Common.{rules}

pub returns-clause-followed : goal.returns-clause-followed
returns-clause-followed c =
    let h = c.args.past.now in
    let e = c.args.event in
    let w = c.requires.followed in
    let size : length c.keep.new.nodes.children.youngest.items ≡ length c.args.live.now =
    ap (λ (x : Children). length x.youngest.items) c.in_ok-keep.ensures.children ∙ w.children.youngest_size in
    let room = c.requires.room in
    let one : IsOneMore h e (length c.args.live.now) c.args.nodes.now.hubs c.mark_open.new.todo.items =
    record { lawful = c.requires.lawful; next = c.requires.next; hubs = w.hubs; room = omega arith; closing = c.in_ok-mark_open.ensures.listed } in
    record {
      children = subst (λ (n : ℕ). AreChildren (h ++ e ∷ []) n c.relink.new.children) size c.relink.ensures.children;
      linked = subst (λ (n : ℕ). AreLinked (h ++ e ∷ []) n c.relink.new.subs) size c.relink.ensures.linked;
      listed = c.relink.ensures.listed;
      nested_linked = subst (λ (n : ℕ). AreLinked (h ++ e ∷ []) n c.relink.new.nested) size c.relink.ensures.nested_linked;
      nested_listed = c.relink.ensures.nested_listed;
      hubs = subst (λ (n : ℕ). AreHubs (h ++ e ∷ []) n c.relink.new.hubs) size c.relink.ensures.hubs;
      marks_size = c.in_ok-keep.ensures.marks_size ∙ w.marks_size;
      kept = c.in_ok-keep.ensures.kept;
      covered = all_after {marked = c.keep.new.nodes.due.items} {cut = c.note_cut.new.due.items} one w.covered (record {
        marks_keep = c.in_ok-keep.ensures.keeps;
        covered = c.in_ok-keep.ensures.covered;
        cut_keeps = c.in_ok-note_cut.ensures.keeps;
        ended = c.in_ok-note_cut.ensures.ended;
        left_keeps = c.in_ok-note_left.ensures.keeps;
        lost = rw (c.as_slice.ensures.value, c.in_ok-keep.ensures.hubs) at c.in_ok-note_left.ensures.lost;
        new = c.in_ok-note_left.ensures.new;
      });
    }

pub note_cut-requires-clause-linked : goal.note_cut-requires-clause-linked
note_cut-requires-clause-linked c = search rules

pub note_cut-requires-clause-listed : goal.note_cut-requires-clause-listed
note_cut-requires-clause-listed c = rw c.in_ok-keep.ensures.subscribers c.requires.followed.listed

pub relink-requires-clause-linked : goal.relink-requires-clause-linked
relink-requires-clause-linked c = search rules

pub relink-requires-clause-listed : goal.relink-requires-clause-listed
relink-requires-clause-listed c = rw c.in_ok-keep.ensures.subscribers c.requires.followed.listed

pub relink-requires-clause-nested_linked : goal.relink-requires-clause-nested_linked
relink-requires-clause-nested_linked c = search rules

pub relink-requires-clause-nested_listed : goal.relink-requires-clause-nested_listed
relink-requires-clause-nested_listed c = rw c.in_ok-keep.ensures.nested c.requires.followed.nested_listed

pub relink-requires-clause-hubs : goal.relink-requires-clause-hubs
relink-requires-clause-hubs c = search rules
