use Rattle.rx_audit.proofs.Common.{◌≡◌, suc, ◌+◌, set, length, sym, ap, ◌∙◌, arith, table_with, number_by_word, subscribed_event, on_list}
use Rattle.rx_audit.proofs.SubscriberRows.{rows_more, rows_other, subscribes_none}
use Rattle.rx_audit.proofs.CountedRows.{falling_few}
use Rattle.rx_audit.proofs.subscribers.list_new.Goals as goal

pub returns-in-Some-clause-linked : goal.returns-in-Some-clause-linked
returns-in-Some-clause-linked c = let h = c.args.past.now in let old = c.args.subs.now in let next : length h + 1 ≡ suc (length h) = omega arith in
    rows_more _ c.requires.linked c.requires.room (c.requires.hubbed _ (subscribed_event _ _ (sym c.in-Some.ensures))) (sym c.in-Some.ensures) (record {
      listed = c.put_last.ensures.listed;
      last = c.put_last.ensures.last ∙ ap (set old.last.items _) next;
      before = c.put_last.ensures.before;
      counts = c.put_last.ensures.counts;
      after = c.put_last.ensures.after ∙ ap (table_with (set old.after.items (length h) 0) (number_by_word _)) next;
    })

pub returns-in_default-clause-linked : goal.returns-in_default-clause-linked
returns-in_default-clause-linked c = rows_other _ _ c.requires.linked (λ g. subscribes_none _ g (sym c.in_default.ensures))

pub put_last-requires-clause-few : goal.put_last-requires-clause-few
put_last-requires-clause-few c = let few = falling_few (on_list c.args.past.now c.args.subs.now.listed.items c.in-Some.g) (length c.args.past.now) in
    let is = c.requires.linked.counted c.in-Some.g in let short = c.requires.short in omega arith
