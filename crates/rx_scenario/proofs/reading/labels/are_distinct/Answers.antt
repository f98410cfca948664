use Rattle.std.proofs.Common.{◌≡◌, Some, None, option_map, string_bytes, ap, sym, refl, rules}
use Rattle.rx_scenario.specs.Scenario.{labels_meant}
use Rattle.rx_scenario.proofs.Labels.{halfway-start, halfway-none, halfway-some, halfway-twice, labels_meant-drop}
use Rattle.rx_scenario.proofs.reading.labels.are_distinct.Goals.{in-Some+in_ok-insert+else-not-branch, in_default}
use Rattle.rx_scenario.proofs.reading.labels.are_distinct.Goals as goal

pub loop-label-init : goal.loop-label-init
loop-label-init c = halfway-start c.new-seen.result (labels_meant c.args.labels.now) c.new-seen.ensures.empty

pub loop-label-preserved : goal.loop-label-preserved
loop-label-preserved c =
    let here = labels_meant-drop c.args.labels.now c.loop-label.label-index c.label-item.result c.loop-label-test.true c.label-item.is in
    let half = rw here at c.loop-label.invariant in
    elim c.match-label.branch [
      | in-Some+in_ok-insert+else-not-branch w ↦
          let is : option_map string_bytes c.label-item.result ≡ Some w.as_str.result.now = rw w.in-Some.is (ap Some (sym w.as_str.ensures.value)) in
          rw w.seen-is (halfway-some _ w.as_str.result w.in_ok-insert.field-0 half is w.in_ok-insert.ensures.added
          w.if-not-branch.false w.in_ok-insert.ensures.updates)
      | in_default w ↦
          let is : option_map string_bytes c.label-item.result ≡ None = rw w.in_default.is refl in
          halfway-none c.loop-label.seen c.match-label.seen _ _ _ half is w.seen-is
    ]

pub returns-then-not-branch : goal.returns-then-not-branch
returns-then-not-branch c =
    search (rules, labels_meant-drop, option_map, string_bytes, Some, halfway-twice)
