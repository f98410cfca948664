use Rattle.std.proofs.Common.{◌≡◌, ◌-◌, List, [], None, length, subst, rules}
use Rattle.rx_turns.specs.declared.agenda.Row.{Row}
use Rattle.rx_slots.specs.Lists.{list_at}
use Rattle.rx_turns.specs.Rows.{row_on}
use Rattle.rx_turns.proofs.Trimmed.{told_as, told_on, popped, depths_popped}
use Rattle.rx_turns.proofs.agenda.trim.Goals as goal

pub loop-rows-init : goal.loop-rows-init
loop-rows-init c = (told_as c.args.rows.now.items c.args.lists.now c.requires.listed c.requires.apart, λ n are. are)

pub loop-rows-preserved : goal.loop-rows-preserved
loop-rows-preserved c =
    let rows = c.loop-rows.rows.items in
    let many : c.len-last.result ≡ length rows = search rules in
    let served : (row_on rows (length rows - 1)).in_hand ≡ None =
    subst (λ n. (row_on rows (n - 1)).in_hand ≡ None) many
    (subst (λ (xs : List Row). (row_on xs (c.len-last.result - 1)).in_hand ≡ None) c.deref.ensures.value (c.is_busy.ensures.served c.if-is_busy.false)) in
    let due : list_at c.args.lists.now (length rows - 1) ≡ [] = subst (λ n. list_at c.args.lists.now (n - 1) ≡ []) many (c.is_busy.ensures.due c.if-is_busy.false) in
    let before = c.loop-rows.invariant.0 in (
      told_on c.args.rows.now.items rows c.pop-row.new.self.items c.args.lists.now before
          (popped rows c.pop-row.new.self.items c.pop-row.result c.args.lists.now c.pop-row.ensures.items before.listed before.apart served due),
      λ n are. depths_popped rows c.pop-row.new.self.items c.pop-row.result c.args.lists.now c.pop-row.ensures.items before.listed before.apart served due n
          (c.loop-rows.invariant.1 n are),
    )
