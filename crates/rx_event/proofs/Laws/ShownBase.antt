-- What holds of a list holds of what its base shows: where inductions over the events since a base begin.
use Rattle.rx_event.proofs.Laws.Common.{◌≡◌, ℕ, ◌+◌, true, List, ◌∙◌, range_with_len, Event, is_connect_of, is_open, Kept, shown, base_of, Agree, held_count}
use Rattle.rx_event.proofs.Laws.Common.{waiting_count, taken_count, accepted_count}
use Rattle.std.proofs.Common.{count_by, rules}
use Rattle.rx_event.proofs.Laws.SoundForm.{Sound}
use Rattle.rx_event.proofs.Laws.SameTree.{at_alike}
use Rattle.rx_event.proofs.Laws.Bases.{base_alike}
use Rattle.rx_event.proofs.Laws.Hubs.{TwoConnections}

-- it has one open connection of a hub -----------------------------------------------------------------

pub base_one_connection : (b : Kept) (h : List Event) → Sound b h → ((g x y : ℕ) → TwoConnections h g x y → x ≡ y) → (g x y : ℕ) →
    TwoConnections (shown (base_of b h)) g x y → x ≡ y
base_one_connection b h sound one g x y two =
    let a = base_alike b h sound.one_inner in
    let x_open : is_open h x ≡ true = a.same_open x ∙ two.one_open in
    let y_open : is_open h y ≡ true = a.same_open y ∙ two.other_open in
    one g x y (record {
      one = at_alike h (shown (base_of b h)) a (is_connect_of g) x x_open ∙ two.one;
      one_open = x_open;
      other = at_alike h (shown (base_of b h)) a (is_connect_of g) y y_open ∙ two.other;
      other_open = y_open;
    })

-- and what was accepted is held, waits or was taken -----------------------------------------------------

pub agree_accepted : (b : Kept) (h : List Event) (c : Kept) (k : List Event) → Agree b h c k →
    accepted_count b h ≡ held_count h + waiting_count h + taken_count b h → accepted_count c k ≡ held_count k + waiting_count k + taken_count c k
agree_accepted b h c k a parts = search (rules, count_by, range_with_len)
