-- Marks of the keys of a range of numbers.
use Rattle.rx_audit.proofs.Common.{◌≡◌, ℕ, ◌+◌, ◌<◌, Bool, true, List, length, Some, ap, ◌∙◌, arith, take, slice_get, option_and_then_some}
use Rattle.rx_audit.proofs.Common.{length-range_with_len, list_any, range_with_len, nothing_kept, Event, makes_hub, hub_connected, IsLawful, at_within}
use Rattle.rx_audit.proofs.Common.{hub_connected_at, connected_event}
use Rattle.std.proofs.Common.{length-take}
use Rattle.std.proofs.lemmas.List.Folds.{list_any_at}
use Rattle.std.proofs.lemmas.List.FromFn.{get_or-range_with_len}
use Rattle.rx_event.proofs.Laws.Hubs.{hub_before}

pub connected_below : (h : List Event) → IsLawful nothing_kept h → (c g : ℕ) → hub_connected_at h c ≡ Some g → g < length h
connected_below h law c g e = option_and_then_some hub_connected (slice_get h c) g e
    (λ x a b. let l = at_within makes_hub (take c h) g (hub_before nothing_kept h law c g (a ∙ ap (λ y. Some y) (connected_event x g b))) in
    omega (arith, length-take {A = Event}))

pub any_found : (q : ℕ → Bool) (n k : ℕ) → k < n → q k ≡ true → list_any q (range_with_len 0 n) ≡ true
any_found q n k l holds = list_any_at q (range_with_len 0 n) k 0 (rw (length-range_with_len 0 n) l)
    (ap q (get_or-range_with_len 0 n k 0 l ∙ let z : 0 + k ≡ k = omega arith in z) ∙ holds)
