-- The events of a history that has no base, one after another.
use Rattle.rx_book.proofs.Common.{◌≡◌, ℕ, ◌+◌, ◌<◌, List, [], ◌∷◌, ◌++◌, length, take, Some, None, sym, ◌∙◌, refl, arith, slice_get, get_or, le-ltb, Event}
use Rattle.rx_book.proofs.Common.{take_more, get_or_from_slice_get, Close, Kept, event_since}
use Rattle.std.proofs.lemmas.Option.{none-some, slice_get-get_or}

whole_at : (b : Kept) (h : List Event) (n : ℕ) → b.at_length ≡ 0 → event_since b h n ≡ slice_get h n
whole_at b h n none = rw (le-ltb n b.at_length (omega (arith, none))) refl

pub event_more : (b : Kept) (h : List Event) {events more : List Event} (n : ℕ) {e : Event} → b.at_length ≡ 0 → n < length h → event_since b h n ≡ Some e →
    events ≡ take n h → more ≡ events ++ e ∷ [] → more ≡ take (n + 1) h
event_more b h n {e} none within there so_far pushed =
    pushed ∙ (λ i. so_far i ++ sym (get_or_from_slice_get h n e e (sym (whole_at b h n none) ∙ there)) i ∷ []) ∙ sym (take_more h n e within)

pub event_there : (b : Kept) (h : List Event) (n : ℕ) → b.at_length ≡ 0 → n < length h → event_since b h n ≡ None → ⊥
event_there b h n none within gone =
    let there : None ≡ Some (get_or h n (Close 0)) = sym gone ∙ whole_at b h n none ∙ slice_get-get_or h n (Close 0) within in
    none-some (get_or h n (Close 0)) there
