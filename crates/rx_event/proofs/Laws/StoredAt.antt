-- Places of a stored history.
use Rattle.rx_event.proofs.Laws.Common.{◌≡◌, ℕ, zero, suc, ◌+◌, ◌-◌, ◌≤◌, List, [], ◌∷◌, ◌++◌, length, ap, ◌∙◌, arith, map, slice_get, length-append}
use Rattle.rx_event.proofs.Laws.Common.{append-nil, Event, Kept, shown}
use Rattle.std.proofs.lemmas.List.{length-map}
use Rattle.rx_event.specs.Words.{event_of}
use Rattle.rx_event.specs.declared.stored.StoredEvent.{StoredEvent}
use Rattle.rx_event.proofs.Laws.Bases.{length-shown}
use Rattle.std.proofs.Common.{rules}

pub length_stored : (b : Kept) (es : List Event) → length (shown b ++ es) ≡ b.at_length + length es
length_stored b es = length-append (shown b) es ∙ ap (λ n. n + length es) (length-shown b)

pub length_written : (b : Kept) (es : List StoredEvent) → length (shown b ++ map event_of es) ≡ b.at_length + length es
length_written b es = length_stored b (map event_of es) ∙ ap (λ n. b.at_length + n) (length-map es event_of)

-- with nothing since
pub stored_nothing : (b : Kept) → shown b ++ [] ≡ shown b
stored_nothing b = append-nil (shown b)

slice_get-after : {X : Type 0} (xs ys : List X) (n : ℕ) → length xs ≤ n → slice_get (xs ++ ys) n ≡ slice_get ys (n - length xs)
slice_get-after [] ys n past = ap (slice_get ys) (let e : n ≡ n - 0 = omega arith in e)
slice_get-after (x ∷ xs) ys zero past = absurd (omega arith)
slice_get-after (x ∷ xs) ys (suc n) past = search (rules, slice_get, length, slice_get-after xs ys n (omega arith))

pub get_stored : (b : Kept) (es : List Event) (n : ℕ) → b.at_length ≤ n → slice_get (shown b ++ es) n ≡ slice_get es (n - b.at_length)
get_stored b es n past = search (rules, length-shown, slice_get-after, slice_get)
