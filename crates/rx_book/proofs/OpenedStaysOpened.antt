-- What an opening answers holds after one more event too, which makes no connection and closes no node.
use Rattle.rx_book.proofs.Common.{◌≡◌, ℕ, ◌+◌, ◌<◌, Bool, false, List, [], ◌∷◌, ◌++◌, length, Option, Some, None, cond, sym, ap}
use Rattle.rx_book.proofs.Common.{◌∙◌, inl, inr, ◌⊎◌, arith, length-append, option_map_or, cases_order, Event, at, at-append, at_within, Opened}
use Rattle.rx_book.proofs.Common.{slice_get_last, State, IsOpened, connection_made, makes_connection}
use Rattle.std.proofs.Common.{rules}

-- past the end of a history there is no event
none_past : (p : Event → Bool) (h : List Event) (n : ℕ) → (n < length h → ⊥) → at p h n ≡ false
none_past p h n past = search (rules, at_within)

made_on : (h m : List Event) (e : Event) → makes_connection e ≡ false → connection_made h m ≡ connection_made h (m ++ e ∷ [])
made_on h m e none = ap (λ (b : Bool). cond b (Some (length h + 1)) None) (by_place (cases_order (length h + 1) (length m))) where
  longer : length (m ++ e ∷ []) ≡ length m + 1
  longer = length-append m (e ∷ [])

  last : at makes_connection (m ++ e ∷ []) (length m) ≡ false
  last = ap (λ (o : Option Event). option_map_or makes_connection o false) (slice_get_last m e) ∙ none

  by_place : (length h + 1 ≡ length m) ⊎ ((length h + 1 < length m) ⊎ (length m < length h + 1)) →
      at makes_connection m (length h + 1) ≡ at makes_connection (m ++ e ∷ []) (length h + 1)
  by_place (inl same) = none_past makes_connection m (length h + 1) (λ l. omega arith) ∙ sym last ∙ ap (at makes_connection (m ++ e ∷ [])) (sym same)
  by_place (inr (inl l)) = sym (at-append makes_connection m (e ∷ []) (length h + 1) l)
  by_place (inr (inr past)) = none_past makes_connection m (length h + 1) (λ l. omega arith) ∙
      sym (none_past makes_connection (m ++ e ∷ []) (length h + 1) (λ l. let n = longer in omega arith))

pub opened_after : (old mid new : State) (e : Event) {o : Opened} → makes_connection e ≡ false → new.history ≡ mid.history ++ e ∷ [] →
    new.keys ≡ mid.keys → IsOpened old mid o → IsOpened old new o
opened_after old mid new e {o} none grown same opened = search (rules, made_on)
