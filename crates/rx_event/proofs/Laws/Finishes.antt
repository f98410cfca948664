-- In the one order each lawful history comes to just one end at which nothing is forced.
use Rattle.rx_event.proofs.Laws.Common.{◌≡◌, ℕ, zero, suc, ◌+◌, ◌<◌, ◌≤◌, false, List, [], ◌∷◌, ◌++◌, Option, Some, None, refl, sym, ap, subst, ◌∙◌, inl, inr}
use Rattle.rx_event.proofs.Laws.Common.{◌⊎◌, arith, same_Some, none-some, Kept, Event, Connect, open_count, connecting, due, IsForced, IsConnected, IsSettled}
use Rattle.rx_event.proofs.Laws.Common.{forced, stays, more, IsLawful, IsForcedOn, first_forced}
use Rattle.rx_event.specs.Events.{is_connect}
use Rattle.rx_event.specs.Canonical.{IsFirstOn, nothing_yet, first_next}
use Rattle.rx_event.proofs.Laws.Lawful.{IsLawful-push}
use Rattle.rx_event.proofs.Laws.Waits.{kept_due, forced_closes, connected_first}
use Rattle.rx_event.proofs.Laws.Dues.{IsClosing, closing_of}
use Rattle.rx_event.proofs.Laws.Starts.{one_hub_waits}
use Rattle.rx_event.proofs.Laws.InOrder.{first_is_forced, settled_by_order}
use Rattle.std.proofs.Common.{rules}

-- what comes in this order is forced
pub first_forced_on : (base : Kept) → {b k : List Event} → IsFirstOn base b k → IsForcedOn base b k
first_forced_on base nothing_yet = stays
first_forced_on base (first_next {k = k} {e = e} on f) = more (first_forced_on base on) (first_is_forced base k e f)

-- one end --------------------------------------------------------------------------------------------------------------------

record FirstOf (base : Kept) (b k : List Event) : Type 0 where
  pub event : Event
  pub first : first_forced base b ≡ Some event
  pub rest : IsFirstOn base (b ++ event ∷ []) k

first_of : (base : Kept) → {b k : List Event} → IsFirstOn base b k → (k ≡ b) ⊎ FirstOf base b k
first_of base nothing_yet = inl refl
first_of base {b = b} (first_next {k = k} {e = e} on f) = by_rest (first_of base on) f where
  by_rest : (k ≡ b) ⊎ FirstOf base b k → first_forced base k ≡ Some e → (k ++ e ∷ [] ≡ b) ⊎ FirstOf base b (k ++ e ∷ [])
  by_rest (inr begun) f = inr (record { event = begun.event; first = begun.first; rest = first_next begun.rest f })
  by_rest (inl same) f = inr (record {
    event = e;
    first = sym (ap (first_forced base) same) ∙ f;
    rest = subst (λ (q : List Event). IsFirstOn base (q ++ e ∷ []) (k ++ e ∷ [])) same nothing_yet;
  })

-- of two courses in this order one goes on from the other
one_goes_on : (base : Kept) → {b k j : List Event} → IsFirstOn base b k → IsFirstOn base b j → IsFirstOn base k j ⊎ IsFirstOn base j k
one_goes_on base nothing_yet other = inl other
one_goes_on base {j = j} (first_next {k = k} {e = e} on f) other = by_rest (one_goes_on base on other) where
  by_first : (j ≡ k) ⊎ FirstOf base k j → IsFirstOn base (k ++ e ∷ []) j ⊎ IsFirstOn base j (k ++ e ∷ [])
  by_first (inl same) = inr (subst (λ (q : List Event). IsFirstOn base q (k ++ e ∷ [])) (sym same) (first_next nothing_yet f))
  by_first (inr begun) = inl (search (rules, same_Some))

  by_rest : IsFirstOn base k j ⊎ IsFirstOn base j k → IsFirstOn base (k ++ e ∷ []) j ⊎ IsFirstOn base j (k ++ e ∷ [])
  by_rest (inr back) = inr (first_next back f)
  by_rest (inl there) = by_first (first_of base there)

ends_there : (base : Kept) → {k j : List Event} → IsFirstOn base k j → first_forced base k ≡ None → j ≡ k
ends_there base {k = k} {j = j} on none = elim (first_of base on) [ inl same ↦ same | inr begun ↦ absurd (none-some begun.event (sym none ∙ begun.first)) ]

-- so both are the same where both are at their end
pub one_finish : (base : Kept) → (b k j : List Event) → IsFirstOn base b k → first_forced base k ≡ None → IsFirstOn base b j → first_forced base j ≡ None →
    k ≡ j
one_finish base b k j on_k none_k on_j none_j = search (rules, one_goes_on, ends_there)

-- there is one ------------------------------------------------------------------------------------------------------------------

pub record Finishes (base : Kept) (b : List Event) : Type 0 where
  pub last : List Event
  pub ordered : IsFirstOn base b last
  pub over : first_forced base last ≡ None
  pub law : IsLawful base last

before_first : (base : Kept) → {b : List Event} {e : Event} {k : List Event} → first_forced base b ≡ Some e → IsFirstOn base (b ++ e ∷ []) k →
    IsFirstOn base b k
before_first base f nothing_yet = first_next nothing_yet f
before_first base f (first_next on g) = first_next (before_first base f on) g

due_connects_none : (base : Kept) → {h : List Event} {e : Event} → IsClosing base h e → is_connect e ≡ false
due_connects_none base x1 = search rules

finish_due : (base : Kept) → (steps : ℕ) (b : List Event) → IsLawful base b → IsConnected b → open_count b < steps → Finishes base b
finish_due base zero b law whole l = absurd (omega arith)
finish_due base (suc steps) b law whole l = by_first (first_forced base b) refl
    (λ e next connected less. finish_due base steps (b ++ e ∷ []) next connected (let a = less in let k = l in omega arith))
  where
    by_first : (o : Option Event) → first_forced base b ≡ o →
        ((e : Event) → IsLawful base (b ++ e ∷ []) → IsConnected (b ++ e ∷ []) → open_count (b ++ e ∷ []) + 1 ≤ open_count b → Finishes base (b ++ e ∷ [])) →
        Finishes base b
    by_first None none rest = record { last = b; ordered = nothing_yet; over = none; law = law }
    by_first (Some e) found rest = by_forced e found (first_is_forced base b e found) (rest e) where
      by_forced : (x : Event) → first_forced base b ≡ Some x → IsForced base b x →
          (IsLawful base (b ++ x ∷ []) → IsConnected (b ++ x ∷ []) → open_count (b ++ x ∷ []) + 1 ≤ open_count b → Finishes base (b ++ x ∷ [])) →
          Finishes base b
      by_forced x found (connecting {g = g} d) rest = absurd (whole g d)
      by_forced x found (due connected d) rest =
          let f : Finishes base (b ++ x ∷ []) = rest (IsLawful-push base b x law (forced (due connected d))) (kept_due base b x connected d)
          (forced_closes base b x (due connected d) (due_connects_none base (closing_of base d))) in
          record { last = f.last; ordered = before_first base found f.ordered; over = f.over; law = f.law }

pub finishes : (base : Kept) → (b : List Event) → IsLawful base b → Finishes base b
finishes base b law = by_first (first_forced base b) refl where
  by_forced : (e : Event) → first_forced base b ≡ Some e → IsForced base b e → Finishes base b
  by_forced e found (due whole d) = finish_due base (suc (open_count b)) b law whole (omega arith)
  by_forced e found (connecting {g = g} d) =
      let whole : IsConnected (b ++ Connect g ∷ []) = connected_first base b g (λ k w. one_hub_waits base b law k g w d) in
      let f : Finishes base (b ++ Connect g ∷ []) =
      finish_due base (suc (open_count (b ++ Connect g ∷ []))) (b ++ Connect g ∷ []) (IsLawful-push base b (Connect g) law (forced (connecting d))) whole
      (omega arith) in
      record { last = f.last; ordered = before_first base found f.ordered; over = f.over; law = f.law }

  by_first : (o : Option Event) → first_forced base b ≡ o → Finishes base b
  by_first None none = record { last = b; ordered = nothing_yet; over = none; law = law }
  by_first (Some e) found = by_forced e found (first_is_forced base b e found)

pub finish_settled : (base : Kept) → (h : List Event) → first_forced base h ≡ None → IsSettled base h
finish_settled base = settled_by_order base
