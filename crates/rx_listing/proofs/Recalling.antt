-- What a past and the events since it tell, place by place.
use Rattle.rx_listing.proofs.Common.{◌≡◌, ℕ, zero, suc, ◌+◌, ◌<◌, ◌≤◌, Bool, true, false, cond, List, Option, Some, None, refl, sym, ap, ◌∙◌, arith, nat_eq}
use Rattle.rx_listing.proofs.Common.{list_any, option_map_or, if◌then◌else◌, slice_get, lt-ltb, Event, Kept, event_since, is_use_of, State, Past, IsKept}
use Rattle.rx_listing.proofs.Common.{uses_in, connected_in, uses_by, connection_after, connection_by}

gone : (b : Kept) (h : List Event) (n : ℕ) → n < b.at_length → event_since b h n ≡ None
gone b h n l = ap (λ (t : Bool). if t then None else slice_get h n) (lt-ltb n b.at_length l)

next : (k : ℕ) → k + 1 ≡ suc k
next k = omega arith

module _ (book : State) (past : Past) (r : ℕ) where
  abbrev use_if : Option Event → ℕ
  use_if o = cond (option_map_or (is_use_of r) o false) 1 0

  -- what the past tells stands at the first place that is not gone
  pub uses_start : (k : ℕ) → k ≤ book.base.at_length → uses_by book past k r ≡ uses_in past r
  uses_start zero l = refl
  uses_start (suc k) l =
      let before = uses_start k (omega arith) in
      let none : uses_by book past k r + use_if (event_since book.base book.history k) ≡ uses_by book past k r + 0 =
      ap (λ (o : Option Event). uses_by book past k r + use_if o) (gone book.base book.history k (omega arith)) in
      omega arith

  -- an event uses it once at most
  pub uses_most : (k : ℕ) → uses_by book past k r ≤ uses_in past r + k
  uses_most zero = omega arith
  uses_most (suc k) = by_test (option_map_or (is_use_of r) (event_since book.base book.history k) false) (uses_most k) where
    by_test : (b : Bool) → uses_by book past k r ≤ uses_in past r + k → uses_by book past k r + cond b 1 0 ≤ uses_in past r + suc k
    by_test true l = omega arith
    by_test false l = omega arith

  -- with one event more, and with none
  pub use_more : (k : ℕ) {e : Event} {was now : ℕ} → event_since book.base book.history k ≡ Some e → was ≡ uses_by book past k r →
      now ≡ was + cond (is_use_of r e) 1 0 → now ≡ uses_by book past (k + 1) r
  use_more k {e} there is more =
      let on : uses_by book past (k + 1) r ≡ uses_by book past k r + cond (is_use_of r e) 1 0 =
      ap (λ (n : ℕ). uses_by book past n r) (next k) ∙ ap (λ (o : Option Event). uses_by book past k r + use_if o) there in
      omega arith

  pub use_same : (k : ℕ) {was : ℕ} → event_since book.base book.history k ≡ None → was ≡ uses_by book past k r → was ≡ uses_by book past (k + 1) r
  use_same k none is =
      let on : uses_by book past (k + 1) r ≡ uses_by book past k r + 0 =
      ap (λ (n : ℕ). uses_by book past n r) (next k) ∙ ap (λ (o : Option Event). uses_by book past k r + use_if o) none in
      omega arith

module _ (book : State) (past : Past) (c : ℕ) where
  abbrev connection_if : (k : ℕ) → Option Event → Option ℕ
  connection_if k o = option_map_or (λ e. connection_after k e c (connection_by book past k c)) o (connection_by book past k c)

  pub connection_start : (k : ℕ) → k ≤ book.base.at_length → connection_by book past k c ≡ connected_in past c
  connection_start zero l = refl
  connection_start (suc k) l = ap (connection_if k) (gone book.base book.history k (omega arith)) ∙ connection_start k (omega arith)

  pub connection_more : (k : ℕ) {e : Event} {was now : Option ℕ} → event_since book.base book.history k ≡ Some e → was ≡ connection_by book past k c →
      now ≡ connection_after k e c was → now ≡ connection_by book past (k + 1) c
  connection_more k {e} there is more =
      more ∙ ap (connection_after k e c) is ∙ sym (ap (connection_if k) there) ∙ sym (ap (λ (n : ℕ). connection_by book past n c) (next k))

  pub connection_same : (k : ℕ) {was : Option ℕ} → event_since book.base book.history k ≡ None → was ≡ connection_by book past k c →
      was ≡ connection_by book past (k + 1) c
  connection_same k none is = is ∙ sym (ap (connection_if k) none) ∙ sym (ap (λ (n : ℕ). connection_by book past n c) (next k))

-- what is kept of a number that is among those
pub kept_at : {X : Type 0} (want kept : ℕ → Option X) (numbers : List ℕ) (n : ℕ) → IsKept numbers want kept →
    list_any (nat_eq n) numbers ≡ true → kept n ≡ want n
kept_at want kept numbers n keeps there = keeps n ∙ ap (λ (b : Bool). cond b (want n) None) there
