-- A resource is held where its own row has a full bar, or a lease of it has one.
use Rattle.rx_picture.proofs.Common.{Hub}
use Rattle.rx_picture.proofs.Common.{◌≡◌, ℕ, zero, suc, ◌+◌, ◌<◌, ◌≤◌, Bool, true, false, List, [], ◌∷◌, length, take, map, Option, Some, None, refl, sym, ap}
use Rattle.rx_picture.proofs.Common.{◌∙◌, arith, ◌⊎◌, ◌==◌, nat_lt, slice_get, not, ◌&&◌, ◌||◌, AllByRecursion, list_any, range_with_len}
use Rattle.rx_picture.proofs.Common.{option_map_or, false≢true, and_parts, and_from, or_left, or_right, eqb-true, eq-eqb, ltb-true, length-take-le, none-some}
use Rattle.rx_picture.proofs.Common.{same_Some, Event, Accept, Lease, makes_node, makes_hub, makes_resource, at, places, is_owned, is_out, is_held, at_within}
use Rattle.rx_picture.proofs.Common.{Row, Shape, Node, Resource, Loan, Drawing, AreRowsShown, IsRowMade, IsShape, has_row, is_shown, is_rowed, IsDrawing}
use Rattle.rx_picture.proofs.Common.{false_from_ne_true}
use Rattle.std.proofs.Common.{subst, rules}
use Rattle.std.proofs.lemmas.Bool.{cases_order, true_from_ne_false}
use Rattle.std.proofs.lemmas.Map.Views.{any-filter_same}
use Rattle.rx_event.specs.Events.{is_lease_of}
use Rattle.rx_event.specs.Resources.{is_out_of, leases_of, is_leased}
use Rattle.rx_event.proofs.Laws.Searches.{list_any_found, list_any_holds}
use Rattle.rx_event.proofs.Laws.Leases.{leased_some, leased_where, leases_of_some, lease_at, is_out_within}
use Rattle.rx_event.proofs.Laws.Sound.{count_none}
use Rattle.rx_picture.specs.Held.{bars, bars_row, HeldIsBarred}
use Rattle.rx_picture.proofs.Prefixes.{same_tests, get_prefix, at_prefix}
use Rattle.rx_event.proofs.Laws.Resources.{owned_held, leased_held, held_parts}

-- rows of a number ---------------------------------------------------------------------------------

all_at : {X : Type 0} (P : X → Type 0) (xs : List X) (i : ℕ) (x : X) → AllByRecursion P xs → slice_get xs i ≡ Some x → P x
all_at P [] i x each at_i = absurd (none-some x at_i)
all_at P (y ∷ xs) zero x each at_i = subst P (same_Some y x at_i) each.0
all_at P (y ∷ xs) (suc i) x each at_i = all_at P xs i x each.1 at_i

in_range : (n s c : ℕ) → s ≤ n → n < s + c → list_any (λ m. n == m) (range_with_len s c) ≡ true
in_range n s zero above below = absurd (omega arith)
in_range n s (suc c) above below = search (rules, cases_order, list_any, range_with_len, or_left, eq-eqb, or_right, in_range n (s + 1) c)

any_map : (n : ℕ) (rows : List Row) → list_any (λ m. n == m) (map (λ row. row.number) rows) ≡ list_any (λ row. n == row.number) rows
any_map n [] = refl
any_map n (row ∷ rows) = ap (λ (b : Bool). (n == row.number) || b) (any_map n rows)

row_there : (h : List Event) (shown : ℕ → Bool) (rows : List Row) → AreRowsShown h shown rows → (n : ℕ) → n < length h → (at has_row h n && shown n) ≡ true →
    (i : ℕ) × (row : Row) × (slice_get rows i ≡ Some row) × ((n == row.number) ≡ true)
row_there h shown rows are n within has = list_any_found (λ row. n == row.number) rows
    (sym (any_map n rows) ∙ ap (list_any (λ m. n == m)) are.numbers
    ∙ any-filter_same (λ m. n == m) (λ k. at has_row h k && shown k) true
    (λ m same. ap (λ (k : ℕ). at has_row h k && shown k) (sym (eqb-true n m same)) ∙ has) (places h)
    ∙ in_range n 0 (length h) (omega arith) (omega arith))

-- what the shape of a row says ----------------------------------------------------------------------

no_node : (o : Option Event) → option_map_or makes_node o false ≡ true → option_map_or makes_resource o false ≡ true → false ≡ true
no_node x0 a b = search (rules, Event, Accept, Lease)

no_hub : (o : Option Event) → option_map_or makes_hub o false ≡ true → option_map_or makes_resource o false ≡ true → false ≡ true
no_hub x0 a b = search (rules, Event, Accept, Lease)

lease_of : (q r : ℕ) → Some (Lease q) ≡ Some (Lease r) → q ≡ r
lease_of q r same = eqb-true q r (ap (λ (o : Option Event). option_map_or (is_lease_of r) o false) same ∙ eq-eqb r r refl)

owned_barred : (h : List Event) (r k : ℕ) (shape : Shape) → IsShape h r shape → at makes_resource h r ≡ true → k ≤ length h → is_owned (take k h) r ≡ true →
    bars r k r shape ≡ true
owned_barred h r k x3 is made m owned = search (rules, false≢true, slice_get, and_from, eq-eqb, Option, Event, option_map_or)

out_barred : (h : List Event) {r : ℕ} (k l : ℕ) (shape : Shape) → IsShape h l shape → slice_get h l ≡ Some (Lease r) → k ≤ length h
    → is_out (take k h) l ≡ true → bars r k l shape ≡ true
out_barred h k l x3 is leased m out = search (rules, false≢true, Option, Event, option_map_or, and_from, eq-eqb)

-- a lease that is out --------------------------------------------------------------------------------

out_somewhere : (h : List Event) (r : ℕ) → 0 < leases_of h r → list_any (is_out_of h r) (places h) ≡ true
unfolding leases_of
out_somewhere h r some = search (rules, true_from_ne_false, list_any, count_none, false_from_ne_true, false≢true, list_any_holds)

module _ (h : List Event) (d : Drawing) (is : IsDrawing h d) (r : ℕ) (made : at makes_resource h r ≡ true)
    (shown : is_shown h r ≡ true) (k : ℕ) (l : r < k) (m : k ≤ length h) where
  barred_by : (n : ℕ) → n < length h → (at has_row h n && is_rowed h n) ≡ true → ((shape : Shape) → IsShape h n shape → bars r k n shape ≡ true) →
      list_any (bars_row r k) d.rows.items ≡ true
  barred_by n within has holds =
      let found = row_there h (is_rowed h) d.rows.items is.rows n within has in
      let same : n ≡ found.1.number = eqb-true n found.1.number found.3 in
      let row = all_at (IsRowMade h) d.rows.items found.0 found.1 is.rows.each found.2 in
      list_any_holds (bars_row r k) d.rows.items found.0 found.1 found.2
      (ap (λ (j : ℕ). bars r k j found.1.shape) (sym same) ∙ holds found.1.shape (subst (λ (j : ℕ). IsShape h j found.1.shape) (sym same) row.shape))

  own_row : (at has_row h r && is_rowed h r) ≡ true
  own_row = search (rules, slice_get, Option, Event, option_map_or, None, false≢true, Some, Accept)

  lease_row : (n : ℕ) → slice_get h n ≡ Some (Lease r) → (at has_row h n && is_rowed h n) ≡ true
  lease_row n at_n = rw at_n shown

  by_lease : is_leased (take k h) r ≡ true → list_any (bars_row r k) d.rows.items ≡ true
  by_lease leased =
      let found = list_any_found (is_out_of (take k h) r) (places (take k h)) (out_somewhere (take k h) r (leased_some (take k h) r leased)) in
      let parts = and_parts (at (is_lease_of r) (take k h) found.1) (is_out (take k h) found.1) found.3 in
      let inside = is_out_within (take k h) found.1 parts.1 in
      let size = length-take-le k h m in
      let at_n : slice_get h found.1 ≡ Some (Lease r) = sym (get_prefix h k found.1 (omega arith) m) ∙ lease_at (take k h) r found.1 parts.0 in
      barred_by found.1 (omega arith) (lease_row found.1 at_n) (λ shape of. out_barred h k found.1 shape of at_n m parts.1)

  by_case : (is_owned (take k h) r ≡ true) ⊎ (is_leased (take k h) r ≡ true) → list_any (bars_row r k) d.rows.items ≡ true
  by_case x0 = search (rules, barred_by, at_within, own_row, owned_barred, by_lease)

  back : list_any (bars_row r k) d.rows.items ≡ true → is_held (take k h) r ≡ true
  back some =
      let found = list_any_found (bars_row r k) d.rows.items some in
      let row = all_at (IsRowMade h) d.rows.items found.0 found.1 is.rows.each found.2 in
      by_shape found.1.number found.1.shape row.shape found.3
    where
      by_shape : (n : ℕ) (shape : Shape) → IsShape h n shape → bars r k n shape ≡ true → is_held (take k h) r ≡ true
      by_shape n (Node until ending) is_so barred = absurd (false≢true barred)
      by_shape n Hub is_so barred = absurd (false≢true barred)
      by_shape n (Resource after until taken) is_so barred =
          let parts = and_parts (n == r) (nat_lt after k && not (nat_lt until k)) barred in
          owned_held (take k h) r (ap (is_owned (take k h)) (sym (eqb-true n r parts.0)) ∙ is_so.1.owned k m ∙ parts.1)
      by_shape n (Loan q until) is_so barred =
          let parts = and_parts (q == r) (nat_lt n k && not (nat_lt until k)) barred in
          let inside = ltb-true n k (and_parts (nat_lt n k) (not (nat_lt until k)) parts.1).0 in
          let leased : slice_get (take k h) n ≡ Some (Lease r) =
          get_prefix h k n inside m ∙ is_so.0 ∙ ap (λ (p : ℕ). Some (Lease p)) (eqb-true q r parts.0) in
          leased_held (take k h) r (leased_where (take k h) r (at_prefix makes_resource h k r l m ∙ made)
          (leases_of_some (take k h) n r leased (is_so.1.out k m ∙ parts.1)))

  pub held_where : is_held (take k h) r ≡ list_any (bars_row r k) d.rows.items
  held_where = search (rules, same_tests, take, list_any, by_case, held_parts, back)

pub held_is_barred : HeldIsBarred
held_is_barred h d is r made shown k l m = held_where h d is r made shown k l m
