-- Which rows last beyond the last event, and what leaks of a lawful history.
use Rattle.rx_picture.proofs.Common.{◌≡◌, ℕ, ◌≤◌, Bool, true, false, List, [], ◌∷◌, length, Option, sym, ap, ◌∙◌, arith}
use Rattle.rx_picture.proofs.Common.{◌==◌, nat_lt, slice_get, not, ◌&&◌, ◌||◌, take-length, AllByRecursion, list_any, option_map_or, cases_lt, lt-ltb, le-ltb}
use Rattle.rx_picture.proofs.Common.{false≢true, eq-eqb, Event, Accept, Lease, makes_node, makes_hub, makes_resource, makes_lease, is_return_of, at, is_out}
use Rattle.rx_picture.proofs.Common.{is_taken, at_within, Row, Shape, Node, Hub, Resource, Loan, IsRowMade, IsShape, leaks, or_false, ne_eqb}
use Rattle.rx_event.specs.Resources.{is_waiting}
use Rattle.rx_event.proofs.Laws.Resources.{held_resource, held_not_taken}
use Rattle.rx_picture.specs.Leaks.{is_leaking, is_leaking_row, LeaksAreDrawn, LeaksAreLeft}
use Rattle.std.proofs.Common.{rules}

-- what an event makes ------------------------------------------------------------------------------

-- one that makes a node or a hub makes neither a resource nor a lease, and one that makes either makes not the other
node_alone : (o : Option Event) → option_map_or makes_node o false ≡ true → (option_map_or makes_resource o false || option_map_or makes_lease o false) ≡ false
node_alone x0 made = search (rules, Event, Accept, false≢true, Lease)

hub_alone : (o : Option Event) → option_map_or makes_hub o false ≡ true → (option_map_or makes_resource o false || option_map_or makes_lease o false) ≡ false
hub_alone x0 made = search (rules, Event, Accept, false≢true, Lease)

resource_alone : (o : Option Event) → option_map_or makes_resource o false ≡ true → option_map_or makes_lease o false ≡ false
resource_alone x0 made = search (rules, Event, Lease, false≢true)

-- what lasts ---------------------------------------------------------------------------------------

lasts_shape : (made taken out returned : Bool) → (made || out) ≡ false → ((made && not taken) || (out && not returned)) ≡ false
lasts_shape made taken out returned e = grind arith

neither_lasts : (h : List Event) (n : ℕ) → (at makes_resource h n || at makes_lease h n) ≡ false → (leaks h n || is_out h n) ≡ false
unfolding is_out
neither_lasts h n none = search (rules, lasts_shape, list_any)

not_out : (h : List Event) (n : ℕ) → at makes_lease h n ≡ false → is_out h n ≡ false
unfolding is_out
not_out h n none = ap (λ (x : Bool). x && not (list_any (is_return_of n) h)) none

not_before : (m n : ℕ) → m ≤ n → not (nat_lt m n) ≡ (m == n)
not_before m n l = search (rules, cases_lt, not, nat_lt, lt-ltb, ne_eqb, le-ltb, eq-eqb)

module _ (h : List Event) (n : ℕ) where
  pub lasting : (shape : Shape) → IsShape h n shape → is_leaking (length h) shape ≡ (leaks h n || is_out h n)
  lasting (Node until ending) is = sym (neither_lasts h n (node_alone (slice_get h n) is.0))
  lasting Hub is = sym (neither_lasts h n (hub_alone (slice_get h n) is))
  lasting (Resource after until taken) is =
      let bar = is.1 in
      let untaken : is_taken h n ≡ nat_lt taken (length h) =
      ap (λ (k : List Event). is_taken k n) (sym (take-length h)) ∙ bar.takes (length h) (omega arith) in
      sym (ap (λ (x : Bool). leaks h n || x) (not_out h n (resource_alone (slice_get h n) is.0)) ∙ or_false (leaks h n)
      ∙ ap (λ (x : Bool). x && not (is_taken h n)) is.0 ∙ ap not untaken ∙ not_before taken (length h) bar.taken_within)
  lasting (Loan resource until) is =
      let loan = is.1 in
      let unmade : at makes_resource h n ≡ false = ap (λ (o : Option Event). option_map_or makes_resource o false) is.0 in
      let made : at makes_lease h n ≡ true = ap (λ (o : Option Event). option_map_or makes_lease o false) is.0 in
      let out : is_out h n ≡ (nat_lt n (length h) && not (nat_lt until (length h))) =
      ap (λ (k : List Event). is_out k n) (sym (take-length h)) ∙ loan.out (length h) (omega arith) in
      sym (ap (λ (x : Bool). (x && not (is_taken h n)) || is_out h n) unmade ∙ out
      ∙ ap (λ (x : Bool). x && not (nat_lt until (length h))) (lt-ltb n (length h) (at_within makes_lease h n made))
      ∙ not_before until (length h) loan.within)

each_row : (h : List Event) (rows : List Row) → AllByRecursion (IsRowMade h) rows
    → AllByRecursion (λ row. is_leaking_row (length h) row ≡ (leaks h row.number || is_out h row.number)) rows
each_row h [] each = tt
each_row h (row ∷ rows) each = (lasting h row.number row.shape each.0.shape, each_row h rows each.1)

pub leaks_are_drawn : LeaksAreDrawn
leaks_are_drawn h d is = each_row h d.rows.items is.rows.each

-- what is left of a lawful history -----------------------------------------------------------------

left_shape : (made held taken : Bool) → (held ≡ true → made ≡ true) → (held ≡ true → taken ≡ false)
    → (made && not taken) ≡ (held || (made && not held && not taken))
left_shape made x1 taken has keeps = search (rules, Bool, not)

pub leaks_are_left : LeaksAreLeft
unfolding is_waiting
leaks_are_left h law r =
    search (rules, left_shape, held_resource, held_not_taken)
