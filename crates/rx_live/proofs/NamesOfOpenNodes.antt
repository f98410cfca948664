-- Names of nodes, as those of closed ones are forgotten and new ones bound.
use Rattle.rx_live.proofs.Common.{◌≡◌, ℕ, ◌==◌, ◌<◌, Bool, true, false, cond, List, length, Option, Some, None, refl, sym, ap, ◌∙◌, ◌⊎◌}
use Rattle.rx_live.proofs.Common.{is_some, ◌&&◌, ◌||◌, bytes_eq, option_and_then, none-some, same_Some, bytes_eq-Decides, Mail, Event, at_within, Name}
use Rattle.rx_live.proofs.Common.{State, has_key, connection_made, Spot, Names, spot_of, name_of_number, AreSameNames, Forgets, AreNamesPlaced, open_node_in}
use Rattle.rx_live.proofs.Common.{is_node_in, key_if_open, node_key_at, AreOpenSame, BindsMade}
use Rattle.rx_live.proofs.AcceptedBindsNames.{same_on, placed_bound}
use Rattle.std.proofs.Common.{rules}

pub no_node : (book : State) (t : Names) (name : Name) → spot_of t name ≡ None → open_node_in book t name ≡ None
unfolding open_node_in
no_node book t name none = ap (option_and_then (λ (s : Spot). key_if_open book (node_key_at s))) none

pub node_found : (book : State) (t : Names) (name : Name) (s : Spot) (b : Bool) → spot_of t name ≡ Some s → has_key book.keys (node_key_at s) ≡ b →
    is_some (open_node_in book t name) ≡ b
unfolding open_node_in
node_found book t name s x4 found is = search (rules, is_some, option_and_then)

closed_node : (book : State) (t : Names) (name : Name) (s : Spot) → spot_of t name ≡ Some s → has_key book.keys (node_key_at s) ≡ false
    → open_node_in book t name ≡ None
unfolding open_node_in
closed_node book t name s found is = ap (option_and_then (λ (p : Spot). key_if_open book (node_key_at p))) found ∙ rw is refl

-- whether a name is a node's, as its spot is looked up, as something is still to be told, and as the node's key is looked up
no_late : (late : Bool) → (false || (late && false)) ≡ false
no_late x0 = search rules

is_late_name : (alive late : Bool) → late ≡ true → (alive || (late && true)) ≡ true
is_late_name x0 late is = search rules

pub unbound_name : (untold : Option Mail) (book : State) (t : Names) (name : Name) → spot_of t name ≡ None → is_node_in untold book t name ≡ false
unbound_name untold book t name none = (λ i. is_some (no_node book t name none i) || (is_some untold && is_some (none i))) ∙ no_late (is_some untold)

pub late_name : (untold : Option Mail) (book : State) (t : Names) (name : Name) (s : Spot) → spot_of t name ≡ Some s → is_some untold ≡ true →
    is_node_in untold book t name ≡ true
late_name untold book t name s found late = search (rules, is_some, is_late_name)

pub known_name : (untold : Option Mail) (book : State) (t : Names) (name : Name) {s : Spot} (b : Bool) → spot_of t name ≡ Some s → is_some untold ≡ false →
    has_key book.keys (node_key_at s) ≡ b → is_node_in untold book t name ≡ b
known_name untold book t name {s} b found told is = search (rules, node_found, is_some)

cond_either : {A : Type 0} (b : Bool) (o : Option A) → (cond b None o ≡ o) ⊎ (cond b None o ≡ None)
cond_either x0 o = search rules

-- a spot that is the same leads to the same node
same_node : (book : State) (old new : Names) (name : Name) → spot_of new name ≡ spot_of old name → open_node_in book new name ≡ open_node_in book old name
unfolding open_node_in
same_node book old new name same = ap (option_and_then (λ (p : Spot). key_if_open book (node_key_at p))) same

either_same : {A : Type 0} (a b c : Option A) → a ≡ b → (b ≡ c) ⊎ (b ≡ None) → (a ≡ c) ⊎ (a ≡ None)
either_same a b c is x4 = search rules

-- as the name of a closed node is forgotten
pub open_forgot : (untold : Option Mail) (book : State) {old new : Names} (name : Name) (s : Spot) → is_some untold ≡ false → spot_of old name ≡ Some s →
    has_key book.keys (node_key_at s) ≡ false → Forgets old s.number name new → AreOpenSame untold book old new
open_forgot untold book {old} {new} name s told found closed forgets = record {
  kept = λ late. (let e : false ≡ true = sym told ∙ late in absurd (cc));
  nodes = λ n. by_name n (bytes_eq name n) refl;
  spots = λ n. either_same (spot_of new n) (cond (bytes_eq name n) None (spot_of old n)) (spot_of old n) (forgets.spots n)
      (cond_either (bytes_eq name n) (spot_of old n));
  names = λ n. either_same (name_of_number new n) (cond (s.number == n) None (name_of_number old n)) (name_of_number old n) (forgets.names n)
      (cond_either (s.number == n) (name_of_number old n));
} where
  by_name : (n : Name) (b : Bool) → bytes_eq name n ≡ b → open_node_in book new n ≡ open_node_in book old n
  by_name n true same =
      let is : name ≡ n = (bytes_eq-Decides name n).0 same in
      let gone : spot_of new n ≡ None = forgets.spots n ∙ ap (λ (b : Bool). cond b None (spot_of old n)) same in
      no_node book new n gone ∙ sym (ap (open_node_in book old) (sym is) ∙ closed_node book old name s found closed)
  by_name n false apart = same_node book old new n (forgets.spots n ∙ ap (λ (b : Bool). cond b None (spot_of old n)) apart)

pub free_forgot : (old new : Names) (number : ℕ) (name : Name) → Forgets old number name new → spot_of new name ≡ None
free_forgot old new number name forgets = search (rules, cond, bytes_eq-Decides)

pub open_same : (untold : Option Mail) (book : State) (old new : Names) → AreSameNames old new → AreOpenSame untold book old new
open_same untold book old new same = search (rules, same_node)

either_on : {A : Type 0} (a b c : Option A) → (c ≡ b) ⊎ (c ≡ None) → (b ≡ a) ⊎ (b ≡ None) → (c ≡ a) ⊎ (c ≡ None)
either_on a b c x3 q = search rules

pub open_on : (untold : Option Mail) (book : State) (a b c : Names) → AreOpenSame untold book a b → AreOpenSame untold book b c → AreOpenSame untold book a c
open_on untold book a b c p q = search (rules, same_on, either_on)

pub placed_open : (untold : Option Mail) (h : List Event) (book : State) (old new : Names) → AreOpenSame untold book old new → AreNamesPlaced h old
    → AreNamesPlaced h new
placed_open untold h book old new same placed n past = search rules

-- a name for what was made
pub made_placed : (h : List Event) (old new : Names) (name : Option Name) (made : Option ℕ) → BindsMade old name made new → AreNamesPlaced h old →
    ((n : ℕ) → made ≡ Some n → n < length h) → AreNamesPlaced h new
made_placed h old new x3 x4 binds placed within = search (rules, length, placed_bound)

pub made_within : (h k : List Event) (n : ℕ) → connection_made h k ≡ Some n → n < length k
made_within h k n is = search (rules, length, cond, same_Some, at_within, none-some)
