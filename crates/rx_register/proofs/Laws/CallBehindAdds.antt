-- What the call behind an event is, and that it adds just the event.
use Rattle.std.proofs.Common.{◌≡◌, ℕ, suc, ◌<◌, ◌≤◌, Bool, true, false, List, [], ◌∷◌, length, Option, Some, None, cond, slice_get}
use Rattle.std.proofs.Common.{refl, ap, subst, ◌∙◌, arith, inl, inr, ◌⊎◌, map, rules}
use Rattle.std.proofs.Math.Bool.{◌&&◌}
use Rattle.std.specs.Option.{option_map_or, option_and_then}
use Rattle.std.proofs.lemmas.Bool.{cases_Bool, and_parts, and_from, eq-eqb}
use Rattle.std.proofs.lemmas.Option.{none-some}
use Rattle.rx_note.specs.declared.note.Terminal.TheVariants.{Completed, Error}
use Rattle.rx_event.specs.declared.event.Event.{Event}
use Rattle.rx_event.specs.declared.event.Event.TheVariants.{Connect, End, Close}
use Rattle.rx_event.specs.Events.{is_root, is_leaf, hub_connected, is_connect_of}
use Rattle.rx_event.specs.Kept.{Kept}
use Rattle.rx_event.specs.Tree.{at, places, is_open, open_connections}
use Rattle.rx_event.specs.Lawful.{IsLawful}
use Rattle.rx_event.specs.Calls.{Call, Ending, Aborting, Failing, Disposing, Disconnecting, outside_of}
use Rattle.rx_event.specs.Causes.{has_connection}
use Rattle.rx_event.proofs.Laws.Lists.{first_passes, filter_nonempty}
use Rattle.rx_event.proofs.Laws.Openness.{is_open_within}
use Rattle.rx_event.proofs.Laws.Hubs.{one_connection, one_open_connection}
use Rattle.rx_register.proofs.Laws.OpeningForcesConnection.{connects_none, connects_one}
use Rattle.rx_register.specs.CallBehind.{call_behind, call_failing, may_fail, hub_disconnected}

-- closings ----------------------------------------------------------------------------------------

connected_event : (e : Event) (g : ℕ) → hub_connected e ≡ Some g → e ≡ Connect g
connected_event x0 g is = search (rules, none-some)

connected_there : (o : Option Event) (g : ℕ) → option_and_then hub_connected o ≡ Some g → o ≡ Some (Connect g)
connected_there None g is = absurd (none-some g is)
connected_there (Some e) g is = ap (λ x. Some x) (connected_event e g is)

-- the node is an open connection of that hub
pub disconnected_is : (h : List Event) (n g : ℕ) → hub_disconnected h n ≡ Some g → (is_open h n ≡ true) × (slice_get h n ≡ Some (Connect g))
disconnected_is h n g is = by_open (is_open h n) refl is where
  by_open : (b : Bool) → is_open h n ≡ b → cond {A = Option ℕ} b (option_and_then hub_connected (slice_get h n)) None ≡ Some g →
      (is_open h n ≡ true) × (slice_get h n ≡ Some (Connect g))
  by_open true o is = (o, connected_there (slice_get h n) g is)
  by_open false o is = absurd (none-some g is)

pub is_disconnected : (h : List Event) (n g : ℕ) → is_open h n ≡ true → slice_get h n ≡ Some (Connect g) → hub_disconnected h n ≡ Some g
is_disconnected h n g o made =
    ap (λ b. cond {A = Option ℕ} b (option_and_then hub_connected (slice_get h n)) None) o ∙ ap (option_and_then hub_connected) made

unconnected_root : (o : Option Event) → option_map_or is_root o false ≡ true → option_and_then hub_connected o ≡ None
unconnected_root o root = grind arith

-- a root is no connection
pub root_disconnects : (h : List Event) (n : ℕ) → is_open h n ≡ true → at is_root h n ≡ true → hub_disconnected h n ≡ None
root_disconnects h n o root =
    ap (λ b. cond {A = Option ℕ} b (option_and_then hub_connected (slice_get h n)) None) o ∙ unconnected_root (slice_get h n) root

-- an open connection is one of its hub's
connection_made : (h : List Event) (g c : ℕ) → slice_get h c ≡ Some (Connect g) → at (is_connect_of g) h c ≡ true
connection_made h g c made = ap (λ o. option_map_or (is_connect_of g) o false) made ∙ eq-eqb g g refl

pub connected_by : (h : List Event) (g c : ℕ) → is_open h c ≡ true → slice_get h c ≡ Some (Connect g) → has_connection h g ≡ true
connected_by h g c o made = by_test (cases_Bool (has_connection h g)) where
  by_test : (has_connection h g ≡ true) ⊎ (has_connection h g ≡ false) → has_connection h g ≡ true
  by_test (inl some) = some
  by_test (inr none) =
      let l : c < length h = is_open_within h c o in
      absurd (filter_nonempty (λ n. at (is_connect_of g) h n && is_open h n) 0 (length h) c (omega arith) (omega arith)
      (and_from _ _ (connection_made h g c made) o) (connects_none h g none))

-- and the only one
pub only_connection : (base : Kept) → (h : List Event) (g c : ℕ) → IsLawful base h → is_open h c ≡ true → slice_get h c ≡ Some (Connect g) →
    open_connections h g ≡ c ∷ []
only_connection base h g c law o made = one.2 ∙ ap (λ l. one.0 ∷ l) (alone one.1 few) ∙ ap (λ n. n ∷ []) same where
  one : (d : ℕ) × (rest : List ℕ) × (open_connections h g ≡ d ∷ rest)
  one = connects_one h g (connected_by h g c o made)

  few : length (one.0 ∷ one.1) ≤ 1
  few = subst (λ (l : List ℕ). length l ≤ 1) one.2 (one_open_connection base h law g)

  alone : (rest : List ℕ) → suc (length rest) ≤ 1 → rest ≡ []
  alone [] l = refl
  alone (n ∷ ns) l = absurd (omega arith)

  found : (at (is_connect_of g) h one.0 && is_open h one.0) ≡ true
  found = first_passes (λ n. at (is_connect_of g) h n && is_open h n) (places h) one.0 one.1 one.2

  parts : (at (is_connect_of g) h one.0 ≡ true) × (is_open h one.0 ≡ true)
  parts = and_parts _ _ found

  same : one.0 ≡ c
  same = one_connection base h law g one.0 c (record { one = parts.0; one_open = parts.1; other = connection_made h g c made; other_open = o })

-- ends --------------------------------------------------------------------------------------------

-- by which of the three calls a node is ended with an error
pub failing_leaf : (base : Kept) → (h : List Event) (n code : ℕ) → at is_leaf h n ≡ true → call_failing base h n code ≡ Ending n (Error code)
failing_leaf base h n code leaf =
    ap (λ b. cond {A = Call} b (Ending n (Error code)) (cond {A = Call} (may_fail base h n) (Failing n code) (Aborting n code))) leaf

pub failing_other : (base : Kept) → (h : List Event) (n code : ℕ) (fails : Bool) → at is_leaf h n ≡ false → may_fail base h n ≡ fails →
    call_failing base h n code ≡ cond {A = Call} fails (Failing n code) (Aborting n code)
failing_other base h n code fails leaf may =
    ap (λ b. cond {A = Call} b (Ending n (Error code)) (cond {A = Call} (may_fail base h n) (Failing n code) (Aborting n code))) leaf ∙
    ap (λ b. cond {A = Call} b (Failing n code) (Aborting n code)) may

failing_adds : (h : List Event) (n code : ℕ) (a b : Bool) →
    outside_of h (cond {A = Call} a (Ending n (Error code)) (cond {A = Call} b (Failing n code) (Aborting n code))) ≡ End n (Error code) ∷ []
failing_adds h n code true b = refl
failing_adds h n code false true = refl
failing_adds h n code false false = refl

-- what the call adds ------------------------------------------------------------------------------

closing_adds : (base : Kept) → (h : List Event) (n : ℕ) → IsLawful base h → (o : Option ℕ) → hub_disconnected h n ≡ o →
    outside_of h (option_map_or (λ g. Disconnecting g) o (Disposing n)) ≡ Close n ∷ []
closing_adds base h n law None is = refl
closing_adds base h n law (Some g) is =
    let open_one = disconnected_is h n g is in
    ap (λ (cs : List ℕ). map (λ c. Close c) cs) (only_connection base h g n law open_one.0 open_one.1)

-- just the event
pub behind_adds : (base : Kept) → (h : List Event) (e : Event) → IsLawful base h → outside_of h (call_behind base h e) ≡ e ∷ []
behind_adds base h (End n (Error code)) law = failing_adds h n code (at is_leaf h n) (may_fail base h n)
behind_adds base h (End n Completed) law = refl
behind_adds base h (Close n) law = closing_adds base h n law (hub_disconnected h n) refl
behind_adds base h _ law = refl
