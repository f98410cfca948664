-- Wishes of nodes that stay open, are closed, and are opened.
use Rattle.rx_engine.specs.Rooms.{role_if}
use Rattle.std.proofs.Common.{◌≡◌, ℕ, Bool, true, false, not, ◌&&◌, ◌||◌, ◌==◌, List, [], ◌∷◌, ◌++◌, length, Option, Some, None, is_some, option_map, refl, sym, ap, ◌∙◌, arith, subst}
use Rattle.std.proofs.lemmas.Bool.{false≢true, both_ways, and_parts, or_cases, eqb-true}
use Rattle.std.proofs.lemmas.List.{append-nil}
use Rattle.std.proofs.Common.{◌⊎◌, inl, inr}
use Rattle.std.specs.Option.{option_to_list}
use Rattle.rx_event.specs.declared.event.Event.{Event}
use Rattle.rx_event.proofs.Laws.Common.{is_open}
use Rattle.rx_event.proofs.Laws.Openness.{is_open_past}
use Rattle.rx_roles.specs.declared.roles.Role.{Role}
use Rattle.rx_roles.specs.Roles.{AreBelow, role_of, without_all, is_among, AreRolesOf}
use Rattle.rx_roles.proofs.Laws.RolesTaken.{roles_taken_all, roles_put}
use Rattle.rx_roles.proofs.Laws.RolesAfterStep.{AreClosed}
use Rattle.rx_engine.specs.declared.parts.User.{User}
use Rattle.rx_engine.specs.Closings.{AreWishes, nowhere, with_wish}

pub word_of_length : (o : Option Role) → length (option_to_list (option_map (λ (r : Role). r.word) o)) ≡ length (option_to_list o)
word_of_length None = refl
word_of_length (Some r) = refl

-- as roles of a test: that there is one
as_roles : {h : List Event} {ws : List Role} → AreWishes h ws → AreRolesOf (λ n. is_some (role_of ws n)) ws
as_roles wishes = record { there = λ n. refl; once = wishes.once }

-- what is open stays open
pub wishes_same : {h k : List Event} {ws : List Role} → AreWishes h ws → ((n : ℕ) → is_open h n ≡ true → is_open k n ≡ true) → AreWishes k ws
wishes_same wishes stays = record { opens = λ n is. stays n (wishes.opens n is); once = wishes.once }

-- who is closed has none any more
pub wishes_closed : {h k : List Event} {ws : List Role} {closed : List ℕ} → AreClosed h k closed → AreWishes h ws → AreWishes k (without_all ws closed)
wishes_closed {h} {k} {ws} {closed} c wishes = record { opens = opens; once = left.once } where
  left : AreRolesOf (λ n. is_some (role_of ws n) && not (is_among n closed)) (without_all ws closed)
  left = roles_taken_all closed (as_roles wishes)

  by_open : (n : ℕ) → is_open h n ≡ true → not (is_among n closed) ≡ true → (b : Bool) → is_open k n ≡ b → b ≡ true
  by_open n was not_closed true is = refl
  by_open n was not_closed false is = absurd (false≢true (sym (ap (λ (b : Bool). not b) (c.every n was is)) ∙ not_closed))

  opens : (n : ℕ) → is_some (role_of (without_all ws closed) n) ≡ true → is_open k n ≡ true
  opens n is =
      let parts = and_parts (is_some (role_of ws n)) (not (is_among n closed)) (sym (left.there n) ∙ is) in
      by_open n (wishes.opens n parts.0) parts.1 (is_open k n) refl

-- no node from the next on has a wish
pub none_wished_beyond : {h : List Event} {ws : List Role} → AreWishes h ws → AreBelow ws (length h)
none_wished_beyond {h} {ws} wishes n l = by_role (role_of ws n) refl where
  by_role : (o : Option Role) → role_of ws n ≡ o → o ≡ None
  by_role None is = refl
  by_role (Some r) is = absurd (both_ways (is_open h n) (is_open_past h n l) (wishes.opens n (ap (λ (o : Option Role). is_some o) is)))

-- behind a step that made it, and without those that have gone
pub wishes_made : {h k : List Event} {ws : List Role} {closed : List ℕ} (user : User) → is_open k (length h) ≡ true → AreClosed h k closed →
    AreWishes h ws → AreWishes k (without_all (with_wish ws (length h) user) closed)
wishes_made {h} {k} {ws} {closed} user new c wishes = by_wish user.wished where
  role : Role
  role = record { number = length h; word = user.word; lane = nowhere }

  free : (b : Bool) → is_some (role_of ws (length h)) ≡ b → b ≡ false
  free true is = absurd (both_ways (is_open h (length h)) (is_open_past h (length h) (omega arith)) (wishes.opens (length h) is))
  free false is = refl

  left : AreRolesOf (λ n. (is_some (role_of ws n) || (length h == n)) && not (is_among n closed)) (without_all (ws ++ role ∷ []) closed)
  left = roles_taken_all closed (roles_put role (as_roles wishes) (free (is_some (role_of ws (length h))) refl))

  by_open : (n : ℕ) → is_open h n ≡ true → not (is_among n closed) ≡ true → (b : Bool) → is_open k n ≡ b → b ≡ true
  by_open n was not_closed true is = refl
  by_open n was not_closed false is = absurd (false≢true (sym (ap (λ (b : Bool). not b) (c.every n was is)) ∙ not_closed))

  by_part : (n : ℕ) → not (is_among n closed) ≡ true → (is_some (role_of ws n) ≡ true) ⊎ ((length h == n) ≡ true) → is_open k n ≡ true
  by_part n not_closed (inl old) = by_open n (wishes.opens n old) not_closed (is_open k n) refl
  by_part n not_closed (inr here) = subst (λ (m : ℕ). is_open k m ≡ true) (eqb-true (length h) n here) new

  opens : (n : ℕ) → is_some (role_of (without_all (ws ++ role ∷ []) closed) n) ≡ true → is_open k n ≡ true
  opens n is =
      let parts = and_parts (is_some (role_of ws n) || (length h == n)) (not (is_among n closed)) (sym (left.there n) ∙ is) in
      by_part n parts.1 (or_cases (is_some (role_of ws n)) (length h == n) parts.0)

  by_wish : (b : Bool) → AreWishes k (without_all (ws ++ role_if b role) closed)
  by_wish true = record { opens = opens; once = left.once }
  by_wish false = subst (λ (rs : List Role). AreWishes k (without_all rs closed)) (sym (append-nil ws)) (wishes_closed c wishes)
