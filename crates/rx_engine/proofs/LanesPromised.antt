-- Lanes of which one got an effect keep what lanes promise, once they are settled.
use Rattle.std.proofs.Common.{◌≡◌, ◌^◌, ◌<◌, ◌||◌, ◌⊎◌, inl, inr, ℕ, Bool, true, false, List, [], ◌∷◌, ◌++◌, Some, None, is_some, refl, sym, ap, ◌∙◌, subst}
use Rattle.std.proofs.Common.{ltb as nat_lt}
use Rattle.std.proofs.Math.Bool.{not}
use Rattle.std.proofs.lemmas.Bool.{false≢true}
use Rattle.std.proofs.lemmas.Option.{same_Some}
use Rattle.rx_lanes.specs.declared.names.LaneName.{LaneName}
use Rattle.rx_lanes.specs.Lane.{Lane, put, is_empty, is_needed, is_served}
use Rattle.rx_lanes.specs.State.{State, lane, Gets, IsPromised}
use Rattle.rx_lanes.specs.Courses.{is_name}
use Rattle.rx_roles.specs.declared.effect.Effect.{Effect}
use Rattle.rx_engine.specs.Deliveries.{settled}
use Rattle.rx_engine.proofs.Laws.EffectsInLanes.{same_name, other_name}

last_some : (a b : Bool) → a || (b || true) ≡ true
last_some true b = refl
last_some false true = refl
last_some false false = refl

behind_some : (es : List Effect) (e : Effect) → not (is_empty (es ++ e ∷ [])) ≡ true
behind_some [] e = refl
behind_some (x ∷ es) e = refl

-- a lane that has something is needed
put_needed : (e : Effect) (l : Lane Effect) → is_needed (put e l) ≡ true
put_needed e l =
    ap (λ (b : Bool). is_served l || (nat_lt 0 l.many || (is_some l.returned || (not (is_empty l.front) || b)))) (behind_some l.back e)
    ∙ ap (λ (b : Bool). is_served l || (nat_lt 0 l.many || b)) (last_some (is_some l.returned) (not (is_empty l.front)))
    ∙ last_some (is_served l) (nat_lt 0 l.many)

module _ (e : Effect) {name : LaneName} {before : Lane Effect} {s u : State Effect} (promised : IsPromised s) (was : lane s name ≡ Some before)
    (gets : Gets s u name (put e before)) where
  -- what a name finds now
  found_now : (n : LaneName) (l : Lane Effect) → lane u n ≡ Some l → ((name ≡ n) × (put e before ≡ l)) ⊎ (lane s n ≡ Some l)
  found_now n l found = of (is_name name n) refl where
    of : (b : Bool) → is_name name n ≡ b → ((name ≡ n) × (put e before ≡ l)) ⊎ (lane s n ≡ Some l)
    of true is =
        let same = same_name name n is in
        inl (same, same_Some (put e before) l (sym gets.found ∙ ap (lane u) same ∙ found))
    of false is = inr (sym (gets.others n (other_name name n is)) ∙ found)

  place_below : (n : LaneName) (l : Lane Effect) → ((name ≡ n) × (put e before ≡ l)) ⊎ (lane s n ≡ Some l) → n.place < 2 ^ 29
  place_below n l (inl (same, is)) = subst (λ (x : LaneName). x.place < 2 ^ 29) same (promised.places name before was)
  place_below n l (inr found) = promised.places n l found

  turn_below : (n : LaneName) (l : Lane Effect) → ((name ≡ n) × (put e before ≡ l)) ⊎ (lane s n ≡ Some l) → n.turn < s.next_turn
  turn_below n l (inl (same, is)) = subst (λ (x : LaneName). x.turn < s.next_turn) same (promised.turns name before was)
  turn_below n l (inr found) = promised.turns n l found

  needed_now : (n : LaneName) (l : Lane Effect) → ((name ≡ n) × (put e before ≡ l)) ⊎ (lane s n ≡ Some l) → is_needed l ≡ true
  needed_now n l (inl (same, is)) = subst (λ (x : Lane Effect). is_needed x ≡ true) is (put_needed e before)
  needed_now n l (inr found) = promised.needed n l found

  returned_now : (n : LaneName) (l : Lane Effect) → ((name ≡ n) × (put e before ≡ l)) ⊎ (lane s n ≡ Some l) → is_served l ≡ true → l.returned ≡ None
  returned_now n l (inl (same, is)) =
      subst (λ (x : Lane Effect). is_served x ≡ true → x.returned ≡ None) is (λ served. promised.returned name before was served)
  returned_now n l (inr found) = promised.returned n l found

  pub settled_promised : (by : ℕ) → IsPromised (settled by u)
  settled_promised by = record {
    places = λ n l found. place_below n l (found_now n l found);
    turns = λ n l found. subst (λ (k : ℕ). n.turn < k) (sym gets.next_turn) (turn_below n l (found_now n l found));
    needed = λ n l found. needed_now n l (found_now n l found);
    returned = λ n l found. returned_now n l (found_now n l found);
    open_still = λ place is. absurd (false≢true is);
    once = tt;
  }
