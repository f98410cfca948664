-- What a take and a giving-up leave in lanes, and who serves them then.
use Rattle.std.proofs.Common.{◌≡◌, ◌≢◌, ℕ, ◌&&◌, ◌||◌, ◌⊎◌, inl, inr, not, Bool, true, false, cond, List, [], ◌∷◌, Option, Some, None, IsSome, refl, sym, ap, subst, ◌∙◌}
use Rattle.std.proofs.lemmas.Bool.{false≢true, eq-eqb, eqb-true}
use Rattle.std.proofs.lemmas.Option.{same_Some}
use Rattle.rx_slots.specs.Lists.{take_out}
use Rattle.rx_lanes.specs.declared.names.LaneName.{LaneName}
use Rattle.rx_lanes.specs.Courses.{is_name}
use Rattle.rx_lanes.specs.Lane.{Lane, Taken, taken, served, served_by, with_server, first_of_lane, first_given, first_front, first_back, may_take, given_up, left_by, kept}
use Rattle.rx_lanes.specs.Lane.{serves, is_served, is_word, is_left, has_any, is_needed}
use Rattle.rx_lanes.specs.State.{State as LanesState, lane, Turns, IsLeft, fresh_with}
use Rattle.rx_roles.specs.declared.effect.Effect.{Effect as Sent}
use Rattle.rx_engine.specs.States.{State}
use Rattle.rx_engine.specs.Servings.{IsTake, IsGiveUp}
use Rattle.rx_engine.proofs.Laws.EffectsInLanes.{same_name, other_name}
use Rattle.rx_courses.specs.LeftNamed.{IsServedBy}

is_by : (by : ℕ) (o : Option ℕ) → is_word by o ≡ true → o ≡ Some by
is_by by None is = absurd (false≢true is)
is_by by (Some word) is = ap (λ (n : ℕ). Some n) (eqb-true word by is)

by_itself : (by : ℕ) (o : Option ℕ) → o ≡ Some by → is_word by o ≡ true
by_itself by o is = ap (is_word by) is ∙ eq-eqb by by refl

-- one lane -----------------------------------------------------------------------------------------------

module _ (by : ℕ) (inside : Bool) (l : Lane Sent) where
  -- of what a take gives, and of the lane behind it
  record IsTakenSo (t : Taken Sent) : Type 0 where
    left : is_left t.lane ≡ true → is_left l ≡ true
    clears : inside ≡ false → is_left t.lane ≡ true → ⊥
    served : (word : ℕ) → t.lane.server ≡ Some word → (l.server ≡ Some word) ⊎ ((word ≡ by) × IsSome t.effect)
    ends : inside ≡ false → t.effect ≡ None → t.lane.server ≡ Some by → ⊥
    within : inside ≡ true → IsSome t.effect → l.server ≡ Some by

  -- who may not take changes nothing
  may_not : may_take by inside l ≡ false → IsTakenSo (record { effect = None; lane = l })
  may_not none = record {
    left = λ is. is;
    clears = λ out is. no_room (is_served l) (serves by l) (has_any l) inside out none is;
    served = λ word is. inl is;
    ends = λ out nay is. no_turn (serves by l) inside (not (is_served l)) (by_itself by l.server is) none;
    within = λ is some. absurd (false≢true some);
  } where
    no_room : (a b c d : Bool) → d ≡ false → (b || (not d && not a)) ≡ false → (not a && c) ≡ true → ⊥
    no_room true b c d out nay is = false≢true is
    no_room false true c d out nay is = false≢true (sym nay)
    no_room false false c false out nay is = false≢true (sym nay)
    no_room false false c true out nay is = false≢true (sym out)

    no_turn : (a b c : Bool) → a ≡ true → (a || (not b && c)) ≡ false → ⊥
    no_turn true b c is nay = false≢true (sym nay)
    no_turn false b c is nay = false≢true is

  -- where there is nothing the lane stays
  record IsFirst (t : Taken Sent) : Type 0 where
    same : t.effect ≡ None → t.lane ≡ l
    none : inside ≡ false → t.effect ≡ None → has_any l ≡ false

  may : may_take by inside l ≡ true → (t : Taken Sent) → IsFirst t → IsTakenSo (served by inside t)
  may is t first = by_effect t.effect refl where
    serving : (a b c : Bool) → b ≡ true → (a || (not b && c)) ≡ true → a ≡ true
    serving true b c in_there so = refl
    serving false true c in_there so = so
    serving false false c in_there so = absurd (false≢true in_there)

    given : (e : Sent) → IsTakenSo (record { effect = Some e; lane = with_server (Some by) t.lane })
    given e = record {
      left = λ nay. absurd (false≢true nay);
      clears = λ out nay. false≢true nay;
      served = λ word now. inr (sym (same_Some by word now), refl);
      ends = λ out none now. absurd (cc);
      within = λ in_there some. is_by by l.server (serving (serves by l) inside (not (is_served l)) in_there is);
    }

    still : t.effect ≡ None → (b : Bool) → inside ≡ b → IsTakenSo (record { effect = None; lane = cond b t.lane (with_server None t.lane) })
    still none true in_there = record {
      left = λ so. ap (λ (m : Lane Sent). is_left m) (sym (first.same none)) ∙ so;
      clears = λ out so. false≢true (sym out ∙ in_there);
      served = λ word now. inl (ap (λ (m : Lane Sent). m.server) (sym (first.same none)) ∙ now);
      ends = λ out nay now. false≢true (sym out ∙ in_there);
      within = λ so some. absurd (false≢true some);
    }
    still none false out = record {
      left = λ so. absurd (false≢true (sym (first.none out none) ∙ (ap (λ (m : Lane Sent). has_any m) (sym (first.same none)) ∙ so)));
      clears = λ nay so. false≢true (sym (first.none out none) ∙ (ap (λ (m : Lane Sent). has_any m) (sym (first.same none)) ∙ so));
      served = λ word now. absurd (cc);
      ends = λ nay nothing now. absurd (cc);
      within = λ in_there some. absurd (false≢true some);
    }

    by_effect : (o : Option Sent) → t.effect ≡ o → IsTakenSo (record { effect = o; lane = served_by by inside o t.lane })
    by_effect None none = still none inside refl
    by_effect (Some e) some = given e

  first_is : IsFirst (first_of_lane inside l)
  first_is = by_returned l.returned refl where
    back_is : (xs : List Sent) → l.back ≡ xs → l.returned ≡ None → l.front ≡ [] → IsFirst (first_back l xs)
    back_is [] empty none bare = record { same = λ nay. refl; none = λ out nay. λ i. has_none (none i) (bare i) (empty i) } where
      has_none : Option Sent → List Sent → List Sent → Bool
      has_none returned front back = has_any (record l { returned = returned; front = front; back = back })
    back_is (x ∷ xs) some none bare = record { same = λ nay. absurd (cc); none = λ out nay. absurd (cc) }

    by_inside : (b : Bool) → inside ≡ b → l.returned ≡ None → l.front ≡ [] → IsFirst (cond b (record { effect = None; lane = l }) (first_back l l.back))
    by_inside true in_there none bare = record { same = λ nay. refl; none = λ out nay. absurd (false≢true (sym out ∙ in_there)) }
    by_inside false out none bare = back_is l.back refl none bare

    by_front : (xs : List Sent) → l.front ≡ xs → l.returned ≡ None → IsFirst (first_front inside l xs)
    by_front [] bare none = by_inside inside refl none bare
    by_front (x ∷ xs) some none = record { same = λ nay. absurd (cc); none = λ out nay. absurd (cc) }

    by_returned : (o : Option Sent) → l.returned ≡ o → IsFirst (first_given inside l o)
    by_returned None none = by_front l.front refl none
    by_returned (Some e) some = record { same = λ nay. absurd (cc); none = λ out nay. absurd (cc) }

  taken_so : IsTakenSo (taken by inside l)
  taken_so = by_leave (may_take by inside l) refl where
    by_leave : (b : Bool) → may_take by inside l ≡ b → IsTakenSo (cond b (served by inside (first_of_lane inside l)) (record { effect = None; lane = l }))
    by_leave true is = may is (first_of_lane inside l) first_is
    by_leave false none = may_not none

-- who gives up serves no more, and is told whether something is left; for everybody else nothing changes
module _ (by : ℕ) (undone : Option Sent) (l : Lane Sent) where
  record IsGivenSo (m : Lane Sent) (answer : Option Bool) : Type 0 where
    left : is_left m ≡ true → (is_left l ≡ true) ⊎ (answer ≡ Some true)
    served : (word : ℕ) → m.server ≡ Some word → (l.server ≡ Some word) × (word ≢ by)

  given_so : IsGivenSo (given_up by undone l) (left_by by undone l)
  given_so = by_serving (serves by l) refl where
    behind : Lane Sent
    behind = record l { returned = undone; server = None }

    by_serving : (b : Bool) → serves by l ≡ b → IsGivenSo (cond b behind l) (cond b (Some (has_any (cond b behind l))) None)
    by_serving true is = record { left = λ so. inr (ap (λ (b : Bool). Some b) so); served = λ word now. absurd (cc) }
    by_serving false none = record {
      left = λ so. inl so;
      served = λ word now. (now, λ same. false≢true (sym none ∙ by_itself by l.server (now ∙ ap (λ (n : ℕ). Some n) same)));
    }

-- all lanes ------------------------------------------------------------------------------------------------

kept_is : (l l' : Lane Sent) → kept l ≡ Some l' → l ≡ l'
kept_is l l' is = by_need (is_needed l) is where
  by_need : (b : Bool) → cond b (Some l) None ≡ Some l' → l ≡ l'
  by_need true some = same_Some l l' some
  by_need false none = absurd (cc)

still_none : (place : ℕ) (o : Option (Lane Sent)) (fresh : List ℕ) → fresh ≡ [] → fresh_with place o fresh ≡ []
still_none place None fresh none = ap (take_out place) none
still_none place (Some l) fresh none = none

turned_fresh : (s t : LanesState Sent) (name : LaneName) (o : Option (Lane Sent)) → Turns s t name o → s.fresh ≡ [] → t.fresh ≡ []
turned_fresh s t name o turns none = turns.fresh_is ∙ still_none name.place o s.fresh none

module _ (name : LaneName) (inside : Bool) (by : ℕ) (s t : State) (answer : Option Sent) (take : IsTake name inside by s t answer) where
  pub take_fresh : s.parts.lanes.fresh ≡ [] → t.parts.lanes.fresh ≡ []
  take_fresh none = by_lane (lane s.parts.lanes name) refl where
    by_lane : (o : Option (Lane Sent)) → lane s.parts.lanes name ≡ o → t.parts.lanes.fresh ≡ []
    by_lane None gone = ap (λ (x : State). x.parts.lanes.fresh) (take.gone gone) ∙ none
    by_lane (Some l) found = turned_fresh s.parts.lanes t.parts.lanes name _ (take.takes l found) none

  take_others : (n : LaneName) → n ≢ name → lane t.parts.lanes n ≡ lane s.parts.lanes n
  take_others n differs = by_lane (lane s.parts.lanes name) refl where
    by_lane : (o : Option (Lane Sent)) → lane s.parts.lanes name ≡ o → lane t.parts.lanes n ≡ lane s.parts.lanes n
    by_lane None gone = ap (λ (x : State). lane x.parts.lanes n) (take.gone gone)
    by_lane (Some l) found = (take.takes l found).others n differs

  -- the lane itself
  record OwnSo (m : Lane Sent) : Type 0 where
    was : Lane Sent
    found : lane s.parts.lanes name ≡ Some was
    so : IsTakenSo by inside was (record { effect = answer; lane = m })

  own : (m : Lane Sent) → lane t.parts.lanes name ≡ Some m → OwnSo m
  own m now = by_lane (lane s.parts.lanes name) refl where
    by_lane : (o : Option (Lane Sent)) → lane s.parts.lanes name ≡ o → OwnSo m
    by_lane None gone =
        let both : None ≡ Some m = sym gone ∙ ap (λ (x : State). lane x.parts.lanes name) (sym (take.gone gone)) ∙ now in absurd (cc)
    by_lane (Some l) found =
        let at = kept_is (taken by inside l).lane m (sym (take.takes l found).found ∙ now) in
        let says = take.result l found in
        record {
          was = l;
          found = found;
          so = subst (λ (x : Taken Sent). IsTakenSo by inside l x) (λ i. record { effect = sym says i; lane = at i }) (taken_so by inside l);
        }

  pub take_left : (n : LaneName) → IsLeft t.parts.lanes n → IsLeft s.parts.lanes n
  take_left n is = by_name (is_name name n) refl where
    by_name : (b : Bool) → is_name name n ≡ b → IsLeft s.parts.lanes n
    by_name true same =
        let at = same_name name n same in
        let o = own is.0 (ap (lane t.parts.lanes) at ∙ is.1) in
        subst (IsLeft s.parts.lanes) at (o.was, o.found, o.so.left is.2)
    by_name false differs = (is.0, sym (take_others n (other_name name n differs)) ∙ is.1, is.2)

  -- it is not left, but for who goes on inside
  pub take_clears : inside ≡ false → IsLeft t.parts.lanes name → ⊥
  take_clears out is = (own is.0 is.1).so.clears out is.2

  pub take_served : (n : LaneName) (word : ℕ) → IsServedBy t.parts.lanes n word →
      IsServedBy s.parts.lanes n word ⊎ ((n ≡ name) × (word ≡ by) × IsSome answer)
  take_served n word is = by_name (is_name name n) refl where
    by_own : (at : name ≡ n) (o : OwnSo is.0) → (o.was.server ≡ Some word) ⊎ ((word ≡ by) × IsSome answer) →
        IsServedBy s.parts.lanes n word ⊎ ((n ≡ name) × (word ≡ by) × IsSome answer)
    by_own at o (inl before) = inl (subst (λ (x : LaneName). IsServedBy s.parts.lanes x word) at (o.was, o.found, before))
    by_own at o (inr now) = inr (sym at, now.0, now.1)

    by_name : (b : Bool) → is_name name n ≡ b → IsServedBy s.parts.lanes n word ⊎ ((n ≡ name) × (word ≡ by) × IsSome answer)
    by_name true same =
        let at = same_name name n same in
        let o = own is.0 (ap (lane t.parts.lanes) at ∙ is.1) in
        by_own at o (o.so.served word is.2)
    by_name false differs = inl (is.0, sym (take_others n (other_name name n differs)) ∙ is.1, is.2)

  -- who is given nothing serves it no more, but for who goes on inside
  pub take_ends : inside ≡ false → answer ≡ None → IsServedBy t.parts.lanes name by → ⊥
  take_ends out none is = (own is.0 is.1).so.ends out none is.2

  pub take_due : IsSome answer → t.parts.lanes.due ≡ s.parts.lanes.due
  take_due some = by_lane (lane s.parts.lanes name) refl where
    by_lane : (o : Option (Lane Sent)) → lane s.parts.lanes name ≡ o → t.parts.lanes.due ≡ s.parts.lanes.due
    by_lane None gone = absurd (false≢true (subst (λ (o : Option Sent). IsSome o) (take.absent gone) some))
    by_lane (Some l) found = (take.takes l found).due

  -- who went on inside and was given something served it
  pub take_within : inside ≡ true → IsSome answer → IsServedBy s.parts.lanes name by
  take_within in_there some = by_lane (lane s.parts.lanes name) refl where
    by_lane : (o : Option (Lane Sent)) → lane s.parts.lanes name ≡ o → IsServedBy s.parts.lanes name by
    by_lane None gone = absurd (false≢true (subst (λ (o : Option Sent). IsSome o) (take.absent gone) some))
    by_lane (Some l) found =
        (l, found, (taken_so by inside l).within in_there (subst (λ (o : Option Sent). IsSome o) (take.result l found) some))

module _ (name : LaneName) (by : ℕ) (undone : Option Sent) (s t : State) (answer : Option Bool) (give : IsGiveUp name by undone s t answer) where
  pub give_fresh : s.parts.lanes.fresh ≡ [] → t.parts.lanes.fresh ≡ []
  give_fresh none = by_lane (lane s.parts.lanes name) refl where
    by_lane : (o : Option (Lane Sent)) → lane s.parts.lanes name ≡ o → t.parts.lanes.fresh ≡ []
    by_lane None gone = ap (λ (x : State). x.parts.lanes.fresh) (give.gone gone) ∙ none
    by_lane (Some l) found = turned_fresh s.parts.lanes t.parts.lanes name _ (give.gives_up l found) none

  give_others : (n : LaneName) → n ≢ name → lane t.parts.lanes n ≡ lane s.parts.lanes n
  give_others n differs = by_lane (lane s.parts.lanes name) refl where
    by_lane : (o : Option (Lane Sent)) → lane s.parts.lanes name ≡ o → lane t.parts.lanes n ≡ lane s.parts.lanes n
    by_lane None gone = ap (λ (x : State). lane x.parts.lanes n) (give.gone gone)
    by_lane (Some l) found = (give.gives_up l found).others n differs

  record OwnGiven (m : Lane Sent) : Type 0 where
    was : Lane Sent
    found : lane s.parts.lanes name ≡ Some was
    so : IsGivenSo by undone was m answer

  own_given : (m : Lane Sent) → lane t.parts.lanes name ≡ Some m → OwnGiven m
  own_given m now = by_lane (lane s.parts.lanes name) refl where
    by_lane : (o : Option (Lane Sent)) → lane s.parts.lanes name ≡ o → OwnGiven m
    by_lane None gone =
        let both : None ≡ Some m = sym gone ∙ ap (λ (x : State). lane x.parts.lanes name) (sym (give.gone gone)) ∙ now in absurd (cc)
    by_lane (Some l) found =
        let at = kept_is (given_up by undone l) m (sym (give.gives_up l found).found ∙ now) in
        let says = give.result l found in
        record {
          was = l;
          found = found;
          so = subst (λ (o : Option Bool). IsGivenSo by undone l m o) (sym says)
              (subst (λ (x : Lane Sent). IsGivenSo by undone l x (left_by by undone l)) at (given_so by undone l));
        }

  -- what is left was left, or it is this lane, and who gave it up was told so
  pub give_left : (n : LaneName) → IsLeft t.parts.lanes n → IsLeft s.parts.lanes n ⊎ ((n ≡ name) × (answer ≡ Some true))
  give_left n is = by_name (is_name name n) refl where
    by_own : (at : name ≡ n) (o : OwnGiven is.0) → (is_left o.was ≡ true) ⊎ (answer ≡ Some true) → IsLeft s.parts.lanes n ⊎ ((n ≡ name) × (answer ≡ Some true))
    by_own at o (inl before) = inl (subst (IsLeft s.parts.lanes) at (o.was, o.found, before))
    by_own at o (inr now) = inr (sym at, now)

    by_name : (b : Bool) → is_name name n ≡ b → IsLeft s.parts.lanes n ⊎ ((n ≡ name) × (answer ≡ Some true))
    by_name true same =
        let at = same_name name n same in
        let o = own_given is.0 (ap (lane t.parts.lanes) at ∙ is.1) in
        by_own at o (o.so.left is.2)
    by_name false differs = inl (is.0, sym (give_others n (other_name name n differs)) ∙ is.1, is.2)

  -- who serves a lane served it, and it is not this one if it is he who gave it up
  pub give_served : (n : LaneName) (word : ℕ) → IsServedBy t.parts.lanes n word → IsServedBy s.parts.lanes n word × (n ≡ name → word ≢ by)
  give_served n word is = by_name (is_name name n) refl where
    by_name : (b : Bool) → is_name name n ≡ b → IsServedBy s.parts.lanes n word × (n ≡ name → word ≢ by)
    by_name true same =
        let at = same_name name n same in
        let o = own_given is.0 (ap (lane t.parts.lanes) at ∙ is.1) in
        let so = o.so.served word is.2 in
        (subst (λ (x : LaneName). IsServedBy s.parts.lanes x word) at (o.was, o.found, so.0), λ here. so.1)
    by_name false differs =
        let apart = other_name name n differs in
        ((is.0, sym (give_others n apart) ∙ is.1, is.2), λ here. absurd (apart here))
