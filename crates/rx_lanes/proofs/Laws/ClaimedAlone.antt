-- To claim a lane that alone is due is to put an effect there, to settle, and to take it.
use Rattle.std.proofs.Common.{◌≡◌, ◌≢◌, ℕ, ◌&&◌, ◌||◌, Bool, true, false, cond, List, [], ◌∷◌, ◌++◌, Option, Some, None, is_some, refl, sym, ◌∙◌, ap, subst, true≢false}
use Rattle.std.proofs.Math.Bool.{not}
use Rattle.rx_lanes.specs.declared.names.LaneName.{LaneName}
use Rattle.rx_lanes.specs.declared.names.Due.{Due}
use Rattle.rx_lanes.specs.Lane.{Lane, put, taken, claimed, kept, with_server, is_idle, is_served, serves, is_empty}
use Rattle.rx_lanes.specs.Handings.{ClaimsAlone}
use Rattle.rx_lanes.specs.State.{State, Opened, lane, Gets, Turns, fresh_with, due_of, due_at, due_lane, touched}
use Rattle.rx_lanes.proofs.Laws.LanesWritten.{written, opened_here, found_here, others_as_before}

-- a lane with nothing in it, that nobody serves
idle_parts : (a b c d : Bool) → (not a && not (b || (not c || not d))) ≡ true → (a ≡ false) × (b ≡ false) × (c ≡ true) × (d ≡ true)
idle_parts false false true true e = (refl, refl, refl, refl)
idle_parts true b c d e = absurd (true≢false (sym e))
idle_parts false true c d e = absurd (true≢false (sym e))
idle_parts false false false d e = absurd (true≢false (sym e))
idle_parts false false true false e = absurd (true≢false (sym e))

none_is : {X : Type 0} (o : Option X) → is_some o ≡ false → o ≡ None
none_is None e = refl
none_is (Some x) e = absurd (true≢false e)

module _ {E : Type 0} where
  -- what holds of the claim, as of three calls
  pub record IsPutAndTaken (name : LaneName) (by : ℕ) (e : E) (s t : State E) : Type 0 where
    pub before : Lane E
    pub was : lane s name ≡ Some before
    pub between : State E
    pub gets : Gets s between name (put e before)
    pub due : due_of by between.places between.fresh ≡ record { lane = name; inside = false } ∷ []
    pub given : taken by false (put e before) ≡ record { effect = Some e; lane = claimed by before }
    pub spare : between.spare ≡ s.spare
    pub takes : Turns (record between { fresh = []; due = due_of by between.places between.fresh }) t name (kept (claimed by before))

  -- a lane that is claimed is needed
  kept_claimed : (by : ℕ) (l : Lane E) → is_idle l ≡ true → kept (claimed by l) ≡ Some (claimed by l)
  kept_claimed by l idle =
      let is : claimed by l ≡ with_server (Some by) l = ap (λ b. cond b (with_server (Some by) l) l) idle in
      ap (kept {E = E}) is ∙ sym (ap (λ (x : Lane E). Some x) is)

  due_free : (by place : ℕ) (o : Opened E) → is_served o.lane ≡ false →
      due_lane by place o ≡ record { lane = record { place = place; turn = o.turn }; inside = false } ∷ []
  due_free by place o free = ap (λ b. cond b (cond (serves by o.lane && not (is_empty o.lane.front)) (named true) []) (named false)) free where
    named : Bool → List Due
    named inside = record { lane = record { place = place; turn = o.turn }; inside = inside } ∷ []

  -- taken at once ------------------------------------------------------------------------------------------------

  nil_is : (xs : List E) → is_empty xs ≡ true → xs ≡ []
  nil_is [] e = refl
  nil_is (x ∷ xs) e = absurd (true≢false (sym e))

  -- nothing is in a lane that is idle, and nobody serves it
  abbrev pub bare : ℕ → Lane E
  bare many = record { returned = None; front = []; back = []; server = None; many = many }

  pub idle_is : (l : Lane E) → is_idle l ≡ true → l ≡ bare l.many
  idle_is l idle =
      let parts = idle_parts (is_some l.server) (is_some l.returned) (is_empty l.front) (is_empty l.back) idle in
      let server = none_is l.server parts.0 in let returned = none_is l.returned parts.1 in
      let front = nil_is l.front parts.2 in let back = nil_is l.back parts.3 in
      λ i. record { returned = returned i; front = front i; back = back i; server = server i; many = l.many }

  given_at_once : (by : ℕ) (e : E) (l : Lane E) → is_idle l ≡ true → taken by false (put e l) ≡ record { effect = Some e; lane = claimed by l }
  given_at_once by e l idle = subst (λ (x : Lane E). taken by false (put e x) ≡ record { effect = Some e; lane = claimed by x }) (sym (idle_is l idle)) refl

  pub alone_is_put_and_taken : (name : LaneName) (by : ℕ) (e : E) (s t : State E) → ClaimsAlone name by s t → IsPutAndTaken name by e s t
  alone_is_put_and_taken name by e s t claims =
      record {
        before = claims.before;
        was = claims.was;
        between = between;
        gets = gets;
        due = due;
        given = given_at_once by e claims.before claims.idle;
        spare = refl;
        takes = record {
          found = claims.claims.found ∙ sym (kept_claimed by claims.before claims.idle);
          others = λ other apart. claims.claims.others other apart ∙ sym (others other apart);
          fresh_is = claims.claims.fresh_is ∙ claims.none_fresh ∙ sym (ap (λ (x : Option (Lane E)). fresh_with name.place x []) (kept_claimed by claims.before claims.idle));
          next_turn = claims.claims.next_turn;
          due = claims.due ∙ sym due;
        };
      }
    where
      between : State E
      between = written s name (put e claims.before) (name.place ∷ [])

      others : (other : LaneName) → other ≢ name → lane between other ≡ lane s other
      others = others_as_before s name claims.before claims.was (put e claims.before) (name.place ∷ [])

      gets : Gets s between name (put e claims.before)
      gets = record {
        found = found_here s name claims.before claims.was (put e claims.before) (name.place ∷ []);
        others = others;
        fresh_is = ap (touched name.place) (sym claims.none_fresh);
        next_turn = refl;
        due = refl;
      }

      free : is_served (put e claims.before) ≡ false
      free = (idle_parts (is_some claims.before.server) (is_some claims.before.returned) (is_empty claims.before.front) (is_empty claims.before.back) claims.idle).0

      due : due_of by between.places (name.place ∷ []) ≡ record { lane = name; inside = false } ∷ []
      due = ap (λ (o : Option (Opened E)). due_at by name.place o ++ [])
          (opened_here s name claims.before claims.was (put e claims.before) (name.place ∷ []))
          ∙ ap (λ (ds : List Due). ds ++ []) (due_free by name.place (record { turn = name.turn; lane = put e claims.before }) free)
