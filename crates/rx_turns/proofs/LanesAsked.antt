-- What a lane that is asked by its word leaves, by that word.
use Rattle.std.proofs.Common.{◌≡◌, ℕ, ◌%◌, ◌<◌, ◌⊎◌, inl, inr, not, nat_lt, Bool, true, false, [], Option, Some, None, IsSome, option_map, refl, sym, ap, subst, ◌∙◌, arith}
use Rattle.std.proofs.lemmas.Bool.{false≢true, eqb-true, ltb-true}
use Rattle.std.proofs.lemmas.Option.{same_Some}
use Rattle.std.specs.Option.{option_and_then}
use Rattle.std.specs.Prelude.{if◌then◌else◌}
use Rattle.rx_lanes.specs.declared.names.LaneName.{LaneName}
use Rattle.rx_lanes.specs.Lane.{Lane}
use Rattle.rx_lanes.specs.Reports.{name_of}
use Rattle.rx_lanes.specs.State.{State as LanesState, Opened, lane, opened_at, IsLeft, IsPromised as AreLanesPromised}
use Rattle.rx_roles.specs.declared.effect.Effect.{Effect as Sent}
use Rattle.rx_roles.specs.declared.effect.What.{What}
use Rattle.rx_roles.specs.declared.effect.What.TheVariants.{Next, Project, Completed, Failed, Gone, Release, Put, Merged}
use Rattle.rx_courses.specs.LeftNamed.{IsServedBy}
use Rattle.rx_cellar.specs.declared.cellar.Cellar.{Cellar}
use Rattle.rx_cellar.specs.declared.shapes.Effect.{Effect}
use Rattle.rx_cellar.specs.Crossings.{effect_of, what_of, what_code}
use Rattle.rx_cellar.specs.Serving.{IsTaken, IsTakenIf}
use Rattle.rx_cellar.specs.Words.{inside_bit, is_inside, is_named, named, place_in, word_of, WordsFindTheirLanes}
use Rattle.rx_turns.proofs.LanesTaken.{take_fresh, take_left, take_clears, take_served, take_ends, take_within}

abbrev pub lanes : Cellar → LanesState Sent
lanes s = s.engine.parts.lanes

-- words ----------------------------------------------------------------------------------------------------

-- what stands at the place of a word has its name, where that finds it
record IsThere (s : LanesState Sent) (word : ℕ) (n : LaneName) : Type 0 where
  stands : name_of (place_in word) (opened_at s (place_in word)) ≡ Some n
  place : n.place ≡ place_in word
  is_its : word % inside_bit ≡ word_of n

there : (s : LanesState Sent) (word : ℕ) (n : LaneName) → named s word ≡ Some n → IsThere s word n
there s word n found = by_opened (opened_at s (place_in word)) refl where
  by_named : (m : LaneName) → m.place ≡ place_in word → name_of (place_in word) (opened_at s (place_in word)) ≡ Some m → (b : Bool) →
      is_named word m ≡ b → (if b then Some m else None) ≡ Some n → IsThere s word n
  by_named m place stands true is so =
      let same = same_Some m n so in
      record {
        stands = stands ∙ so;
        place = ap (λ (x : LaneName). x.place) (sym same) ∙ place;
        is_its = eqb-true (word % inside_bit) (word_of n) (ap (is_named word) (sym same) ∙ is);
      }
  by_named m place stands false is so = absurd (cc)

  by_opened : (o : Option (Opened Sent)) → opened_at s (place_in word) ≡ o → IsThere s word n
  by_opened None gone =
      let both : None ≡ Some n =
      sym (ap (λ (o : Option (Opened Sent)). option_and_then (λ (m : LaneName). if is_named word m then Some m else None) (name_of (place_in word) o)) gone) ∙ found in
      absurd (cc)
  by_opened (Some o) at =
      let m : LaneName = record { place = place_in word; turn = o.turn } in
      by_named m refl (ap (name_of (place_in word)) at) (is_named word m) refl
      (sym (ap (λ (x : Option (Opened Sent)). option_and_then (λ (y : LaneName). if is_named word y then Some y else None) (name_of (place_in word) x)) at) ∙ found)

pub place_named : (s : LanesState Sent) (word : ℕ) (n : LaneName) → named s word ≡ Some n → n.place ≡ place_in word
place_named s word n found = (there s word n found).place

below : (word : ℕ) → is_inside word ≡ false → word < 9223372036854775808
below word out = ltb-true word 9223372036854775808 (by_test (nat_lt word 9223372036854775808) out) where
  by_test : (b : Bool) → not b ≡ false → b ≡ true
  by_test true nay = refl
  by_test false nay = absurd (false≢true (sym nay))

-- a word that does not say inside is that of the lane that it finds
pub own_word : (s : LanesState Sent) (word : ℕ) (n : LaneName) → named s word ≡ Some n → is_inside word ≡ false → word ≡ word_of n
own_word s word n found out =
    let small = below word out in
    let whole : word % 9223372036854775808 ≡ word = omega (arith, small) in
    sym whole ∙ (there s word n found).is_its

-- what two words find at one place is one lane
pub same_named : (s : LanesState Sent) (word other : ℕ) (n m : LaneName) → named s word ≡ Some n → named s other ≡ Some m → place_in word ≡ place_in other → n ≡ m
same_named s word other n m at_n at_m same =
    same_Some n m (sym (there s word n at_n).stands ∙ ap (λ (p : ℕ). name_of p (opened_at s p)) same ∙ (there s other m at_m).stands)

-- one lane stands at a place
pub one_there : WordsFindTheirLanes Sent → (s : LanesState Sent) → AreLanesPromised s → (n m : LaneName) (l k : Lane Sent) → lane s n ≡ Some l →
    lane s m ≡ Some k → n.place ≡ m.place → n ≡ m
one_there find s kept n m l k at_n at_m place =
    let a = (find s kept n l false at_n).0 in
    let b = (find s kept m k false at_m).0 in
    same_named s (word_of n) (word_of m) n m a b (sym (place_named s (word_of n) n a) ∙ place ∙ place_named s (word_of m) m b)

-- taking ---------------------------------------------------------------------------------------------------

coded : (what : What) → what_of (what_code what) ≡ Some what
coded Next = refl
coded Project = refl
coded Completed = refl
coded Failed = refl
coded Gone = refl
coded Release = refl
coded Put = refl
coded Merged = refl

-- of a lane that is asked by this word
pub record IsAsked (word by : ℕ) (s t : Cellar) (answer : Option Effect) : Type 0 where
  pub left : (n : LaneName) → IsLeft (lanes t) n → IsLeft (lanes s) n
  pub clears : (n : LaneName) → is_inside word ≡ false → named (lanes s) word ≡ Some n → IsLeft (lanes t) n → ⊥
  pub served : (n : LaneName) (server : ℕ) → IsServedBy (lanes t) n server →
      IsServedBy (lanes s) n server ⊎ ((named (lanes s) word ≡ Some n) × (server ≡ by) × IsSome answer)
  pub ends : (n : LaneName) → is_inside word ≡ false → answer ≡ None → named (lanes s) word ≡ Some n → IsServedBy (lanes t) n by → ⊥
  pub within : (n : LaneName) → is_inside word ≡ true → IsSome answer → named (lanes s) word ≡ Some n → IsServedBy (lanes s) n by
  pub settled : (lanes s).fresh ≡ [] → (lanes t).fresh ≡ []
  pub kind : (e : Effect) → answer ≡ Some e → (what : What) × (what_of e.kind ≡ Some what)

crossed : (given : Option Sent) → IsSome (option_map effect_of given) → IsSome given
crossed None some = some
crossed (Some e) some = refl

none_crossed : (given : Option Sent) → option_map effect_of given ≡ None → given ≡ None
none_crossed None is = refl
none_crossed (Some e) is = absurd (cc)

pub kind_of : (given : Option Sent) (e : Effect) → option_map effect_of given ≡ Some e → (what : What) × (what_of e.kind ≡ Some what)
kind_of None e is = absurd (cc)
kind_of (Some sent) e is = (sent.what, ap (λ (x : Effect). what_of x.kind) (sym (same_Some (effect_of sent) e is)) ∙ coded sent.what)

pub is_asked : (word by : ℕ) (s t : Cellar) (answer : Option Effect) → IsTaken word by s t answer → IsAsked word by s t answer
is_asked word by s t answer is = by_name (named (lanes s) word) refl is where
  by_name : (o : Option LaneName) → named (lanes s) word ≡ o → IsTakenIf o (is_inside word) by s t answer → IsAsked word by s t answer
  by_name None none (same, nothing) = record {
    left = λ n is. subst (λ (x : Cellar). IsLeft (lanes x) n) same is;
    clears = λ n out found is. let both : None ≡ Some n = sym none ∙ found in absurd (cc);
    served = λ n server is. inl (subst (λ (x : Cellar). IsServedBy (lanes x) n server) same is);
    ends = λ n out nay found is. let both : None ≡ Some n = sym none ∙ found in absurd (cc);
    within = λ n inside some found. let both : None ≡ Some n = sym none ∙ found in absurd (cc);
    settled = λ is. ap (λ (x : Cellar). (lanes x).fresh) same ∙ is;
    kind = λ e is. let both : None ≡ Some e = sym nothing ∙ is in absurd (cc);
  }
  by_name (Some name) found k =
      let own : (n : LaneName) → named (lanes s) word ≡ Some n → name ≡ n = λ n at. same_Some name n (sym found ∙ at) in
      record {
        left = take_left name (is_inside word) by s.engine t.engine k.given k.take;
        clears = λ n out at is.
            take_clears name (is_inside word) by s.engine t.engine k.given k.take out (subst (IsLeft (lanes t)) (sym (own n at)) is);
        served = λ n server is. elim (take_served name (is_inside word) by s.engine t.engine k.given k.take n server is) [
          | inl before ↦ inl before
          | inr now ↦ inr (found ∙ ap (λ (x : LaneName). Some x) (sym now.0), now.1, subst (λ (o : Option Effect). IsSome o) (sym k.is_shown) (crossed_back k.given now.2))
        ];
        ends = λ n out none at is.
            take_ends name (is_inside word) by s.engine t.engine k.given k.take out (none_crossed k.given (sym k.is_shown ∙ none))
            (subst (λ (x : LaneName). IsServedBy (lanes t) x by) (sym (own n at)) is);
        within = λ n inside some at.
            subst (λ (x : LaneName). IsServedBy (lanes s) x by) (own n at)
            (take_within name (is_inside word) by s.engine t.engine k.given k.take inside (crossed k.given (subst (λ (o : Option Effect). IsSome o) k.is_shown some)));
        settled = take_fresh name (is_inside word) by s.engine t.engine k.given k.take;
        kind = λ e is. kind_of k.given e (sym k.is_shown ∙ is);
      } where
        crossed_back : (given : Option Sent) → IsSome given → IsSome (option_map effect_of given)
        crossed_back None some = some
        crossed_back (Some e) some = refl
