-- What a call came to is put into lanes, or its only item is handed out without being put there.
use Rattle.std.proofs.Common.{◌≡◌, ℕ, ◌+◌, ◌<◌, ◌≤◌, ◌&&◌, Bool, true, false, List, [], ◌∷◌, Option, Some, None, is_some, refl, sym, ap, ◌∙◌, arith, subst, if◌then◌else◌}
use Rattle.std.proofs.lemmas.Bool.{false≢true}
use Rattle.std.proofs.lemmas.Option.{same_Some}
use Rattle.std.specs.Option.{option_and_then}
use Rattle.rx_resource.specs.declared.Resource.{Ghosts}
use Rattle.rx_resource.specs.declared.token.Token.{Token}
use Rattle.rx_book.specs.State.{State as BookState}
use Rattle.rx_lanes.specs.declared.names.LaneName.{LaneName}
use Rattle.rx_lanes.specs.Lane.{Lane, put, freed, taken, claimed, kept, is_empty, is_idle}
use Rattle.rx_lanes.specs.State.{State, lane, Gets, Turns, IsPromised as AreLanesPromised}
use Rattle.rx_lanes.specs.Handings.{IsGiven}
use Rattle.rx_lanes.specs.Courses.{is_name}
use Rattle.rx_lanes.proofs.Laws.ClaimedAlone.{IsPutAndTaken, alone_is_put_and_taken}
use Rattle.rx_roles.specs.declared.effect.Effect.{Effect}
use Rattle.rx_roles.specs.declared.effect.What.{What}
use Rattle.rx_roles.specs.declared.effect.What.TheVariants.{Next, Project}
use Rattle.rx_roles.specs.Effects.{is_item, is_last, is_release, carries, copies_in, lasts_at, only_item}
use Rattle.rx_engine.specs.declared.parts.Parts.{Parts}
use Rattle.rx_engine.specs.Deliveries.{many_at, put_by, PartsIf, AreNamed, Arrives, Delivers, none_delivered, one_delivered, settled}
use Rattle.rx_engine.specs.Rooms.{role_count, named, IsReady}
use Rattle.rx_roles.specs.declared.roles.Role.{Role}
use Rattle.rx_engine.specs.Settlements.{Settles, Releases, all_given, effects_told}
use Rattle.rx_engine.specs.Gatherings.{Gathers, Spreads, IsLoaded}
use Rattle.rx_engine.specs.Handings.{is_idle_there, may_hand, item_at_once}
use Rattle.rx_engine.specs.HandingSteps.{ClaimsOnly, SpreadsAndHands}
use Rattle.rx_engine.proofs.NamedLanes.{delivered_many}
use Rattle.rx_engine.proofs.LanesPromised.{settled_promised}
use Rattle.rx_engine.proofs.LanesServed.{claimed_many, turns_many}
use Rattle.rx_engine.proofs.Laws.EffectsInLanes.{found_lane, arrives_gets}

-- both steps are a settling
unfoldable pub settles_of : {g : Ghosts Token} {by value : ℕ} {mid : BookState} {p : Parts} {t : BookState} {q r : Parts} →
    Gathers g by value mid p t q → Spreads by q r → Settles g by value mid p t r
settles_of {g} {by} {value} {mid} {p} {t} {q} {r} gathers spreads = record {
  homes = ap (λ (x : Parts). x.homes.list) spreads.only ∙ gathers.homes;
  left = q.lanes;
  leaves = gathers.leaves;
  shares = ap (λ (x : Parts). x.shares.list) spreads.only ∙ gathers.shares;
  hubs = ap (λ (x : Parts). x.shares.hubs) spreads.only ∙ gathers.hubs;
  hears = ap (λ (x : Parts). x.hears.list) spreads.only ∙ gathers.hears;
  merges = ap (λ (x : Parts). x.merges.list) spreads.only ∙ gathers.merges;
  effects = q.effects.list;
  releases = subst (λ (rs : List Role). Releases g by (all_given mid) p.holds.list (effects_told by value mid p) t rs q.effects.list)
      (sym (ap (λ (x : Parts). x.holds.list) spreads.only)) gathers.releases;
  put = spreads.put;
  delivers = spreads.delivers;
  lanes = spreads.lanes;
  copies = spreads.copies;
  none_waits = gathers.none_waits;
  base = gathers.base;
  limit = gathers.limit;
}

-- an item alone --------------------------------------------------------------------------------------------

pub record IsItemAlone (es : List Effect) (e : Effect) : Type 0 where
  pub only : es ≡ e ∷ []
  pub carried : carries e.what ≡ true
  pub goes_on : is_last e.what ≡ false
  pub is_put : is_release e.what ≡ false

alone_of : (e : Effect) (what : What) → e.what ≡ what → is_item what ≡ true → IsItemAlone (e ∷ []) e
alone_of e Next is item = record { only = refl; carried = ap carries is; goes_on = ap is_last is; is_put = ap is_release is }
alone_of e Project is item = record { only = refl; carried = ap carries is; goes_on = ap is_last is; is_put = ap is_release is }
alone_of e _ is item = absurd (false≢true item)

pub item_alone : (es : List Effect) (e : Effect) → only_item es ≡ Some e → IsItemAlone es e
item_alone [] e is = absurd (cc)
item_alone (x ∷ []) e is = of (is_item x.what) refl is where
  of : (b : Bool) → is_item x.what ≡ b → (if b then Some x else None) ≡ Some e → IsItemAlone (x ∷ []) e
  of true item is = subst (λ (y : Effect). IsItemAlone (x ∷ []) y) (same_Some x e is) (alone_of x x.what refl item)
  of false item is = absurd (cc)
item_alone (x ∷ (y ∷ es)) e is = absurd (cc)

-- its lane is open
pub only_found : (p : Parts) (e : Effect) → IsLoaded p → only_item p.effects.list ≡ Some e → (l : Lane Effect) × (lane p.lanes e.lane ≡ Some l) × (0 < l.many)
only_found p e loaded is =
    let alone = item_alone p.effects.list e is in
    found_lane p.lanes e.lane (subst (λ (es : List Effect). AreNamed (many_at p.lanes) es) alone.only loaded.are_named).0

no_lasts : (name : LaneName) (es : List Effect) (e : Effect) → IsItemAlone es e → lasts_at name es ≡ 0
no_lasts name es e alone = ap (lasts_at name) alone.only ∙ ap (λ (b : Bool). (if (b && is_name e.lane name) then 1 else 0) + 0) alone.goes_on

-- what is handed out ----------------------------------------------------------------------------------------

-- an item alone, where something is handed out
some_handed : (lanes : State Effect) (e : Effect) (o : Option Effect) → o ≡ Some e →
    is_some (option_and_then (λ (x : Effect). if may_hand lanes x.lane then Some x else None) o) ≡ true →
    Some e ≡ option_and_then (λ (x : Effect). if may_hand lanes x.lane then Some x else None) o
some_handed lanes e None is some = absurd (cc)
some_handed lanes e (Some x) is some = by_test (may_hand lanes x.lane) some where
  by_test : (b : Bool) → is_some (if b then Some x else None) ≡ true → Some e ≡ (if b then Some x else None)
  by_test true some = sym is
  by_test false some = absurd (false≢true some)

-- whether something is
is_some_if : (test : Bool) (e : Effect) → is_some (if test then Some e else None) ≡ test
is_some_if true e = refl
is_some_if false e = refl

none_of : (lanes : State Effect) (o : Option Effect) → is_some o ≡ false →
    is_some (option_and_then (λ (x : Effect). if may_hand lanes x.lane then Some x else None) o) ≡ false
none_of lanes None none = refl
none_of lanes (Some e) none = absurd (false≢true (sym none))

pub none_alone : (es : List Effect) (lanes : State Effect) → is_some (only_item es) ≡ false → false ≡ is_some (item_at_once es lanes)
none_alone es lanes none = sym (none_of lanes (only_item es) none)

pub one_alone : (es : List Effect) (lanes : State Effect) (e : Effect) (l : Lane Effect) (is_claimed : Bool) → only_item es ≡ Some e →
    lane lanes e.lane ≡ Some l → is_claimed ≡ (is_empty lanes.fresh && is_idle l) → is_claimed ≡ is_some (item_at_once es lanes)
one_alone es lanes e l is_claimed item found is =
    is ∙ ap (λ (o : Option (Lane Effect)). is_empty lanes.fresh && is_idle_there o) (sym found) ∙ sym (is_some_if (may_hand lanes e.lane) e)
    ∙ ap (λ (o : Option Effect). is_some (option_and_then (λ (x : Effect). if may_hand lanes x.lane then Some x else None) o)) (sym item)

none_is : (o : Option Effect) → is_some o ≡ false → None ≡ o
none_is None none = refl
none_is (Some e) none = absurd (false≢true (sym none))

-- claimed ----------------------------------------------------------------------------------------------------

module _ {by : ℕ} {e : Effect} {p q : Parts} (c : ClaimsOnly by e p q) (loaded : IsLoaded p) where
  alone : IsItemAlone p.effects.list e
  alone = item_alone p.effects.list e c.item

  abbrev law : IsPutAndTaken e.lane by e p.lanes q.lanes
  law = alone_is_put_and_taken e.lane by e p.lanes q.lanes c.claims

  pub claimed_ready : q.effects.list ≡ [] → p.effects.room ≤ q.effects.room → q.lanes.spare ≡ p.lanes.spare → IsReady 0 q
  claimed_ready empty more spare =
      let roles = ap role_count c.only in
      record {
        empty = empty;
        many = λ name.
            (let same = turns_many p.lanes (record q.lanes { due = p.lanes.due }) e.lane c.claims.before (Some (claimed by c.claims.before)) c.claims.was
            c.claims.claims (claimed_many by c.claims.before) name in
            let had = loaded.many name in let none = no_lasts name p.effects.list e alone in let names = ap (named name) c.only in
            omega (arith, same, had, none, names));
        room = let had = loaded.room in omega (arith, had, more, roles);
        spare = let had = loaded.spare in omega (arith, had, spare, roles);
      }

  -- as if it had been put there
  abbrev between : Parts
  between = record q { lanes = settled by law.between }

  put_is : put_by by e law.before ≡ put e law.before
  put_is = ap (λ (b : Bool). if b then freed by e law.before else put e law.before) alone.is_put

  arrives : Arrives by e law.before p.lanes law.between
  arrives = record {
    between = law.between;
    gets = subst (λ (l : Lane Effect). Gets p.lanes law.between e.lane l) (sym put_is) law.gets;
    parts = subst (λ (b : Bool). PartsIf b e.lane (put_by by e law.before) law.between law.between) (sym alone.goes_on) refl;
  }

  delivers : Delivers by p.lanes (e ∷ []) law.between
  delivers = one_delivered e law.before law.was arrives (none_delivered (record { lanes = λ name. refl; fresh_is = refl; next_turn = refl; due = refl }))

  spreads : Spreads by p between
  spreads = record {
    put = law.between;
    delivers = subst (λ (es : List Effect). Delivers by p.lanes es law.between) (sym alone.only) delivers;
    lanes = refl;
    copies = c.copies ∙ sym (ap copies_in alone.only ∙ ap (λ (b : Bool). (if b then 1 else 0) + 0) alone.carried);
    only = ap (λ (x : Parts). record x { lanes = settled by law.between }) c.only;
  }

  same_lane : (l : Lane Effect) → lane law.between e.lane ≡ Some l → put e law.before ≡ l
  same_lane l found = same_Some (put e law.before) l (sym law.gets.found ∙ found)

  given_once : IsGiven e.lane false by between.lanes q.lanes (Some e)
  given_once = record {
    result = λ l found. ap (λ t. t.effect) (sym law.given) ∙ ap (λ (x : Lane Effect). (taken by false x).effect) (same_lane l found);
    takes = λ l found. subst (λ (x : Lane Effect). Turns between.lanes q.lanes e.lane (kept (taken by false x).lane)) (same_lane l found)
        (subst (λ (x : Lane Effect). Turns between.lanes q.lanes e.lane (kept x)) (ap (λ t. t.lane) (sym law.given)) law.takes);
    absent = λ none. (let is : Some (put e law.before) ≡ None = sym law.gets.found ∙ none in absurd (cc));
    gone = λ none. (let is : Some (put e law.before) ≡ None = sym law.gets.found ∙ none in absurd (cc));
  }

  between_ready : IsReady 0 q → IsReady 0 between
  between_ready ready =
      let roles = ap role_count c.only in
      record {
        empty = ready.empty;
        many = λ name.
            (let less = delivered_many p.lanes law.between by e law.before law.was (arrives_gets p.lanes law.between by e law.before arrives) name in
            let had = loaded.many name in let none = no_lasts name p.effects.list e alone in let names = ap (named name) c.only in
            let one = ap (lasts_at name) alone.only in
            omega (arith, less, had, none, names, one));
        room = ready.room;
        spare = let had = loaded.spare in let same = law.spare in omega (arith, had, same, roles);
      }

  pub claims_hand : is_some (item_at_once p.effects.list p.lanes) ≡ true → AreLanesPromised p.lanes → IsReady 0 q → SpreadsAndHands by p q (Some e)
  claims_hand some promised ready = record {
    between = between;
    spreads = spreads;
    ready = between_ready ready;
    promised = settled_promised e promised law.was law.gets by;
    exact = some_handed p.lanes e (only_item p.effects.list) c.item some;
    hands = (law.due, given_once);
    only = refl;
  }

-- where it is not alone, or its lane is not idle, nothing is handed out
pub spread_beside : {by : ℕ} {p q : Parts} → is_some (item_at_once p.effects.list p.lanes) ≡ false → Spreads by p q → IsReady 0 q →
    AreLanesPromised q.lanes → SpreadsAndHands by p q None
spread_beside {by} {p} {q} none spreads ready promised = record {
  between = q;
  spreads = spreads;
  ready = ready;
  promised = promised;
  exact = none_is (item_at_once p.effects.list p.lanes) none;
  hands = refl;
  only = refl;
}
