-- What the choice of a hub comes to.
use Rattle.rx_pool.proofs.Common.{◌≡◌, ℕ, ◌+◌, ◌<◌, ◌≤◌, Bool, true, false, Option, Some, None, Ok, Err, Result, List, length, slice_get, refl, ap}
use Rattle.rx_pool.proofs.Common.{sym, ◌∙◌, subst, arith}
use Rattle.rx_pool.proofs.Common.{◌⊎◌, inl, inr, cases_lt, if◌then◌else◌, false≢true, option_map_or, option_or, min, nat_lt, ltb-true, ltb-false}
use Rattle.rx_pool.proofs.Common.{lt-ltb, slice_get_within}
use Rattle.rx_pool.proofs.Common.{PooledHub, Share, Refusal, NoHub, HubOrder, Mode, is_free, is_own, serves, passes, last_before, last_free}
use Rattle.rx_pool.proofs.Common.{level_end, why_none, if_before}
use Rattle.rx_pool.proofs.Common.{AreApart, MayJoin, is_some}
use Rattle.rx_pool.proofs.Searches.{last_before-only, passes-past, Last, at_place, nowhere, look}
use Rattle.rx_pool.proofs.Changes.{found, serves_parts, free_parts}
use Rattle.std.specs.Prelude.{◌^◌}
use Rattle.rx_pool.proofs.Common.{Event, Auto, Manual, not, ◌==◌}
use Rattle.rx_event.proofs.Laws.Common.{false_from_ne_true, number_itself, list_any, at, ancestors, is_within, IsInOrderAt, makes_hub, is_auto_hub}
use Rattle.rx_event.proofs.Laws.Common.{is_manual_hub}
use Rattle.rx_event.proofs.Laws.Searches.{list_any_found, list_any_holds}
use Rattle.rx_event.specs.Causes.{is_out_of_order, connects_up_to}
use Rattle.rx_event.specs.Events.{named_by}
use Rattle.rx_event.specs.declared.event.Event.TheVariants.{Connect, Hub}
use Rattle.rx_event.specs.declared.event.Kind.TheVariants.{Sub}
use Rattle.rx_event.specs.declared.event.Place.{Place}
use Rattle.rx_pool.specs.Claims.{ChoosesAdmissible, RefusesWhereNone, KeepsItsHub, TakesWhatIsChosen, IsAdmissible, IsRefusal, MayServe, IsUnserved}
use Rattle.rx_pool.specs.Claims.{own, free, behind, none}

-- a test of the hub at a place
at_hub : (test : PooledHub → Bool) (hubs : List PooledHub) (place : ℕ) (hub : PooledHub) → slice_get hubs place ≡ Some hub → passes test hubs place ≡ true → test hub ≡ true
at_hub test hubs place hub there is = sym (ap (λ o. option_map_or test o false) there) ∙ is

-- none of all hubs passes
nowhere_at_all : (test : PooledHub → Bool) (hubs : List PooledHub) → ((i : ℕ) → i < length hubs → passes test hubs i ≡ false) → (i : ℕ) → passes test hubs i ≡ false
nowhere_at_all test hubs none_within i = by_order (cases_lt i (length hubs))
  where
    by_order : (i < length hubs) ⊎ (length hubs ≤ i) → passes test hubs i ≡ false
    by_order (inl l) = none_within i l
    by_order (inr g) = passes-past test hubs i g

-- a place, and a refusal, as answers
abbrev told : ℕ → Result ℕ Refusal
told place = Ok place

abbrev no_place : Refusal → Result ℕ Refusal
no_place why = Err why

same_Ok : (a b : ℕ) → told a ≡ told b → a ≡ b
same_Ok a b is = cc

same_Err : (a b : Refusal) → no_place a ≡ no_place b → a ≡ b
same_Err a b is = cc

Ok≢Err : (a : ℕ) (b : Refusal) → told a ≡ no_place b → ⊥
Ok≢Err a b is = absurd (cc)

-- the two sorts of hubs that may serve ----------------------------------------------------------------------------------------------

own_may : (hubs : List PooledHub) (share : Share) (place : ℕ) → AreApart hubs → passes (is_own share) hubs place ≡ true →
    ((hub : PooledHub) → slice_get hubs place ≡ Some hub → hub.many + 1 < 2 ^ 32) → MayJoin hubs place share.word
own_may hubs share place apart holds few =
    let f = found (is_own share) (slice_get hubs place) holds in
    let hub = f.0 in
    let there = f.1 in
    let s = serves_parts share.mode share.word hub (at_hub (is_own share) hubs place hub there holds) in
    record {
      hub = hub;
      there = there;
      own = λ used. s.2;
      alone = λ i other. apart share i place (ap (λ (m : Mode). passes (serves m share.word) hubs i) (sym s.0) ∙ other) holds;
      few = few hub there;
    }

free_may : (hubs : List PooledHub) (share : Share) (place : ℕ) → IsUnserved hubs share → passes (is_free share.mode) hubs place ≡ true →
    ((hub : PooledHub) → slice_get hubs place ≡ Some hub → hub.many + 1 < 2 ^ 32) → MayJoin hubs place share.word
free_may hubs share place unserved holds few =
    let at = found (is_free share.mode) (slice_get hubs place) holds in
    let hub = at.0 in
    let there = at.1 in
    let f = free_parts share.mode hub (at_hub (is_free share.mode) hubs place hub there holds) in
    record {
      hub = hub;
      there = there;
      own = λ used. absurd (let none_names = f.1 in omega arith);
      alone = λ i other. absurd (false≢true (sym (unserved i) ∙ ap (λ (m : Mode). passes (serves m share.word) hubs i) (sym f.0) ∙ other));
      few = few hub there;
    }

own_admissible : (hubs : List PooledHub) (share : Share) (limit place : ℕ) → AreApart hubs → place < limit → passes (is_own share) hubs place ≡ true →
    IsAdmissible hubs share limit place
own_admissible hubs share limit place apart before holds = record { before = before; serves = own holds; may = own_may hubs share place apart holds }

free_admissible : (hubs : List PooledHub) (share : Share) (limit place : ℕ) → IsUnserved hubs share → place < limit → passes (is_free share.mode) hubs place ≡ true →
    IsAdmissible hubs share limit place
free_admissible hubs share limit place unserved before holds =
    record { before = before; serves = free holds unserved; may = free_may hubs share place unserved holds }

-- what was chosen -------------------------------------------------------------------------------------------------------------------

own_chosen : (hubs : List PooledHub) (share : Share) (limit place k : ℕ) → AreApart hubs → passes (is_own share) hubs k ≡ true → (b : Bool) → nat_lt k limit ≡ b →
    (if b then Ok k else Err HubOrder) ≡ Ok place → IsAdmissible hubs share limit place
own_chosen hubs share limit place k apart holds true less is =
    subst (λ (p : ℕ). IsAdmissible hubs share limit p) (same_Ok k place is) (own_admissible hubs share limit k apart (ltb-true k limit less) holds)
own_chosen hubs share limit place k apart holds false less is = absurd (Ok≢Err place HubOrder (sym is))

free_chosen : (hubs : List PooledHub) (share : Share) (limit place first : ℕ) (why : Refusal) → IsUnserved hubs share →
    (a : Option ℕ) → Last (is_free share.mode) hubs (min first limit) a → (b : Option ℕ) → Last (is_free share.mode) hubs limit b →
    option_map_or Ok (option_or a b) (Err why) ≡ Ok place → IsAdmissible hubs share limit place
free_chosen hubs share limit place first why unserved a (at_place k l holds) b last is =
    subst (λ (p : ℕ). IsAdmissible hubs share limit p) (same_Ok k place is) (free_admissible hubs share limit k unserved (omega arith) holds)
free_chosen hubs share limit place first why unserved a (nowhere no_one) b (at_place k l holds) is =
    subst (λ (p : ℕ). IsAdmissible hubs share limit p) (same_Ok k place is) (free_admissible hubs share limit k unserved l holds)
free_chosen hubs share limit place first why unserved a (nowhere no_one) b (nowhere no_other) is = absurd (Ok≢Err place why (sym is))

chosen : (hubs : List PooledHub) (share : Share) (limit place : ℕ) → AreApart hubs → (o : Option ℕ) → Last (is_own share) hubs (length hubs) o →
    option_map_or (if_before limit) o (option_map_or Ok (last_free hubs share.mode share.level limit) (Err (why_none hubs share.mode))) ≡ Ok place →
    IsAdmissible hubs share limit place
chosen hubs share limit place apart o (at_place k l holds) is = own_chosen hubs share limit place k apart holds (nat_lt k limit) refl is
chosen hubs share limit place apart o (nowhere no_one) is =
    free_chosen hubs share limit place (level_end share.level) (why_none hubs share.mode) (nowhere_at_all (is_own share) hubs no_one)
    (last_before (is_free share.mode) hubs (min (level_end share.level) limit)) (look (is_free share.mode) hubs (min (level_end share.level) limit))
    (last_before (is_free share.mode) hubs limit) (look (is_free share.mode) hubs limit) is

pub chooses_admissible : ChoosesAdmissible
chooses_admissible hubs share limit place apart is =
    chosen hubs share limit place apart (last_before (is_own share) hubs (length hubs)) (look (is_own share) hubs (length hubs)) is

-- what was refused ------------------------------------------------------------------------------------------------------------------

record Refuses (hubs : List PooledHub) (share : Share) (limit : ℕ) (why : Refusal) : Type 0 where
  none_before : (place : ℕ) → place < limit → MayServe hubs share place → ⊥
  cause : IsRefusal hubs share limit why

-- what serves a share that has a hub is that hub
only_own : (hubs : List PooledHub) (share : Share) (k place : ℕ) → AreApart hubs → passes (is_own share) hubs k ≡ true → MayServe hubs share place → place ≡ k
only_own hubs share k place apart holds (own is) = apart share place k is holds
only_own hubs share k place apart holds (free is unserved) = absurd (false≢true (sym (unserved k) ∙ holds))

own_refused : (hubs : List PooledHub) (share : Share) (limit k : ℕ) (why : Refusal) → AreApart hubs → passes (is_own share) hubs k ≡ true → (b : Bool) → nat_lt k limit ≡ b →
    (if b then Ok k else Err HubOrder) ≡ Err why → Refuses hubs share limit why
own_refused hubs share limit k why apart holds true less is = absurd (Ok≢Err k why is)
own_refused hubs share limit k why apart holds false less is =
    let past : limit ≤ k = ltb-false k limit less in
    subst (λ (w : Refusal). Refuses hubs share limit w) (same_Err HubOrder why is) (record {
      none_before = λ place l may. let same = only_own hubs share k place apart holds may in omega arith;
      cause = behind k past (own holds);
    })

-- of a share that no hub serves, a hub that may serve it is free
must_be_free : (hubs : List PooledHub) (share : Share) (place : ℕ) → IsUnserved hubs share → MayServe hubs share place → passes (is_free share.mode) hubs place ≡ true
must_be_free hubs share place unserved (own is) = absurd (false≢true (sym (unserved place) ∙ is))
must_be_free hubs share place unserved (free is still) = is

cause_of : (hubs : List PooledHub) (share : Share) (limit : ℕ) → IsUnserved hubs share → ((i : ℕ) → i < limit → passes (is_free share.mode) hubs i ≡ false) →
    (o : Option ℕ) → Last (is_free share.mode) hubs (length hubs) o → IsRefusal hubs share limit (if is_some o then HubOrder else NoHub)
cause_of hubs share limit unserved no_one o (at_place k l holds) = behind k (past (cases_lt k limit)) (free holds unserved)
  where
    past : (k < limit) ⊎ (limit ≤ k) → limit ≤ k
    past (inl m) = absurd (false≢true (sym (no_one k m) ∙ holds))
    past (inr g) = g
cause_of hubs share limit unserved no_one o (nowhere none_at_all) =
    none (λ place may. absurd (false≢true (sym (nowhere_at_all (is_free share.mode) hubs none_at_all place) ∙ must_be_free hubs share place unserved may)))

free_refused : (hubs : List PooledHub) (share : Share) (limit : ℕ) (why : Refusal) → IsUnserved hubs share →
    (a : Option ℕ) → (b : Option ℕ) → Last (is_free share.mode) hubs limit b →
    option_map_or Ok (option_or a b) (Err (why_none hubs share.mode)) ≡ Err why → Refuses hubs share limit why
free_refused hubs share limit why unserved (Some k) b last is = absurd (Ok≢Err k why is)
free_refused hubs share limit why unserved None b (at_place k l holds) is = absurd (Ok≢Err k why is)
free_refused hubs share limit why unserved None b (nowhere no_one) is =
    subst (λ (w : Refusal). Refuses hubs share limit w) (same_Err (why_none hubs share.mode) why is) (record {
      none_before = λ place l may. false≢true (sym (no_one place l) ∙ must_be_free hubs share place unserved may);
      cause = cause_of hubs share limit unserved no_one (last_before (is_free share.mode) hubs (length hubs)) (look (is_free share.mode) hubs (length hubs));
    })

refused : (hubs : List PooledHub) (share : Share) (limit : ℕ) (why : Refusal) → AreApart hubs → (o : Option ℕ) → Last (is_own share) hubs (length hubs) o →
    option_map_or (if_before limit) o (option_map_or Ok (last_free hubs share.mode share.level limit) (Err (why_none hubs share.mode))) ≡ Err why →
    Refuses hubs share limit why
refused hubs share limit why apart o (at_place k l holds) is = own_refused hubs share limit k why apart holds (nat_lt k limit) refl is
refused hubs share limit why apart o (nowhere no_one) is =
    free_refused hubs share limit why (nowhere_at_all (is_own share) hubs no_one) (last_before (is_free share.mode) hubs (min (level_end share.level) limit))
    (last_before (is_free share.mode) hubs limit) (look (is_free share.mode) hubs limit) is

pub refuses_where_none : RefusesWhereNone
refuses_where_none hubs share limit why apart is =
    let r = refused hubs share limit why apart (last_before (is_own share) hubs (length hubs)) (look (is_own share) hubs (length hubs)) is in
    (r.none_before, r.cause)

-- a share's own hub -----------------------------------------------------------------------------------------------------------------

pub keeps_its_hub : KeepsItsHub
keeps_its_hub hubs share limit place apart holds =
    let f = found (is_own share) (slice_get hubs place) holds in
    ap (λ o. option_map_or (if_before limit) o (option_map_or Ok (last_free hubs share.mode share.level limit) (Err (why_none hubs share.mode))))
    (last_before-only (is_own share) hubs place (length hubs) (slice_get_within hubs place f.0 f.1) holds (λ i other. apart share i place other holds))

-- the book's refusals ---------------------------------------------------------------------------------------------------------------

-- the hub that is chosen has the mode of the share
mode_chosen : (hubs : List PooledHub) (share : Share) (place : ℕ) (hub : PooledHub) → slice_get hubs place ≡ Some hub → MayServe hubs share place → hub.mode ≡ share.mode
mode_chosen hubs share place hub there (own is) = (serves_parts share.mode share.word hub (at_hub (is_own share) hubs place hub there is)).0
mode_chosen hubs share place hub there (free is unserved) = (free_parts share.mode hub (at_hub (is_free share.mode) hubs place hub there is)).0

-- the order, as the book decides it
ordered : (h : List Event) (g p : ℕ) → IsInOrderAt h g p → list_any (at (connects_up_to g) h) (ancestors h p) ≡ false
ordered h g p in_order = false_from_ne_true (list_any (at (connects_up_to g) h) (ancestors h p)) never
  where
    connects : (o : Option Event) → option_map_or (connects_up_to g) o false ≡ true → (k : ℕ) × (o ≡ Some (Connect k)) × (not (nat_lt g k) ≡ true)
    connects (Some (Connect k)) is = (k, refl, is)
    connects None is = absurd (false≢true is)
    connects (Some _) is = absurd (false≢true is)

    never : list_any (at (connects_up_to g) h) (ancestors h p) ≡ true → ⊥
    never is =
        let a = list_any_found (at (connects_up_to g) h) (ancestors h p) is in
        let c = connects (slice_get h a.1) a.3 in
        let within : is_within h a.1 p ≡ true = list_any_holds (λ x. a.1 == x) (ancestors h p) a.0 a.1 a.2 (number_itself a.1) in
        let less = in_order a.1 c.0 within c.1 in
        false≢true (sym (ap (λ (b : Bool). not b) (lt-ltb g c.0 less)) ∙ c.2)

auto_made : (h : List Event) (g : ℕ) (mode : Mode) → slice_get h g ≡ Some (Hub mode) → mode ≡ Auto → at is_auto_hub h g ≡ true
auto_made h g mode made is = ap (λ o. option_map_or is_auto_hub o false) (made ∙ ap (λ (m : Mode). Some (Hub m)) is)

manual_made : (h : List Event) (g : ℕ) (mode : Mode) → slice_get h g ≡ Some (Hub mode) → mode ≡ Manual → at is_manual_hub h g ≡ true
manual_made h g mode made is = ap (λ o. option_map_or is_manual_hub o false) (made ∙ ap (λ (m : Mode). Some (Hub m)) is)

out_of_order : (h : List Event) (g p : ℕ) (place : Place) → named_by place ≡ Some p → list_any (at (connects_up_to g) h) (ancestors h p) ≡ false →
    is_out_of_order h place (Sub g) ≡ false
out_of_order h g p place named is = ap (λ o. option_map_or (λ n. list_any (at (connects_up_to g) h) (ancestors h n)) o false) named ∙ is

pub takes_what_is_chosen : TakesWhatIsChosen
takes_what_is_chosen h hubs share p limit place hub plain pool limited is there =
    let c = chooses_admissible hubs share limit place plain.apart is in
    let mode = mode_chosen hubs share place hub there c.serves in
    let made = pool.made place hub there in
    record {
      in_order = in_order c.before;
      there = ap (λ (b : Bool). not b) (ap (λ o. option_map_or makes_hub o false) made);
      ordered = λ q named. out_of_order h hub.number p q named (ordered h hub.number p (in_order c.before));
      manual = λ m. manual_made h hub.number hub.mode made (mode ∙ m);
      auto = λ m. auto_made h hub.number hub.mode made (mode ∙ m);
    }
  where
    in_order : place < limit → IsInOrderAt h hub.number p
    in_order before a k within connects =
        let l = limited a k within connects in
        let at_or_past = l.2 in
        let r = plain.rising place l.0 hub l.1 there l.3 (omega arith) in
        let number = l.4 in omega arith
