-- What is forced without what is left out.
use Rattle.rx_event.proofs.Laws.Common.{◌≡◌, ℕ, ◌<◌, ◌≤◌, Bool, true, false, List, [], ◌∷◌, length, Option, Some, None, slice_get, map, refl, sym, ap, ◌∙◌}
use Rattle.rx_event.proofs.Laws.Common.{subst}
use Rattle.rx_event.proofs.Laws.Common.{inl, inr, ◌⊎◌, arith, Kept, option_map, both_ways, false_from_ne_true, same_Some, none-some, cases_lt, slice_get_within}
use Rattle.rx_event.proofs.Laws.Common.{is_mirroring, is_merging, is_until, is_auto_hub, is_subscriber_of, at, parent, is_open, open_subscribers}
use Rattle.rx_event.proofs.Laws.Common.{open_connections}
use Rattle.rx_event.proofs.Laws.Common.{mirrored, fired, failed, completed, cut, left, connecting, due, SourceEnded, ChildEnded, IsDue, IsForced, IsConnectDue}
use Rattle.rx_event.proofs.Laws.Common.{IsConnected}
use Rattle.rx_event.proofs.Laws.Common.{IsSettled, IsLawful, event_by, Completed, Error, is_fired, owed, source_completed}
use Rattle.rx_omitted.specs.Imports.{Event, Open, Connect, End, Close, Terminal, Sub}
use Rattle.rx_omitted.specs.Named.{named_in, Stay_all}
use Rattle.rx_omitted.specs.Omitted.{number, what_stays, NeedsNone, only_heard, lone_leaf, lone_end, lone_close}
use Rattle.rx_omitted.proofs.Omits.{Omits}
use Rattle.rx_event.proofs.Laws.Hubs.{subscriber_found}
use Rattle.rx_event.proofs.Laws.Openness.{is_open_within}
use Rattle.rx_event.proofs.Laws.Places.{at_within}
use Rattle.rx_event.proofs.Laws.ReadAllowed.{until_by}
use Rattle.rx_event.proofs.Laws.Stands.{event_at}
use Rattle.rx_event.proofs.Laws.TreeRead.{merging_by}
use Rattle.rx_omitted.proofs.Numbers.{number-le, number-lt, number_same, numbered, length-what_stays}
use Rattle.rx_omitted.proofs.Staying.{slice_by, at_by, at_stays, number_from}
use Rattle.rx_omitted.proofs.Tests.{autos, subscribers_of}
use Rattle.rx_omitted.proofs.Tree.{open_by, parent_by, parent_stay}
use Rattle.rx_omitted.proofs.Fared.{parent_gone, subscribers_by, connections_by}
use Rattle.rx_omitted.proofs.Told.{fired_by}
use Rattle.rx_omitted.proofs.Kept.{source_completed_by, owed_by}

pub mirroring_by : (r : ℕ → ℕ) (e : Event) → is_mirroring (event_by r e) ≡ is_mirroring e
mirroring_by r e = grind arith

module _ (base : Kept) (omit : ℕ → Bool) (h : List Event) (a : Omits base omit h) where
  -- an event that stays ---------------------------------------------------------------------------------------

  pub there : (n : ℕ) (e : Event) → omit n ≡ false → slice_get h n ≡ Some e → slice_get (what_stays omit h) (number omit n) ≡ Some (event_by (number omit) e)
  there n e stay at_n = slice_by omit h n stay ∙ ap (option_map (event_by (number omit))) at_n

  -- and each event is one
  pub record CameFrom (m : ℕ) (y : Event) : Type 0 where
    pub place : ℕ
    pub event : Event
    pub stays : omit place ≡ false
    pub numbered : number omit place ≡ m
    pub stands : slice_get h place ≡ Some event
    pub same : event_by (number omit) event ≡ y

  pub came_from : (m : ℕ) (y : Event) → slice_get (what_stays omit h) m ≡ Some y → CameFrom m y
  came_from m y at_m =
      let within : m < number omit (length h) = let l = slice_get_within (what_stays omit h) m y at_m in let e = length-what_stays omit h in omega arith in
      let w = numbered omit (length h) m within in
      let made : (e : Event) × (slice_get h w.0 ≡ Some e) = event_at h w.0 w.1 in
      record {
        place = w.0;
        event = made.0;
        stays = w.2;
        numbered = w.3;
        stands = made.1;
        same = same_Some _ _ (sym (there w.0 made.0 w.2 made.1) ∙ ap (slice_get (what_stays omit h)) w.3 ∙ at_m);
      }

  pub open_from : (m : ℕ) → is_open (what_stays omit h) m ≡ true → (n : ℕ) × (omit n ≡ false) × (number omit n ≡ m) × (is_open h n ≡ true)
  open_from m o =
      let within : m < number omit (length h) = let l = is_open_within (what_stays omit h) m o in let e = length-what_stays omit h in omega arith in
      let w = numbered omit (length h) m within in
      (w.0, w.2, w.3, sym (open_by base omit h a w.0 w.2) ∙ ap (is_open (what_stays omit h)) w.3 ∙ o)

  gone_ends : (i n : ℕ) (t : Terminal) {e : Event} → e ≡ End n t → NeedsNone omit h i e → omit n ≡ true
  gone_ends i n t same (only_heard heard) = absurd (cc)
  gone_ends i n t same lone_leaf = absurd (cc)
  gone_ends i n t same (lone_end {n = m} gone) = let number : m ≡ n = cc in ap omit (sym number) ∙ gone
  gone_ends i n t same (lone_close gone) = absurd (cc)

  end_stays : (i n : ℕ) (t : Terminal) → slice_get h i ≡ Some (End n t) → omit n ≡ false → omit i ≡ false
  end_stays i n t at_i stay = false_from_ne_true (omit i) (λ gone. both_ways (omit n) stay (gone_ends i n t refl (a.each i (End n t) at_i gone)))

  gone_connects : (i g : ℕ) {e : Event} → e ≡ Connect g → NeedsNone omit h i e → ⊥
  gone_connects i g same (only_heard heard) = cc
  gone_connects i g same lone_leaf = cc
  gone_connects i g same (lone_end gone) = cc
  gone_connects i g same (lone_close gone) = cc

  pub connect_stays : (c g : ℕ) → slice_get h c ≡ Some (Connect g) → omit c ≡ false
  connect_stays c g at_c = false_from_ne_true (omit c) (λ gone. gone_connects c g refl (a.each c (Connect g) at_c gone))

  end_by : (e : Event) (n : ℕ) (t : Terminal) → event_by (number omit) e ≡ End n t → (m : ℕ) × (e ≡ End m t) × (number omit m ≡ n)
  end_by (End m u) n t same = let one : number omit m ≡ n = cc in let two : u ≡ t = cc in (m, ap (End m) two, one)
  end_by _ n t same = absurd (cc)

  connect_by : (e : Event) (g : ℕ) → event_by (number omit) e ≡ Connect g → (k : ℕ) × (e ≡ Connect k) × (number omit k ≡ g)
  connect_by (Connect k) g same = let one : number omit k ≡ g = cc in (k, refl, one)
  connect_by _ g same = absurd (cc)

  -- an end that stands there is one that stays
  end_from : (m n : ℕ) (t : Terminal) → slice_get (what_stays omit h) m ≡ Some (End n t) →
      (i : ℕ) × (k : ℕ) × (omit i ≡ false) × (omit k ≡ false) × (number omit i ≡ m) × (number omit k ≡ n) × (slice_get h i ≡ Some (End k t))
  end_from m n t at_m =
      let w = came_from m (End n t) at_m in
      let e = end_by w.event n t w.same in
      let stands : slice_get h w.place ≡ Some (End e.0 t) = w.stands ∙ ap (λ (x : Event). Some x) e.1 in
      (w.place, e.0, w.stays, (a.apart w.place (End e.0 t) stands w.stays).0, w.numbered, e.2, stands)

  pub connect_from : (m g : ℕ) → slice_get (what_stays omit h) m ≡ Some (Connect g) →
      (i : ℕ) × (k : ℕ) × (omit i ≡ false) × (omit k ≡ false) × (number omit i ≡ m) × (number omit k ≡ g) × (slice_get h i ≡ Some (Connect k))
  connect_from m g at_m =
      let w = came_from m (Connect g) at_m in
      let e = connect_by w.event g w.same in
      let stands : slice_get h w.place ≡ Some (Connect e.0) = w.stands ∙ ap (λ (x : Event). Some x) e.1 in
      (w.place, e.0, w.stays, (a.apart w.place (Connect e.0) stands w.stays).0, w.numbered, e.2, stands)

  -- how children and sources ended ---------------------------------------------------------------------------------

  pub child_there : (p : ℕ) (t : Terminal) → ChildEnded h p t → ChildEnded (what_stays omit h) (number omit p) t
  child_there p t c =
      let stay : omit c.child ≡ false = parent_gone base omit h a c.child p c.below in
      record {
        child = number omit c.child;
        below = parent_by base omit h a c.child stay ∙ ap (option_map (number omit)) c.below;
        ended = record {
          place = number omit c.ended.place;
          found =
              there c.ended.place (End c.child t) (end_stays c.ended.place c.child t c.ended.found stay) c.ended.found;
        };
      }

  parent_from : (p k : ℕ) → omit p ≡ false → omit k ≡ false → parent (what_stays omit h) (number omit k) ≡ Some (number omit p) → parent h k ≡ Some p
  parent_from p k up stay below = by_parent (parent h k) refl where
    by_parent : (x : Option ℕ) → parent h k ≡ x → parent h k ≡ Some p
    by_parent None none = absurd (none-some _ (sym (parent_by base omit h a k stay ∙ ap (option_map (number omit)) none) ∙ below))
    by_parent (Some q) here =
        let same : number omit q ≡ number omit p = same_Some _ _ (sym (parent_by base omit h a k stay ∙ ap (option_map (number omit)) here) ∙ below) in
        here ∙ ap (λ (n : ℕ). Some n) (number_same omit q p (parent_stay base omit h a k q stay here) up same)

  pub child_from : (p : ℕ) (t : Terminal) → omit p ≡ false → ChildEnded (what_stays omit h) (number omit p) t → ChildEnded h p t
  child_from p t up c =
      let w = end_from c.ended.place c.child t c.ended.found in
      record {
        child = w.1;
        below = parent_from p w.1 up w.3 (ap (parent (what_stays omit h)) w.5 ∙ c.below);
        ended = record { place = w.0; found = w.6 };
      }

  pub subscribes_by : (g s : ℕ) → omit g ≡ false → omit s ≡ false →
      at (is_subscriber_of (number omit g)) (what_stays omit h) (number omit s) ≡ at (is_subscriber_of g) h s
  subscribes_by g s there stay = at_by base omit h a (is_subscriber_of g) (is_subscriber_of (number omit g)) (subscribers_of omit g there).by s stay

  -- the hub of a subscriber stays
  pub hub_stays : (g s : ℕ) → omit s ≡ false → at (is_subscriber_of g) h s ≡ true → omit g ≡ false
  hub_stays g s stay subscribes =
      let found = subscriber_found g (slice_get h s) subscribes in
      by_place found.0 (a.apart s (Open found.0 (Sub g)) found.1 stay)
    where
      by_place : (place : Rattle.rx_omitted.specs.Imports.Place) → Stay_all omit (named_in (Open place (Sub g))) → omit g ≡ false
      by_place Rattle.rx_omitted.specs.Imports.Root all = all.0
      by_place (Rattle.rx_omitted.specs.Imports.Source p) all = all.1.0
      by_place (Rattle.rx_omitted.specs.Imports.Inner p) all = all.1.0
      by_place (Rattle.rx_omitted.specs.Imports.Notifier p) all = all.1.0

  pub source_there : (s : ℕ) (t : Terminal) → omit s ≡ false → SourceEnded h s t → SourceEnded (what_stays omit h) (number omit s) t
  source_there s t stay x =
      let up : omit x.hub ≡ false = hub_stays x.hub s stay x.subscribes in
      let connection : omit x.connection ≡ false = connect_stays x.connection x.hub x.connects in
      let place : omit x.place ≡ false = end_stays x.place x.connection t x.ended connection in
      record {
        hub = number omit x.hub;
        connection = number omit x.connection;
        place = number omit x.place;
        subscribes = subscribes_by x.hub s up stay ∙ x.subscribes;
        connects = there x.connection (Connect x.hub) connection x.connects;
        later = number-lt omit s x.place stay x.later;
        ended = there x.place (End x.connection t) place x.ended;
      }

  pub source_from : (s : ℕ) (t : Terminal) → omit s ≡ false → SourceEnded (what_stays omit h) (number omit s) t → SourceEnded h s t
  source_from s t stay x =
      let w = end_from x.place x.connection t x.ended in
      let v = connect_from x.connection x.hub x.connects in
      let same : v.0 ≡ w.1 = number_same omit v.0 w.1 v.2 w.3 (v.4 ∙ sym w.5) in
      record {
        hub = v.1;
        connection = w.1;
        place = w.0;
        subscribes = sym (subscribes_by v.1 s v.3 stay) ∙ ap (λ g. at (is_subscriber_of g) (what_stays omit h) (number omit s)) v.5 ∙ x.subscribes;
        connects = ap (slice_get h) (sym same) ∙ v.6;
        later = by_place (cases_lt s w.0) x.later w.4;
        ended = w.6;
      }
    where
      by_place : {i : ℕ} → (s < i) ⊎ (i ≤ s) → number omit s < x.place → number omit i ≡ x.place → s < i
      by_place (inl l) later is = l
      by_place {i} (inr back) later is = absurd (let w = number-le omit i s back in omega arith)

module _ (base : Kept) (omit : ℕ → Bool) (h : List Event) (a : Omits base omit h) where
  -- hubs that wait ------------------------------------------------------------------------------------------------

  auto_there : (g : ℕ) → omit g ≡ false → at is_auto_hub (what_stays omit h) (number omit g) ≡ at is_auto_hub h g
  auto_there g up = at_by base omit h a is_auto_hub is_auto_hub (autos omit).by g up

  pub connect_due_there : (g : ℕ) → IsConnectDue h g → IsConnectDue (what_stays omit h) (number omit g)
  connect_due_there g d =
      let up : omit g ≡ false = at_stays base omit h a is_auto_hub is_auto_hub (autos omit) g d.auto in
      let stay : omit d.subscriber ≡ false =
      at_stays base omit h a (is_subscriber_of g) (is_subscriber_of (number omit g)) (subscribers_of omit g up) d.subscriber d.subscribes in
      record {
        auto = auto_there g up ∙ d.auto;
        subscriber = number omit d.subscriber;
        subscribes = subscribes_by base omit h a g d.subscriber up stay ∙ d.subscribes;
        subscribed = open_by base omit h a d.subscriber stay ∙ d.subscribed;
        waits = λ t x. d.waits t (source_from base omit h a d.subscriber t stay x);
        unconnected = connections_by base omit h a g up ∙ ap (map (number omit)) d.unconnected;
      }

  no_map : (r : ℕ → ℕ) (xs : List ℕ) → map r xs ≡ [] → xs ≡ []
  no_map r [] none = refl
  no_map r (x ∷ xs) none = absurd (cc)

  pub connect_due_from : (m : ℕ) → IsConnectDue (what_stays omit h) m → (g : ℕ) × IsConnectDue h g × (number omit g ≡ m)
  connect_due_from m d =
      let w = number_from base omit h a m (at_within is_auto_hub (what_stays omit h) m d.auto) in
      let v = open_from base omit h a d.subscriber d.subscribed in
      let subscribes : at (is_subscriber_of (number omit w.0)) (what_stays omit h) (number omit v.0) ≡ true =
      ap (λ g. at (is_subscriber_of g) (what_stays omit h) (number omit v.0)) w.3 ∙ ap (at (is_subscriber_of m) (what_stays omit h)) v.2 ∙ d.subscribes in (
        w.0,
        record {
          auto = sym (auto_there w.0 w.2) ∙ ap (at is_auto_hub (what_stays omit h)) w.3 ∙ d.auto;
          subscriber = v.0;
          subscribes = sym (subscribes_by base omit h a w.0 v.0 w.2 v.1) ∙ subscribes;
          subscribed = v.3;
          waits = λ t x. d.waits t (subst (λ (n : ℕ). SourceEnded (what_stays omit h) n t) v.2 (source_there base omit h a v.0 t v.1 x));
          unconnected = no_map (number omit) (open_connections h w.0)
              (sym (connections_by base omit h a w.0 w.2) ∙ ap (open_connections (what_stays omit h)) w.3 ∙ d.unconnected);
        },
        w.3,
      )

  pub connected_there : IsConnected h → IsConnected (what_stays omit h)
  connected_there whole m d = let w = connect_due_from m d in whole w.0 w.1

  -- what is due -----------------------------------------------------------------------------------------------------

  module _ (law : IsLawful base h) where
    pub there_at : (t : Event → Bool) → ((r : ℕ → ℕ) (e : Event) → t (event_by r e) ≡ t e) → (n : ℕ) → omit n ≡ false →
        at t (what_stays omit h) (number omit n) ≡ at t h n
    there_at t by n stay = at_by base omit h a t t (λ e all. by (number omit) e) n stay

    pub childless_there : (f : ℕ) → omit f ≡ false → ((c : ℕ) → parent h c ≡ Some f → is_open h c ≡ false) → (c : ℕ) →
        parent (what_stays omit h) c ≡ Some (number omit f) → is_open (what_stays omit h) c ≡ false
    childless_there f up none c below = false_from_ne_true (is_open (what_stays omit h) c) (λ o.
        let w = open_from base omit h a c o in
        both_ways (is_open h w.0) (none w.0 (parent_from base omit h a f w.0 up w.1 (ap (parent (what_stays omit h)) w.2 ∙ below))) w.3)

    pub due_there : {e : Event} → Stay_all omit (named_in e) → IsDue base h e → IsDue base (what_stays omit h) (event_by (number omit) e)
    due_there all (mirrored {p = p} {t = t} o m child) =
        mirrored (open_by base omit h a p all.0 ∙ o) (there_at is_mirroring mirroring_by p all.0 ∙ m) (child_there base omit h a p t child)
    due_there all (fired {u = u} o m f) =
        fired (open_by base omit h a u all.0 ∙ o) (there_at is_until until_by u all.0 ∙ m) (fired_by base omit u all.0 h a ∙ f)
    due_there all (failed {f = f} {c = code} o m child) =
        failed (open_by base omit h a f all.0 ∙ o) (there_at is_merging merging_by f all.0 ∙ m) (child_there base omit h a f (Error code) child)
    due_there all (completed {f = f} o m none source below paid) =
        completed (open_by base omit h a f all.0 ∙ o) (there_at is_merging merging_by f all.0 ∙ m)
        (λ code x. none code (child_from base omit h a f (Error code) all.0 x))
        (source_completed_by base omit h a law f all.0 ∙ source) (childless_there f all.0 below) (owed_by base omit h a law f all.0 ∙ paid)
    due_there all (cut {s = s} {t = t} o x) = cut (open_by base omit h a s all.0 ∙ o) (source_there base omit h a s t all.0 x)
    due_there all (left {c = c} {g = g} o at_c auto none) =
        let up : omit g ≡ false = (a.apart c (Connect g) at_c all.0).0 in
        left (open_by base omit h a c all.0 ∙ o) (there base omit h a c (Connect g) all.0 at_c) (auto_there g up ∙ auto)
        (subscribers_by base omit h a g up ∙ ap (map (number omit)) none)

    pub due_from : {y : Event} → IsDue base (what_stays omit h) y → (e : Event) × IsDue base h e × (event_by (number omit) e ≡ y)
    due_from (mirrored {p = p} {t = t} o m child) =
        let w = open_from base omit h a p o in (
          End w.0 t,
          mirrored w.3 (sym (there_at is_mirroring mirroring_by w.0 w.1) ∙ ap (at is_mirroring (what_stays omit h)) w.2 ∙ m)
              (child_from base omit h a w.0 t w.1 (subst (λ (n : ℕ). ChildEnded (what_stays omit h) n t) (sym w.2) child)),
          ap (λ n. End n t) w.2,
        )
    due_from (fired {u = u} o m f) =
        let w = open_from base omit h a u o in (
          End w.0 Completed,
          fired w.3 (sym (there_at is_until until_by w.0 w.1) ∙ ap (at is_until (what_stays omit h)) w.2 ∙ m)
              (sym (fired_by base omit w.0 w.1 h a) ∙ ap (is_fired (what_stays omit h)) w.2 ∙ f),
          ap (λ n. End n Completed) w.2,
        )
    due_from (failed {f = f} {c = code} o m child) =
        let w = open_from base omit h a f o in (
          End w.0 (Error code),
          failed w.3 (sym (there_at is_merging merging_by w.0 w.1) ∙ ap (at is_merging (what_stays omit h)) w.2 ∙ m)
              (child_from base omit h a w.0 (Error code) w.1 (subst (λ (n : ℕ). ChildEnded (what_stays omit h) n (Error code)) (sym w.2) child)),
          ap (λ n. End n (Error code)) w.2,
        )
    due_from (completed {f = f} o m none source below paid) =
        let w = open_from base omit h a f o in (
          End w.0 Completed,
          completed w.3 (sym (there_at is_merging merging_by w.0 w.1) ∙ ap (at is_merging (what_stays omit h)) w.2 ∙ m)
              (λ code x. none code (subst (λ (n : ℕ). ChildEnded (what_stays omit h) n (Error code)) w.2 (child_there base omit h a w.0 (Error code) x)))
              (sym (source_completed_by base omit h a law w.0 w.1) ∙ ap (source_completed base (what_stays omit h)) w.2 ∙ source)
              (λ k under. false_from_ne_true (is_open h k) (λ up.
              let stay : omit k ≡ false = parent_gone base omit h a k w.0 under in
              both_ways (is_open (what_stays omit h) (number omit k))
              (below (number omit k) (parent_by base omit h a k stay ∙ ap (option_map (number omit)) under ∙ ap (λ (n : ℕ). Some n) w.2))
              (open_by base omit h a k stay ∙ up)))
              (sym (owed_by base omit h a law w.0 w.1) ∙ ap (owed base (what_stays omit h)) w.2 ∙ paid),
          ap (λ n. End n Completed) w.2,
        )
    due_from (cut {s = s} {t = t} o x) =
        let w = open_from base omit h a s o in (
          End w.0 t,
          cut w.3 (source_from base omit h a w.0 t w.1 (subst (λ (n : ℕ). SourceEnded (what_stays omit h) n t) (sym w.2) x)),
          ap (λ n. End n t) w.2,
        )
    due_from (left {c = c} {g = g} o at_c auto none) =
        let w = connect_from base omit h a c g at_c in (
          Close w.0,
          left (sym (open_by base omit h a w.0 w.2) ∙ ap (is_open (what_stays omit h)) w.4 ∙ o) w.6
              (sym (auto_there w.1 w.3) ∙ ap (at is_auto_hub (what_stays omit h)) w.5 ∙ auto)
              (no_map (number omit) (open_subscribers h w.1) (sym (subscribers_by base omit h a w.1 w.3) ∙ ap (open_subscribers (what_stays omit h)) w.5 ∙
              none)),
          ap Close w.4,
        )

    -- what is forced ------------------------------------------------------------------------------------------------

    pub forced_there : {e : Event} → Stay_all omit (named_in e) → IsForced base h e → IsForced base (what_stays omit h) (event_by (number omit) e)
    forced_there all (connecting {g = g} d) = connecting (connect_due_there g d)
    forced_there all (due whole d) = due (connected_there whole) (due_there all d)

    connected_from : IsConnected (what_stays omit h) → IsConnected h
    connected_from whole g d = whole (number omit g) (connect_due_there g d)

    pub forced_from : {y : Event} → IsForced base (what_stays omit h) y → (e : Event) × IsForced base h e × (event_by (number omit) e ≡ y)
    forced_from (connecting {g = m} d) = let w = connect_due_from m d in (Connect w.0, connecting w.1, ap Connect w.2)
    forced_from (due whole d) = let w = due_from d in (w.0, due (connected_from whole) w.1, w.2)

    pub settled_there : IsSettled base h → IsSettled base (what_stays omit h)
    settled_there settled = record { none = λ y f. let w = forced_from f in settled.none w.0 w.1 }
