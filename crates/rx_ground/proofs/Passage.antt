-- An item on its way over a tree and its hubs, from stop to stop.
use Rattle.rx_ground.proofs.Common.{◌≡◌, ◌≢◌, ℕ, ℤ, zero, suc, ◌+◌, ◌<◌, ◌≤◌, cond, List, [], ◌∷◌, ◌++◌, length, Option, Some, None, refl, is_some, IsSome}
use Rattle.rx_ground.proofs.Common.{IfSome, option_map, count_by, sym, ap, subst, ◌∙◌, inl, inr, ◌⊎◌, arith, length-append, append_assoc, AllByRecursion}
use Rattle.rx_ground.proofs.Common.{filter_map, cons_option, option_and_then, option_map_or, option_to_list, filter_map-append, sum_by-append, Kept, Mail}
use Rattle.rx_ground.proofs.Common.{Marks, Event, Item, told, is_projection, mail_of, IsLawful, AllByRecursion-both, Key, Slots, find, Node, owed_in, Tree}
use Rattle.rx_ground.proofs.Common.{IsSound, AreApart, Rewrites, with_marks, cases_key, some_of, owed_rewritten, Stop, Delivery, Projection, Firing, Connection}
use Rattle.rx_ground.proofs.Common.{numbered, Hub, stop_made, stop_of-found, above_found, find_hub, Route, IsOrdered, IsUnderWay, Arrives, stops_left, IsWalk}
use Rattle.rx_ground.proofs.Common.{subscribers_of, onward_over, visited_over, arrival, arrival_at, stops_over, all_stops_told, AreRecords, IsOrdered-walk}
use Rattle.rx_ground.proofs.Common.{MakesOnly, Remarks, ArePassed, IsPassing, IsThere, IsMarkedAt, owed_at, told_at, mail_at, sum_at}
use Rattle.rx_event.specs.Climb.{Stop as NumberedStop, Delivery as DeliveryTo, Projection as ProjectionTo, Firing as FiringOf, stops}
use Rattle.rx_event.specs.Marks.{after_projection, after_firing}
use Rattle.rx_register.specs.State.{State as Register}
use Rattle.rx_hub.proofs.Laws.Routes.{stops_left-marked, ordered-marked, under_way-marked}
use Rattle.rx_ground.proofs.CountsOnTheWay.{filtered_few, stops_few}
use Rattle.rx_ground.proofs.RecordsAfterItem.{Changes, projection_changes, firing_changes, passed_none, passed_told, passed_marked}
use Rattle.rx_ground.proofs.WayAsInHistory.{told_sum}
use Rattle.std.proofs.Common.{rules}

-- what is reached is there ------------------------------------------------------------------------

abbrev AreFound : Slots Node → List Key → Type 0
AreFound nodes keys = AllByRecursion (λ key. IsSome (find nodes key)) keys

module _ (nodes : Slots Node) (hubs : List Hub) (sound : IsSound nodes)
    (subscribed : (g : ℕ) (hub : Hub) → find_hub hubs g ≡ Some hub → AreFound nodes hub.subscribers) where
  subscribers_found : (made : Option Event) → AreFound nodes (subscribers_of hubs made)
  subscribers_found made = search (rules, option_and_then, option_map_or)

  onward_found : (key : Key) → AreFound nodes (onward_over nodes hubs key)
  onward_found key = search (rules, option_to_list, above_found, subscribers_found)

  visited_found : (left : ℕ) (keys : List Key) → AreFound nodes keys → AreFound nodes (visited_over left nodes hubs keys)
  visited_found zero keys found = tt
  visited_found (suc left) [] found = tt
  visited_found (suc left) (key ∷ keys) found = (
    found.0,
    visited_found left (onward_over nodes hubs key ++ keys)
        (search (rules, AllByRecursion-both, find, onward_found)),
  )

  made_there : (key : Key) (above : Option Key) (made : Event) → IsSome (find nodes key) → IfSome above (λ k. IsSome (find nodes k)) →
      IfSome (option_and_then arrival (stop_made nodes key above made)) (IsThere nodes)
  made_there key above x2 there up = search (rules, option_map_or, option_and_then, option_map)

  arrival_there : (key : Key) → IsSome (find nodes key) → IfSome (arrival_at nodes key) (IsThere nodes)
  arrival_there key there =
      let node = some_of (find nodes key) there in
      subst (λ (o : Option Stop). IfSome (option_and_then arrival o) (IsThere nodes)) (sym (stop_of-found nodes key node.0 node.1))
      (made_there key node.0.above node.0.made there (sound.placed key node.0 node.1).there)

  arrivals_there : (keys : List Key) → AreFound nodes keys → AllByRecursion (IsThere nodes) (filter_map (arrival_at nodes) keys)
  arrivals_there [] found = tt
  arrivals_there (key ∷ keys) found = search (rules, arrival_there, AllByRecursion, filter_map, cons_option, arrivals_there keys found.1)

  stops_there : (key : Key) → IsSome (find nodes key) → AllByRecursion (IsThere nodes) (stops_over nodes hubs key)
  stops_there key there = search (rules, arrivals_there, visited_found, there)

-- one stop ----------------------------------------------------------------------------------------

-- what an item tells and owes at a stop, by its number
record IsNumbered (stop : Stop) (last : NumberedStop) : Type 0 where
  named : numbered stop ≡ Some last
  mail : (place : ℕ) (value : ℤ) → option_to_list (mail_at place value stop) ≡ filter_map (told place value) (last ∷ [])
  told_is : (place : ℕ) (value : ℤ) → told_at stop ≡ length (filter_map (told place value) (last ∷ []))
  owed_is : owed_at stop ≡ count_by is_projection (last ∷ [])

-- what is marked there leaves everything else as it was
record IsFurther (base : Kept) {T : Type 0} (h : List Event) (done : List NumberedStop) (hubs : List Hub) (route : Route) (stop : Stop) (last : NumberedStop)
    (old new : Tree T) : Type 0 where
  records : ArePassed base h (done ++ last ∷ []) new.nodes new.chain
  ordered : IsOrdered new.nodes hubs
  under_way : IsUnderWay new.nodes hubs route
  left : stops_left new.nodes hubs route ≡ stops_left old.nodes hubs route
  there : (key : Key) → is_some (find new.nodes key) ≡ is_some (find old.nodes key)
  places : new.nodes ≡ record old.nodes { entries = new.nodes.entries }
  resources : new.resources ≡ old.resources
  owed : owed_in new.nodes ≡ owed_in old.nodes + owed_at stop

module _ (base : Kept) {T : Type 0} (h : List Event) (done : List NumberedStop) (hubs : List Hub) (route : Route) (old new : Tree T)
    (passed : ArePassed base h done old.nodes old.chain) (apart : AreApart old.nodes) (ordered : IsOrdered old.nodes hubs)
    (under_way : IsUnderWay old.nodes hubs route) where
  further_told : (key : Key) → new ≡ old → IsFurther base h done hubs route (Delivery key) (DeliveryTo key.number) old new
  further_told key same = subst (λ (tree : Tree T). IsFurther base h done hubs route (Delivery key) (DeliveryTo key.number) old tree) (sym same) (record {
    records = passed_told base h done old.nodes old.chain key.number passed;
    ordered = ordered;
    under_way = under_way;
    left = refl;
    there = λ k. refl;
    places = refl;
    resources = refl;
    owed = omega arith;
  })

  further_marked : (key : Key) (stop : Stop) (last : NumberedStop) (change : Marks → Marks) → IsSome (find old.nodes key) → Changes key.number last change →
      Remarks old new key change → ((m : Marks) → (change m).owed ≡ m.owed + owed_at stop) → IsFurther base h done hubs route stop last old new
  further_marked key stop last change found changes marked adds = record {
    records = subst (ArePassed base h (done ++ last ∷ []) new.nodes) (sym marked.chain)
        (passed_marked key last change passed apart found changes marked.nodes);
    ordered = ordered-marked old.nodes new.nodes key marks fixed hubs ordered;
    under_way = under_way-marked old.nodes new.nodes key marks fixed hubs route under_way;
    left = stops_left-marked old.nodes new.nodes key marks fixed hubs route;
    there = there;
    places = marked.nodes.rest;
    resources = marked.resources;
    owed = let all = owed_rewritten old.nodes new.nodes key before.0 (λ node. with_marks (change node.marks) node) before.1 marked.nodes in
        let more = adds before.0.marks in omega arith;
  }
    where
      before : (x : Node) × (find old.nodes key ≡ Some x)
      before = some_of (find old.nodes key) found

      marks : Marks
      marks = change before.0.marks

      fixed : Rewrites old.nodes new.nodes key (with_marks marks)
      fixed = record {
        changed = marked.nodes.changed ∙ ap (option_map (λ (node : Node). with_marks (change node.marks) node)) before.1 ∙
            sym (ap (option_map (with_marks marks)) before.1);
        others = marked.nodes.others;
        rest = marked.nodes.rest;
      }

      mapped : (o : Option Node) → is_some (option_map (λ (node : Node). with_marks (change node.marks) node) o) ≡ is_some o
      mapped None = refl
      mapped (Some node) = refl

      there : (k : Key) → is_some (find new.nodes k) ≡ is_some (find old.nodes k)
      there k = by_key (cases_key k key) where
        by_key : (k ≡ key) ⊎ (k ≢ key) → is_some (find new.nodes k) ≡ is_some (find old.nodes k)
        by_key (inl same) = ap (λ (j : Key). is_some (find new.nodes j)) same ∙ ap is_some marked.nodes.changed ∙ mapped (find old.nodes key) ∙
            ap (λ (j : Key). is_some (find old.nodes j)) (sym same)
        by_key (inr differs) = ap is_some (marked.nodes.others k differs)

  further : (stop : Stop) → IsThere old.nodes stop → IsMarkedAt stop old new →
      (last : NumberedStop) × IsNumbered stop last × IsFurther base h done hubs route stop last old new
  further (Delivery key) there marks =
      (DeliveryTo key.number, record { named = refl; mail = λ place v. refl; told_is = λ place v. refl; owed_is = refl }, further_told key marks)
  further (Projection key) there marks = (
    ProjectionTo key.number,
    record { named = refl; mail = λ place v. refl; told_is = λ place v. refl; owed_is = refl },
    further_marked key (Projection key) (ProjectionTo key.number) after_projection there (projection_changes key.number) marks (λ m. refl),
  )
  further (Firing key) there marks = (
    FiringOf key.number,
    record { named = refl; mail = λ place v. refl; told_is = λ place v. refl; owed_is = refl },
    further_marked key (Firing key) (FiringOf key.number) after_firing there (firing_changes key.number) marks (λ m. omega arith),
  )
  further (Connection key) there marks = absurd there

-- the whole way -----------------------------------------------------------------------------------

-- it told and marked what it had to, and goes on to the stops that are left
pub record IsGoing {T : Type 0} (first : Register) (start : Tree T) (hubs : List Hub) (room leaf : ℕ) (value : ℤ) (register : Register) (tree : Tree T)
    (route : Route) : Type 0 where
  pub passing : IsPassing first start leaf value register tree (filter_map numbered (stops_left tree.nodes hubs route))
  pub ordered : IsOrdered tree.nodes hubs
  pub under_way : IsUnderWay tree.nodes hubs route
  pub room_is : route.room ≡ room
  pub there : AllByRecursion (IsThere tree.nodes) (stops_left tree.nodes hubs route)
  pub apart : AreApart tree.nodes
  pub few : length (stops first.history leaf) ≤ 1048577

module _ {T : Type 0} (first : Register) (start : Tree T) (hubs : List Hub) (room : ℕ) (leaf : Key) (value : ℤ) where
  pub going_starts : {route : Route} → IsLawful first.base first.history → IsWalk first.base first.history start.nodes hubs →
      AreRecords first.base first.history start.nodes start.chain →
      IsSome (find start.nodes leaf) → first.pending ≡ [] → IsUnderWay start.nodes hubs route → route.room ≡ room →
      stops_left start.nodes hubs route ≡ stops_over start.nodes hubs leaf → IsGoing first start hubs room leaf.number value first start route
  going_starts law walk records found pending under_way same left = record {
    passing = record {
      done = [];
      whole = all_stops ∙ ap (filter_map numbered) (sym left);
      same = refl;
      pending = pending;
      mail_room = omega arith;
      records = passed_none first.base first.history start.nodes start.chain records;
      there = λ key. refl;
      places = refl;
      resources = refl;
      owed = let none : count_by is_projection [] ≡ 0 = refl in omega arith;
    };
    ordered = IsOrdered-walk first.base first.history start.nodes hubs law walk;
    under_way = under_way;
    room_is = same;
    there = subst (AllByRecursion (IsThere start.nodes)) (sym left) (stops_there start.nodes hubs walk.sound walk.found leaf found);
    apart = walk.sound.apart;
    few = let n = ap (length {A = NumberedStop}) all_stops in let l = filtered_few numbered (stops_over start.nodes hubs leaf) in
        let m = stops_few start.nodes hubs leaf in omega arith;
  }
    where
      all_stops : stops first.history leaf.number ≡ filter_map numbered (stops_over start.nodes hubs leaf)
      all_stops = all_stops_told first.base first.history start.nodes hubs leaf walk found

  module _ (register : Register) (tree : Tree T) (route next : Route) (stop : Stop)
      (going : IsGoing first start hubs room leaf.number value register tree route) (arrives : Arrives tree.nodes hubs route next (Some stop)) where
    ahead : AllByRecursion (IsThere tree.nodes) (stop ∷ stops_left tree.nodes hubs next)
    ahead = subst (AllByRecursion (IsThere tree.nodes)) arrives.stops going.there

    pub stop_there : IsThere tree.nodes stop
    stop_there = ahead.0

    -- there is room for what it tells
    pub stop_room : length (mail_of first.history (Item leaf.number value)) ≤ first.mail_room → told_at stop ≤ register.mail_room
    stop_room notes =
        let f = told (length first.history) value in
        let left = stops_left tree.nodes hubs route in
        let rest = filter_map numbered left in
        let p = going.passing in
        let all = ap (λ (ss : List NumberedStop). length (filter_map f ss)) p.whole in
        let split = ap (length {A = Mail}) (filter_map-append f p.done rest) in
        let both = length-append (filter_map f p.done) (filter_map f rest) in
        let sum = told_sum (length first.history) value left in
        let more : sum_at told_at left ≡ told_at stop + sum_at told_at (stops_left tree.nodes hubs next) = ap (sum_at told_at) arrives.stops in
        let r = p.mail_room in omega arith

    go_on : (told_register : Register) (marked : Tree T) (last : NumberedStop) → IsNumbered stop last →
        told_register ≡ record register { pending = told_register.pending; mail_room = told_register.mail_room } →
        told_register.pending ≡ register.pending ++ option_to_list (mail_at (length register.history) value stop) →
        register.mail_room ≡ told_register.mail_room + told_at stop → IsFurther first.base first.history going.passing.done hubs next stop last tree marked →
        IsGoing first start hubs room leaf.number value told_register marked next
    go_on told_register marked last is same pending mail_room further = record {
      passing = record {
        done = p.done ++ last ∷ [];
        whole = p.whole ∙ ap (λ (ss : List NumberedStop). p.done ++ ss) (ap (filter_map numbered) arrives.stops ∙ one) ∙
            sym (append_assoc p.done (last ∷ []) (filter_map numbered (stops_left tree.nodes hubs next))) ∙
            ap (λ (ss : List Stop). (p.done ++ last ∷ []) ++ filter_map numbered ss) (sym further.left);
        same = same ∙ ap (λ (r : Register). record r { pending = told_register.pending; mail_room = told_register.mail_room }) p.same;
        pending =
            pending ∙ ap (λ (k : List Event). register.pending ++ option_to_list (mail_at (length k) value stop)) (ap (λ (r : Register). r.history) p.same) ∙
            ap (λ (ms : List Mail). register.pending ++ ms) (is.mail place value) ∙ ap (λ (ms : List Mail). ms ++ filter_map f (last ∷ [])) p.pending ∙
            sym (filter_map-append f p.done (last ∷ []));
        mail_room = let a = p.mail_room in let b = is.told_is place value in let c = ap (length {A = Mail}) (filter_map-append f p.done (last ∷ [])) in
            let d = length-append (filter_map f p.done) (filter_map f (last ∷ [])) in omega arith;
        records = further.records;
        there = λ key. further.there key ∙ p.there key;
        places = further.places ∙ ap (λ (nodes : Slots Node). record nodes { entries = marked.nodes.entries }) p.places;
        resources = further.resources ∙ p.resources;
        owed = let a = p.owed in let b = further.owed in let c = is.owed_is in
            let d = sum_by-append (λ s. cond (is_projection s) 1 0) p.done (last ∷ []) in omega arith;
      };
      ordered = further.ordered;
      under_way = further.under_way;
      room_is = arrives.room ∙ going.room_is;
      there = subst (AllByRecursion (IsThere marked.nodes)) (sym further.left) (all_there (stops_left tree.nodes hubs next) ahead.1);
      apart = λ a b at_a at_b same. going.apart a b (sym (further.there a) ∙ at_a) (sym (further.there b) ∙ at_b) same;
      few = going.few;
    }
      where
        p : IsPassing first start leaf.number value register tree (filter_map numbered (stops_left tree.nodes hubs route))
        p = going.passing

        place : ℕ
        place = length first.history

        f : NumberedStop → Option Mail
        f = told place value

        one : filter_map numbered (stop ∷ stops_left tree.nodes hubs next) ≡ last ∷ filter_map numbered (stops_left tree.nodes hubs next)
        one = ap (λ o. cons_option o (filter_map numbered (stops_left tree.nodes hubs next))) is.named

        one_there : (s : Stop) → IsThere tree.nodes s → IsThere marked.nodes s
        one_there (Delivery key) there = further.there key ∙ there
        one_there (Projection key) there = further.there key ∙ there
        one_there (Firing key) there = further.there key ∙ there
        one_there (Connection key) there = there

        all_there : (ss : List Stop) → AllByRecursion (IsThere tree.nodes) ss → AllByRecursion (IsThere marked.nodes) ss
        all_there [] there = tt
        all_there (s ∷ ss) there = (one_there s there.0, all_there ss there.1)

-- it goes on from a stop where it told and marked what it had to
module _ {T : Type 0} (first : Register) (start : Tree T) (hubs : List Hub) (room : ℕ) (leaf : Key) (value : ℤ) (register : Register) (tree marked : Tree T)
    (route next : Route) (stop : Stop) (going : IsGoing first start hubs room leaf.number value register tree route)
    (arrives : Arrives tree.nodes hubs route next (Some stop)) (marks : IsMarkedAt stop tree marked) where
  marked_further : (last : NumberedStop) × IsNumbered stop last × IsFurther first.base first.history going.passing.done hubs next stop last tree marked
  marked_further = search (rules, further)

  pub going_on : (told_register : Register) → told_register ≡ record register { pending = told_register.pending; mail_room = told_register.mail_room } →
      told_register.pending ≡ register.pending ++ option_to_list (mail_at (length register.history) value stop) →
      register.mail_room ≡ told_register.mail_room + told_at stop → IsGoing first start hubs room leaf.number value told_register marked next
  going_on told_register same pending mail_room =
      go_on first start hubs room leaf value register tree route next stop going arrives told_register marked marked_further.0 marked_further.1
      same pending mail_room marked_further.2

  -- where fewer stops are left
  pub going_fewer : length (stops_left marked.nodes hubs next) < length (stops_left tree.nodes hubs route)
  going_fewer =
      let same = ap (length {A = Stop}) marked_further.2.left in
      let one : length (stops_left tree.nodes hubs route) ≡ suc (length (stops_left tree.nodes hubs next)) = ap (length {A = Stop}) arrives.stops in
      omega arith

-- the way that makes just one stop ----------------------------------------------------------------

abbrev nowhere : List Hub → Route
nowhere hubs = record { at = None; frames = []; visits = 0; room = length hubs }

nowhere_under_way : (nodes : Slots Node) (hubs : List Hub) → IsUnderWay nodes hubs (nowhere hubs)
nowhere_under_way nodes hubs = record {
  room = omega arith;
  frames = tt;
  there = tt;
  hub = 0;
  reaches = tt;
  behind = tt;
  ended = refl;
  visits = omega arith;
}

module _ {T : Type 0} (first : Register) (start : Tree T) (hubs : List Hub) (leaf : Key) (value : ℤ) (law : IsLawful first.base first.history)
    (walk : IsWalk first.base first.history start.nodes hubs) (records : AreRecords first.base first.history start.nodes start.chain)
    (found : IsSome (find start.nodes leaf)) (stop : Stop) (one : stops_over start.nodes hubs leaf ≡ stop ∷ []) where
  pub one_there : IsThere start.nodes stop
  one_there =
      let whole = stops_there start.nodes hubs walk.sound walk.found leaf found in
      let all : AllByRecursion (IsThere start.nodes) (stop ∷ []) = subst (AllByRecursion (IsThere start.nodes)) one whole in all.0

  one_stop : stops first.history leaf.number ≡ filter_map numbered (stop ∷ [])
  one_stop = search (rules, all_stops_told, filter_map)

  -- there is room for what it tells
  pub one_room : length (mail_of first.history (Item leaf.number value)) ≤ first.mail_room → told_at stop ≤ first.mail_room
  one_room notes = search (rules, length, filter_map, one_stop, told_sum)

  module _ (told_register : Register) (marked : Tree T) (marks : IsMarkedAt stop start marked) where
    one_further : (last : NumberedStop) × IsNumbered stop last × IsFurther first.base first.history [] hubs (nowhere hubs) stop last start marked
    one_further = further first.base first.history [] hubs (nowhere hubs) start marked
        (passed_none first.base first.history start.nodes start.chain records) walk.sound.apart
        (IsOrdered-walk first.base first.history start.nodes hubs law walk) (nowhere_under_way start.nodes hubs) stop one_there marks

    -- it told and marked what it had to
    pub one_passed : first.pending ≡ [] → told_register ≡ record first { pending = told_register.pending; mail_room = told_register.mail_room } →
        told_register.pending ≡ first.pending ++ option_to_list (mail_at (length first.history) value stop) →
        first.mail_room ≡ told_register.mail_room + told_at stop → IsPassing first start leaf.number value told_register marked []
    one_passed none same pending mail_room = by_last one_further.0 one_further.1 one_further.2 where
      by_last : (last : NumberedStop) → IsNumbered stop last → IsFurther first.base first.history [] hubs (nowhere hubs) stop last start marked →
          IsPassing first start leaf.number value told_register marked []
      by_last last is further = record {
        done = last ∷ [];
        whole = one_stop ∙ ap (λ (o : Option NumberedStop). cons_option o []) is.named;
        same = same;
        pending = pending ∙ ap (λ (ms : List Mail). ms ++ option_to_list (mail_at (length first.history) value stop)) none ∙
            is.mail (length first.history) value;
        mail_room = let b = is.told_is (length first.history) value in omega arith;
        records = further.records;
        there = further.there;
        places = further.places;
        resources = further.resources;
        owed = let b = further.owed in let c = is.owed_is in omega arith;
      }

-- the stop of an item that makes just one
pub only_stop : (nodes : Slots Node) (hubs : List Hub) (leaf : Key) {only : Option Stop} {stop : Stop} → only ≡ Some stop →
    MakesOnly nodes hubs leaf only → stops_over nodes hubs leaf ≡ stop ∷ []
only_stop nodes hubs leaf is makes = subst (λ (o : Option Stop). MakesOnly nodes hubs leaf o) is makes
