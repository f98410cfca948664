-- The hubs after one more event are those of the longer history.
use Rattle.rx_hub.proofs.Common.{◌≡◌, ℕ, zero, suc, ◌<◌, ◌==◌, ◌++◌, cond, map, Bool, true, false, List, [], ◌∷◌, length, slice_get, Some}
use Rattle.rx_hub.proofs.Common.{refl, sym, ap, subst, ◌∙◌, inl, inr, ◌⊎◌, arith, option_map, length-append, cases_order, false≢true, and_parts, both_ways}
use Rattle.rx_hub.proofs.Common.{eq-eqb, eqb-true, same_Some, none-some, slice_get-map, slice_get_within, Kept, Leaf, Pass, Flat, Switch, Until, Sub, Mode}
use Rattle.rx_hub.proofs.Common.{Event, Open, Connect, End, Close, makes_hub, is_connect, is_subscriber_of, is_connect_of, at, MayFollow}
use Rattle.rx_hub.proofs.Common.{IsLawful, at_connect, may_subscribe, connection_hub, subscriber_hub, first_passes, open_of, slice_get_last, at-append, Hub}
use Rattle.rx_hub.proofs.Common.{at_within, cases_push, end_by, is_gone_after, with_made, next_key, hubs_after, without_gone, at_hub, new_hub, subscribed}
use Rattle.rx_hub.proofs.Common.{connected, IsHubOf, HasHub, AreHubsOf}
use Rattle.rx_event.specs.declared.event.Event.TheVariants.{Hub as Publish, Accept, Use, Remove, Lease, Return, Item, Decline, Take}
use Rattle.rx_hub.proofs.Laws.AfterLeft.{hub_left, without_closed, at_push}
use Rattle.rx_hub.proofs.Laws.AfterOne.{hub_kept, hub_with_subscriber, hub_with_connection}
use Rattle.std.proofs.Common.{rules}

-- lists of hubs -----------------------------------------------------------------------------------

-- what stands in a mapped list is the image of what stood there
pub mapped_from : {X Y : Type 0} (f : X → Y) (xs : List X) (i : ℕ) (y : Y) → slice_get (map f xs) i ≡ Some y → (x : X) × (slice_get xs i ≡ Some x) × (f x ≡ y)
mapped_from {X = X} {Y = Y} f xs i y at_i = search (rules, none-some, slice_get-map, same_Some)

pub pushed_from : {X : Type 0} (xs : List X) (x y : X) (i : ℕ) → slice_get (xs ++ x ∷ []) i ≡ Some y → (slice_get xs i ≡ Some y) ⊎ (x ≡ y)
pushed_from [] x y zero at_i = inr (same_Some x y at_i)
pushed_from [] x y (suc i) at_i = absurd (none-some y at_i)
pushed_from (z ∷ xs) x y zero at_i = inl at_i
pushed_from (z ∷ xs) x y (suc i) at_i = pushed_from xs x y i at_i

old_in_push : {X : Type 0} (xs : List X) (x y : X) (i : ℕ) → slice_get xs i ≡ Some y → slice_get (xs ++ x ∷ []) i ≡ Some y
old_in_push [] x y i at_i = absurd (none-some y at_i)
old_in_push (z ∷ xs) x y zero at_i = at_i
old_in_push (z ∷ xs) x y (suc i) at_i = old_in_push xs x y i at_i

has_mapped : (f : Hub → Hub) → ((hub : Hub) → (f hub).number ≡ hub.number) → (hubs : List Hub) (g : ℕ) → HasHub hubs g → HasHub (map f hubs) g
has_mapped f same hubs g has =
    record { index = has.index; hub = f has.hub; there = slice_get-map f hubs has.index ∙ ap (option_map f) has.there; numbered = same has.hub ∙ has.numbered }

has_pushed : (hubs : List Hub) (hub : Hub) (g : ℕ) → HasHub hubs g → HasHub (hubs ++ hub ∷ []) g
has_pushed hubs hub g has = search (rules, old_in_push)

-- a change of one hub that keeps its number
changed_number : (g : ℕ) (change : Hub → Hub) → ((hub : Hub) → (change hub).number ≡ hub.number) → (hub : Hub) →
    (cond (hub.number == g) (change hub) hub).number ≡ hub.number
changed_number g change same hub = search (rules, same)

-- the hubs that there were are still there --------------------------------------------------------

-- what makes a hub in the longer history, or names one there
record AreThere (h : List Event) (e : Event) (hubs : List Hub) : Type 0 where
  made : (g : ℕ) → at makes_hub (h ++ e ∷ []) g ≡ true → HasHub hubs g
  joined : (g s : ℕ) → at (is_subscriber_of g) (h ++ e ∷ []) s ≡ true → HasHub hubs g

-- an event that makes no hub
are_there : (h : List Event) (e : Event) (hubs : List Hub) → AreHubsOf h hubs → makes_hub e ≡ false →
    ((g : ℕ) → is_subscriber_of g e ≡ true → HasHub hubs g) → AreThere h e hubs
are_there h e hubs are no_hub joins = search (rules, both_ways, at_push)

-- what the event leaves of all hubs
abbrev all_left : List Event → Event → List Hub → List Hub
all_left h e hubs = map (hub_left h e) hubs

-- an event that makes no hub, subscribes to none and connects none -------------------------------

nothing_made : {base : Kept} → {h : List Event} (e : Event) (hubs : List Hub) → IsLawful base h → MayFollow base h e → AreHubsOf h hubs → makes_hub e ≡ false →
    ((g : ℕ) → is_subscriber_of g e ≡ false) → ((g : ℕ) → is_connect_of g e ≡ false) → AreHubsOf (h ++ e ∷ []) (all_left h e hubs)
nothing_made {base} {h} e hubs law next are no_hub no_subscriber no_connection = record {
  each = each;
  every = λ g made. has_mapped (hub_left h e) (λ hub. refl) hubs g (there.made g made);
  subscribed = λ g s joins. has_mapped (hub_left h e) (λ hub. refl) hubs g (there.joined g s joins);
} where
  there : AreThere h e hubs
  there = are_there h e hubs are no_hub (λ g new. absurd (both_ways _ (no_subscriber g) new))

  each : (i : ℕ) (hub : Hub) → slice_get (all_left h e hubs) i ≡ Some hub → IsHubOf (h ++ e ∷ []) hub
  each i hub at_i =
      let from = mapped_from (hub_left h e) hubs i hub at_i in
      subst (λ (x : Hub). IsHubOf (h ++ e ∷ []) x) from.2
      (hub_kept h e from.0 law next (are.each i from.0 from.1) (no_subscriber from.0.number) (no_connection from.0.number))

-- an event that changes one hub -------------------------------------------------------------------

-- the event makes no hub, and concerns at most the hub of this number, of which the longer history tells this change
record ChangesOne (h : List Event) (e : Event) (hubs : List Hub) (g : ℕ) (change : Hub → Hub) : Type 0 where
  same : (hub : Hub) → (change hub).number ≡ hub.number
  no_hub : makes_hub e ≡ false
  joins : (k : ℕ) → is_subscriber_of k e ≡ true → HasHub hubs k
  no_subscriber : (n : ℕ) → (n == g) ≡ false → is_subscriber_of n e ≡ false
  no_connection : (n : ℕ) → (n == g) ≡ false → is_connect_of n e ≡ false
  changes : (hub : Hub) → IsHubOf h hub → hub.number ≡ g → IsHubOf (h ++ e ∷ []) (change (hub_left h e hub))

one_changed : {base : Kept} → {h : List Event} {e : Event} {hubs : List Hub} {g : ℕ} {change : Hub → Hub} → IsLawful base h → MayFollow base h e →
    AreHubsOf h hubs → ChangesOne h e hubs g change → AreHubsOf (h ++ e ∷ []) (at_hub g change (all_left h e hubs))
one_changed {h} {e} {hubs} {g} {change} law next are one = record {
  each = each;
  every = λ k made. has k (there.made k made);
  subscribed = λ k s passes. has k (there.joined k s passes);
} where
  there : AreThere h e hubs
  there = are_there h e hubs are one.no_hub one.joins

  at_own : Hub → Hub
  at_own hub = cond (hub.number == g) (change hub) hub

  has : (k : ℕ) → HasHub hubs k → HasHub (at_hub g change (all_left h e hubs)) k
  has k there_is = has_mapped at_own (changed_number g change one.same) (all_left h e hubs) k (has_mapped (hub_left h e) (λ hub. refl) hubs k there_is)

  by_test : (hub : Hub) → IsHubOf h hub → (b : Bool) → (hub.number == g) ≡ b → IsHubOf (h ++ e ∷ []) (cond b (change (hub_left h e hub)) (hub_left h e hub))
  by_test hub is true named = one.changes hub is (eqb-true hub.number g named)
  by_test hub is false other = hub_kept h e hub law next is (one.no_subscriber hub.number other) (one.no_connection hub.number other)

  each : (i : ℕ) (hub : Hub) → slice_get (at_hub g change (all_left h e hubs)) i ≡ Some hub → IsHubOf (h ++ e ∷ []) hub
  each i hub at_i =
      let from = mapped_from at_own (all_left h e hubs) i hub at_i in
      let old = mapped_from (hub_left h e) hubs i from.0 from.1 in
      subst (λ (x : Hub). IsHubOf (h ++ e ∷ []) x) (ap at_own old.2 ∙ from.2) (by_test old.0 (are.each i old.0 old.1) (old.0.number == g) refl)

other_number : (n g : ℕ) → (n == g) ≡ false → (g == n) ≡ false
other_number n g other = by_test (g == n) refl where
  by_test : (b : Bool) → (g == n) ≡ b → b ≡ false
  by_test true same = absurd (both_ways _ other (eq-eqb n g (sym (eqb-true g n same))))
  by_test false same = refl

-- a hub more --------------------------------------------------------------------------------------

no_open : (sort : Event → Bool) (h : List Event) → ((n : ℕ) → at sort h n ≡ true → ⊥) → open_of sort h ≡ []
no_open sort h none = by_list (open_of sort h) refl where
  by_list : (ns : List ℕ) → open_of sort h ≡ ns → ns ≡ []
  by_list [] e = refl
  by_list (n ∷ ns) e = absurd (search (rules, and_parts, first_passes))

-- nobody has subscribed to a new hub, nor connected it
hub_made : (base : Kept) → (h : List Event) (mode : Mode) → IsLawful base h → IsHubOf (h ++ Publish mode ∷ []) (new_hub (length h) mode)
hub_made base h mode law = record {
  made = slice_get_last h (Publish mode);
  subscribers = sym (no_open (is_subscriber_of (length h)) (h ++ Publish mode ∷ []) no_subscriber);
  connection = sym (no_open (is_connect_of (length h)) (h ++ Publish mode ∷ []) no_connection);
  ended = tt;
  latest = λ c place t connects ended. absurd (none_connects c (cases_push h (Publish mode) (Connect (length h)) c connects));
} where
  by_subscriber : (s : ℕ) → (at (is_subscriber_of (length h)) h s ≡ true) ⊎ (false ≡ true) → ⊥
  by_subscriber s (inl old) = let l = subscriber_hub base h law (length h) s old in absurd (omega (arith, l))
  by_subscriber s (inr new) = false≢true new

  no_subscriber : (s : ℕ) → at (is_subscriber_of (length h)) (h ++ Publish mode ∷ []) s ≡ true → ⊥
  no_subscriber s passes = by_subscriber s (at_push (is_subscriber_of (length h)) h (Publish mode) s passes)

  none_connects : (c : ℕ) → (slice_get h c ≡ Some (Connect (length h))) ⊎ (Publish mode ≡ Connect (length h)) → ⊥
  none_connects c (inl old) =
      let above = connection_hub base h law (length h) c old in
      let within = slice_get_within h c (Connect (length h)) old in absurd (omega (arith, above, within))
  none_connects c (inr new) = false≢true (ap is_connect new)

  no_connection : (c : ℕ) → at (is_connect_of (length h)) (h ++ Publish mode ∷ []) c ≡ true → ⊥
  no_connection c passes = none_connects c (cases_push h (Publish mode) (Connect (length h)) c (at_connect (h ++ Publish mode ∷ []) (length h) c passes))

published : (base : Kept) → (h : List Event) (mode : Mode) (hubs : List Hub) → IsLawful base h → MayFollow base h (Publish mode) → AreHubsOf h hubs →
    AreHubsOf (h ++ Publish mode ∷ []) (all_left h (Publish mode) hubs ++ new_hub (length h) mode ∷ [])
published base h mode hubs law next are = record { each = each; every = every; subscribed = subscribes } where
  e : Event
  e = Publish mode

  has : (g : ℕ) → HasHub hubs g → HasHub (all_left h e hubs ++ new_hub (length h) mode ∷ []) g
  has g there = has_pushed (all_left h e hubs) (new_hub (length h) mode) g (has_mapped (hub_left h e) (λ hub. refl) hubs g there)

  by_hub : (hub : Hub) (i : ℕ) → (slice_get (all_left h e hubs) i ≡ Some hub) ⊎ (new_hub (length h) mode ≡ hub) → IsHubOf (h ++ e ∷ []) hub
  by_hub hub i (inl old) =
      let from = mapped_from (hub_left h e) hubs i hub old in
      subst (λ (x : Hub). IsHubOf (h ++ e ∷ []) x) from.2 (hub_kept h e from.0 law next (are.each i from.0 from.1) refl refl)
  by_hub hub i (inr new) = subst (λ (x : Hub). IsHubOf (h ++ e ∷ []) x) new (hub_made base h mode law)

  each : (i : ℕ) (hub : Hub) → slice_get (all_left h e hubs ++ new_hub (length h) mode ∷ []) i ≡ Some hub → IsHubOf (h ++ e ∷ []) hub
  each i hub at_i = by_hub hub i (pushed_from (all_left h e hubs) (new_hub (length h) mode) hub i at_i)

  by_place : (g : ℕ) → at makes_hub (h ++ e ∷ []) g ≡ true → (g ≡ length h) ⊎ ((g < length h) ⊎ (length h < g)) →
      HasHub (all_left h e hubs ++ new_hub (length h) mode ∷ []) g
  by_place g made (inl same) = record {
    index = length (all_left h e hubs);
    hub = new_hub (length h) mode;
    there = slice_get_last (all_left h e hubs) (new_hub (length h) mode);
    numbered = sym same;
  }
  by_place g made (inr (inl l)) = has g (are.every g (sym (at-append makes_hub h (e ∷ []) g l) ∙ made))
  by_place g made (inr (inr l)) = let within = at_within makes_hub (h ++ e ∷ []) g made in absurd (omega (arith, within, l, length-append h (e ∷ [])))

  every : (g : ℕ) → at makes_hub (h ++ e ∷ []) g ≡ true → HasHub (all_left h e hubs ++ new_hub (length h) mode ∷ []) g
  every g made = by_place g made (cases_order g (length h))

  by_subscriber : (g s : ℕ) → (at (is_subscriber_of g) h s ≡ true) ⊎ (false ≡ true) → HasHub (all_left h e hubs ++ new_hub (length h) mode ∷ []) g
  by_subscriber g s (inl old) = has g (are.subscribed g s old)
  by_subscriber g s (inr new) = absurd (false≢true new)

  subscribes : (g s : ℕ) → at (is_subscriber_of g) (h ++ e ∷ []) s ≡ true → HasHub (all_left h e hubs ++ new_hub (length h) mode ∷ []) g
  subscribes g s passes = by_subscriber g s (at_push (is_subscriber_of g) h e s passes)

-- each event --------------------------------------------------------------------------------------

left_follow : (base : Kept) → (h : List Event) (e : Event) (slot : ℕ) (hubs : List Hub) → IsLawful base h → MayFollow base h e → AreHubsOf h hubs →
    AreHubsOf (h ++ e ∷ []) (with_made (next_key h slot) e (all_left h e hubs))
left_follow base h (Publish mode) slot hubs law next are = published base h mode hubs law next are
left_follow base h (Open place (Sub g)) slot hubs law next are =
    one_changed {e = Open place (Sub g)} {g = g} {change = subscribed (next_key h slot)} law next are (record {
      same = λ hub. refl;
      no_hub = refl;
      joins = λ k joins. are.every k (subst (λ m. at makes_hub h m ≡ true) (eqb-true g k joins) (may_subscribe base next).0);
      no_subscriber = λ n other. other_number n g other;
      no_connection = λ n other. refl;
      changes = λ hub is named. hub_with_subscriber place g slot hub law next is named;
    })
left_follow base h (Connect g) slot hubs law next are = one_changed {e = Connect g} {g = g} {change = connected (next_key h slot)} law next are (record {
  same = λ hub. refl;
  no_hub = refl;
  joins = λ k joins. absurd (false≢true joins);
  no_subscriber = λ n other. refl;
  no_connection = λ n other. other_number n g other;
  changes = λ hub is named. hub_with_connection h g slot hub law next is named;
})
left_follow base h (Open place Leaf) slot hubs law next are = nothing_made (Open place Leaf) hubs law next are refl (λ g. refl) (λ g. refl)
left_follow base h (Open place Pass) slot hubs law next are = nothing_made (Open place Pass) hubs law next are refl (λ g. refl) (λ g. refl)
left_follow base h (Open place Flat) slot hubs law next are = nothing_made (Open place Flat) hubs law next are refl (λ g. refl) (λ g. refl)
left_follow base h (Open place Switch) slot hubs law next are = nothing_made (Open place Switch) hubs law next are refl (λ g. refl) (λ g. refl)
left_follow base h (Open place Until) slot hubs law next are = nothing_made (Open place Until) hubs law next are refl (λ g. refl) (λ g. refl)
left_follow base h (Accept n tag) slot hubs law next are = nothing_made (Accept n tag) hubs law next are refl (λ g. refl) (λ g. refl)
left_follow base h (Use r) slot hubs law next are = nothing_made (Use r) hubs law next are refl (λ g. refl) (λ g. refl)
left_follow base h (Remove r) slot hubs law next are = nothing_made (Remove r) hubs law next are refl (λ g. refl) (λ g. refl)
left_follow base h (Item l v) slot hubs law next are = nothing_made (Item l v) hubs law next are refl (λ g. refl) (λ g. refl)
left_follow base h (Decline f) slot hubs law next are = nothing_made (Decline f) hubs law next are refl (λ g. refl) (λ g. refl)
left_follow base h (End n t) slot hubs law next are = nothing_made (End n t) hubs law next are refl (λ g. refl) (λ g. refl)
left_follow base h (Close n) slot hubs law next are = nothing_made (Close n) hubs law next are refl (λ g. refl) (λ g. refl)
left_follow base h (Lease r) slot hubs law next are = nothing_made (Lease r) hubs law next are refl (λ g. refl) (λ g. refl)
left_follow base h (Return r) slot hubs law next are = nothing_made (Return r) hubs law next are refl (λ g. refl) (λ g. refl)
left_follow base h (Take r) slot hubs law next are = nothing_made (Take r) hubs law next are refl (λ g. refl) (λ g. refl)

pub map_agrees : (f g : Hub → Hub) (hubs : List Hub) → ((i : ℕ) (hub : Hub) → slice_get hubs i ≡ Some hub → f hub ≡ g hub) → map f hubs ≡ map g hubs
map_agrees f g [] same = refl
map_agrees f g (hub ∷ hubs) same = let rest = map_agrees f g hubs (λ i x at_i. same (suc i) x at_i) in (λ i. same 0 hub refl i ∷ rest i)

-- the hubs after one more event are those of the longer history
pub hubs_follow : (base : Kept) → (h : List Event) (e : Event) (slot : ℕ) (hubs : List Hub) → IsLawful base h → MayFollow base h e → AreHubsOf h hubs →
    AreHubsOf (h ++ e ∷ []) (hubs_after h e slot hubs)
hubs_follow base h e slot hubs law next are =
    let same = map_agrees (without_gone (is_gone_after h e) (end_by (length h) e)) (hub_left h e) hubs (λ i hub at_i. without_closed h e hub) in
    search (rules, same, left_follow)
