-- Behind a step whose new nodes joined their hubs, all that have gone may leave theirs, and then list and hubs are those of the history.
use Rattle.rx_event.proofs.Laws.Common.{◌≡◌, ◌≢◌, ℕ, suc, ◌+◌, ◌<◌, ◌≤◌, Bool, true, false, List, [], ◌∷◌, ◌++◌, length, Option, Some, None}
use Rattle.rx_event.proofs.Laws.Common.{refl, sym, ap, subst, ◌∙◌, arith, ◌⊎◌, inl, inr, ◌&&◌, ◌||◌, ◌==◌, slice_get, option_map_or, if◌then◌else◌}
use Rattle.rx_event.proofs.Laws.Common.{cases_lt, cases_order, or_cases, slice_get_within, both_ways, false≢true, none-some, same_Some, eq-eqb, eqb-true, ne_eqb, or_false}
use Rattle.rx_event.proofs.Laws.Common.{and_from, length-append, slice_get_past, IsLawful, open_subscribers, open_connections, and_false, and_true, append-nil, at, is_open, hub_subscribed, is_connect_of, is_subscriber_of}
use Rattle.std.proofs.Common.{option_map, is_some, slice_index_or, slice_set, length-set}
use Rattle.std.proofs.lemmas.List.Elements.{All-tail}
use Rattle.std.specs.List.{All, AllPairs, filter_map, cons_option}
use Rattle.rx_event.specs.declared.event.Event.{Event}
use Rattle.rx_event.specs.declared.event.Event.TheVariants.{Open, Connect, Hub}
use Rattle.rx_event.specs.declared.event.Mode.{Mode}
use Rattle.rx_event.specs.declared.event.Kind.TheVariants.{Sub}
use Rattle.rx_event.specs.Events.{is_connect}
use Rattle.rx_event.specs.Gone.{goes, AreJust}
use Rattle.rx_event.specs.Kept.{Kept}
use Rattle.rx_event.proofs.Laws.Calm.{subscriber_listed}
use Rattle.rx_event.proofs.Laws.Lists.{filter_nonempty}
use Rattle.rx_event.proofs.Laws.Openness.{is_open_within, is_open_past, is_open_unchanged}
use Rattle.rx_event.proofs.Laws.Places.{at-append, slice_get-append, slice_get_last}
use Rattle.rx_roles.specs.declared.roles.Role.{Role}
use Rattle.rx_roles.specs.Roles.{role_of, without, without_all, is_among, AreRolesOf, AreBelow}
use Rattle.rx_roles.proofs.Laws.RolesTaken.{role_of-without, roles_same, roles_end, role_of-append, role_of-append_old}
use Rattle.rx_pool.specs.declared.search.PooledHub.{PooledHub}
use Rattle.rx_pool.specs.Pool.{changed, joined, left_by_one, new_hub}
use Rattle.rx_pool.specs.Counts.{IsPoolOf, names, is_made, Follows}
use Rattle.rx_pool.specs.Moves.{joined_all, left_all, MayLeaveAll, is_place, AreKnown, IsMoved}
use Rattle.rx_pool.specs.Ties.{IsPlain}
use Rattle.rx_pool.proofs.Laws.MovesOfStep.{moves_follow}
use Rattle.rx_pool.proofs.Laws.CountsAfterStep.{stays_the_pool, free_serves_nobody}
use Rattle.rx_roles.proofs.Laws.JustThose.{just_among}
use Rattle.rx_roles.proofs.Laws.NodesAfterStep.{StepMakes, is_new_none, same_sort, older}
use Rattle.rx_roles.proofs.Laws.NodesMade.{IsMaking, made_by, made_with, step_makes, own_event, second_event}
use Rattle.rx_roles.proofs.Laws.FirstSubscriberConnects.{second_just}
use Rattle.rx_roles.proofs.Laws.NotesOfStep.{of_sort}
use Rattle.rx_roles.proofs.Laws.RolesAfterStep.{are_closed, roles_after, roles_made}
use Rattle.rx_pool.specs.Places.{place_in, places_left, place_role, hub_named, names_hub, AreShared}

-- places of numbers ----------------------------------------------------------------------------------

places_same : (f g : ℕ → Option ℕ) (ns : List ℕ) → All (λ n. f n ≡ g n) ns → filter_map f ns ≡ filter_map g ns
places_same f g [] same = refl
places_same f g (n ∷ ns) same =
    (λ i. cons_option (same 0 n (let w : 0 < suc (length ns) = omega arith in w) i) (places_same f g ns (All-tail (λ m. f m ≡ g m) n ns same) i))

-- where each number stands once, the places are those of the whole list
pub places_are : (list : List Role) (ns : List ℕ) → AllPairs (λ m n. m ≢ n) ns → places_left list ns ≡ filter_map (place_in list) ns
places_are list [] once = refl
places_are list (n ∷ ns) once = ap (cons_option (place_in list n))
    (places_are (without list n) ns (λ i j d l within. once (suc i) (suc j) d (let w : suc i < suc j = omega arith in w) (let w : suc j < suc (length ns) = omega arith in w)) ∙
    places_same (place_in (without list n)) (place_in list) ns others) where
      others : All (λ m. place_in (without list n) m ≡ place_in list m) ns
      others k d l = ap (λ (o : Option Role). option_map (λ (r : Role). r.word) o) (role_of-without list n (slice_index_or ns k d)
          (ne_eqb n (slice_index_or ns k d) (once 0 (suc k) d (let w : 0 < suc k = omega arith in w) (let w : suc k < suc (length ns) = omega arith in w))))

-- who is not among them keeps its role
pub role_kept : (list : List Role) (ns : List ℕ) (n : ℕ) → is_among n ns ≡ false → role_of (without_all list ns) n ≡ role_of list n
role_kept list [] n is = refl
role_kept list (m ∷ ns) n is = by_test (m == n) refl is (λ rest. role_kept (without list m) ns n rest) where
  by_test : (b : Bool) → (m == n) ≡ b → (b || is_among n ns) ≡ false → (is_among n ns ≡ false → role_of (without_all (without list m) ns) n ≡ role_of (without list m) n) →
      role_of (without_all (without list m) ns) n ≡ role_of list n
  by_test true same there rest = absurd (false≢true (sym there))
  by_test false other there rest = rest there ∙ role_of-without list m n other

-- hubs stay as many ------------------------------------------------------------------------------------

pub length_changed : (change : PooledHub → PooledHub) (place : ℕ) (hubs : List PooledHub) → length (changed change place hubs) ≡ length hubs
length_changed change place hubs = by_hub (slice_get hubs place) where
  by_hub : (o : Option PooledHub) → length (option_map_or (λ h. slice_set hubs place (change h)) o hubs) ≡ length hubs
  by_hub None = refl
  by_hub (Some old) = length-set hubs place (change old)

length_joined : (word : ℕ) (places : List ℕ) (hubs : List PooledHub) → length (joined_all word places hubs) ≡ length hubs
length_joined word [] hubs = refl
length_joined word (p ∷ ps) hubs = length_joined word ps (changed (joined word) p hubs) ∙ length_changed (joined word) p hubs

pub length_left : (places : List ℕ) (hubs : List PooledHub) → length (left_all places hubs) ≡ length hubs
length_left [] hubs = refl
length_left (p ∷ ps) hubs = length_left ps (changed left_by_one p hubs) ∙ length_changed left_by_one p hubs

-- one step ---------------------------------------------------------------------------------------------

-- from h to k these nodes were made, which have their places, and those have gone
pub record IsShareStep (h k : List Event) (made closed : List ℕ) (list : List Role) (hubs : List PooledHub) : Type 0 where
  pub step : StepMakes h k made
  pub gone : AreJust (goes h k) closed
  pub pool : IsPoolOf h hubs
  pub known : AreKnown h k hubs (place_in list)
  pub after : AreRolesOf (of_sort names_hub k) (without_all list closed)

module _ {h k : List Event} {made closed : List ℕ} {list : List Role} {hubs : List PooledHub} (c : IsShareStep h k made closed list hubs) (word : ℕ) where
  -- the new nodes have joined, and then those that have gone left
  abbrev pub joined_hubs : List PooledHub
  joined_hubs = joined_all word (filter_map (place_in list) made) hubs

  abbrev pub hubs_after : List PooledHub
  hubs_after = left_all (places_left list closed) joined_hubs

  moved : IsMoved h k made closed (place_in list) word hubs
  moved =
      let grows = c.step.grown.grows in
      subst (λ (x : List Event). IsMoved h x made closed (place_in list) word hubs) (sym grows)
      (moves_follow h c.step.grown.events made closed (place_in list) word hubs c.pool
      (subst (λ (x : List Event). AreJust (is_made h x) made) grows c.step.makes)
      (subst (λ (x : List Event). AreJust (goes h x) closed) grows c.gone)
      (subst (λ (x : List Event). AreKnown h x hubs (place_in list)) grows c.known))

  same_places : filter_map (place_in list) closed ≡ places_left list closed
  same_places = sym (places_are list closed c.gone.once)

  pub may_leave : MayLeaveAll (places_left list closed) joined_hubs
  may_leave = subst (λ (ps : List ℕ). MayLeaveAll ps joined_hubs) same_places moved.may

  follows : Follows h k made closed hubs hubs_after
  follows = subst (λ (ps : List ℕ). Follows h k made closed hubs (left_all ps joined_hubs)) same_places moved.follows

  pool_after : IsPoolOf k hubs_after
  pool_after =
      let grows = c.step.grown.grows in
      subst (λ (x : List Event). IsPoolOf x hubs_after) (sym grows)
      (stays_the_pool.goes_on h c.step.grown.events made closed hubs hubs_after c.pool
      (subst (λ (x : List Event). Follows h x made closed hubs hubs_after) grows follows))

  -- who is open has its place
  kept_open : (n : ℕ) → is_open k n ≡ true → is_among n closed ≡ false
  kept_open n o = by_test (is_among n closed) refl where
    by_test : (b : Bool) → is_among n closed ≡ b → b ≡ false
    by_test false is = refl
    by_test true is = absurd (both_ways (is_open k n) ((are_closed c.step c.gone).each n is) o)

  within : (n p : ℕ) → place_in (without_all list closed) n ≡ Some p → p < length hubs_after
  within n p is = by_test (is_among n closed) refl where
    long : length hubs_after ≡ length hubs
    long = length_left (places_left list closed) joined_hubs ∙ length_joined word (filter_map (place_in list) made) hubs

    none_there : is_among n closed ≡ true → is_some (role_of (without_all list closed) n) ≡ false
    none_there there = c.after.there n ∙ ap (λ (b : Bool). b && at names_hub k n) ((are_closed c.step c.gone).each n there)

    gone_so : (o : Option Role) → is_some o ≡ false → option_map (λ (r : Role). r.word) o ≡ Some p → ⊥
    gone_so None missing there = none-some p there
    gone_so (Some r) missing there = false≢true (sym missing)

    by_test : (b : Bool) → is_among n closed ≡ b → p < length hubs_after
    by_test true there = absurd (gone_so (role_of (without_all list closed) n) (none_there there) is)
    by_test false there =
        let l = c.known.within n p (ap (λ (o : Option Role). option_map (λ (r : Role). r.word) o) (sym (role_kept list closed n there)) ∙ is) in
        let m = long in omega arith

  named : (n : ℕ) → (is_open k n ≡ true) ⊎ (is_made k k n ≡ true) → (i : ℕ) (hub : PooledHub) → slice_get hubs_after i ≡ Some hub →
      at (names hub.number) k n ≡ is_place i (place_in (without_all list closed) n)
  named n (inr made_since) i hub there = absurd (both_ways (is_made k k n) (is_new_none k n) made_since)
  named n (inl o) i hub there =
      let m = follows.moved i hub there in
      ap (λ (g : ℕ). at (names g) k n) m.2 ∙ c.known.named n (was (older c.step n o)) i m.0 m.1 ∙
      ap (λ (x : Option Role). is_place i (option_map (λ (r : Role). r.word) x)) (sym (role_kept list closed n (kept_open n o)))
    where
      was : (is_open h n ≡ true) ⊎ (is_among n made ≡ true) → (is_open h n ≡ true) ⊎ (is_made h k n ≡ true)
      was (inl old) = inl old
      was (inr new) = inr (sym (just_among c.step.makes n) ∙ new)

  pub shared_after : AreShared k (without_all list closed) hubs_after
  shared_after = record { places = c.after; pool = pool_after; known = record { within = within; named = named } }

-- which steps are such ---------------------------------------------------------------------------------

-- no number from the end of the history on has a place
pub none_placed : {h : List Event} {list : List Role} {hubs : List PooledHub} → AreShared h list hubs → AreBelow list (length h)
none_placed {h} s = roles_end s.places (length h) (λ n past. ap (λ (b : Bool). b && at names_hub h n) (is_open_past h n past))

-- a table of places goes on, where that of each node that was made is known
known_more : {h k : List Event} {made : List ℕ} {hubs : List PooledHub} {f : ℕ → Option ℕ} (g : ℕ → Option ℕ) → StepMakes h k made → AreKnown h h hubs f →
    ((n : ℕ) → n < length h → g n ≡ f n) → ((n p : ℕ) → g n ≡ Some p → p < length hubs) →
    ((n : ℕ) → is_among n made ≡ true → (i : ℕ) (hub : PooledHub) → slice_get hubs i ≡ Some hub → at (names hub.number) k n ≡ is_place i (g n)) → AreKnown h k hubs g
known_more {h} {k} {made} {hubs} {f} g s known same within new = record { within = within; named = named } where
  named : (n : ℕ) → (is_open h n ≡ true) ⊎ (is_made h k n ≡ true) → (i : ℕ) (hub : PooledHub) → slice_get hubs i ≡ Some hub → at (names hub.number) k n ≡ is_place i (g n)
  named n (inl o) i hub there =
      same_sort s.grown (names hub.number) n (is_open_within h n o) ∙ known.named n (inl o) i hub there ∙ ap (is_place i) (sym (same n (is_open_within h n o)))
  named n (inr m) i hub there = new n (just_among s.makes n ∙ m) i hub there

-- which makes no node
pub shares_plain : {h k : List Event} {closed : List ℕ} {list : List Role} {hubs : List PooledHub} → StepMakes h k [] → AreJust (goes h k) closed → AreShared h list hubs →
    IsShareStep h k [] closed list hubs
shares_plain {h} {k} {closed} {list} {hubs} s just shared = record {
  step = s;
  gone = just;
  pool = shared.pool;
  known = known_more (place_in list) s shared.known (λ n l. refl) shared.known.within (λ n is. absurd (false≢true is));
  after = roles_after s (are_closed s just) names_hub (roles_same shared.places (λ n. sym (or_false (of_sort names_hub h n))));
}

names_none : (e : Event) (g : ℕ) → names_hub e ≡ false → names g e ≡ false
names_none (Connect j) g is = absurd (false≢true (sym is))
names_none (Open place (Sub j)) g is = absurd (false≢true (sym is))
names_none _ g is = refl

unsubscribed : (e : Event) → names_hub e ≡ false → hub_subscribed e ≡ None
unsubscribed (Connect j) is = absurd (false≢true (sym is))
unsubscribed (Open place (Sub j)) is = absurd (false≢true (sym is))
unsubscribed _ is = refl

-- whose event makes a node that names none
module _ {base : Kept} {h : List Event} {e : Event} {k : List Event} (w : IsMaking base h e k) (plain : names_hub e ≡ false) where
  pub none_second : at is_connect k (length h + 1) ≡ false
  none_second = second_just w ∙ (rw (unsubscribed e plain) refl)

  pub shares_opened : {closed : List ℕ} {list : List Role} {hubs : List PooledHub} → AreJust (goes h k) closed → AreShared h list hubs →
      IsShareStep h k (length h ∷ []) closed list hubs
  shares_opened {closed} {list} {hubs} just shared = record {
    step = s;
    gone = just;
    pool = shared.pool;
    known = known_more (place_in list) s shared.known (λ n l. refl) shared.known.within new;
    after = subst (λ (rs : List Role). AreRolesOf (of_sort names_hub k) (without_all rs closed)) lists
        (roles_made w just names_hub shared.places true (λ g. refl) (place_role (length h) 0) (place_role (length h + 1) 0) refl refl);
  } where
    s : StepMakes h k (length h ∷ [])
    s = subst (λ (b : Bool). StepMakes h k (made_with (length h) b)) none_second (step_makes w)

    lists : (list ++ (if names_hub e then place_role (length h) 0 ∷ [] else [])) ++ (if at is_connect k (length h + 1) && true then place_role (length h + 1) 0 ∷ [] else []) ≡ list
    lists = rw (plain, none_second) (append-nil (list ++ []) ∙ append-nil list)

    new : (n : ℕ) → is_among n (length h ∷ []) ≡ true → (i : ℕ) (hub : PooledHub) → slice_get hubs i ≡ Some hub → at (names hub.number) k n ≡ is_place i (place_in list n)
    new n is i hub there =
        let same : length h ≡ n = eqb-true (length h) n (sym (or_false (length h == n)) ∙ is) in
        let own : at (names hub.number) k (length h) ≡ false = (rw (own_event w) (names_none e hub.number plain)) in
        let none : place_in list (length h) ≡ None = ap (λ (o : Option Role). option_map (λ (r : Role). r.word) o) (none_placed shared (length h) (omega arith)) in
        subst (λ (m : ℕ). at (names hub.number) k m ≡ is_place i (place_in list m)) same (own ∙ ap (is_place i) (sym none))

  pub joins_none : {list : List Role} {hubs : List PooledHub} (word : ℕ) → AreShared h list hubs → joined_all word (filter_map (place_in list) (length h ∷ [])) hubs ≡ hubs
  joins_none {list} {hubs} word shared =
      ap (λ (o : Option Role). joined_all word (cons_option (option_map (λ (r : Role). r.word) o) []) hubs) (none_placed shared (length h) (omega arith))

-- a table with one role more
placed : (list : List Role) (m place : ℕ) → role_of list m ≡ None → (n : ℕ) → place_in (list ++ place_role m place ∷ []) n ≡ (if m == n then Some place else place_in list n)
placed list m place free n = by_role (role_of list n) refl where
  by_test : (b : Bool) → (m == n) ≡ b → role_of list n ≡ None →
      option_map (λ (r : Role). r.word) (if b then Some (place_role m place) else None) ≡ (if b then Some place else option_map (λ (r : Role). r.word) (role_of list n))
  by_test true is none = refl
  by_test false is none = ap (λ (o : Option Role). option_map (λ (r : Role). r.word) o) (sym none)

  by_role : (o : Option Role) → role_of list n ≡ o → place_in (list ++ place_role m place ∷ []) n ≡ (if m == n then Some place else place_in list n)
  by_role None none = ap (λ (o : Option Role). option_map (λ (r : Role). r.word) o) (role_of-append list (place_role m place) n none) ∙ by_test (m == n) refl none
  by_role (Some x) there = ap (λ (o : Option Role). option_map (λ (r : Role). r.word) o) (role_of-append_old list (place_role m place) x n there) ∙ other (m == n) refl where
    other : (b : Bool) → (m == n) ≡ b → Some x.word ≡ (if b then Some place else place_in list n)
    other true is = absurd (none-some x (sym free ∙ ap (role_of list) (eqb-true m n is) ∙ there))
    other false is = ap (λ (o : Option Role). option_map (λ (r : Role). r.word) o) (sym there)

names_own : (e : Event) (g x : ℕ) → hub_named e ≡ Some g → names x e ≡ (g == x)
names_own (Connect j) g x is = ap (λ (y : ℕ). y == x) (same_Some j g is)
names_own (Open place (Sub j)) g x is = or_false (j == x) ∙ ap (λ (y : ℕ). y == x) (same_Some j g is)
names_own _ g x is = absurd (none-some g is)

subscribed_named : (e : Event) (g j : ℕ) → hub_named e ≡ Some g → hub_subscribed e ≡ Some j → j ≡ g
subscribed_named (Open place (Sub l)) g j is subscribes = sym (same_Some l j subscribes) ∙ same_Some l g is
subscribed_named _ g j is subscribes = absurd (none-some j subscribes)

hub_there : (e : Event) (g : ℕ) → hub_named e ≡ Some g → names_hub e ≡ true
hub_there e g is = ap (λ (o : Option ℕ). is_some o) is

-- of two hubs of a pool one number is that of the other just where they stand at one place
same_hub : (hubs : List PooledHub) → IsPlain hubs → (place i : ℕ) (hub x : PooledHub) → slice_get hubs place ≡ Some hub → slice_get hubs i ≡ Some x →
    (hub.number == x.number) ≡ (place == i)
same_hub hubs plain place i hub x at_place at_i = by_order (cases_order place i) where
  by_order : (place ≡ i) ⊎ ((place < i) ⊎ (i < place)) → (hub.number == x.number) ≡ (place == i)
  by_order (inl same) =
      let one : hub ≡ x = same_Some hub x (sym at_place ∙ ap (slice_get hubs) same ∙ at_i) in
      eq-eqb hub.number x.number (ap (λ (h : PooledHub). h.number) one) ∙ sym (eq-eqb place i same)
  by_order (inr (inl l)) =
      let r = plain.rising place i hub x at_place at_i l in
      ne_eqb hub.number x.number (λ is. let e : hub.number ≡ x.number = is in omega arith) ∙ sym (ne_eqb place i (λ is. let e : place ≡ i = is in omega arith))
  by_order (inr (inr l)) =
      let r = plain.rising i place x hub at_i at_place l in
      ne_eqb hub.number x.number (λ is. let e : hub.number ≡ x.number = is in omega arith) ∙ sym (ne_eqb place i (λ is. let e : place ≡ i = is in omega arith))

-- whose event names this hub of the pool: its node, and a connection that it made, joined it
pub record JoinsOwn {base : Kept} {h : List Event} {e : Event} {k : List Event} (w : IsMaking base h e k) (list : List Role) (hubs : List PooledHub) (place : ℕ) : Type 0 where
  pub shared : AreShared h list hubs
  pub plain : IsPlain hubs
  pub hub : PooledHub
  pub there : slice_get hubs place ≡ Some hub
  pub names : hub_named e ≡ Some hub.number

module _ {base : Kept} {h : List Event} {e : Event} {k : List Event} {w : IsMaking base h e k} {list : List Role} {hubs : List PooledHub} {place : ℕ}
    (c : JoinsOwn w list hubs place) where
  abbrev connected : Bool
  connected = at is_connect k (length h + 1)

  abbrev one_more : List Role
  one_more = list ++ place_role (length h) place ∷ []

  -- the places, and those of the new nodes
  abbrev pub joined_list : List Role
  joined_list = one_more ++ (if connected then place_role (length h + 1) place ∷ [] else [])

  free : (m : ℕ) → length h ≤ m → role_of list m ≡ None
  free m past = none_placed c.shared m past

  free_second : role_of one_more (length h + 1) ≡ None
  free_second = role_of-append list (place_role (length h) place) (length h + 1) (free (length h + 1) (omega arith)) ∙
      ap (λ (b : Bool). if b then Some (place_role (length h) place) else None) (ne_eqb (length h) (length h + 1) (λ is. let s : length h ≡ length h + 1 = is in omega arith))

  -- the place of each number
  abbrev place_now : Bool → ℕ → Option ℕ
  place_now b n = if b && (length h + 1 == n) then Some place else if length h == n then Some place else place_in list n

  places_now : (n : ℕ) → place_in joined_list n ≡ place_now connected n
  places_now n = by_test connected where
    by_test : (b : Bool) → place_in (one_more ++ (if b then place_role (length h + 1) place ∷ [] else [])) n ≡ place_now b n
    by_test true = placed one_more (length h + 1) place free_second n ∙
        ap (λ (o : Option ℕ). if length h + 1 == n then Some place else o) (placed list (length h) place (free (length h) (omega arith)) n)
    by_test false = ap (λ (rs : List Role). place_in rs n) (append-nil one_more) ∙ placed list (length h) place (free (length h) (omega arith)) n

  known : AreKnown h k hubs (place_in joined_list)
  known = subst (AreKnown h k hubs) (λ i n. sym (places_now n) i)
      (known_more (place_now connected) (step_makes w) c.shared.known old within new) where
        old : (n : ℕ) → n < length h → place_now connected n ≡ place_in list n
        old n l = rw (
          ne_eqb (length h + 1) n (λ is. let s : length h + 1 ≡ n = is in omega arith),
          ne_eqb (length h) n (λ is. let s : length h ≡ n = is in omega arith),
          and_false connected,
        ) refl

        fits : place < length hubs
        fits = slice_get_within hubs place c.hub c.there

        within : (n p : ℕ) → place_now connected n ≡ Some p → p < length hubs
        within n p is = by_tests (connected && (length h + 1 == n)) (length h == n) is where
          by_tests : (a b : Bool) → (if a then Some place else if b then Some place else place_in list n) ≡ Some p → p < length hubs
          by_tests true b found = subst (λ (m : ℕ). m < length hubs) (same_Some place p found) fits
          by_tests false true found = subst (λ (m : ℕ). m < length hubs) (same_Some place p found) fits
          by_tests false false found = c.shared.known.within n p found

        own : (i : ℕ) (x : PooledHub) → slice_get hubs i ≡ Some x → at (names x.number) k (length h) ≡ is_place i (place_now connected (length h))
        own i x there = (rw (own_event w) (names_own e c.hub.number x.number c.names)) ∙ same_hub hubs c.plain place i c.hub x c.there there ∙
            (rw (
              ne_eqb (length h + 1) (length h) (λ is. let s : length h + 1 ≡ length h = is in omega arith),
              and_false connected,
              eq-eqb (length h) (length h) refl,
            ) refl)

        second : connected ≡ true → (i : ℕ) (x : PooledHub) → slice_get hubs i ≡ Some x → at (names x.number) k (length h + 1) ≡ is_place i (place_now connected (length h + 1))
        second yes_there i x there =
            let s = second_event w yes_there in
            (rw s.connects (ap (λ (y : ℕ). y == x.number) (subscribed_named e c.hub.number s.hub c.names s.subscribes))) ∙
            same_hub hubs c.plain place i c.hub x c.there there ∙
            (rw (yes_there, eq-eqb (length h + 1) (length h + 1) refl) refl)

        new : (n : ℕ) → is_among n (made_by h k) ≡ true → (i : ℕ) (x : PooledHub) → slice_get hubs i ≡ Some x → at (names x.number) k n ≡ is_place i (place_now connected n)
        new n is i x there = by_second connected refl is where
          here : (length h == n) ≡ true → at (names x.number) k n ≡ is_place i (place_now connected n)
          here same = subst (λ (m : ℕ). at (names x.number) k m ≡ is_place i (place_now connected m)) (eqb-true (length h) n same) (own i x there)

          next : connected ≡ true → (length h + 1 == n) ≡ true → at (names x.number) k n ≡ is_place i (place_now connected n)
          next yes_there same = subst (λ (m : ℕ). at (names x.number) k m ≡ is_place i (place_now connected m)) (eqb-true (length h + 1) n same) (second yes_there i x there)

          by_second : (b : Bool) → connected ≡ b → is_among n (made_with (length h) b) ≡ true → at (names x.number) k n ≡ is_place i (place_now connected n)
          by_second true yes_there among = by_part (or_cases (length h == n) ((length h + 1 == n) || false) among) where
            by_part : ((length h == n) ≡ true) ⊎ (((length h + 1 == n) || false) ≡ true) → at (names x.number) k n ≡ is_place i (place_now connected n)
            by_part (inl a) = here a
            by_part (inr b) = next yes_there (sym (or_false (length h + 1 == n)) ∙ b)
          by_second false alone among = here (sym (or_false (length h == n)) ∙ among)

  pub shares_joined : {closed : List ℕ} → AreJust (goes h k) closed → IsShareStep h k (made_by h k) closed joined_list hubs
  shares_joined {closed} just = record {
    step = step_makes w;
    gone = just;
    pool = c.shared.pool;
    known = known;
    after = subst (λ (rs : List Role). AreRolesOf (of_sort names_hub k) (without_all rs closed)) lists
        (roles_made w just names_hub c.shared.places true (λ g. refl) (place_role (length h) place) (place_role (length h + 1) place) refl refl);
  } where
    lists : (list ++ (if names_hub e then place_role (length h) place ∷ [] else [])) ++ (if connected && true then place_role (length h + 1) place ∷ [] else []) ≡ joined_list
    lists = (λ i. (list ++ (if hub_there e c.hub.number c.names i then place_role (length h) place ∷ [] else [])) ++
        (if and_true connected i then place_role (length h + 1) place ∷ [] else []))

  -- each joined once
  pub joins_own : (word : ℕ) → joined_all word (filter_map (place_in joined_list) (made_by h k)) hubs ≡
      (if connected then changed (joined word) place (changed (joined word) place hubs) else changed (joined word) place hubs)
  joins_own word = by_second connected refl where
    here : place_in joined_list (length h) ≡ Some place
    here = places_now (length h) ∙ (rw (
      ne_eqb (length h + 1) (length h) (λ is. let s : length h + 1 ≡ length h = is in omega arith),
      and_false connected,
      eq-eqb (length h) (length h) refl,
    ) refl)

    next : connected ≡ true → place_in joined_list (length h + 1) ≡ Some place
    next yes_there = places_now (length h + 1) ∙ (rw (yes_there, eq-eqb (length h + 1) (length h + 1) refl) refl)

    by_second : (b : Bool) → connected ≡ b → joined_all word (filter_map (place_in joined_list) (made_with (length h) b)) hubs ≡
        (if b then changed (joined word) place (changed (joined word) place hubs) else changed (joined word) place hubs)
    by_second true yes_there = (λ i. joined_all word (cons_option (here i) (cons_option (next yes_there i) [])) hubs)
    by_second false alone = (λ i. joined_all word (cons_option (here i) []) hubs)

-- a hub more ---------------------------------------------------------------------------------------------

at_both : (p q : Event → Bool) (o : Option Event) → option_map_or (λ e. p e || q e) o false ≡ (option_map_or p o false || option_map_or q o false)
at_both p q None = refl
at_both p q (Some e) = refl

-- a place of a table is none behind it
no_place : (i size : ℕ) (o : Option ℕ) → ((p : ℕ) → o ≡ Some p → p < size) → size ≤ i → is_place i o ≡ false
no_place i size None within past = refl
no_place i size (Some p) within past = ne_eqb p i (λ is. (let l = within p refl in let e : p ≡ i = is in omega arith))

module _ {base : Kept} {h : List Event} (mode : Mode) {list : List Role} {hubs : List PooledHub} (law : IsLawful base h) (shared : AreShared h list hubs) where
  abbrev more : List Event
  more = h ++ Hub mode ∷ []

  abbrev more_hubs : List PooledHub
  more_hubs = hubs ++ new_hub (length h) mode ∷ []

  opens_same : (n : ℕ) → is_open more n ≡ is_open h n
  opens_same n = is_open_unchanged h (Hub mode) refl refl n

  sort_same : (p : Event → Bool) (n : ℕ) → of_sort p h n ≡ of_sort p more n
  sort_same p n = by_open (is_open h n) refl where
    by_open : (b : Bool) → is_open h n ≡ b → (b && at p h n) ≡ (is_open more n && at p more n)
    by_open true o = sym (rw (opens_same n, o) (at-append p h (Hub mode ∷ []) n (is_open_within h n o)))
    by_open false o = sym (rw (opens_same n, o) refl)

  pool_more : IsPoolOf more more_hubs
  pool_more = stays_the_pool.added base h mode hubs law shared.pool

  -- nobody names the new one
  unnamed : (i : ℕ) (hub : PooledHub) → slice_get more_hubs i ≡ Some hub → hub.many ≡ 0 → (n : ℕ) → is_open more n ≡ true → at (names hub.number) more n ≡ false
  unnamed i hub there none n o = by_test (at (names hub.number) more n) refl where
    nobody : (open_subscribers more hub.number ≡ []) × (open_connections more hub.number ≡ [])
    nobody = free_serves_nobody more more_hubs pool_more i hub there none

    by_part : (at (is_subscriber_of hub.number) more n ≡ true) ⊎ (at (is_connect_of hub.number) more n ≡ true) → ⊥
    by_part (inl subscribes) = subscriber_listed more hub.number n subscribes o nobody.0
    by_part (inr connects) = filter_nonempty (λ m. at (is_connect_of hub.number) more m && is_open more m) 0 (length more) n (omega arith)
        (let l = is_open_within more n o in omega arith) (and_from (at (is_connect_of hub.number) more n) (is_open more n) connects o) nobody.1

    by_test : (b : Bool) → at (names hub.number) more n ≡ b → b ≡ false
    by_test false is = refl
    by_test true is = absurd (by_part (or_cases (at (is_subscriber_of hub.number) more n) (at (is_connect_of hub.number) more n)
        (sym (at_both (is_subscriber_of hub.number) (is_connect_of hub.number) (slice_get more n)) ∙ is)))

  named_more : (n : ℕ) → (is_open more n ≡ true) ⊎ (is_made more more n ≡ true) → (i : ℕ) (hub : PooledHub) → slice_get more_hubs i ≡ Some hub →
      at (names hub.number) more n ≡ is_place i (place_in list n)
  named_more n (inr made) i hub there = absurd (both_ways (is_made more more n) (is_new_none more n) made)
  named_more n (inl o) i hub there = by_place (cases_lt i (length hubs)) where
    was : is_open h n ≡ true
    was = sym (opens_same n) ∙ o

    is_new_hub : length hubs ≤ i → hub.many ≡ 0
    is_new_hub past = by_order (cases_order i (length hubs)) where
      by_order : (i ≡ length hubs) ⊎ ((i < length hubs) ⊎ (length hubs < i)) → hub.many ≡ 0
      by_order (inl same) =
          ap (λ (x : PooledHub). x.many) (sym (same_Some (new_hub (length h) mode) hub (sym (slice_get_last hubs (new_hub (length h) mode)) ∙ ap (slice_get more_hubs) (sym same) ∙ there)))
      by_order (inr (inl l)) = absurd (omega arith)
      by_order (inr (inr g)) = absurd (none-some hub (sym (slice_get_past more_hubs i (let l = length-append hubs (new_hub (length h) mode ∷ []) in omega arith)) ∙ there))

    by_place : (i < length hubs) ⊎ (length hubs ≤ i) → at (names hub.number) more n ≡ is_place i (place_in list n)
    by_place (inl l) = at-append (names hub.number) h (Hub mode ∷ []) n (is_open_within h n was) ∙
        shared.known.named n (inl was) i hub (sym (slice_get-append hubs (new_hub (length h) mode ∷ []) i l) ∙ there)
    by_place (inr past) = unnamed i hub there (is_new_hub past) n o ∙ sym (no_place i (length hubs) (place_in list n) (shared.known.within n) past)

  pub shares_added : AreShared more list more_hubs
  shares_added = record {
    places = roles_same shared.places (sort_same names_hub);
    pool = pool_more;
    known = record {
      within = λ n p is. (let l = shared.known.within n p is in let m = length-append hubs (new_hub (length h) mode ∷ []) in omega arith);
      named = named_more;
    };
  }

-- a hub of the pool was made before
pub hub_made : {h : List Event} {list : List Role} {hubs : List PooledHub} → AreShared h list hubs → (i : ℕ) (hub : PooledHub) → slice_get hubs i ≡ Some hub → hub.number < length h
hub_made {h} shared i hub there = slice_get_within h hub.number (Hub hub.mode) (shared.pool.made i hub there)
