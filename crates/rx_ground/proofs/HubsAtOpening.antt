-- What makes way for a node that is opened leaves hubs that the node can join, and what is then tied.
use Rattle.rx_ground.proofs.Common.{◌≡◌, ℕ, ◌+◌, Bool, true, false, List, [], ◌∷◌, ◌++◌, length, Option, Some, None, IfSome, sym, ap, subst, ◌∙◌, inl, inr}
use Rattle.rx_ground.proofs.Common.{◌⊎◌, IfNone, cases_Bool, Kept, Ghosts, Place, Kind, Sub, Event, Open, MayFollow, is_open_within, Key, find, Tree, some_of}
use Rattle.rx_ground.proofs.Common.{AreApart, hubs_after, with_made, next_key, is_inside, Hub, Hubs, AreBelow, find_hub, AreHubsOf, hubs_follow, LeavesHubs}
use Rattle.rx_ground.proofs.Common.{hubs_with_made, hubs_exchanged, ready_to_subscribe, ready_to_exchange, AreTied, AreJoined, Remarks, opened_marks}
use Rattle.rx_ground.proofs.HubsBesideTree.{as_many, joined_cut, joined_found, joined_opened}
use Rattle.rx_hub.specs.Hubs.{StandsAt}
use Rattle.std.proofs.lemmas.Option.{slice_get-map}
use Rattle.rx_ground.proofs.Common.{option_map, refl, slice_get, without_gone, is_some, IsSome}
use Rattle.rx_ground.proofs.ReadyToOpen.{IsReadyToOpen, IsOpenedBelow, none_closed, opened_found, opened_new, opened_tied}
use Rattle.std.proofs.Common.{rules}

-- a hub that nodes left keeps its number
same_number : (gone : Key → Bool) (o : Option Hub) →
    option_map (λ (hub : Hub). hub.number) (option_map (without_gone gone None) o) ≡ option_map (λ (hub : Hub). hub.number) o
same_number gone None = refl
same_number gone (Some hub) = search rules

module _ {base : Kept} {T : Type 0} {g : Ghosts T} {h : List Event} {place : Place} {kind : Kind} {old left : Tree T} {hubs later : Hubs} {replaces : Bool}
    (ready : IsReadyToOpen base g h place kind old left hubs later replaces) where
  -- the hubs after the opening are those that were left, with the node where it joins one
  pub cleared : (slot : ℕ) → hubs_after h (Open place kind) slot hubs.hubs ≡ with_made (next_key h slot) (Open place kind) later.hubs
  cleared slot = by_test (cases_Bool replaces) where
    exchanged : LeavesHubs h place old left hubs later →
        hubs_after h (Open place kind) slot hubs.hubs ≡ with_made (next_key h slot) (Open place kind) later.hubs
    exchanged x =
        let r = x.replaced in
        let found = some_of (find old.nodes x.inner) r.inner.found in
        let alive = (ready.tied.of_tree.records.each x.inner found.0 found.1).alive in
        ap (λ (q : Place). hubs_after h (Open q kind) slot hubs.hubs) r.named ∙
        hubs_exchanged kind slot ready.law ready.tied.published (record { switch = r.switches; inner = r.inner.stands; alive = alive }) ∙
        (λ i. with_made (next_key h slot) (Open (sym r.named i) kind) ((sym x.leave i).hubs))

    by_test : (replaces ≡ true) ⊎ (replaces ≡ false) →
        hubs_after h (Open place kind) slot hubs.hubs ≡ with_made (next_key h slot) (Open place kind) later.hubs
    by_test (inl takes) = exchanged (ready.clears.exchanged takes)
    by_test (inr leaves) = hubs_with_made h (Open place kind) slot hubs.hubs ready.tied.published
        (λ n o. none_closed h place kind (ready.way.none leaves) n (is_open_within h n o) ∙ o) ∙
        ap (λ (hs : Hubs). with_made (next_key h slot) (Open place kind) hs.hubs) (sym (ready.clears.same leaves))

  -- of the rest nothing changes
  pub rest_same : later ≡ record hubs { hubs = later.hubs }
  rest_same = search (rules, cases_Bool)

  -- what is left of the hubs finds its records in what is left of the tree
  pub joined_left : AreJoined left.nodes later.hubs
  joined_left = search (rules, cases_Bool, joined_cut)

  -- and each hub stands where it stood
  pub stands_left : (index n : ℕ) → StandsAt hubs.hubs index n → StandsAt later.hubs index n
  stands_left index n stands = by_test (cases_Bool replaces) where
    by_test : (replaces ≡ true) ⊎ (replaces ≡ false) → StandsAt later.hubs index n
    by_test (inl takes) =
        let x = ready.clears.exchanged takes in
        subst (λ (hs : Hubs). StandsAt hs.hubs index n) (sym x.leave)
        (ap (option_map (λ (hub : Hub). hub.number)) (slice_get-map (without_gone (is_inside h x.inner.number) None) hubs.hubs index) ∙
        same_number (is_inside h x.inner.number) (slice_get hubs.hubs index) ∙ stands)
    by_test (inr leaves) = subst (λ (hs : Hubs). StandsAt hs.hubs index n) (sym (ready.clears.same leaves)) stands

  -- the hub that is subscribed to is there
  pub found_before : (n : ℕ) → kind ≡ Sub n → IsSome (find_hub hubs.hubs n)
  found_before n same =
      let next = subst (λ (q : Kind). MayFollow base h (Open place q)) same ready.next in
      ap is_some (ready_to_subscribe base h place n hubs.hubs next ready.tied.published).1

  -- the hub that is subscribed to is there still, and its subscribers are older
  pub ready_left : (n : ℕ) → kind ≡ Sub n → (hub : Hub) × (find_hub later.hubs n ≡ Some hub) × AreBelow (length h) hub.subscribers
  ready_left n same = by_test (cases_Bool replaces) where
    next : MayFollow base h (Open place (Sub n))
    next = subst (λ (q : Kind). MayFollow base h (Open place q)) same ready.next

    by_test : (replaces ≡ true) ⊎ (replaces ≡ false) → (hub : Hub) × (find_hub later.hubs n ≡ Some hub) × AreBelow (length h) hub.subscribers
    by_test (inl takes) =
        let x = ready.clears.exchanged takes in
        subst (λ (hs : Hubs). (hub : Hub) × (find_hub hs.hubs n ≡ Some hub) × AreBelow (length h) hub.subscribers) (sym x.leave)
        (ready_to_exchange h place n hubs.hubs (is_inside h x.inner.number) None next ready.tied.published)
    by_test (inr leaves) =
        subst (λ (hs : Hubs). (hub : Hub) × (find_hub hs.hubs n ≡ Some hub) × AreBelow (length h) hub.subscribers) (sym (ready.clears.same leaves))
        (ready_to_subscribe base h place n hubs.hubs next ready.tied.published)

  -- those that a new node joins are older
  pub older_left : (number n : ℕ) → number ≡ length h → kind ≡ Sub n → IfSome (find_hub later.hubs n) (λ (hub : Hub). AreBelow number hub.subscribers)
  older_left number n numbered same = search (rules, ready_left)

  -- the hubs that the node joined are those after the opening
  pub hubs_opened : {last : Hubs} (key : Key) → key.number ≡ length h → last ≡ record later { hubs = with_made key (Open place kind) later.hubs } →
      last ≡ record hubs { hubs = hubs_after h (Open place kind) key.slot hubs.hubs }
  hubs_opened key numbered made = search (rules, rest_same, cleared)

  -- tree and hubs are tied to the longer history then
  pub all_opened : {mid new : Tree T} {last : Hubs} {key : Key} (above : Option Key) → IsOpenedBelow h place kind above old left mid key →
      AreApart mid.nodes → IfSome above (λ k. Remarks mid new k (opened_marks replaces place)) → IfNone above (new ≡ mid) →
      last ≡ record later { hubs = with_made key (Open place kind) later.hubs } → AreTied base g (h ++ Open place kind ∷ []) new last
  all_opened {new = new} {last = last} {key = key} above below apart marked same made =
      let hubs_made = ap (λ (hs : Hubs). hs.hubs) made in
      let after = ap (λ (hs : Hubs). hs.hubs) (hubs_opened key below.opened.numbered made) in
      let joined = joined_found left.nodes new.nodes later.hubs (opened_found ready new above below marked same) joined_left in
      let there = (opened_new ready new above below marked same).found in
      record {
        of_tree = opened_tied place above ready below apart marked same;
        published = subst (AreHubsOf (h ++ Open place kind ∷ [])) (sym after)
            (hubs_follow base h (Open place kind) key.slot hubs.hubs ready.law ready.next ready.tied.published);
        joined = subst (AreJoined new.nodes) (sym hubs_made) (joined_opened new.nodes key place kind later.hubs there joined);
      }

-- a node that joins a hub makes none
pub as_many_opened : (key : Key) (place : Place) (kind : Kind) (later : Hubs) {last : Hubs} →
    last ≡ record later { hubs = with_made key (Open place kind) later.hubs } → length last.hubs + last.room ≡ length later.hubs + later.room
as_many_opened key place kind later made = ap (λ (s : Hubs). length s.hubs + s.room) made ∙ ap (λ (n : ℕ). n + later.room) (as_many key place kind later.hubs)
