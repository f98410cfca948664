-- A hub after one more event: how its connection ended, and what the event adds to it.
use Rattle.rx_hub.proofs.Common.{◌≡◌, ℕ, ◌<◌, ◌≤◌, ◌&&◌, ◌++◌, cond, Bool, true, false, List, [], ◌∷◌, length, slice_get, filter, Option, Some, None, IfSome}
use Rattle.rx_hub.proofs.Common.{refl, sym, ap, subst, ◌∙◌, inl, inr, ◌⊎◌, arith, append-nil, if◌then◌else◌, option_map_or, option_or, option_to_list, not}
use Rattle.rx_hub.proofs.Common.{false≢true, eq-eqb, map-append, slice_get_within, Kept, Terminal, Place, Sub, Event, Open, Connect, End, makes_node, at, Key}
use Rattle.rx_hub.proofs.Common.{is_subscriber_of, is_connect_of, is_open, open_subscribers, open_connections, MayFollow, IsLawful, at_connect, may_connect}
use Rattle.rx_hub.proofs.Common.{ended_after, may_end, is_open_outside-end, is_open_within, slice_get-append, slice_get_last, cases_push, is_within_self, Hub}
use Rattle.rx_hub.proofs.Common.{LastEnd, end_by, next_key, subscribed, connected, numbers, EndsConnection, IsUpTo, IsHubOf}
use Rattle.rx_event.proofs.Laws.OpenAfter.{open_of-push}
use Rattle.rx_hub.proofs.Laws.AfterLeft.{still_at, within_push, hub_left, last_end_left, is_open_after, numbers_filter, numbers_left, own_connection}
use Rattle.rx_hub.proofs.Laws.AfterLeft.{named_connection, connection_ended}
use Rattle.std.proofs.Common.{rules}

-- how a hub's last connection ended ---------------------------------------------------------------

older_end : (h t : List Event) (g : ℕ) (end : LastEnd) → EndsConnection h g end → EndsConnection (h ++ t) g end
older_end h t g end is = search (rules, still_at)

older_ends : (h t : List Event) (g : ℕ) (last : Option LastEnd) → IfSome last (EndsConnection h g) → IfSome last (EndsConnection (h ++ t) g)
older_ends h t g x3 is = search (rules, older_end)

-- the end of the record is one in the history
ended_left : (h : List Event) (e : Event) (hub : Hub) → IsHubOf h hub → IfSome (hub_left h e hub).last_end (EndsConnection (h ++ e ∷ []) hub.number)
ended_left h e hub is = by_connection hub.connection refl where
  before : IfSome hub.last_end (EndsConnection (h ++ e ∷ []) hub.number)
  before = older_ends h (e ∷ []) hub.number hub.last_end is.ended

  by_event : (e : Event) (key : Key) → hub.connection ≡ Some key → is_open (h ++ e ∷ []) key.number ≡ false →
      IfSome hub.last_end (EndsConnection (h ++ e ∷ []) hub.number) →
      IfSome (option_or (end_by (length h) e) hub.last_end) (EndsConnection (h ++ e ∷ []) hub.number)
  by_event (End n t) key own gone old =
      let parts = own_connection h hub is key own in
      let connects : slice_get h key.number ≡ Some (Connect hub.number) = at_connect h hub.number key.number parts.0 in
      let same : n ≡ key.number = connection_ended h n key.number hub.number t connects parts.1 gone in
      record {
        connection = key.number;
        connects = still_at h (End n t ∷ []) key.number (Connect hub.number) connects;
        ended = slice_get_last h (End n t) ∙ ap (λ m. Some (End m t)) same;
      }
  by_event _ key own gone old = old

  by_test : (key : Key) → hub.connection ≡ Some key → (b : Bool) → is_open (h ++ e ∷ []) key.number ≡ b →
      IfSome (if b then hub.last_end else option_or (end_by (length h) e) hub.last_end) (EndsConnection (h ++ e ∷ []) hub.number)
  by_test key own true stays = before
  by_test key own false gone = by_event e key own gone before

  by_connection : (o : Option Key) → hub.connection ≡ o →
      IfSome (last_end_left (is_open_after h e) o (end_by (length h) e) hub.last_end) (EndsConnection (h ++ e ∷ []) hub.number)
  by_connection None own = before
  by_connection (Some key) own = by_test key own (is_open (h ++ e ∷ []) key.number) refl

-- a later end takes the place of the one before
later_end : (h : List Event) (e : Event) (stays : Key → Bool) (o : Option Key) (before : Option LastEnd) (place : ℕ) → place ≤ length h → IsUpTo place before →
    IsUpTo place (last_end_left stays o (end_by (length h) e) before)
later_end h e stays x3 before place l up = search rules

-- and no end in the history is later
latest_left : {base : Kept} → {h : List Event} {e : Event} {hub : Hub} → IsLawful base h → MayFollow base h e → IsHubOf h hub → (c place : ℕ) (t : Terminal) →
    slice_get (h ++ e ∷ []) c ≡ Some (Connect hub.number) → slice_get (h ++ e ∷ []) place ≡ Some (End c t) → IsUpTo place (hub_left h e hub).last_end
latest_left {base} {h} {e} {hub} law next is c place t connects ended = by_place (cases_push h e (End c t) place ended) where
  l : place ≤ length h
  l = within_push h e (End c t) place ended

  older : c < length h → slice_get h c ≡ Some (Connect hub.number)
  older inside = sym (slice_get-append h (e ∷ []) c inside) ∙ connects

  by_record : (x : Event) → x ≡ End c t → (key : Key) × (hub.connection ≡ Some key) × (key.number ≡ c) →
      IsUpTo place (last_end_left (is_open_after h x) hub.connection (end_by (length h) x) hub.last_end)
  by_record x same (key, own, named) =
      let gone : is_open (h ++ End c t ∷ []) key.number ≡ false =
      ap (is_open (h ++ End c t ∷ [])) named ∙ is_open_outside-end h c t c ∙ ap (λ b. is_open h c && not b) (is_within_self h c) ∙ and_false (is_open h c) in
      let end : LastEnd = record { place = length h; terminal = t } in
      subst (λ (y : Event). IsUpTo place (last_end_left (is_open_after h y) hub.connection (end_by (length h) y) hub.last_end)) (sym same)
      (subst (λ (o : Option Key). IsUpTo place (last_end_left (is_open_after h (End c t)) o (end_by (length h) (End c t)) hub.last_end)) (sym own)
      (subst (λ (b : Bool). IsUpTo place (if b then hub.last_end else Some end)) (sym gone) l))
    where
      and_false : (b : Bool) → (b && false) ≡ false
      and_false true = refl
      and_false false = refl

  by_place : (slice_get h place ≡ Some (End c t)) ⊎ (e ≡ End c t) → IsUpTo place (hub_left h e hub).last_end
  by_place (inl old) =
      let after_it = ended_after base h law place c t old in
      let inside : c < length h = let m = slice_get_within h place (End c t) old in omega (arith, m, after_it) in
      later_end h e (is_open_after h e) hub.connection hub.last_end place l (is.latest c place t (older inside) old)
  by_place (inr same) =
      let o : is_open h c ≡ true = may_end base (subst (λ (x : Event). MayFollow base h x) same next) in
      let is_connect : at (is_connect_of hub.number) h c ≡ true =
      ap (λ (x : Option Event). option_map_or (is_connect_of hub.number) x false) (older (is_open_within h c o)) ∙ eq-eqb hub.number hub.number refl in
      by_record e same (named_connection base h hub law is c is_connect o)

-- its nodes ---------------------------------------------------------------------------------------

makes_connection : (g : ℕ) (e : Event) → is_connect_of g e ≡ true → makes_node e ≡ true
makes_connection g x1 connects = search (rules, false≢true)

makes_subscriber : (g : ℕ) (e : Event) → is_subscriber_of g e ≡ true → makes_node e ≡ true
makes_subscriber g x1 subscribes = search (rules, false≢true)

-- what stays of a hub's subscribers, and the event's after them
subscribers_after : (base : Kept) → (h : List Event) (e : Event) (hub : Hub) → MayFollow base h e → IsHubOf h hub →
    open_subscribers (h ++ e ∷ []) hub.number ≡ numbers (hub_left h e hub).subscribers ++ cond (is_subscriber_of hub.number e) (length h ∷ []) []
subscribers_after base h e hub next is = open_of-push base (is_subscriber_of hub.number) h e next (makes_subscriber hub.number e) ∙
    ap (λ (ns : List ℕ). ns ++ cond (is_subscriber_of hub.number e) (length h ∷ []) [])
    (ap (filter (is_open (h ++ e ∷ []))) (sym is.subscribers) ∙ sym (numbers_filter (is_open (h ++ e ∷ [])) hub.subscribers))

-- and so its connection
connections_after : (base : Kept) → (h : List Event) (e : Event) (hub : Hub) → MayFollow base h e → IsHubOf h hub →
    open_connections (h ++ e ∷ []) hub.number ≡ numbers (option_to_list (hub_left h e hub).connection) ++ cond (is_connect_of hub.number e) (length h ∷ []) []
connections_after base h e hub next is = open_of-push base (is_connect_of hub.number) h e next (makes_connection hub.number e) ∙
    ap (λ (ns : List ℕ). ns ++ cond (is_connect_of hub.number e) (length h ∷ []) []) (search (rules, numbers_left))

-- a hub to which the event adds nothing
pub hub_kept : {base : Kept} → (h : List Event) (e : Event) (hub : Hub) → IsLawful base h → MayFollow base h e → IsHubOf h hub →
    is_subscriber_of hub.number e ≡ false → is_connect_of hub.number e ≡ false → IsHubOf (h ++ e ∷ []) (hub_left h e hub)
hub_kept {base} h e hub law next is no_subscriber no_connection = record {
  made = still_at h (e ∷ []) hub.number _ is.made;
  subscribers = search (rules, subscribers_after, hub_left, append-nil);
  connection = sym (connections_after base h e hub next is ∙
      ap (λ b. numbers (option_to_list (hub_left h e hub).connection) ++ cond b (length h ∷ []) []) no_connection ∙
      append-nil (numbers (option_to_list (hub_left h e hub).connection)));
  ended = ended_left h e hub is;
  latest = latest_left law next is;
}

-- a hub that the event subscribes to
pub hub_with_subscriber : {base : Kept} → {h : List Event} (place : Place) (g slot : ℕ) (hub : Hub) → IsLawful base h → MayFollow base h (Open place (Sub g)) →
    IsHubOf h hub → hub.number ≡ g → IsHubOf (h ++ Open place (Sub g) ∷ []) (subscribed (next_key h slot) (hub_left h (Open place (Sub g)) hub))
hub_with_subscriber {base} {h} place g slot hub law next is named =
    let e : Event = Open place (Sub g) in
    let key = next_key h slot in
    let own : is_subscriber_of hub.number e ≡ true = eq-eqb g hub.number (sym named) in
    record {
      made = still_at h (e ∷ []) hub.number _ is.made;
      subscribers = map-append (λ (k : Key). k.number) (hub_left h e hub).subscribers (key ∷ []) ∙
          sym (subscribers_after base h e hub next is ∙ ap (λ b. numbers (hub_left h e hub).subscribers ++ cond b (length h ∷ []) []) own);
      connection = sym (connections_after base h e hub next is ∙ append-nil (numbers (option_to_list (hub_left h e hub).connection)));
      ended = ended_left h e hub is;
      latest = latest_left law next is;
    }

-- a hub that the event connects
pub hub_with_connection : {base : Kept} → (h : List Event) (g slot : ℕ) (hub : Hub) → IsLawful base h → MayFollow base h (Connect g) → IsHubOf h hub →
    hub.number ≡ g → IsHubOf (h ++ Connect g ∷ []) (connected (next_key h slot) (hub_left h (Connect g) hub))
hub_with_connection {base} h g slot hub law next is named =
    let e : Event = Connect g in
    let own : is_connect_of hub.number e ≡ true = eq-eqb g hub.number (sym named) in
    let none : open_connections h hub.number ≡ [] = ap (open_connections h) named ∙ may_connect base next in
    let gone : numbers (option_to_list (hub_left h e hub).connection) ≡ [] =
    numbers_left (is_open (h ++ e ∷ [])) hub.connection ∙ ap (filter (is_open (h ++ e ∷ []))) (is.connection ∙ none) in
    record {
      made = still_at h (e ∷ []) hub.number _ is.made;
      subscribers = sym (subscribers_after base h e hub next is ∙ append-nil (numbers (hub_left h e hub).subscribers));
      connection = sym (connections_after base h e hub next is ∙ (λ i. gone i ++ cond (own i) (length h ∷ []) []));
      ended = ended_left h e hub is;
      latest = latest_left law next is;
    }
