-- What one more event leaves of a hub: those of its nodes that are open after it.
use Rattle.rx_hub.proofs.Common.{◌≡◌, ℕ, ◌≤◌, ◌&&◌, ◌++◌, cond, Bool, true, false, List, [], ◌∷◌, length, slice_get, filter, Option, Some, None, refl, sym}
use Rattle.rx_hub.proofs.Common.{ap, ◌∙◌, inl, inr, ◌⊎◌, arith, length-append, if◌then◌else◌, AllByRecursion, option_map_or, option_or, option_to_list, not}
use Rattle.rx_hub.proofs.Common.{false≢true, and_parts, and_from, both_ways, none-some, slice_get_within, Kept, Terminal, Event, Connect, End, is_connect_of}
use Rattle.rx_hub.proofs.Common.{at, is_open, IsLawful, first_passes, filter_nonempty, is_open_outside-end, is_open_within, Key}
use Rattle.rx_hub.proofs.Common.{slice_get-append, cases_push, LastEnd, end_by, is_gone_after, without_gone, Hub, numbers, IsHubOf}
use Rattle.rx_event.proofs.Laws.Hubs.{TwoConnections, one_connection}
use Rattle.rx_event.proofs.Laws.Parents.{within_cases}
use Rattle.rx_event.proofs.Laws.Stands.{connection_parent}
use Rattle.std.proofs.Common.{rules}

-- older places ------------------------------------------------------------------------------------

-- what stood at a place stands there still
pub still_at : {X : Type 0} (xs ys : List X) (i : ℕ) (x : X) → slice_get xs i ≡ Some x → slice_get (xs ++ ys) i ≡ Some x
still_at xs ys i x at_i = slice_get-append xs ys i (slice_get_within xs i x at_i) ∙ at_i

-- a place of the longer history is an older one or the last
pub within_push : (h : List Event) (e x : Event) (i : ℕ) → slice_get (h ++ e ∷ []) i ≡ Some x → i ≤ length h
within_push h e x i at_i = let l = slice_get_within (h ++ e ∷ []) i x at_i in omega (arith, l, length-append h (e ∷ []))

event_of_at : (p : Event → Bool) (o : Option Event) → option_map_or p o false ≡ true → (x : Event) × (o ≡ Some x) × (p x ≡ true)
event_of_at p x1 passes = search (rules, false≢true)

-- what passes a test in the longer history passed it before, or is the event
pub at_push : (p : Event → Bool) (h : List Event) (e : Event) (n : ℕ) → at p (h ++ e ∷ []) n ≡ true → (at p h n ≡ true) ⊎ (p e ≡ true)
at_push p h e n passes = by_event (event_of_at p (slice_get (h ++ e ∷ []) n) passes) where
  by_place : (x : Event) → p x ≡ true → (slice_get h n ≡ Some x) ⊎ (e ≡ x) → (at p h n ≡ true) ⊎ (p e ≡ true)
  by_place x holds (inl old) = inl (ap (λ (o : Option Event). option_map_or p o false) old ∙ holds)
  by_place x holds (inr same) = inr (ap p same ∙ holds)

  by_event : (x : Event) × (slice_get (h ++ e ∷ []) n ≡ Some x) × (p x ≡ true) → (at p h n ≡ true) ⊎ (p e ≡ true)
  by_event (x, at_n, holds) = by_place x holds (cases_push h e x n at_n)

-- what stays of one hub ---------------------------------------------------------------------------

-- the connection, where it stays
abbrev pub connection_left : (Key → Bool) → Option Key → Option Key
connection_left stays None = None
connection_left stays (Some key) = if stays key then Some key else None

-- how the last connection ended, where the connection may go
abbrev pub last_end_left : (Key → Bool) → Option Key → (ended before : Option LastEnd) → Option LastEnd
last_end_left stays None ended before = before
last_end_left stays (Some key) ended before = if stays key then before else option_or ended before

-- a hub with those of its nodes that stay, field by field
abbrev pub with_only : (Key → Bool) → Option LastEnd → Hub → Hub
with_only stays ended hub = record hub {
  connection = connection_left stays hub.connection;
  last_end = last_end_left stays hub.connection ended hub.last_end;
  subscribers = filter stays hub.subscribers;
}

abbrev pub is_open_after : List Event → Event → Key → Bool
is_open_after h e key = is_open (h ++ e ∷ []) key.number

-- a hub after one more event, but for what the event makes
abbrev pub hub_left : List Event → Event → Hub → Hub
hub_left h e hub = with_only (is_open_after h e) (end_by (length h) e) hub

pub filter_agrees : (p q : Key → Bool) (keys : List Key) → AllByRecursion (λ key. p key ≡ q key) keys → filter p keys ≡ filter q keys
filter_agrees p q [] same = refl
filter_agrees p q (key ∷ keys) same = let rest = filter_agrees p q keys same.1 in (λ i. cond (same.0 i) (key ∷ rest i) (rest i))

agree_everywhere : (p q : Key → Bool) → ((key : Key) → p key ≡ q key) → (keys : List Key) → AllByRecursion (λ key. p key ≡ q key) keys
agree_everywhere p q same [] = tt
agree_everywhere p q same (key ∷ keys) = (same key, agree_everywhere p q same keys)

-- without what is gone, a hub has what stays
only_left : (gone stays : Key → Bool) → ((key : Key) → not (gone key) ≡ stays key) → (ended : Option LastEnd) (hub : Hub) →
    without_gone gone ended hub ≡ with_only stays ended hub
only_left gone stays same ended hub = search (rules, filter_agrees, agree_everywhere, false≢true)

-- and so after one more event
pub without_closed : (h : List Event) (e : Event) (hub : Hub) → without_gone (is_gone_after h e) (end_by (length h) e) hub ≡ hub_left h e hub
without_closed h e hub = search (rules, only_left)

pub numbers_filter : (p : ℕ → Bool) (keys : List Key) → numbers (filter (λ (key : Key). p key.number) keys) ≡ filter p (numbers keys)
numbers_filter p [] = refl
numbers_filter p (key ∷ keys) = search (rules, numbers_filter p keys)

pub numbers_left : (p : ℕ → Bool) (o : Option Key) →
    numbers (option_to_list (connection_left (λ (key : Key). p key.number) o)) ≡ filter p (numbers (option_to_list o))
numbers_left p x1 = search rules

-- the connection that the record names is an open one of the hub
pub own_connection : (h : List Event) (hub : Hub) → IsHubOf h hub → (key : Key) → hub.connection ≡ Some key →
    (at (is_connect_of hub.number) h key.number ≡ true) × (is_open h key.number ≡ true)
own_connection h hub is key own = search (rules, and_parts, first_passes)

-- and each open one is that
pub named_connection : (base : Kept) → (h : List Event) (hub : Hub) → IsLawful base h → IsHubOf h hub → (c : ℕ) → at (is_connect_of hub.number) h c ≡ true →
    is_open h c ≡ true → (key : Key) × (hub.connection ≡ Some key) × (key.number ≡ c)
named_connection base h hub law is c connects o = by_record hub.connection refl where
  by_record : (own : Option Key) → hub.connection ≡ own → (key : Key) × (hub.connection ≡ Some key) × (key.number ≡ c)
  by_record None own =
      let inside = is_open_within h c o in
      absurd (filter_nonempty (λ n. at (is_connect_of hub.number) h n && is_open h n) 0 (length h) c (omega arith) (omega (arith, inside))
      (and_from _ _ connects o) (sym is.connection ∙ ap (λ (x : Option Key). numbers (option_to_list x)) own))
  by_record (Some key) own =
      let parts = own_connection h hub is key own in
      let two : TwoConnections h hub.number key.number c = record { one = parts.0; one_open = parts.1; other = connects; other_open = o } in
      (key, own, one_connection base h law hub.number key.number c two)

-- a connection that goes by an end is what ended
pub connection_ended : (h : List Event) (n c g : ℕ) (t : Terminal) → slice_get h c ≡ Some (Connect g) → is_open h c ≡ true →
    is_open (h ++ End n t ∷ []) c ≡ false → n ≡ c
connection_ended h n c g t at_c o gone = search (rules, none-some, connection_parent, within_cases, both_ways, is_open_outside-end)
