-- The hubs after one more event, by the kinds of event.
use Rattle.rx_hub.proofs.Common.{◌≡◌, ℕ, ◌&&◌, ◌++◌, cond, map, Bool, true, false, List, [], ◌∷◌, length, slice_get, filter, Option, Some, None, refl}
use Rattle.rx_hub.proofs.Common.{ap, subst, ◌∙◌, AllByRecursion, option_map_or, option_to_list, not, false≢true, and_parts, Kept, Terminal, Place, Inner, Sub}
use Rattle.rx_hub.proofs.Common.{Kind, Mode, Event, Open, Connect, End, Close, is_subscriber_of, at, places, is_open, Key}
use Rattle.rx_hub.proofs.Common.{is_within, MayFollow, IsLawful, IsOpenInner, AllByRecursion-both, filtered, shuts_none, is_open_kept, is_open_within, end_by}
use Rattle.rx_hub.proofs.Common.{is_open_outside-end, is_open_outside-close, is_open-inner_switch, LastEnd, AgreeAt, is_gone_after, ClosesNone, is_inside}
use Rattle.rx_hub.proofs.Common.{with_made, joins_hubs, next_key, hubs_after, remaining, without_gone, Hub, at_hub, new_hub, subscribed, connected, numbers}
use Rattle.rx_hub.proofs.Common.{disconnected, IsHubOf, AreHubsOf}
use Rattle.rx_event.specs.declared.event.Event.TheVariants.{Hub as Publish}
use Rattle.rx_hub.proofs.Laws.AfterLeft.{filter_agrees, own_connection}
use Rattle.rx_hub.proofs.Laws.AfterAll.{map_agrees, hubs_follow}
use Rattle.std.proofs.Common.{rules}

-- what goes, by its test --------------------------------------------------------------------------

all_later : {X : Type 0} (P : X → Type 0) (xs ys : List X) → AllByRecursion P (xs ++ ys) → AllByRecursion P ys
all_later P [] ys all = all
all_later P (x ∷ xs) ys all = all_later P xs ys all.1

all_weaker : {X : Type 0} (P Q : X → Type 0) → ((x : X) → P x → Q x) → (xs : List X) → AllByRecursion P xs → AllByRecursion Q xs
all_weaker P Q weaker [] all = tt
all_weaker P Q weaker (x ∷ xs) all = (weaker x all.0, all_weaker P Q weaker xs all.1)

connection_agrees : (p q : Key → Bool) (o : Option Key) (keys : List Key) → AllByRecursion (λ key. p key ≡ q key) (option_to_list o ++ keys) →
    option_map_or p o false ≡ option_map_or q o false
connection_agrees p q x2 keys same = search rules

one_agrees : (p q : Key → Bool) (ended : Option LastEnd) (hub : Hub) → AgreeAt p q hub → without_gone p ended hub ≡ without_gone q ended hub
one_agrees p q ended hub same =
    let connection = connection_agrees p q hub.connection hub.subscribers same in search (rules, all_later, all_weaker, filter_agrees)

-- of a test, only what it says of the hubs' keys counts
pub tests_agree : (p q : Key → Bool) (ended : Option LastEnd) (hubs : List Hub) →
    ((i : ℕ) (hub : Hub) → slice_get hubs i ≡ Some hub → AgreeAt p q hub) → map (without_gone p ended) hubs ≡ map (without_gone q ended) hubs
tests_agree p q ended hubs same = search (rules, map_agrees, one_agrees)

-- where nothing goes, nothing changes
one_whole : (ended : Option LastEnd) (hub : Hub) → without_gone (λ key. false) ended hub ≡ hub
one_whole ended hub = by_connection hub.connection where
  all_of : (keys : List Key) → filter (λ (key : Key). true) keys ≡ keys
  all_of [] = refl
  all_of (key ∷ keys) = ap (λ (ks : List Key). key ∷ ks) (all_of keys)

  whole : remaining (λ key. false) hub ≡ hub
  whole = (λ i. record hub { subscribers = all_of hub.subscribers i })

  by_connection : (o : Option Key) →
      cond (option_map_or (λ (key : Key). false) o false) (disconnected ended (remaining (λ key. false) hub)) (remaining (λ key. false) hub) ≡ hub
  by_connection None = whole
  by_connection (Some key) = whole

all_whole : (ended : Option LastEnd) (hubs : List Hub) → map (without_gone (λ key. false) ended) hubs ≡ hubs
all_whole ended [] = refl
all_whole ended (hub ∷ hubs) = (λ i. one_whole ended hub i ∷ all_whole ended hubs i)

-- the keys of hubs are those of open nodes --------------------------------------------------------

all_numbers : (P : ℕ → Type 0) (keys : List Key) → AllByRecursion P (numbers keys) → AllByRecursion (λ (key : Key). P key.number) keys
all_numbers P [] all = tt
all_numbers P (key ∷ keys) all = (all.0, all_numbers P keys all.1)

-- it subscribes to g, and is open
abbrev pub IsOpenAt : List Event → ℕ → ℕ → Type 0
IsOpenAt h g n = (at (is_subscriber_of g) h n && is_open h n) ≡ true

-- each subscriber is one in the history, and open
pub subscribers_open : (h : List Event) (hub : Hub) → IsHubOf h hub → AllByRecursion (λ (key : Key). IsOpenAt h hub.number key.number) hub.subscribers
subscribers_open h hub is =
    let passing = filtered (λ n. at (is_subscriber_of hub.number) h n && is_open h n) (IsOpenAt h hub.number) (λ n e. e) (places h) in
    search (rules, all_numbers, IsOpenAt, AllByRecursion)

-- so all keys of a hub are those of open nodes
keys_open : (h : List Event) (hub : Hub) → IsHubOf h hub →
    AllByRecursion (λ (key : Key). is_open h key.number ≡ true) (option_to_list hub.connection ++ hub.subscribers)
keys_open h hub is = AllByRecursion-both (λ (key : Key). is_open h key.number ≡ true) (option_to_list hub.connection) hub.subscribers
    (by_connection hub.connection refl) (search (rules, all_weaker, IsOpenAt, subscribers_open))
  where
    open_one : (key : Key) → IsOpenAt h hub.number key.number → is_open h key.number ≡ true
    open_one key both = (and_parts (at (is_subscriber_of hub.number) h key.number) (is_open h key.number) both).1

    by_connection : (o : Option Key) → hub.connection ≡ o → AllByRecursion (λ (key : Key). is_open h key.number ≡ true) (option_to_list o)
    by_connection None own = tt
    by_connection (Some key) own = ((own_connection h hub is key own).1, tt)

-- tests that agree on open nodes agree on all keys of the hubs
open_agree : (h : List Event) (hubs : List Hub) (p q : Key → Bool) (ended : Option LastEnd) → AreHubsOf h hubs →
    ((key : Key) → is_open h key.number ≡ true → p key ≡ q key) → map (without_gone p ended) hubs ≡ map (without_gone q ended) hubs
open_agree h hubs p q ended are same = tests_agree p q ended hubs (λ i hub at_i. at_hub_of hub (are.each i hub at_i)) where
  at_hub_of : (hub : Hub) → IsHubOf h hub → AgreeAt p q hub
  at_hub_of hub is = all_weaker (λ (key : Key). is_open h key.number ≡ true) (λ key. p key ≡ q key) same
      (option_to_list hub.connection ++ hub.subscribers) (keys_open h hub is)

-- events that close nothing -----------------------------------------------------------------------

-- an item, an acceptance and the like close nothing, nor does an opening that is no inner's
pub closes_none : (h : List Event) (e : Event) → shuts_none e ≡ true → ClosesNone h e
closes_none h e none n o = is_open_kept h e n (is_open_within h n o) none ∙ o

all_stay : (h : List Event) (e : Event) (hubs : List Hub) → AreHubsOf h hubs → ClosesNone h e →
    map (without_gone (is_gone_after h e) (end_by (length h) e)) hubs ≡ hubs
all_stay h e hubs are none =
    open_agree h hubs (is_gone_after h e) (λ key. false) (end_by (length h) e) are (λ key o. ap not (none key.number o)) ∙ all_whole (end_by (length h) e) hubs

-- such an event adds what it makes, and changes nothing else
pub hubs_with_made : (h : List Event) (e : Event) (slot : ℕ) (hubs : List Hub) → AreHubsOf h hubs → ClosesNone h e →
    hubs_after h e slot hubs ≡ with_made (next_key h slot) e hubs
hubs_with_made h e slot hubs are none = ap (with_made (next_key h slot) e) (all_stay h e hubs are none)

joins_none : (key : Key) (e : Event) (hubs : List Hub) → joins_hubs e ≡ false → with_made key e hubs ≡ hubs
joins_none key x1 hubs none = search (rules, false≢true)

pub hubs_same : (h : List Event) (e : Event) (slot : ℕ) (hubs : List Hub) → AreHubsOf h hubs → joins_hubs e ≡ false → ClosesNone h e →
    hubs_after h e slot hubs ≡ hubs
hubs_same h e slot hubs are joins none = hubs_with_made h e slot hubs are none ∙ joins_none (next_key h slot) e hubs joins

-- and so they are the hubs of the longer history
pub hubs_stay : {base : Kept} → (h : List Event) (e : Event) (hubs : List Hub) → IsLawful base h → MayFollow base h e → AreHubsOf h hubs →
    joins_hubs e ≡ false → ClosesNone h e → AreHubsOf (h ++ e ∷ []) hubs
hubs_stay {base} h e hubs law next are joins none =
    subst (λ (hs : List Hub). AreHubsOf (h ++ e ∷ []) hs) (hubs_same h e 0 hubs are joins none) (hubs_follow base h e 0 hubs law next are)

pub hubs_published : (h : List Event) (mode : Mode) (slot : ℕ) (hubs : List Hub) → AreHubsOf h hubs →
    hubs_after h (Publish mode) slot hubs ≡ hubs ++ new_hub (length h) mode ∷ []
hubs_published h mode slot hubs are = hubs_with_made h (Publish mode) slot hubs are (closes_none h (Publish mode) refl)

pub hubs_subscribed : (h : List Event) (place : Place) (g slot : ℕ) (hubs : List Hub) → AreHubsOf h hubs → ClosesNone h (Open place (Sub g)) →
    hubs_after h (Open place (Sub g)) slot hubs ≡ at_hub g (subscribed (next_key h slot)) hubs
hubs_subscribed h place g slot hubs are none = hubs_with_made h (Open place (Sub g)) slot hubs are none

pub hubs_connected : (h : List Event) (g slot : ℕ) (hubs : List Hub) → AreHubsOf h hubs →
    hubs_after h (Connect g) slot hubs ≡ at_hub g (connected (next_key h slot)) hubs
hubs_connected h g slot hubs are = hubs_with_made h (Connect g) slot hubs are (closes_none h (Connect g) refl)

-- events that close nodes -------------------------------------------------------------------------

gone_inside : {now : Bool} (inside : Bool) → now ≡ not inside → not now ≡ inside
gone_inside x0 e = search rules

pub hubs_ended : (h : List Event) (n : ℕ) (t : Terminal) (slot : ℕ) (hubs : List Hub) → AreHubsOf h hubs →
    hubs_after h (End n t) slot hubs ≡ map (without_gone (is_inside h n) (end_by (length h) (End n t))) hubs
hubs_ended h n t slot hubs are = search (rules, open_agree, gone_inside, is_open_outside-end)

pub hubs_closed : (h : List Event) (n slot : ℕ) (hubs : List Hub) → AreHubsOf h hubs →
    hubs_after h (Close n) slot hubs ≡ map (without_gone (is_inside h n) None) hubs
hubs_closed h n slot hubs are = search (rules, open_agree, gone_inside, is_open_outside-close)

-- another inner of a Switch comes in place of the open one
pub hubs_exchanged : {base : Kept} {h : List Event} {f c : ℕ} (kind : Kind) (slot : ℕ) {hubs : List Hub} → IsLawful base h → AreHubsOf h hubs →
    IsOpenInner h f c → hubs_after h (Open (Inner f) kind) slot hubs ≡
    with_made (next_key h slot) (Open (Inner f) kind) (map (without_gone (is_inside h c) None) hubs)
hubs_exchanged {base} {h} {f} {c} kind slot {hubs} law are i = ap (with_made (next_key h slot) (Open (Inner f) kind))
    (open_agree h hubs (is_gone_after h (Open (Inner f) kind)) (is_inside h c) None are (λ key there. gone_inside (is_within h c key.number)
    (is_open-inner_switch law i kind key.number (is_open_within h key.number there) ∙ ap (λ b. b && not (is_within h c key.number)) there)))
