-- What is the same in two histories with the same hubs and open nodes.
use Rattle.rx_event.proofs.Laws.Common.{◌≡◌, ℕ, ℤ, zero, suc, ◌<◌, Bool, true, false, List, [], ◌∷◌, length, Option, Some, None, refl, sym, ap, ◌∙◌, arith}
use Rattle.rx_event.proofs.Laws.Common.{◌==◌, slice_get, filter, map, ◌&&◌, list_any, range_with_len, option_and_then, option_map_or, false≢true, both_ways}
use Rattle.rx_event.proofs.Laws.Common.{false_from_ne_true, Terminal, Mode, Event, Hub, Item, Kept, parent_named, is_auto_hub, is_subscriber_of, is_connect_of}
use Rattle.rx_event.proofs.Laws.Common.{at, places, parent, if_less, ancestors, is_open, is_within, open_nodes, open_subscribers, open_connections, Stop}
use Rattle.rx_event.proofs.Laws.Common.{Delivery, Projection, Firing, stops, stops_of, Agree, SourceEnded, marks_of, IsLawful, visits, IsRead}
use Rattle.std.specs.Cmp.{both_ways as same_test}
use Rattle.rx_event.proofs.Laws.Parents.{parent-lt, ancestors_step}
use Rattle.rx_event.proofs.Laws.Openness.{is_open_within, parent_open}
use Rattle.rx_event.proofs.Laws.Stands.{event_at}
use Rattle.rx_event.proofs.Laws.Steps.{named_below}
use Rattle.rx_event.proofs.Laws.TreeRead.{IsTreeRead, AreTreesRead, event_by_itself, stop_by, stops_by, visits_by}
use Rattle.std.proofs.Common.{rules}

-- two lists of events have the same length, hubs and open nodes, each made by the same event
pub record Alike (p q : List Event) : Type 0 where
  pub same_length : length p ≡ length q
  pub same_open : (n : ℕ) → is_open p n ≡ is_open q n
  pub same_made : (n : ℕ) → is_open p n ≡ true → slice_get p n ≡ slice_get q n
  pub same_hub : (n : ℕ) (mode : Mode) → slice_get p n ≡ Some (Hub mode) → slice_get q n ≡ Some (Hub mode)
  pub same_hub_back : (n : ℕ) (mode : Mode) → slice_get q n ≡ Some (Hub mode) → slice_get p n ≡ Some (Hub mode)

pub alike_back : (p q : List Event) → Alike p q → Alike q p
alike_back p q a =
    record {
      same_length = sym a.same_length;
      same_open = λ n. sym (a.same_open n);
      same_made = λ n o. sym (a.same_made n (a.same_open n ∙ o));
      same_hub = a.same_hub_back;
      same_hub_back = a.same_hub;
    }

-- a test of an open node
pub at_alike : (p q : List Event) → Alike p q → (t : Event → Bool) (n : ℕ) → is_open p n ≡ true → at t p n ≡ at t q n
at_alike p q a t n o = ap (λ x. option_map_or t x false) (a.same_made n o)

-- and of a node, together with its openness
pub at_open_alike : (p q : List Event) → Alike p q → (t : Event → Bool) (n : ℕ) → (at t p n && is_open p n) ≡ (at t q n && is_open q n)
at_open_alike p q a t n = search (rules, at_alike)

-- a test of hubs
pub at_hub_alike : (p q : List Event) → Alike p q → (t : Event → Bool) → ((e : Event) → t e ≡ true → (mode : Mode) × (e ≡ Hub mode)) → (n : ℕ) →
    at t p n ≡ true → at t q n ≡ true
at_hub_alike p q a t hubs_only n passes = search (rules, slice_get, option_map_or, false≢true)

-- parents and ancestors ---------------------------------------------------------------------------

pub parent_alike : (p q : List Event) → Alike p q → (n : ℕ) → is_open p n ≡ true → parent p n ≡ parent q n
unfolding parent
parent_alike p q a n o = ap (λ x. option_and_then (if_less n) (option_and_then parent_named x)) (a.same_made n o)

ancestors_below : (k : ℕ) (p q : List Event) → Alike p q → (n : ℕ) → n < k → is_open p n ≡ true → ancestors p n ≡ ancestors q n
ancestors_below zero p q a n l o = absurd (omega arith)
ancestors_below (suc k) p q a n l o = ancestors_step p n ∙
    ap (λ ns. n ∷ ns) (above (λ m less m_open. ancestors_below k p q a m (omega arith) m_open) (parent p n) refl) ∙
    ap (λ x. n ∷ option_map_or (ancestors q) x []) (parent_alike p q a n o) ∙ sym (ancestors_step q n)
  where
    above : ((m : ℕ) → m < n → is_open p m ≡ true → ancestors p m ≡ ancestors q m) → (x : Option ℕ) → parent p n ≡ x →
        option_map_or (ancestors p) x [] ≡ option_map_or (ancestors q) x []
    above further None below = refl
    above further (Some m) below = further m (parent-lt p n m below) (parent_open p n m o below)

pub ancestors_alike : (p q : List Event) → Alike p q → (n : ℕ) → is_open p n ≡ true → ancestors p n ≡ ancestors q n
ancestors_alike p q a n o = ancestors_below (suc n) p q a n (omega arith) o

pub within_alike : (p q : List Event) → Alike p q → (c n : ℕ) → is_open p n ≡ true → is_within p c n ≡ is_within q c n
within_alike p q a c n o = ap (list_any (λ x. c == x)) (ancestors_alike p q a n o)

-- lists of open nodes -------------------------------------------------------------------------------

filter_alike : (p q : List Event) → Alike p q → (s t : ℕ → Bool) → ((n : ℕ) → s n ≡ t n) → filter s (places p) ≡ filter t (places q)
filter_alike p q a s t same = (λ i. filter (λ n. same n i) (range_with_len 0 (a.same_length i)))

pub open_nodes_alike : (p q : List Event) → Alike p q → open_nodes p ≡ open_nodes q
open_nodes_alike p q a = filter_alike p q a (is_open p) (is_open q) a.same_open

pub subscribers_alike : (p q : List Event) → Alike p q → (g : ℕ) → open_subscribers p g ≡ open_subscribers q g
subscribers_alike p q a g = filter_alike p q a _ _ (at_open_alike p q a (is_subscriber_of g))

pub connections_alike : (p q : List Event) → Alike p q → (g : ℕ) → open_connections p g ≡ open_connections q g
connections_alike p q a g = filter_alike p q a _ _ (at_open_alike p q a (is_connect_of g))

-- a RefCount hub
pub auto_alike : (p q : List Event) → Alike p q → (g : ℕ) → at is_auto_hub p g ≡ true → at is_auto_hub q g ≡ true
auto_alike p q a = search (rules, at_hub_alike, false≢true)

-- a node without open children
pub childless_alike : (p q : List Event) → Alike p q → (f : ℕ) → ((c : ℕ) → parent p c ≡ Some f → is_open p c ≡ false) → (c : ℕ) → parent q c ≡ Some f →
    is_open q c ≡ false
childless_alike p q a f none c below = search (rules, false_from_ne_true, both_ways, parent_alike)

-- as trees with the same numbers ---------------------------------------------------------------------

-- events name parents before them
abbrev pub NamesBelow : List Event → Type 0
NamesBelow p = (n m : ℕ) (e : Event) → slice_get p n ≡ Some e → parent_named e ≡ Some m → m < n

tree_alike : (p q : List Event) → Alike p q → IsTreeRead (λ n. n) (λ n. n) p q
tree_alike p q a = search (rules, event_by_itself)

pub trees_alike : (p q : List Event) → Alike p q → NamesBelow p → AreTreesRead (λ n. n) (λ n. n) p q
trees_alike p q a below = search (rules, tree_alike, alike_back)

-- as histories with the same numbers
pub read_alike : {b c : Kept} {h k : List Event} → Alike h k → ((n : ℕ) → is_open h n ≡ true → marks_of c k n ≡ marks_of b h n) →
    ((n : ℕ) (t : Terminal) → is_open h n ≡ true → SourceEnded h n t → SourceEnded k n t) → IsRead b c (λ n. n) (λ n. n) h k
read_alike {h = h} {k = k} a marks ended = search (rules, tree_alike)

pub alike_read : {b c : Kept} {h k : List Event} → length h ≡ length k → IsRead b c (λ n. n) (λ n. n) h k → IsRead c b (λ n. n) (λ n. n) k h → Alike h k
alike_read {h = h} {k = k} long there back = record {
  same_length = long;
  same_open = λ n. same_test (is_open h n) (is_open k n) (there.alive n) (back.alive n);
  same_made = λ n o. let made = event_at h n (is_open_within h n o) in
      made.1 ∙ sym (there.made n made.0 o made.1 ∙ ap (λ (x : Event). Some x) (event_by_itself made.0));
  same_hub = there.hub;
  same_hub_back = back.hub;
}

pub alike_of : {b c : Kept} {h k : List Event} → Agree b h c k → Alike h k
alike_of a = alike_read a.same_length a.there a.back

stops_themselves : (ss : List Stop) → map (stop_by (λ n. n)) ss ≡ ss
stops_themselves [] = refl
stops_themselves (Delivery n ∷ ss) = ap (λ xs. Delivery n ∷ xs) (stops_themselves ss)
stops_themselves (Projection f ∷ ss) = ap (λ xs. Projection f ∷ xs) (stops_themselves ss)
stops_themselves (Firing u ∷ ss) = ap (λ xs. Firing u ∷ xs) (stops_themselves ss)

pub visits_alike : (p q : List Event) → Alike p q → NamesBelow p → (n : ℕ) → is_open p n ≡ true → visits p n ≡ visits q n
visits_alike p q a below n o = sym (visits_by (λ n. n) (λ n. n) p q (trees_alike p q a below) n o)

-- an item of an open leaf has the same stops
pub stops_alike : (p q : List Event) → Alike p q → NamesBelow p → (n : ℕ) → is_open p n ≡ true → stops p n ≡ stops q n
stops_alike p q a below n o = sym (stops_by (λ n. n) (λ n. n) p q (trees_alike p q a below) n o ∙ stops_themselves (stops p n))

-- an event's stops are the same
pub stops_of_alike : (b : Kept) (h k : List Event) (e : Event) → IsLawful b h → ((l : ℕ) (v : ℤ) → e ≡ Item l v → is_open h l ≡ true) → Alike h k →
    stops_of h e ≡ stops_of k e
stops_of_alike b h k (Item l v) law emits a = stops_alike h k a (named_below b h law) l (emits l v refl)
stops_of_alike b h k _ law emits a = refl
