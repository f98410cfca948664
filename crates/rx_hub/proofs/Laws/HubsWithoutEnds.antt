-- Hubs that forgot how their connections ended are those of a history in which nothing ended, and which agrees.
use Rattle.rx_hub.proofs.Common.{◌≡◌, ℕ, zero, suc, map, true, false, List, [], ◌∷◌, slice_get, Option, Some, None, refl, sym, ap, subst, ◌∙◌, option_map_or}
use Rattle.rx_hub.proofs.Common.{false≢true, same_Some, none-some, Terminal, Event, End, makes_node, makes_hub, is_subscriber_of, at, is_open, Hub}
use Rattle.rx_hub.proofs.Common.{without_end, IsHubOf, HasHub, AreHubsOf}
use Rattle.rx_event.proofs.Laws.SameTree.{Alike, alike_back, at_alike, at_hub_alike, subscribers_alike, connections_alike}
use Rattle.rx_event.proofs.Laws.SameForcedAndAllowed.{hub_is}
use Rattle.std.proofs.Common.{rules}

-- the hubs one by one
pub forgot_get : (hubs : List Hub) (i : ℕ) (hub : Hub) → slice_get (map without_end hubs) i ≡ Some hub →
    (before : Hub) × (slice_get hubs i ≡ Some before) × (hub ≡ without_end before)
forgot_get [] zero hub at_i = absurd (none-some hub at_i)
forgot_get [] (suc i) hub at_i = absurd (none-some hub at_i)
forgot_get (h ∷ hubs) zero hub at_i = (h, refl, sym (same_Some (without_end h) hub at_i))
forgot_get (h ∷ hubs) (suc i) hub at_i = forgot_get hubs i hub at_i

pub forgot_there : (hubs : List Hub) (i : ℕ) (hub : Hub) → slice_get hubs i ≡ Some hub → slice_get (map without_end hubs) i ≡ Some (without_end hub)
forgot_there [] zero hub at_i = absurd (none-some hub at_i)
forgot_there [] (suc i) hub at_i = absurd (none-some hub at_i)
forgot_there (h ∷ hubs) zero hub at_i = ap (λ x. Some (without_end x)) (same_Some h hub at_i)
forgot_there (h ∷ hubs) (suc i) hub at_i = forgot_there hubs i hub at_i

-- a subscriber is a node
subscriber_makes : (g : ℕ) (e : Event) → is_subscriber_of g e ≡ true → makes_node e ≡ true
subscriber_makes g x1 is = search (rules, false≢true)

-- in k each node is open, and nothing ended
pub forgotten_hubs : (h k : List Event) (hubs : List Hub) → Alike h k →
    ((n : ℕ) (e : Event) → slice_get k n ≡ Some e → makes_node e ≡ true → is_open k n ≡ true) →
    ((i n : ℕ) (t : Terminal) → slice_get k i ≡ Some (End n t) → ⊥) → AreHubsOf h hubs → AreHubsOf k (map without_end hubs)
forgotten_hubs h k hubs a alive endless are =
    record {
      each = λ i hub at_i. let before = forgot_get hubs i hub at_i in subst (IsHubOf k) (sym before.2) (one before.0 (are.each i before.0 before.1));
      every = λ g makes. still g (are.every g (at_hub_alike k h (alike_back h k a) makes_hub hub_is g makes));
      subscribed = λ g s is. still g (are.subscribed g s (subscribes g s is));
    }
  where
    one : (hub : Hub) → IsHubOf h hub → IsHubOf k (without_end hub)
    one hub is =
        record {
          made = a.same_hub hub.number hub.mode is.made;
          subscribers = is.subscribers ∙ subscribers_alike h k a hub.number;
          connection = is.connection ∙ connections_alike h k a hub.number;
          ended = tt;
          latest = λ c place t connects ended. absurd (endless place c t ended);
        }

    still : (g : ℕ) → HasHub hubs g → HasHub (map without_end hubs) g
    still g has = record { index = has.index; hub = without_end has.hub; there = forgot_there hubs has.index has.hub has.there; numbered = has.numbered }

    subscribes : (g s : ℕ) → at (is_subscriber_of g) k s ≡ true → at (is_subscriber_of g) h s ≡ true
    subscribes g s is = sym (at_alike k h (alike_back h k a) (is_subscriber_of g) s (opened (slice_get k s) refl is)) ∙ is where
      opened : (o : Option Event) → slice_get k s ≡ o → option_map_or (is_subscriber_of g) o false ≡ true → is_open k s ≡ true
      opened None at_s passes = absurd (false≢true passes)
      opened (Some e) at_s passes = alive s e at_s (subscriber_makes g e passes)
