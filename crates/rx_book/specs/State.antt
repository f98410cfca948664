-- What a book is to its callers.
use Rattle.std.specs.Prelude.{◌≡◌, ℕ, ◌+◌, ◌<◌, ◌≤◌, Bool, nat_lt, ◌&&◌, ◌==◌, Option, Some, None, List, length, map, IsTrue}
use Rattle.std.proofs.Math.Bool.{not}
use Rattle.std.specs.List.{All, Contains, list_any}
use Rattle.std.specs.Option.{option_and_then}
use Rattle.rx_note.specs.Notes.{IsGrammatical}
use Rattle.rx_resource.specs.declared.Life.TheVariants.{Live}
use Rattle.rx_event.specs.declared.event.Event.{Event}
use Rattle.rx_event.specs.declared.event.Event.TheVariants.{Accept}
use Rattle.rx_event.specs.Kept.{Kept}
use Rattle.rx_event.specs.Events.{is_auto_hub, makes_resource, is_take_of}
use Rattle.rx_event.specs.Tree.{at, is_open, open_subscribers, open_connections}
use Rattle.rx_event.specs.Resources.{is_out, is_held, is_waiting, accepted_by, uses}
use Rattle.rx_event.specs.Notes.{notes, notes_to}
use Rattle.rx_event.specs.Totals.{debt, item_count, accepted_count, taken_count}
use Rattle.rx_event.specs.Lawful.{IsLawful}
use Rattle.rx_event.specs.Gone.{AreJust}
use Rattle.rx_event.specs.Forced.{IsSettled}
use Rattle.rx_event.specs.Causes.{has_connection}
use Rattle.rx_register.specs.State.{greatest_limit}
use Rattle.rx_ground.specs.Shown.{Label}
use Rattle.rx_slots.specs.declared.Key.{Key}
use Rattle.rx_tree.specs.declared.node.ResKey.{ResKey}
use Rattle.rx_ground.specs.declared.leases.LeaseKey.{LeaseKey}

-- a book: what a checkpoint kept, the history as one list with it, the limit on the events since, the keys of the open nodes, of the
-- held resources and of the leases out, the resources held and those waiting, how many notes were handed out, and the keys of the
-- nodes that the last call closed which was accepted, in the order in which it closed them
pub record State : Type 0 where
  pub base : Kept
  pub history : List Event
  pub limit : ℕ
  pub keys : List Key
  pub res_keys : List ResKey
  pub lease_keys : List LeaseKey
  pub held : List Label
  pub waiting : List Label
  pub given : ℕ
  pub closed : List Key

abbrev pub has_key : List Key → Key → Bool
has_key keys k = list_any (λ j. j.slot == k.slot && j.number == k.number) keys

abbrev pub has_res_key : List ResKey → ResKey → Bool
has_res_key keys k = list_any (λ j. j.slot == k.slot && j.number == k.number) keys

abbrev pub has_lease_key : List LeaseKey → LeaseKey → Bool
has_lease_key keys k = list_any (λ j. j.slot == k.slot && j.number == k.number) keys

-- the tag that the event accepts a resource with
abbrev pub accepted_tag : Event → Option ℕ
accepted_tag (Accept node tag) = Some tag
accepted_tag _ = None

-- the resource is live, and has the tag of its acceptance and the uses of the history
pub record IsLabelOf (base : Kept) (h : List Event) (l : Label) : Type 0 where
  pub live : l.life ≡ Live
  pub tag : option_and_then accepted_tag (accepted_by base h l.number) ≡ Some l.tag
  pub uses : l.uses ≡ uses base h l.number

-- accepted, and not taken yet
unfoldable pub is_kept : List Event → ℕ → Bool
is_kept h r = at makes_resource h r && not (list_any (is_take_of r) h)

-- the hub has an open subscriber
abbrev pub has_subscriber : List Event → ℕ → Bool
has_subscriber h g = nat_lt 0 (length (open_subscribers h g))

-- what every book promises at each moment: the resources that it holds are exactly those that its stored lawful history leaves
-- held, those waiting are exactly the ones closed or removed and not yet taken, each live and in one place, no operator's rule is
-- left undone, a RefCount hub is connected exactly while it has a subscriber and no hub by two connections, and what each observer
-- is told obeys the Observable Contract's grammar
pub record IsPromised (s : State) : Type 0 where
  pub lawful : IsLawful s.base s.history
  pub settled : IsSettled s.base s.history
  pub shared : (g : ℕ) → IsTrue (at is_auto_hub s.history g) → has_connection s.history g ≡ has_subscriber s.history g
  pub one_connection : (g : ℕ) → length (open_connections s.history g) ≤ 1
  pub keys : AreJust (is_open s.history) (map (λ k. k.number) s.keys)
  pub res_keys : AreJust (is_held s.history) (map (λ k. k.number) s.res_keys)
  pub lease_keys : AreJust (is_out s.history) (map (λ k. k.number) s.lease_keys)
  pub held : AreJust (is_held s.history) (map (λ l. l.number) s.held)
  pub waiting : AreJust (is_waiting s.history) (map (λ l. l.number) s.waiting)
  pub held_labels : All (IsLabelOf s.base s.history) s.held
  pub waiting_labels : All (IsLabelOf s.base s.history) s.waiting
  pub few_items : item_count s.base s.history ≤ length s.history
  pub few_accepted : accepted_count s.base s.history ≤ length s.history
  pub few_taken : taken_count s.base s.history ≤ length s.history
  pub in_one_place : accepted_count s.base s.history ≡ length s.held + length s.waiting + taken_count s.base s.history
  pub begun : s.base.at_length ≤ length s.history
  pub placed : s.base.at_length ≤ 9223372036854775807
  pub room : length s.history + debt s.base s.history ≤ s.base.at_length + s.limit
  pub limited : s.limit ≤ greatest_limit
  pub given : s.given ≤ length (notes s.history)
  pub in_order : (n : ℕ) → IsGrammatical (notes_to s.history n)

-- a book went on: its base, its limit and the notes handed out are as before, and so are the keys of all that is still there
pub record Continues (old new : State) : Type 0 where
  pub base : new.base ≡ old.base
  pub limit : new.limit ≡ old.limit
  pub given : new.given ≡ old.given
  pub longer : length old.history ≤ length new.history
  pub keys : (k : Key) → Contains new.keys k → k.number < length old.history → Contains old.keys k
  pub res_keys : (k : ResKey) → Contains new.res_keys k → k.number < length old.history → Contains old.res_keys k
  pub lease_keys : (k : LeaseKey) → Contains new.lease_keys k → k.number < length old.history → Contains old.lease_keys k
