-- The hubs' records with their lists, and what of them callers see. No public clause cites this module.
use Rattle.std.specs.Prelude.{◌≡◌, ℕ, ◌<◌, ◌≤◌, List, map, length, None, slice_index_or}
use Rattle.std.specs.List.{range_with_len}
use Rattle.rx_event.specs.declared.event.Mode.TheVariants.{Manual}
use Rattle.rx_slots.specs.declared.Key.{Key}
use Rattle.rx_hub.specs.declared.hub.Published.{Published}
use Rattle.rx_hub.specs.Hubs.{Hub, Hubs, hub_of, Rises}
use Rattle.rx_slots.specs.Lists.{Lists, list_at}

-- what is read past the last hub
abbrev pub no_hub : Published
no_hub = record { number = 0; mode = Manual; connection = None; last_end = None }

abbrev pub record_at : List Published → ℕ → Published
record_at records i = slice_index_or records i no_hub

-- the key of the subscriber at a slot
abbrev pub key_in : List ℕ → ℕ → Key
key_in numbers slot = record { slot = slot; number = slice_index_or numbers slot 0 }

abbrev pub keys_at : Lists → List ℕ → ℕ → List Key
keys_at lists numbers i = map (key_in numbers) (list_at lists i)

abbrev pub hub_in : List Published → Lists → List ℕ → ℕ → Hub
hub_in records lists numbers i = hub_of (record_at records i) (keys_at lists numbers i)

abbrev pub hubs_in : List Published → Lists → List ℕ → List Hub
hubs_in records lists numbers = map (hub_in records lists numbers) (range_with_len 0 (length records))

abbrev pub store_in : List Published → Lists → List ℕ → ℕ → Hubs
store_in records lists numbers room = record { hubs = hubs_in records lists numbers; room = room; slots = lists.members }

-- how the records, the lists of subscribers and the numbers at their slots stand to each other
pub record IsKept (records : List Published) (lists : Lists) (numbers : List ℕ) : Type 0 where
  pub rising : (i j : ℕ) → i < j → j < length records → (record_at records i).number < (record_at records j).number
  pub rises : (i : ℕ) → Rises (keys_at lists numbers i)
  pub listed : length lists.lists ≡ length records
  pub slots : lists.members ≤ length numbers
