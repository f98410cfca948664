-- Two histories that are the same but for their numbers, as far as what may come next can tell.
use Rattle.std.specs.Prelude.{◌≡◌, ◌+◌, ◌<◌}
use Rattle.rx_event.specs.Imports.{ℕ, Bool, true, false, Some, List, length, slice_get, count_by, IsTrue, Terminal, Place, Root, Source, Inner}
use Rattle.rx_event.specs.Imports.{Notifier, Kind, Leaf, Pass, Flat, Switch, Until, Sub, Mode, Event, Open, Hub, Connect, Accept, Use, Remove, Lease, Return}
use Rattle.rx_event.specs.Imports.{Item, Decline, End, Close, Take}
use Rattle.rx_event.specs.Kept.{Kept}
use Rattle.rx_event.specs.Events.{makes_node, makes_hub, makes_resource, makes_lease}
use Rattle.rx_event.specs.Tree.{at, is_open}
use Rattle.rx_event.specs.Resources.{is_owned, is_out, leases_of, is_held, is_taken, uses}
use Rattle.rx_event.specs.Notes.{notes_to}
use Rattle.rx_event.specs.Totals.{accepted_count, taken_count}
use Rattle.rx_event.specs.Forced.{SourceEnded}
use Rattle.rx_event.specs.Marks.{marks_of}
use Rattle.rx_event.specs.Lawful.{IsLawful}
use Rattle.rx_event.specs.Calls.{Opening, OpeningUsing, Holding, Applying, Removing, Leasing, GivingBack, Emitting, Ending, Aborting, Declining, Failing}
use Rattle.rx_event.specs.Calls.{Disposing, Publishing, Connecting, Disconnecting, Taking, Call}

-- with other numbers ------------------------------------------------------------------------------

abbrev pub place_by : (ℕ → ℕ) → Place → Place
place_by r Root = Root
place_by r (Source p) = Source (r p)
place_by r (Inner p) = Inner (r p)
place_by r (Notifier p) = Notifier (r p)

abbrev pub kind_by : (ℕ → ℕ) → Kind → Kind
kind_by r Leaf = Leaf
kind_by r Pass = Pass
kind_by r Flat = Flat
kind_by r Switch = Switch
kind_by r Until = Until
kind_by r (Sub g) = Sub (r g)

abbrev pub event_by : (ℕ → ℕ) → Event → Event
event_by r (Open place kind) = Open (place_by r place) (kind_by r kind)
event_by r (Hub mode) = Hub mode
event_by r (Connect g) = Connect (r g)
event_by r (Accept n tag) = Accept (r n) tag
event_by r (Use q) = Use (r q)
event_by r (Remove q) = Remove (r q)
event_by r (Lease q) = Lease (r q)
event_by r (Return l) = Return (r l)
event_by r (Item leaf value) = Item (r leaf) value
event_by r (Decline f) = Decline (r f)
event_by r (End n t) = End (r n) t
event_by r (Close n) = Close (r n)
event_by r (Take q) = Take (r q)

-- What is open in h, over the base b, is open in c, over d, by the number that r gives, made by the same event, and remembers the same; and s leads back
pub record IsRead (b d : Kept) (r s : ℕ → ℕ) (h c : List Event) : Type 0 where
  pub alive : (n : ℕ) → IsTrue (is_open h n) → IsTrue (is_open c (r n))
  pub undone : (n : ℕ) → IsTrue (is_open h n) → s (r n) ≡ n
  pub order : (m n : ℕ) → IsTrue (is_open h m) → IsTrue (is_open h n) → m < n → r m < r n
  pub made : (n : ℕ) (e : Event) → IsTrue (is_open h n) → slice_get h n ≡ Some e → slice_get c (r n) ≡ Some (event_by r e)
  pub marks : (n : ℕ) → IsTrue (is_open h n) → marks_of d c (r n) ≡ marks_of b h n
  pub hub : (g : ℕ) (mode : Mode) → slice_get h g ≡ Some (Hub mode) → slice_get c (r g) ≡ Some (Hub mode)
  pub hub_undone : (g : ℕ) (mode : Mode) → slice_get h g ≡ Some (Hub mode) → s (r g) ≡ g
  -- what ended the source of a subscriber
  pub ended : (n : ℕ) (t : Terminal) → IsTrue (is_open h n) → SourceEnded h n t → SourceEnded c (r n) t

-- and the other way round
pub record AreRead (b d : Kept) (r s : ℕ → ℕ) (h c : List Event) : Type 0 where
  pub law : IsLawful b h
  pub other_law : IsLawful d c
  pub there : IsRead b d r s h c
  pub back : IsRead d b s r c h

-- over one base
abbrev pub AreRenumbered : Kept → (ℕ → ℕ) → (ℕ → ℕ) → List Event → List Event → Type 0
AreRenumbered base r s h c = AreRead base base r s h c

-- what may be named later: a node, a hub, a resource, a lease
abbrev pub is_named : Event → Bool
is_named (Open place kind) = true
is_named (Hub mode) = true
is_named (Connect g) = true
is_named (Accept n tag) = true
is_named (Lease q) = true
is_named _ = false

-- All that was ever made in h was made in c, by the number that r gives: nodes were told the same, and resources and leases fared the same
pub record IsShown (base : Kept) (r s : ℕ → ℕ) (h c : List Event) : Type 0 where
  pub kept : (n : ℕ) (e : Event) → IsTrue (is_named e) → slice_get h n ≡ Some e → slice_get c (r n) ≡ Some (event_by r e)
  pub apart : (n : ℕ) → IsTrue (at is_named h n) → s (r n) ≡ n
  pub in_order : (m n : ℕ) → IsTrue (at is_named h m) → IsTrue (at is_named h n) → m < n → r m < r n
  pub told : (n : ℕ) → IsTrue (at makes_node h n) → notes_to c (r n) ≡ notes_to h n
  pub owned : (q : ℕ) → IsTrue (at makes_resource h q) → is_owned c (r q) ≡ is_owned h q
  pub leases : (q : ℕ) → IsTrue (at makes_resource h q) → leases_of c (r q) ≡ leases_of h q
  pub held : (q : ℕ) → IsTrue (at makes_resource h q) → is_held c (r q) ≡ is_held h q
  pub out : (l : ℕ) → IsTrue (at makes_lease h l) → is_out c (r l) ≡ is_out h l
  pub taken : (q : ℕ) → IsTrue (at makes_resource h q) → is_taken c (r q) ≡ is_taken h q
  pub used : (q : ℕ) → IsTrue (at makes_resource h q) → uses base c (r q) ≡ uses base h q
  pub node_total : count_by makes_node c ≡ count_by makes_node h
  pub accepted_total : accepted_count base c ≡ accepted_count base h
  pub taken_total : taken_count base c ≡ taken_count base h

-- The same but for numbers, in what may come next and in what reports show
pub record AreSameBy (base : Kept) (r s : ℕ → ℕ) (h c : List Event) : Type 0 where
  pub numbers : AreRenumbered base r s h c
  pub shown : IsShown base r s h c
  pub shown_back : IsShown base s r c h

pub record AreSame (base : Kept) (h c : List Event) : Type 0 where
  pub reads : ℕ → ℕ
  pub reads_back : ℕ → ℕ
  pub same : AreSameBy base reads reads_back h c

-- h went on to k, and c to j: what was made before has the numbers that r gives, and what was made since has them at the same distance
pub record AreSameSince (base : Kept) (r : ℕ → ℕ) (h c k j : List Event) : Type 0 where
  pub reads : ℕ → ℕ
  pub reads_back : ℕ → ℕ
  pub same : AreSameBy base reads reads_back k j
  pub older : (n : ℕ) → n < length h → reads n ≡ r n
  pub newest : (i : ℕ) → IsTrue (at is_named k (length h + i)) → reads (length h + i) ≡ length c + i

-- a call with other numbers
abbrev pub call_by : (ℕ → ℕ) → Call → Call
call_by r (Opening place kind) = Opening (place_by r place) (kind_by r kind)
call_by r (OpeningUsing place tag) = OpeningUsing (place_by r place) tag
call_by r (Holding n tag) = Holding (r n) tag
call_by r (Applying q) = Applying (r q)
call_by r (Removing q) = Removing (r q)
call_by r (Leasing q) = Leasing (r q)
call_by r (GivingBack l) = GivingBack (r l)
call_by r (Emitting l v) = Emitting (r l) v
call_by r (Ending l t) = Ending (r l) t
call_by r (Aborting n code) = Aborting (r n) code
call_by r (Declining f) = Declining (r f)
call_by r (Failing f code) = Failing (r f) code
call_by r (Disposing n) = Disposing (r n)
call_by r (Publishing mode) = Publishing mode
call_by r (Connecting g) = Connecting (r g)
call_by r (Disconnecting g) = Disconnecting (r g)
call_by r (Taking q) = Taking (r q)

-- a hub that is disconnected is there
abbrev pub IsKnown : List Event → Call → Type 0
IsKnown h (Disconnecting g) = IsTrue (at makes_hub h g)
IsKnown h _ = Unit {0}
