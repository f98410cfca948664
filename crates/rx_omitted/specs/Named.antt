-- What an event names, and what a call names: places of a history.
use Rattle.std.specs.Prelude.{◌≡◌, ◌∷◌, ◌++◌}
use Rattle.rx_omitted.specs.Imports.{ℕ, Bool, false, List, [], AllByRecursion, Place, Root, Source, Inner, Notifier, Kind, Sub, Event, Open, Hub, Connect}
use Rattle.rx_omitted.specs.Imports.{Accept, Use, Remove, Lease, Return, Item, Decline, End, Close, Take}
use Rattle.rx_event.specs.Calls.{Call, Opening, OpeningUsing, Holding, Applying, Removing, Leasing, GivingBack, Emitting, Ending, Aborting, Declining}
use Rattle.rx_event.specs.Calls.{Failing, Disposing, Publishing, Connecting, Disconnecting, Taking}

abbrev pub named_in_place : Place → List ℕ
named_in_place Root = []
named_in_place (Source p) = p ∷ []
named_in_place (Inner p) = p ∷ []
named_in_place (Notifier p) = p ∷ []

abbrev pub named_in_kind : Kind → List ℕ
named_in_kind (Sub g) = g ∷ []
named_in_kind _ = []

abbrev pub named_in : Event → List ℕ
named_in (Open place kind) = named_in_place place ++ named_in_kind kind
named_in (Hub mode) = []
named_in (Connect g) = g ∷ []
named_in (Accept n tag) = n ∷ []
named_in (Use r) = r ∷ []
named_in (Remove r) = r ∷ []
named_in (Lease r) = r ∷ []
named_in (Return l) = l ∷ []
named_in (Item leaf value) = leaf ∷ []
named_in (Decline f) = f ∷ []
named_in (End n t) = n ∷ []
named_in (Close n) = n ∷ []
named_in (Take r) = r ∷ []

abbrev pub named_in_call : Call → List ℕ
named_in_call (Opening place kind) = named_in_place place ++ named_in_kind kind
named_in_call (OpeningUsing place tag) = named_in_place place
named_in_call (Holding n tag) = n ∷ []
named_in_call (Applying r) = r ∷ []
named_in_call (Removing r) = r ∷ []
named_in_call (Leasing r) = r ∷ []
named_in_call (GivingBack l) = l ∷ []
named_in_call (Emitting leaf value) = leaf ∷ []
named_in_call (Ending leaf t) = leaf ∷ []
named_in_call (Aborting n code) = n ∷ []
named_in_call (Declining f) = f ∷ []
named_in_call (Failing f code) = f ∷ []
named_in_call (Disposing root) = root ∷ []
named_in_call (Publishing mode) = []
named_in_call (Connecting g) = g ∷ []
named_in_call (Disconnecting g) = g ∷ []
named_in_call (Taking r) = r ∷ []

-- none of these places is left out
abbrev pub Stay_all : (ℕ → Bool) → List ℕ → Type 0
Stay_all omit ns = AllByRecursion (λ n. omit n ≡ false) ns
