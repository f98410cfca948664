-- Whether two events are the same, as a test.
use Rattle.std.specs.Prelude.{◌&&◌, ◌==◌}
use Rattle.rx_event.specs.Imports.{Bool, true, false, Terminal, Completed, Error, Place, Root, Source, Inner, Notifier, Kind, Leaf, Pass, Flat}
use Rattle.rx_event.specs.Imports.{Switch, Until, Sub, Mode, Auto, Manual, Event, Open, Hub, Connect, Accept, Use, Remove, Lease, Return, Item, Decline, End}
use Rattle.rx_event.specs.Imports.{Close, Take}
use Rattle.std.specs.Ordering.{int_eq}

abbrev pub same_terminal : Terminal → Terminal → Bool
same_terminal Completed Completed = true
same_terminal (Error c) (Error d) = c == d
same_terminal _ _ = false

abbrev pub same_place : Place → Place → Bool
same_place Root Root = true
same_place (Source p) (Source q) = p == q
same_place (Inner p) (Inner q) = p == q
same_place (Notifier p) (Notifier q) = p == q
same_place _ _ = false

abbrev pub same_kind : Kind → Kind → Bool
same_kind Leaf Leaf = true
same_kind Pass Pass = true
same_kind Flat Flat = true
same_kind Switch Switch = true
same_kind Until Until = true
same_kind (Sub g) (Sub h) = g == h
same_kind _ _ = false

abbrev pub same_mode : Mode → Mode → Bool
same_mode Auto Auto = true
same_mode Manual Manual = true
same_mode _ _ = false

abbrev pub same_event : Event → Event → Bool
same_event (Open p k) (Open q j) = same_place p q && same_kind k j
same_event (Hub m) (Hub n) = same_mode m n
same_event (Connect g) (Connect h) = g == h
same_event (Accept n t) (Accept m u) = n == m && t == u
same_event (Use r) (Use q) = r == q
same_event (Remove r) (Remove q) = r == q
same_event (Lease r) (Lease q) = r == q
same_event (Return l) (Return m) = l == m
same_event (Item l v) (Item m w) = l == m && int_eq v w
same_event (Decline f) (Decline g) = f == g
same_event (End n t) (End m u) = n == m && same_terminal t u
same_event (Close n) (Close m) = n == m
same_event (Take r) (Take q) = r == q
same_event _ _ = false
