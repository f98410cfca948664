-- The record of a node with its links, and how it keeps their places and what made the node. No public clause cites this
-- module.
use Rattle.std.specs.Prelude.{ℕ, Option, Some, None}
use Rattle.std.specs.Option.{option_map_or}
use Rattle.rx_event.specs.declared.event.Event.{Event}
use Rattle.rx_event.specs.declared.event.Event.TheVariants.{Open, Connect}
use Rattle.rx_event.specs.declared.event.Kind.TheVariants.{Leaf, Pass, Flat, Switch, Until, Sub}
use Rattle.rx_event.specs.declared.event.Place.{Place as At}
use Rattle.rx_event.specs.declared.event.Place.TheVariants.{Root, Source, Inner, Notifier}
use Rattle.rx_event.specs.Marks.{Marks}
use Rattle.rx_slots.specs.declared.Key.{Key}
use Rattle.rx_tree.specs.declared.links.Link.{Link}
use Rattle.rx_tree.specs.declared.node.Node.{Node}
use Rattle.rx_tree.specs.declared.made.KindWord.{KindWord}
use Rattle.rx_tree.specs.declared.made.Made.{Made}
use Rattle.rx_tree.specs.declared.made.PlaceWord.{PlaceWord}
use Rattle.rx_tree.specs.declared.counts.Counts.{Counts}

-- what made a node, and where, without the numbers in it
abbrev pub place_word : Event → PlaceWord
place_word (Open Root kind) = PlaceWord.Root
place_word (Open (Source n) kind) = PlaceWord.Source
place_word (Open (Inner n) kind) = PlaceWord.Inner
place_word (Open (Notifier n) kind) = PlaceWord.Notifier
place_word _ = PlaceWord.Root

abbrev pub kind_word : Event → KindWord
kind_word (Open place Leaf) = KindWord.Leaf
kind_word (Open place Pass) = KindWord.Pass
kind_word (Open place Flat) = KindWord.Flat
kind_word (Open place Switch) = KindWord.Switch
kind_word (Open place Until) = KindWord.Until
kind_word (Open place (Sub hub)) = KindWord.Sub
kind_word _ = KindWord.Connect

abbrev pub hub_in : Event → ℕ
hub_in (Open place (Sub hub)) = hub
hub_in (Connect hub) = hub
hub_in _ = 0

-- what made a node as its record keeps it, with what it stands below
abbrev pub words_of : Event → Option Key → Made
words_of made above =
    record {
      above = option_map_or (λ key. key.number) above 0;
      hub = hub_in made;
      slot = option_map_or (λ key. key.slot) above 0;
      place = place_word made;
      kind = kind_word made;
    }

-- and what the words and the numbers tell
abbrev pub place_at : PlaceWord → ℕ → At
place_at PlaceWord.Root n = Root
place_at PlaceWord.Source n = Source n
place_at PlaceWord.Inner n = Inner n
place_at PlaceWord.Notifier n = Notifier n

abbrev pub made_of : PlaceWord → KindWord → Made → Event
made_of place KindWord.Leaf o = Open (place_at place o.above) Leaf
made_of place KindWord.Pass o = Open (place_at place o.above) Pass
made_of place KindWord.Flat o = Open (place_at place o.above) Flat
made_of place KindWord.Switch o = Open (place_at place o.above) Switch
made_of place KindWord.Until o = Open (place_at place o.above) Until
made_of place KindWord.Sub o = Open (place_at place o.above) (Sub o.hub)
made_of place KindWord.Connect o = Connect o.hub

abbrev pub above_of : PlaceWord → Made → Option Key
above_of PlaceWord.Root o = None
above_of PlaceWord.Source o = Some (record { slot = o.slot; number = o.above })
above_of PlaceWord.Inner o = Some (record { slot = o.slot; number = o.above })
above_of PlaceWord.Notifier o = Some (record { slot = o.slot; number = o.above })

abbrev pub node_of : PlaceWord → KindWord → Made → Marks → Node
node_of place kind o marks = record { made = made_of place kind o; above = above_of place o; marks = marks }

-- the node of what is kept of it
abbrev pub node_in : Made → Marks → Node
node_in o marks = node_of o.place o.kind o marks

-- a node's record, its links, and how many resources it owns
pub record LinkedNode : Type 0 where
  pub node : Node
  pub sibling : Link
  pub noted : Link
  pub children : Link
  pub held : Link
  pub held_count : Counts
