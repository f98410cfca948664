-- What a scenario says, with names as their bytes.
use Rattle.std.specs.Prelude.{ℕ, ℤ, List, [], ◌∷◌, ◌++◌, Option, option_map, map, string_bytes, String}
use Rattle.std.specs.declared.alloc.Global.{Global}
use Rattle.rx_note.specs.declared.note.Terminal.{Terminal}
use Rattle.rx_event.specs.declared.event.Mode.{Mode}
use Rattle.rx_scenario.specs.declared.scenario.Site.{Site as SiteInCode}
use Rattle.rx_scenario.specs.declared.scenario.Site.TheVariants.{Root, Source, Inner, Notifier}
use Rattle.rx_scenario.specs.declared.scenario.Sort.{Sort as SortInCode}
use Rattle.rx_scenario.specs.declared.scenario.Sort.TheVariants.{Leaf, Pass, Flat, Switch, Until, Sub}
use Rattle.rx_scenario.specs.declared.scenario.Command.{Command as CommandInCode}
use Rattle.rx_scenario.specs.declared.scenario.Command.TheVariants.{Using, Open, Hold, Apply, Remove, Lease, Return, Next, End, Abort}
use Rattle.rx_scenario.specs.declared.scenario.Command.TheVariants.{Decline, Fail, Dispose, Hub, Connect, Disconnect, Drain, Checkpoint}
use Rattle.rx_scenario.specs.declared.scenario.Action.{Action as ActionInCode}
use Rattle.rx_scenario.specs.declared.scenario.Action.TheVariants.{Command as CommandThere, Cancel}
use Rattle.rx_scenario.specs.declared.scenario.Step.{Step as StepInCode, fold-Step}
use Rattle.rx_scenario.specs.declared.scenario.Step.TheOpen.{Step-F}
use Rattle.rx_scenario.specs.declared.scenario.Scenario.{Scenario}

-- a name, as its bytes
abbrev pub Name : Type 0
Name = List ℕ

-- where a node is to be opened
pub data Site : Type 0 where
  root : Site
  source : Name → Site
  inner : Name → Site
  notifier : Name → Site

-- what a node does that is to be opened; a subscriber goes by the name of its hub, and by one for the connection that its
-- opening makes, where it has one
pub data Sort : Type 0 where
  leaf : Sort
  pass : Sort
  flat : Sort
  switch : Sort
  until : Sort
  sub : (hub : Name) → (connection : Option Name) → Sort

-- what is done with the book
pub data Command : Type 0 where
  using : (name : Name) → Site → (res : Name) → Command
  open_node : (name : Name) → Site → Sort → Command
  hold : (node res : Name) → Command
  apply : (res : Name) → (word : ℕ) → Command
  remove : (res : Name) → Command
  lease : (res name : Name) → Command
  give_back : (lease : Name) → Command
  next : (node : Name) → (value : ℤ) → Command
  end : (node : Name) → Terminal → Command
  abort : (node : Name) → (code : ℕ) → Command
  decline : (node : Name) → Command
  fail : (node : Name) → (code : ℕ) → Command
  dispose : (node : Name) → Command
  make_hub : (name : Name) → Mode → Command
  connect : (hub : Name) → (name : Option Name) → Command
  disconnect : (hub : Name) → Command
  drain : Command
  checkpoint : Command

-- what a step does: a command of the book, or it takes the waiting step that has this label off the timeline
pub data Action : Type 0 where
  command : Command → Action
  cancel : (label : Name) → Action

-- steps in order, each with those that follow it
pub data StepList : Type 0 where
  no_steps : StepList
  one_more : (label : Option Name) → (delay : Option ℕ) → Action → (followers : StepList) → (others : StepList) → StepList

-- a step: its label; how long after the step that it follows, or after the beginning, it is due, where it waits at all; what it
-- does; and the steps that follow it once it is accepted
pub record Step : Type 0 where
  pub label : Option Name
  pub delay : Option ℕ
  pub action : Action
  pub followers : StepList

-- steps as a list, and back
abbrev pub list_of : StepList → List Step
list_of no_steps = []
list_of (one_more label delay action followers others) = record { label = label; delay = delay; action = action; followers = followers } ∷ list_of others

abbrev pub steps_of : List Step → StepList
steps_of [] = no_steps
steps_of (s ∷ ss) = one_more s.label s.delay s.action s.followers (steps_of ss)

-- the label of each of these steps and of each that follows it, in the order of the text; None where a step has no label
abbrev pub labels_in : StepList → List (Option Name)
labels_in no_steps = []
labels_in (one_more label delay action followers others) = label ∷ labels_in followers ++ labels_in others

-- of one step and those that follow it
abbrev pub labels_of : Step → List (Option Name)
labels_of s = s.label ∷ labels_in s.followers

-- the steps that wait from the beginning, in order, how many events there may be, and when time ends
pub record Script : Type 0 where
  pub steps : List Step
  pub events : ℕ
  pub until : ℕ

-- what the code's values stand for
abbrev pub site_of : SiteInCode → Site
site_of Root = root
site_of (Source n) = source (string_bytes n)
site_of (Inner n) = inner (string_bytes n)
site_of (Notifier n) = notifier (string_bytes n)

abbrev pub sort_of : SortInCode → Sort
sort_of Leaf = leaf
sort_of Pass = pass
sort_of Flat = flat
sort_of Switch = switch
sort_of Until = until
sort_of (Sub h c) = sub (string_bytes h) (option_map string_bytes c)

abbrev pub command_of : CommandInCode → Command
command_of (Using n s r) = using (string_bytes n) (site_of s) (string_bytes r)
command_of (Open n s k) = open_node (string_bytes n) (site_of s) (sort_of k)
command_of (Hold n r) = hold (string_bytes n) (string_bytes r)
command_of (Apply r w) = apply (string_bytes r) w
command_of (Remove r) = remove (string_bytes r)
command_of (Lease r n) = lease (string_bytes r) (string_bytes n)
command_of (Return l) = give_back (string_bytes l)
command_of (Next n v) = next (string_bytes n) v
command_of (End n t) = end (string_bytes n) t
command_of (Abort n c) = abort (string_bytes n) c
command_of (Decline n) = decline (string_bytes n)
command_of (Fail n c) = fail (string_bytes n) c
command_of (Dispose n) = dispose (string_bytes n)
command_of (Hub n m) = make_hub (string_bytes n) m
command_of (Connect h n) = connect (string_bytes h) (option_map string_bytes n)
command_of (Disconnect h) = disconnect (string_bytes h)
command_of Drain = drain
command_of Checkpoint = checkpoint

abbrev pub action_of : ActionInCode → Action
action_of (CommandThere c) = command (command_of c)
action_of (Cancel n) = cancel (string_bytes n)

abbrev pub step_in_front : Step-F Step → Step
step_in_front s = record { label = option_map string_bytes s.label; delay = s.delay; action = action_of s.action; followers = steps_of s.then.items }

abbrev pub step_of : StepInCode → Step
step_of = fold-Step Step step_in_front

abbrev pub labels_meant : List (Option (String Global)) → List (Option Name)
labels_meant labels = map (option_map string_bytes) labels

abbrev pub script_of : Scenario → Script
script_of s = record { steps = map step_of s.steps.items; events = s.events; until = s.until }
