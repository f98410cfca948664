-- The scenario that a JSON value is.
use Rattle.std.specs.Prelude.{ℕ, zero, suc, ◌&&◌, ◌||◌, not, ◌==◌, ◌^◌, ℤ, List, [], ◌∷◌, length, codes, Bool, true}
use Rattle.std.specs.Prelude.{false, nat_lt, nat_le, is_some, if◌then◌else◌, Option, Some, None, option_map, option_and_then}
use Rattle.std.specs.Str.{bytes_eq}
use Rattle.std.specs.List.{list_all, list_any}
use Rattle.serde_json.specs.Data.{Data, null, boolean, number, string, array, object, Items, no_items, item, Members, no_members, member}
use Rattle.serde_json.specs.Find.{get, as_str, as_number, as_u64, as_i64, as_array}
use Rattle.rx_note.specs.declared.note.Terminal.{Terminal}
use Rattle.rx_note.specs.declared.note.Terminal.TheVariants.{Completed, Error}
use Rattle.rx_event.specs.declared.event.Mode.{Mode}
use Rattle.rx_event.specs.declared.event.Mode.TheVariants.{Auto, Manual}
use Rattle.rx_scenario.specs.Scenario.{Name, Site, root, source, inner, notifier, Sort, leaf, pass, flat, switch, until, sub, Command, using}
use Rattle.rx_scenario.specs.Scenario.{open_node, hold, apply, remove, lease, give_back, next, end, abort, decline, fail, dispose, make_hub}
use Rattle.rx_scenario.specs.Scenario.{connect, disconnect, drain, checkpoint, Action, command, cancel, Step, no_steps, steps_of, labels_in, Script}

-- members -----------------------------------------------------------------------------------------

abbrev pub keys : Members → List (List ℕ)
keys no_members = []
keys (member k d ms) = k ∷ keys ms

unfoldable pub is_one_of : List (List ℕ) → List ℕ → Bool
is_one_of names k = list_any (λ n. bytes_eq n k) names

-- no member has another name
unfoldable pub has_only : List (List ℕ) → Members → Bool
has_only names ms = list_all (is_one_of names) (keys ms)

-- an object with no member of another name
abbrev pub is_object_of : List (List ℕ) → Data → Bool
is_object_of names null = false
is_object_of names (boolean b) = false
is_object_of names (number n) = false
is_object_of names (string s) = false
is_object_of names (array ds) = false
is_object_of names (object ms) = has_only names ms

-- the members that every step may have
abbrev pub is_of_steps : List ℕ → Bool
is_of_steps k = is_one_of (codes "do" ∷ codes "label" ∷ codes "at" ∷ codes "after" ∷ codes "then" ∷ []) k

unfoldable pub has_only_steps : List (List ℕ) → Members → Bool
has_only_steps names ms = list_all (λ k. is_of_steps k || is_one_of names k) (keys ms)

-- an object with no member but these and those that every step may have
abbrev pub is_step_of : List (List ℕ) → Data → Bool
is_step_of names null = false
is_step_of names (boolean b) = false
is_step_of names (number n) = false
is_step_of names (string s) = false
is_step_of names (array ds) = false
is_step_of names (object ms) = has_only_steps names ms

-- names and numbers -------------------------------------------------------------------------------

-- a letter, a digit, `-` or `_`
unfoldable pub is_name_byte : ℕ → Bool
is_name_byte b = (nat_le 48 b && nat_le b 57) || (nat_le 65 b && nat_le b 90) || (nat_le 97 b && nat_le b 122) || (b == 45) || (b == 95)

-- 1 to 32 of them
unfoldable pub is_name_text : List ℕ → Bool
is_name_text s = nat_le 1 (length s) && nat_le (length s) 32 && list_all is_name_byte s

abbrev pub if_name : List ℕ → Option Name
if_name s = if is_name_text s then Some s else None

-- the name at a key
unfoldable pub name_in : List ℕ → Data → Option Name
name_in k d = option_and_then if_name (option_and_then as_str (get k d))

abbrev pub name_or_none : Option Data → Option (Option Name)
name_or_none None = Some None
name_or_none (Some d) = option_map Some (option_and_then if_name (as_str d))

-- the name at a key, if the member is there
unfoldable pub optional_name_in : List ℕ → Data → Option (Option Name)
optional_name_in k d = name_or_none (get k d)

-- the item
unfoldable pub value_in : Data → Option ℤ
value_in d = option_and_then as_i64 (option_and_then as_number (get (codes "value") d))

-- the word
unfoldable pub word_in : Data → Option ℕ
word_in d = option_and_then as_u64 (option_and_then as_number (get (codes "word") d))

-- an error's code fits 32 bits
abbrev pub if_code : ℕ → Option ℕ
if_code n = if nat_lt n (2 ^ 32) then Some n else None

-- the error
unfoldable pub code_in : Data → Option ℕ
code_in d = option_and_then if_code (option_and_then as_u64 (option_and_then as_number (get (codes "error") d)))

abbrev pub terminal_or : Option Data → Option Terminal
terminal_or None = Some Completed
terminal_or (Some d) = option_map Error (option_and_then if_code (option_and_then as_u64 (as_number d)))

-- the error, if the member is there, else a completion
unfoldable pub terminal_in : Data → Option Terminal
terminal_in d = terminal_or (get (codes "error") d)

-- places, kinds and modes -------------------------------------------------------------------------

-- a root stands below no node
abbrev pub root_in : Data → Option Site
root_in d = if is_some (get (codes "of") d) then None else Some root

-- any other stands below the node of this name
unfoldable pub site_below : List ℕ → Name → Option Site
site_below place above =
    if bytes_eq place (codes "source") then Some (source above)
    else if bytes_eq place (codes "inner") then Some (inner above)
    else if bytes_eq place (codes "notifier") then Some (notifier above)
    else None

unfoldable pub site_by : List ℕ → Data → Option Site
site_by place d =
    if bytes_eq place (codes "root") then root_in d
    else option_and_then (site_below place) (name_in (codes "of") d)

unfoldable pub site_in : Data → Option Site
site_in d = option_and_then (λ place. site_by place d) (option_and_then as_str (get (codes "place") d))

-- the kinds that name no hub
unfoldable pub plain_by : List ℕ → Option Sort
plain_by kind =
    if bytes_eq kind (codes "leaf") then Some leaf
    else if bytes_eq kind (codes "pass") then Some pass
    else if bytes_eq kind (codes "flat") then Some flat
    else if bytes_eq kind (codes "switch") then Some switch
    else if bytes_eq kind (codes "until") then Some until
    else None

-- a subscriber has a hub, and may have a connection
unfoldable pub sub_in : Data → Option Sort
sub_in d = option_and_then (λ h. option_map (sub h) (optional_name_in (codes "connection") d)) (name_in (codes "hub") d)

-- every other node has neither
unfoldable pub sort_by_kind : List ℕ → Data → Option Sort
sort_by_kind kind d =
    if bytes_eq kind (codes "sub") then sub_in d
    else if is_some (get (codes "hub") d) || is_some (get (codes "connection") d) then None
    else plain_by kind

unfoldable pub kind_in : Data → Option Sort
kind_in d = option_and_then (λ kind. sort_by_kind kind d) (option_and_then as_str (get (codes "kind") d))

unfoldable pub mode_by : List ℕ → Option Mode
mode_by mode =
    if bytes_eq mode (codes "auto") then Some Auto
    else if bytes_eq mode (codes "manual") then Some Manual
    else None

-- how a hub is connected
unfoldable pub mode_in : Data → Option Mode
mode_in d = option_and_then mode_by (option_and_then as_str (get (codes "mode") d))

-- commands ----------------------------------------------------------------------------------------

unfoldable pub using_command_of : Data → Option Command
using_command_of d =
    if is_step_of (codes "name" ∷ codes "place" ∷ codes "of" ∷ codes "res" ∷ []) d
    then option_and_then (λ n. option_and_then (λ s. option_map (using n s) (name_in (codes "res") d)) (site_in d)) (name_in (codes "name") d)
    else None

unfoldable pub open_command_of : Data → Option Command
open_command_of d =
    if is_step_of (codes "name" ∷ codes "place" ∷ codes "of" ∷ codes "kind" ∷ codes "hub" ∷ codes "connection" ∷ []) d
    then option_and_then (λ n. option_and_then (λ s. option_map (open_node n s) (kind_in d)) (site_in d)) (name_in (codes "name") d)
    else None

unfoldable pub hold_of : Data → Option Command
hold_of d =
    if is_step_of (codes "node" ∷ codes "res" ∷ []) d
    then option_and_then (λ n. option_map (hold n) (name_in (codes "res") d)) (name_in (codes "node") d)
    else None

unfoldable pub apply_of : Data → Option Command
apply_of d =
    if is_step_of (codes "res" ∷ codes "word" ∷ []) d
    then option_and_then (λ r. option_map (apply r) (word_in d)) (name_in (codes "res") d)
    else None

unfoldable pub remove_of : Data → Option Command
remove_of d =
    if is_step_of (codes "res" ∷ []) d
    then option_map remove (name_in (codes "res") d)
    else None

unfoldable pub lease_command_of : Data → Option Command
lease_command_of d =
    if is_step_of (codes "res" ∷ codes "name" ∷ []) d
    then option_and_then (λ r. option_map (lease r) (name_in (codes "name") d)) (name_in (codes "res") d)
    else None

unfoldable pub return_of : Data → Option Command
return_of d =
    if is_step_of (codes "lease" ∷ []) d
    then option_map give_back (name_in (codes "lease") d)
    else None

unfoldable pub next_of : Data → Option Command
next_of d =
    if is_step_of (codes "node" ∷ codes "value" ∷ []) d
    then option_and_then (λ n. option_map (next n) (value_in d)) (name_in (codes "node") d)
    else None

unfoldable pub end_command_of : Data → Option Command
end_command_of d =
    if is_step_of (codes "node" ∷ codes "error" ∷ []) d
    then option_and_then (λ n. option_map (end n) (terminal_in d)) (name_in (codes "node") d)
    else None

unfoldable pub abort_of : Data → Option Command
abort_of d =
    if is_step_of (codes "node" ∷ codes "error" ∷ []) d
    then option_and_then (λ n. option_map (abort n) (code_in d)) (name_in (codes "node") d)
    else None

unfoldable pub decline_of : Data → Option Command
decline_of d =
    if is_step_of (codes "node" ∷ []) d
    then option_map decline (name_in (codes "node") d)
    else None

unfoldable pub fail_of : Data → Option Command
fail_of d =
    if is_step_of (codes "node" ∷ codes "error" ∷ []) d
    then option_and_then (λ n. option_map (fail n) (code_in d)) (name_in (codes "node") d)
    else None

unfoldable pub dispose_of : Data → Option Command
dispose_of d =
    if is_step_of (codes "node" ∷ []) d
    then option_map dispose (name_in (codes "node") d)
    else None

unfoldable pub hub_of : Data → Option Command
hub_of d =
    if is_step_of (codes "name" ∷ codes "mode" ∷ []) d
    then option_and_then (λ n. option_map (make_hub n) (mode_in d)) (name_in (codes "name") d)
    else None

unfoldable pub connect_of : Data → Option Command
connect_of d =
    if is_step_of (codes "hub" ∷ codes "name" ∷ []) d
    then option_and_then (λ h. option_map (connect h) (optional_name_in (codes "name") d)) (name_in (codes "hub") d)
    else None

unfoldable pub disconnect_of : Data → Option Command
disconnect_of d =
    if is_step_of (codes "hub" ∷ []) d
    then option_map disconnect (name_in (codes "hub") d)
    else None

unfoldable pub drain_of : Data → Option Command
drain_of d = if is_step_of [] d then Some drain else None

unfoldable pub checkpoint_of : Data → Option Command
checkpoint_of d = if is_step_of [] d then Some checkpoint else None

-- what is done with a hub, or with the book
unfoldable pub book_command_by : List ℕ → Data → Option Command
book_command_by what d =
    if bytes_eq what (codes "hub") then hub_of d
    else if bytes_eq what (codes "connect") then connect_of d
    else if bytes_eq what (codes "disconnect") then disconnect_of d
    else if bytes_eq what (codes "drain") then drain_of d
    else if bytes_eq what (codes "checkpoint") then checkpoint_of d
    else None

-- what is done with a node, or by another word with a hub or the book
unfoldable pub node_command_by : List ℕ → Data → Option Command
node_command_by what d =
    if bytes_eq what (codes "open") then open_command_of d
    else if bytes_eq what (codes "next") then next_of d
    else if bytes_eq what (codes "end") then end_command_of d
    else if bytes_eq what (codes "abort") then abort_of d
    else if bytes_eq what (codes "decline") then decline_of d
    else if bytes_eq what (codes "fail") then fail_of d
    else if bytes_eq what (codes "dispose") then dispose_of d
    else book_command_by what d

-- what is done with a resource, or by another word with anything else
unfoldable pub command_by : List ℕ → Data → Option Command
command_by what d =
    if bytes_eq what (codes "using") then using_command_of d
    else if bytes_eq what (codes "hold") then hold_of d
    else if bytes_eq what (codes "apply") then apply_of d
    else if bytes_eq what (codes "remove") then remove_of d
    else if bytes_eq what (codes "lease") then lease_command_of d
    else if bytes_eq what (codes "return") then return_of d
    else node_command_by what d

unfoldable pub cancel_of : Data → Option Action
cancel_of d = if is_step_of (codes "step" ∷ []) d then option_map cancel (name_in (codes "step") d) else None

unfoldable pub action_by : List ℕ → Data → Option Action
action_by what d = if bytes_eq what (codes "cancel") then cancel_of d else option_map command (command_by what d)

-- what a step does, by its member `do`
unfoldable pub action_in : Data → Option Action
action_in d = option_and_then (λ what. action_by what d) (option_and_then as_str (get (codes "do") d))

-- steps -------------------------------------------------------------------------------------------

-- a time of a step is at most 1,000,000,000,000
abbrev pub if_time : ℕ → Option ℕ
if_time n = if nat_le n 1000000000000 then Some n else None

abbrev pub time_or : Option ℕ → Option Data → Option (Option ℕ)
time_or absent None = Some absent
time_or absent (Some d) = option_map Some (option_and_then if_time (option_and_then as_u64 (as_number d)))

-- a member that is not there, or such a time
unfoldable pub time_in : Option ℕ → List ℕ → Data → Option (Option ℕ)
time_in absent k d = time_or absent (get k d)

-- a step of `steps` waits until the time `at`, which is 0 where there is none; a step of a `then` waits so long as `after` says,
-- and where there is none it does not wait
unfoldable pub delay_in : Bool → Data → Option (Option ℕ)
delay_in true d = if is_some (get (codes "at") d) then None else time_in None (codes "after") d
delay_in false d = if is_some (get (codes "after") d) then None else time_in (Some 0) (codes "at") d

-- a step without those that follow it; whether it follows one itself
unfoldable pub head_in : Bool → Data → Option Step
head_in follows d =
    option_and_then (λ t. option_and_then (λ l. option_map (λ a. record { label = l; delay = t; action = a; followers = no_steps }) (action_in d))
    (optional_name_in (codes "label") d)) (delay_in follows d)

-- with those, where this reads them
unfoldable pub step_with : (Data → Option (List Step)) → Bool → Data → Option Step
step_with read follows d = option_and_then
    (λ s. option_map (λ ss. record { label = s.label; delay = s.delay; action = s.action; followers = steps_of ss }) (read d)) (head_in follows d)

abbrev pub each_step : (Data → Option Step) → Items → Option (List Step)
each_step read no_items = Some []
each_step read (item d ds) = option_and_then (λ s. option_map (λ ss. s ∷ ss) (each_step read ds)) (read d)

abbrev pub then_or : (Data → Option Step) → Option Data → Option (List Step)
then_or read None = Some []
then_or read (Some d) = option_and_then (each_step read) (as_array d)

-- the steps of a `then`, where such lists stand within each other at most so deep
unfoldable pub then_in : ℕ → Data → Option (List Step)
then_in zero d = if is_some (get (codes "then") d) then None else Some []
then_in (suc n) d = then_or (step_with (then_in n) true) (get (codes "then") d)

-- a step below which they stand so deep
abbrev pub step_in : Bool → ℕ → Data → Option Step
step_in follows depth d = step_with (then_in depth) follows d

-- no label stands twice, or among those that were seen
abbrev pub are_new : List Name → List (Option Name) → Bool
are_new seen [] = true
are_new seen (None ∷ ls) = are_new seen ls
are_new seen (Some l ∷ ls) = not (is_one_of seen l) && are_new (l ∷ seen) ls

-- at most so many steps in all, and no label at two of them
unfoldable pub if_fitting : List Step → Option (List Step)
if_fitting ss = if nat_le (length (labels_in (steps_of ss))) 65536 && are_new [] (labels_in (steps_of ss)) then Some ss else None

-- the scenario ------------------------------------------------------------------------------------

-- the steps, in which a `then` stands at most 16 deep
unfoldable pub steps_in : Data → Option (List Step)
steps_in d = option_and_then if_fitting (option_and_then (each_step (step_in false 16)) (option_and_then as_array (get (codes "steps") d)))

abbrev pub if_limit : ℕ → Option ℕ
if_limit n = if nat_le 1 n && nat_lt n (2 ^ 32) then Some n else None

abbrev pub events_or : Option Data → Option ℕ
events_or None = Some 1048576
events_or (Some d) = option_and_then if_limit (option_and_then as_u64 (as_number d))

-- the limit of events, 1 to 4,294,967,295, and 1,048,576 where none is given
unfoldable pub events_in : Data → Option ℕ
events_in d = events_or (get (codes "events") d)

abbrev pub if_end : ℕ → Option ℕ
if_end n = if nat_le n 1000000000000000 then Some n else None

abbrev pub until_or : Option Data → Option ℕ
until_or None = Some 1000000000000000
until_or (Some d) = option_and_then if_end (option_and_then as_u64 (as_number d))

-- when time ends, at most 1,000,000,000,000,000, which it is where none is given
unfoldable pub until_in : Data → Option ℕ
until_in d = until_or (get (codes "until") d)

unfoldable pub scenario_of : Data → Option Script
scenario_of d =
    if is_object_of (codes "steps" ∷ codes "events" ∷ codes "until" ∷ []) d
    then option_and_then (λ ss. option_and_then (λ n. option_map (λ u. record { steps = ss; events = n; until = u }) (until_in d)) (events_in d)) (steps_in d)
    else None
