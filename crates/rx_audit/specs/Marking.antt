-- What each open node remembers, as the audit keeps it.
use Rattle.std.specs.Prelude.{◌≡◌, ◌&&◌, ◌||◌, slice_index_or, slice_set, is_some, MatchOption, ◌+◌, ◌<◌, ◌∷◌, ◌++◌, if◌then◌else◌}
use Rattle.rx_audit.specs.Imports.{ℕ, Bool, true, false, Option, Some, None, List, slice_get, length, sum_by, [], option_map_or, option_and_then}
use Rattle.rx_audit.specs.Imports.{list_any, nothing_kept, stop_at, Visit, Event, Open, End, Decline, Item, Terminal, same_terminal, named_by, is_item}
use Rattle.rx_audit.specs.Imports.{parent, is_open, shuts, marks_of, blank_marks, terminal_due, touches, after_firing}
use Rattle.rx_audit.specs.Rules.{fired_by, projecting_node, names_number}
use Rattle.rx_event.specs.Marks.{Marks}
use Rattle.rx_audit.specs.Latest.{ShutsNone, IsShutAlone, IsNoted}

-- the node whose marks the event changes, if it is no item
abbrev pub touched_by : List Event → Event → Option ℕ
touched_by h (Open place kind) = named_by place
touched_by h (Decline f) = Some f
touched_by h (End c t) = parent h c
touched_by h _ = None

-- the list has the marks of each open node
abbrev pub IsKept : List Event → List Marks → Type 0
IsKept h marks = (n : ℕ) → is_open h n ≡ true → slice_index_or marks n blank_marks ≡ marks_of nothing_kept h n

-- the open node that the event itself takes away, if there is one
abbrev pub IsTop : List Event → Event → Option ℕ → Type 0
IsTop h e top = MatchOption top (ShutsNone h (λ n. shuts h n e)) (IsShutAlone h (λ n. shuts h n e))

-- node n is open and has to end, by its marks
abbrev pub due_made : List Event → ℕ → Event → Bool
due_made h n made = is_some (terminal_due made (marks_of nothing_kept h n))

unfoldable pub node_due : List Event → ℕ → Bool
node_due h n = is_open h n && option_map_or (due_made h n) (slice_get h n) false

-- the list has each node that has to end
abbrev pub IsCovered : List Event → List ℕ → Type 0
IsCovered h due = (n : ℕ) → node_due h n ≡ true → IsNoted 0 due n

-- the event, if it is an item, leaves the marks of each node
abbrev pub IsUntouched : List Event → Event → Type 0
IsUntouched h e = (n : ℕ) → is_item e ≡ true → touches h n e ≡ false

abbrev pub leaf_of : Event → Option ℕ
leaf_of (Item l v) = Some l
leaf_of _ = None

-- the node that the event made has to end so, by its marks
abbrev pub ends_so : Event → Marks → Terminal → Bool
ends_so made m t = option_map_or (λ u. same_terminal u t) (terminal_due made m) false

-- what an item fires, and what it projects, at a node that it visits
abbrev pub fired_key : List Event → ℕ → Option ℕ
fired_key h n = option_and_then fired_by (stop_at h n)

abbrev pub projected_key : List Event → ℕ → Option ℕ
projected_key h n = option_and_then projecting_node (stop_at h n)

abbrev pub fired_marks : List Marks → Option ℕ → List Marks
fired_marks ms None = ms
fired_marks ms (Some u) = slice_set ms u (after_firing (slice_index_or ms u blank_marks))

abbrev pub owing : ℕ → Marks → Marks
owing count m = record m { owed = m.owed + count }

abbrev pub owed_marks : List Marks → Option ℕ → ℕ → List Marks
owed_marks ms None count = ms
owed_marks ms (Some f) count = slice_set ms f (owing count (slice_index_or ms f blank_marks))

abbrev pub noted_with : List ℕ → Option ℕ → List ℕ
noted_with due None = due
noted_with due (Some u) = due ++ u ∷ []

-- the marks of node n after these visits
abbrev pub visited_marks : List Event → List Visit → ℕ → Marks → Marks
visited_marks h log n m = record m {
  fired = m.fired || list_any (λ v. names_number (fired_key h v.node) n) log;
  owed = m.owed + sum_by
      (λ v. if names_number (projected_key h v.node) n then v.count else 0) log;
}

-- the visits of an item changed the marks so, and what they fired is noted
pub record IsVisited (h : List Event) (log : List Visit) (old new : List Marks) (before after : List ℕ) : Type 0 where
  pub size : length new ≡ length old
  pub marks : (n : ℕ) → n < length old → slice_index_or new n blank_marks ≡ visited_marks h log n (slice_index_or old n blank_marks)
  pub noted : (n : ℕ) → list_any (λ v. names_number (fired_key h v.node) n) log ≡ true → IsNoted 0 after n
  pub kept : (n : ℕ) → IsNoted 0 before n → IsNoted 0 after n

-- node n is open and has to end so, by its marks
unfoldable pub forced_end : List Event → ℕ → Terminal → Bool
forced_end h n t = is_open h n && option_map_or (λ made. ends_so made (marks_of nothing_kept h n) t) (slice_get h n) false
