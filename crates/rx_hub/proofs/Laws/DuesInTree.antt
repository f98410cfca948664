-- What is due at a tree's records is forced in every history whose records they are.
use Rattle.rx_hub.proofs.Common.{◌≡◌, ℕ, true, false, List, Some, None, slice_get, sym, ap, ◌∙◌, list_any, option_and_then, Kept}
use Rattle.rx_hub.proofs.Common.{same_Some, none-some, Terminal, Event, End, Close, makes_hub, is_open, due_at, marks_of, IsForced, IsSettled, IsConnected}
use Rattle.rx_hub.proofs.Common.{IsDue, SourceEnded, IsLawful, Slots, Node, Due, AreRecordsOf}
use Rattle.rx_event.proofs.Laws.MarksDue.{due_at_forced, settled_by_marks, settled_hubless, settled_quiet}
use Rattle.rx_hub.specs.Operators.{IsDueAt, IsDueIn, IsQuiet}
use Rattle.rx_hub.specs.TreeRecords.{IsRecordOf, HasRecord}
use Rattle.std.proofs.Common.{rules}

-- where a node has to end so, that end is due
pub due_at_in : (nodes : Slots Node) (due : Due) → IsDueAt nodes due → IsDueIn nodes (End due.node.number due.terminal)
due_at_in nodes due at = record {
  key = due.node;
  gives = search rules;
}

-- what is due at a record is forced, where no hub waits
pub due_forced : (base : Kept) → (h : List Event) (nodes : Slots Node) (e : Event) → AreRecordsOf base h nodes → IsConnected h → IsDueIn nodes e →
    IsForced base h e
due_forced base h nodes e records connected due_in = search (rules, none-some, due_at_forced)

-- where nothing is due at any record, no marks of an open node give an event
quiet_marks : {base : Kept} → (h : List Event) (nodes : Slots Node) → AreRecordsOf base h nodes → IsQuiet nodes → (n : ℕ) (made : Event) → is_open h n ≡ true →
    slice_get h n ≡ Some made → due_at made (marks_of base h n) n ≡ None
quiet_marks {base} h nodes records quiet n made o at_n =
    let own : HasRecord nodes n = records.every n o in
    let r : IsRecordOf base h own.key.number own.node = records.each own.key own.node own.found in
    let same : made ≡ own.node.made = same_Some made own.node.made (sym (ap (slice_get h) own.numbered ∙ at_n) ∙ r.made) in
    let none : due_at own.node.made own.node.marks own.key.number ≡ None =
    sym (ap (option_and_then (λ node. due_at node.made node.marks own.key.number)) own.found) ∙ quiet own.key in
    ap (λ k. due_at made (marks_of base h k) k) (sym own.numbered) ∙ ap (λ m. due_at made m own.key.number) (sym r.marks) ∙
    ap (λ e. due_at e own.node.marks own.key.number) same ∙ none

-- so it is settled, but for what hubs force
pub quiet_settled : (base : Kept) → (h : List Event) (nodes : Slots Node) → AreRecordsOf base h nodes → IsQuiet nodes → IsConnected h →
    ((n : ℕ) (t : Terminal) → is_open h n ≡ true → ¬ SourceEnded h n t) → ((c : ℕ) → ¬ IsDue base h (Close c)) → IsSettled base h
quiet_settled base h nodes records quiet connected whole kept = settled_by_marks base h connected whole kept (quiet_marks h nodes records quiet)

pub quiet_settled_hubless : (base : Kept) → (h : List Event) (nodes : Slots Node) → IsLawful base h → AreRecordsOf base h nodes → IsQuiet nodes →
    list_any makes_hub h ≡ false → IsSettled base h
quiet_settled_hubless base h nodes law records quiet hubless = settled_hubless base h law hubless (quiet_marks h nodes records quiet)

-- in a settled history nothing is due at any record
pub settled_quiet_records : (base : Kept) → (h : List Event) (nodes : Slots Node) → AreRecordsOf base h nodes → IsSettled base h → IsQuiet nodes
settled_quiet_records base h nodes records settled key = search (rules, settled_quiet)
