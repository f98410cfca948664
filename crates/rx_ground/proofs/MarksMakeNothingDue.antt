-- A node at whose place a node is opened, or to which an item is projected, has not to end by that, so its key need not go
-- on the chain.
use Rattle.rx_ground.proofs.Common.{◌≡◌, ℕ, ◌+◌, ◌==◌, cond, Bool, false, List, Option, Some, None, is_some, option_map, IsSome, IfSome, refl, sym, ap, subst}
use Rattle.rx_ground.proofs.Common.{◌∙◌, option_map_or, option_or, nat_tests, none-some, Terminal, Marks, Event, End, terminal_due, due_at, after_source}
use Rattle.rx_ground.proofs.Common.{after_notifier, Key, Slots, find, Node, Tree, is_on, Rewrites, is_due, with_due, with_marks, some_of, IsUndue, Remarks}
use Rattle.std.proofs.Common.{◌&&◌, true≢false, rules}
use Rattle.rx_event.specs.Marks.{completed_if, after_projection}
use Rattle.rx_ground.proofs.TiedWhileSettling.{SetsMarks, set_remarks}

-- marks -------------------------------------------------------------------------------------------

-- a FlatMap or a Switch does not complete while a child is open
busy : (c : Option Terminal) (over a d : Bool) (n : ℕ) → option_or c (completed_if over) ≡ None → option_or c (completed_if (a && (n + 1 == 0) && d)) ≡ None
busy x0 over a d n none = search (rules, nat_tests, true≢false)

-- what had not to end has not to with a child more
pub source_undue : (made : Event) (m : Marks) → terminal_due made m ≡ None → terminal_due made (after_source m) ≡ None
source_undue x0 m none = search (rules, busy)

pub notifier_undue : (made : Event) (m : Marks) → terminal_due made m ≡ None → terminal_due made (after_notifier m) ≡ None
notifier_undue x0 m none = search (rules, busy)

-- nor with an item more that it owes an inner
owing : (c : Option Terminal) (over a b : Bool) (n : ℕ) → option_or c (completed_if over) ≡ None → option_or c (completed_if (a && b && (n + 1 == 0))) ≡ None
owing x0 over a b n none = search (rules, nat_tests, true≢false)

pub projection_undue : (made : Event) (m : Marks) → terminal_due made m ≡ None → terminal_due made (after_projection m) ≡ None
projection_undue x0 m none = search rules

-- no event is forced just where no terminal is
pub no_terminal : (n : ℕ) (o : Option Terminal) → option_map (λ (t : Terminal). End n t) o ≡ None → o ≡ None
no_terminal n x1 none = search (rules, none-some)

-- off a chain no node has to end
pub off_undue : (nodes : Slots Node) (chain : List Key) →
    ((key : Key) (node : Node) → find nodes key ≡ Some node → is_on key chain ≡ false → due_at node.made node.marks key.number ≡ None) →
    (key : Key) → is_on key chain ≡ false → IsUndue nodes key
off_undue nodes chain quiet key off = by_value (find nodes key) refl where
  by_value : (o : Option Node) → find nodes key ≡ o → IfSome o (λ node. terminal_due node.made node.marks ≡ None)
  by_value None found = tt
  by_value (Some node) found = no_terminal key.number (terminal_due node.made node.marks) (quiet key node found off)

-- the chain ---------------------------------------------------------------------------------------

-- it stays where a node off it has not to end
same_chain : (nodes : Slots Node) (key : Key) (chain : List Key) → (is_on key chain ≡ false → is_due nodes key ≡ false) → with_due nodes key chain ≡ chain
same_chain nodes key chain off = search (rules, cond, true≢false)

-- marks that change so, by which the node has not to end
pub remarks_undue : {T : Type 0} {old new : Tree T} {key : Key} (change : Marks → Marks) →
    ((made : Event) (m : Marks) → terminal_due made m ≡ None → terminal_due made (change m) ≡ None) → IsSome (find old.nodes key) →
    (is_on key old.chain ≡ false → IsUndue old.nodes key) →
    ((node : Node) → find old.nodes key ≡ Some node → Rewrites old.nodes new.nodes key (with_marks (change node.marks))) →
    new.chain ≡ old.chain → new.resources ≡ old.resources → Remarks old new key change
remarks_undue {T = T} {old} {new} {key} change undue there quiet nodes chain stored =
    let x = some_of (find old.nodes key) there in
    let node = x.0 in
    let sets = nodes node x.1 in
    let found : find new.nodes key ≡ Some (with_marks (change node.marks) node) = sets.changed ∙ ap (option_map (with_marks (change node.marks))) x.1 in
    let at_marks : option_map (λ (n : Node). n.marks) (find old.nodes key) ≡ Some node.marks = ap (option_map (λ (n : Node). n.marks)) x.1 in
    let not_due : is_on key old.chain ≡ false → is_due new.nodes key ≡ false =
    λ off. ap (λ (o : Option Node). option_map_or (λ (n : Node). is_some (terminal_due n.made n.marks)) o false) found ∙
    ap is_some (undue node.made node.marks (subst (λ (o : Option Node). IfSome o (λ n. terminal_due n.made n.marks ≡ None)) x.1 (quiet off))) in
    let all : SetsMarks old new key (change node.marks) =
    record { nodes = sets; chain = chain ∙ sym (same_chain new.nodes key old.chain not_due); stored = stored } in set_remarks change at_marks refl all

-- and marks that stay
pub remarks_none : {T : Type 0} (tree : Tree T) (key : Key) → IsSome (find tree.nodes key) → (is_on key tree.chain ≡ false → IsUndue tree.nodes key) →
    Remarks tree tree key (λ m. m)
remarks_none {T = T} tree key there quiet = search (rules, some_of, find, option_map_or, is_some, same_chain, option_map)
