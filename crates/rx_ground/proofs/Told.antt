-- What the record of a node says of the causes.
use Rattle.rx_ground.proofs.Common.{◌≡◌, ℕ, ◌+◌, Bool, true, false, cond, List, [], ◌∷◌, Option, Some, is_some, option_map, slice_get, refl, sym, ap, ◌∙◌}
use Rattle.rx_ground.proofs.Common.{arith, zero-add, nat_lt, not, ◌||◌, list_any, option_map_or, lt-ltb, sum_by-cons, none-some, same_Some, Kept, at, Ghosts}
use Rattle.rx_ground.proofs.Common.{Marks, Place, Event, named_by, is_open, has_open_child, marks_of, open_children, is_wrong_place, Key, is_taken_place}
use Rattle.rx_ground.proofs.Common.{is_unowed_place, Slots, find, Node, Stowed, ResKey, Tree, store_key, is_owned, is_owned_at, is_held_at, some_of, LeaseKey}
use Rattle.rx_ground.proofs.Common.{is_out_at, IsTied, AreLeased, IfSome, IfNone, IsTold, has_place, is_used, is_unowed}
use Rattle.std.specs.List.{count_by}
use Rattle.rx_event.specs.Resources.{is_owned as is_owned_in, is_out, is_held as is_held_in}
use Rattle.rx_ground.proofs.TreeAgreesOnResource.{owned_agrees, held_agrees}
use Rattle.rx_ground.proofs.LeasesAfterEvent.{out_in_history as lease_in_history}
use Rattle.rx_ground.proofs.Newest.{held_found}
use Rattle.std.specs.Prelude.{if◌then◌else◌}
use Rattle.rx_event.specs.declared.refusal.Refusal.{Refusal}
use Rattle.rx_event.specs.declared.refusal.Refusal.TheVariants.{PlaceTaken, NothingOwed, NoHub}
use Rattle.rx_ground.proofs.Common.{None, Ground, Gone, WrongKind, first_cause, false≢true}
use Rattle.rx_event.specs.Causes.{is_gone, by_key}
use Rattle.rx_ground.specs.FirstCause.{first_at_place, IsFreePlace}
use Rattle.rx_tree.specs.Record.{LinkedNode}
use Rattle.std.proofs.Common.{rules}

module _ (base : Kept) {T : Type 0} (g : Ghosts T) (h : List Event) (tree : Tree T) (tied : IsTied base g h tree) where
  -- a node that is there is open
  pub there_open : (key : Key) → is_some (find tree.nodes key) ≡ true → is_open h key.number ≡ true
  there_open key some = let x = some_of (find tree.nodes key) some in (tied.records.each key x.0 x.1).alive

  -- a resource that is held in the tree is held in the history
  pub held_in_history : (res : ResKey) → is_held_at tree res ≡ true → is_held_in h res.number ≡ true
  held_in_history res held = let f = held_found tree res held in held_agrees base g h tree tied (store_key res) f.stowed f.found ∙ f.held

  -- and one that is held is owned there just where it is in the history
  pub owned_in_history : (res : ResKey) → is_held_at tree res ≡ true → is_owned_in h res.number ≡ is_owned_at tree res
  owned_in_history res held =
      let f = held_found tree res held in
      owned_agrees base g h tree tied (store_key res) f.stowed f.found ∙
      sym (ap (λ (o : Option (Stowed T)). option_map_or (is_owned tree.nodes) o false) f.found)

  -- what a record tells
  pub told : (key : Key) (node : Node) → Some node ≡ find tree.nodes key → IsTold base h tree.nodes key node
  told key node found = let is = tied.records.each key node (sym found) in
      record { there = ap is_some (sym found); alive = is.alive; made = is.made; marks = is.marks }

  -- and what is told where one was looked for
  pub told_some : (key : Key) (o : Option LinkedNode) → option_map (λ r. r.node) o ≡ find tree.nodes key →
      IfSome o (λ r. IsTold base h tree.nodes key r.node)
  told_some key None is = tt
  told_some key (Some r) is = told key r.node is

pub told_none : (nodes : Slots Node) (key : Key) (o : Option LinkedNode) → option_map (λ r. r.node) o ≡ find nodes key →
    IfNone o (is_some (find nodes key) ≡ false)
told_none nodes key None is = ap is_some (sym is)
told_none nodes key (Some r) is = tt

-- a lease that is out under its key is out in the history
pub out_in_history : {T : Type 0} (h : List Event) (resources : Slots (Stowed T)) (leases : Slots ResKey) → AreLeased h resources leases →
    (lease : LeaseKey) → is_out_at leases lease ≡ true → is_out h lease.number ≡ true
out_in_history h resources leases leased lease out = lease_in_history h resources leases leased lease out

-- a test of the event that made a node
told_at : (p : Event → Bool) (h : List Event) (n : ℕ) (made : Event) → slice_get h n ≡ Some made → at p h n ≡ p made
told_at p h n made found = ap (λ o. option_map_or p o false) found

-- what a place asks of the node that it names
pub wrong_at : (h : List Event) (place : Place) (n : ℕ) (made : Event) → named_by place ≡ Some n → slice_get h n ≡ Some made →
    is_wrong_place h place ≡ not (has_place made place)
wrong_at h x1 n made named found = search (rules, not, same_Some)

pub taken_at : (base : Kept) → (h : List Event) (place : Place) (n : ℕ) (m : Marks) → named_by place ≡ Some n → m ≡ marks_of base h n →
    is_taken_place base h place ≡ is_used m place
taken_at base h x2 n m named is = search (rules, same_Some)

pub unowed_at : (base : Kept) → (h : List Event) (place : Place) (n : ℕ) (m : Marks) → named_by place ≡ Some n → m ≡ marks_of base h n →
    is_unowed_place base h place ≡ is_unowed m place
unowed_at base h x2 n m named is = search (rules, same_Some)

-- a root's names none, and nothing stands against it
pub placed_root : {T : Type 0} (b : Ground T) (place : Place) → named_by place ≡ None → IsFreePlace b true place
placed_root b x1 none = search (rules, none-some)

-- that a place was taken stands first, where its node is known and open and has such a place
pub taken_first : {T : Type 0} (b : Ground T) (known : Bool) (place : Place) → known ≡ true → is_gone b.register.history place ≡ false →
    is_wrong_place b.register.history place ≡ false → is_taken_place b.register.base b.register.history place ≡ true →
    first_at_place b known place ≡ Some PlaceTaken
taken_first b known place is gone wrong taken = rw (is, gone, wrong, taken) refl

shape : (missing gone wrong taken unowed : Bool) (rest : Option Refusal) {why : Refusal} → missing ≡ false → (if gone then Some Gone else
    if wrong then Some WrongKind else if taken then Some PlaceTaken else if unowed then Some NothingOwed else None) ≡ Some why →
    Some why ≡ (if missing then Some NoHub else if gone then Some Gone else if wrong then Some WrongKind else if taken then Some PlaceTaken else
    if unowed then Some NothingOwed else rest)
shape x0 x1 x2 x3 x4 rest there some = search (rules, false≢true, none-some)

-- what stands first against a place stands first against a call there, where no hub is missing
pub placed_first : {T : Type 0} (b : Ground T) (known : Bool) (place : Place) (stand : Refusal → Bool) → stand NoHub ≡ false →
    stand Gone ≡ is_gone b.register.history place → stand WrongKind ≡ is_wrong_place b.register.history place →
    stand PlaceTaken ≡ is_taken_place b.register.base b.register.history place →
    stand NothingOwed ≡ is_unowed_place b.register.base b.register.history place → {why : Refusal} → first_at_place b known place ≡ Some why →
    Some why ≡ first_cause (by_key known stand)
placed_first b false place stand there gone wrong taken unowed some = rw there (sym some)
placed_first b true place stand there gone wrong taken unowed some = rw (gone, wrong, taken, unowed) (shape (stand NoHub) _ _ _ _ _ there some)

-- a test holds of some member just where a member is counted
any_counted : {X : Type 0} (p : X → Bool) (xs : List X) → list_any p xs ≡ nat_lt 0 (count_by p xs)
any_counted p [] = refl
any_counted {X = X} p (x ∷ xs) = by_test (any_counted p xs) (p x) refl where
  by_test : list_any p xs ≡ nat_lt 0 (count_by p xs) → (b : Bool) → p x ≡ b → (b || list_any p xs) ≡ nat_lt 0 (count_by p (x ∷ xs))
  by_test rest true e = sym (lt-ltb 0 (count_by p (x ∷ xs)) (rw (sum_by-cons (λ y. cond {A = ℕ} (p y) 1 0) x xs, e) (omega arith)))
  by_test rest false e = rest ∙
      ap (nat_lt 0) (sym (sum_by-cons (λ y. cond {A = ℕ} (p y) 1 0) x xs ∙ ap (λ b. cond {A = ℕ} b 1 0 + count_by p xs) e ∙ zero-add (count_by p xs)))

-- an open child is counted by the mark
pub child_marked : (base : Kept) → (h : List Event) (nodes : Slots Node) (key : Key) (node : Node) → IsTold base h nodes key node →
    has_open_child h key.number ≡ nat_lt 0 node.marks.open_children
unfolding open_children
child_marked base h nodes key node is = search (rules, any_counted, nat_lt)
