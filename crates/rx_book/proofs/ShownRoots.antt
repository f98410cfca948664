-- The open root of least number.
use Rattle.rx_book.proofs.Common.{◌≡◌, ℕ, ◌<◌, true, List, length, Option, Some, None, IsSome, option_map, sym, ◌∙◌, arith, IsTrue, IfSome}
use Rattle.rx_book.proofs.Common.{option_map_or, and_parts, and_from, false_from_ne_true, false≢true, Kept, Ghosts, Event, is_root, at, is_open, places, Node}
use Rattle.rx_book.proofs.Common.{is_open_within, Tree, IsRoot, IsFirst, HasNone, IsTied, find_nothing, find_first, has_key, is_open_root, keys_of}
use Rattle.std.specs.List.{find}
use Rattle.std.specs.Prelude.{IfNone}
use Rattle.rx_slots.specs.declared.Key.{Key}
use Rattle.rx_book.proofs.ShownKeys.{has_key_is}
use Rattle.std.proofs.Common.{rules}

-- roots -------------------------------------------------------------------------------------------

-- what is said of a root's record
abbrev IsRootRecord : Option Node → Type 0
IsRootRecord o = IfSome (option_map (λ node. is_root node.made) o) IsTrue × IsSome o

module _ (base : Kept) {T : Type 0} (g : Ghosts T) (h : List Event) (tree : Tree T) (tied : IsTied base g h tree) where
  -- a root's record is that of an open root
  key_root : (key : Key) → IsRoot tree.nodes key → is_open_root h key.number ≡ true
  key_root key root = search (rules, false≢true, and_from, option_map_or)

  -- and an open root has a record
  root_key : (n : ℕ) → is_open_root h n ≡ true → (key : Key) × (key.number ≡ n) × IsRoot tree.nodes key
  root_key n root = search (rules, and_parts, option_map_or)

  -- where the tree has none, none is open
  pub open_root_none : HasNone (IsRoot tree.nodes) 0 → find (is_open_root h) (places h) ≡ None
  open_root_none none = search (rules, find_nothing, false_from_ne_true, root_key)

  -- and the first that it has is the first open one
  pub open_root_some : (key : Key) → IsFirst (IsRoot tree.nodes) 0 key → find (is_open_root h) (places h) ≡ Some key.number
  open_root_some key first =
      let within = is_open_within h key.number (and_parts (is_open h key.number) (at is_root h key.number) is_so).0 in
      find_first (is_open_root h) 0 (length h) key.number (omega arith) (omega arith) is_so (λ n less. false_from_ne_true (is_open_root h n) (not_less n less))
    where
      is_so : is_open_root h key.number ≡ true
      is_so = key_root key first.one

      not_less : (n : ℕ) → n < key.number → is_open_root h n ≡ true → ⊥
      not_less n less root = let k = root_key n root in let above = first.least k.0 k.2 (omega arith) in let e = k.1 in absurd (omega arith)

  -- so what the tree answers is that
  pub open_root_is : (o : Option Key) → IfSome o (IsFirst (IsRoot tree.nodes) 0) → IfNone o (HasNone (IsRoot tree.nodes) 0) →
      option_map (λ k. k.number) o ≡ find (is_open_root h) (places h)
  open_root_is None first none = sym (open_root_none none)
  open_root_is (Some key) first none = sym (open_root_some key first)

-- its key is known
pub root_listed : {T : Type 0} (tree : Tree T) (key : Key) → IsFirst (IsRoot tree.nodes) 0 key → has_key (keys_of tree) key ≡ true
root_listed tree key first = has_key_is tree key ∙ first.one.1

pub root_known : {T : Type 0} (tree : Tree T) (o : Option Key) → IfSome o (IsFirst (IsRoot tree.nodes) 0) → IfSome o (λ k. IsTrue (has_key (keys_of tree) k))
root_known tree None first = tt
root_known tree (Some key) first = root_listed tree key first
