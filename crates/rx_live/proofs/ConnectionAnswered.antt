-- What the answer to an opening says of the connection that it made.
use Rattle.rx_live.proofs.Common.{◌≡◌, ℕ, ◌+◌, ◌==◌, ◌≤◌, ◌++◌, Bool, true, List, [], ◌∷◌, length, Some, None, refl, sym, ap, ◌∙◌, arith, ◌⊎◌, is_some}
use Rattle.rx_live.proofs.Common.{slice_get, if◌then◌else◌, option_map_or, le-ltb, eqb-true, append-nil, Command, State, connection_made, Task, plain, ok_text}
use Rattle.rx_live.proofs.Common.{Accepted, Session, IsSound, RunsCommand, DoesTask, connected_by, said_if, answer_front_text, connects_at}
use Rattle.rx_live.proofs.Acts.{gave, gave_by}
use Rattle.std.proofs.Common.{rules}

pub nothing_said : (b : Bool) → said_if b [] ≡ []
nothing_said x0 = search rules

none_there : (said : List ℕ) → length said ≡ 0 → said ≡ []
none_there [] none = refl
none_there (n ∷ said) none = absurd (omega (arith, none))

pub said_nothing : (begun said : List ℕ) (b : Bool) → (length said == 0) ≡ true → begun ≡ begun ++ said_if b said
said_nothing begun said b empty = search (rules, none_there, eqb-true, length, append-nil, nothing_said)

said_alike : (a b : Bool) (said : List ℕ) → said ≡ [] → said_if a said ≡ said_if b said
said_alike a b said none = ap (said_if a) none ∙ nothing_said a ∙ sym (ap (said_if b) none ∙ nothing_said b)

made_or_not : (b : Bool) (n : ℕ) → b ≡ is_some (if b then Some n else None)
made_or_not x0 n = search rules

-- the connection of an opening stands behind it, where no checkpoint was between
made_since : (old new : State) → old.base.at_length ≤ length old.history → new.base ≡ old.base →
    connects_at new (length old.history + 1) ≡ is_some (connection_made old.history new.history)
made_since old new begun same = search (rules, length, option_map_or, slice_get, le-ltb, made_or_not)

-- a command that opens nothing says nothing of it
same_said : (old done : Session) (c : Command) → IsSound old → RunsCommand old c Accepted done →
    (connects_at done.book (length old.book.history + 1) ≡ is_some (connection_made old.book.history done.book.history)) ⊎ (connected_by (plain c) ≡ [])
same_said old done x2 sound runs = search (rules, made_since, gave)

same_by : (old done : Session) (t : Task) → IsSound old → DoesTask old t Accepted done →
    (connects_at done.book (length old.book.history + 1) ≡ is_some (connection_made old.book.history done.book.history)) ⊎ (connected_by t ≡ [])
same_by old done x2 sound does = search (rules, same_said, gave_by, made_since)

pub front_said : (old done : Session) (t : Task) (begun said text : List ℕ) (behind : ℕ) → IsSound old → DoesTask old t Accepted done →
    begun ≡ ok_text (length old.book.history) → said ≡ connected_by t → behind ≡ length old.book.history + 1 →
    text ≡ begun ++ said_if (connects_at done.book behind) said → text ≡ answer_front_text old t done
front_said old done t begun said text behind sound does is of place written = search (rules, length, same_by, is_some, said_alike)
