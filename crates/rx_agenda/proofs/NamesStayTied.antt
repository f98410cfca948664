-- The map of a space of names goes on as its list does.
use Rattle.rx_agenda.proofs.Common.{◌≡◌, ℕ, List, [], ◌∷◌, ◌++◌, false, cond, String, Global, refl, Some, is_some, bytes_eq, update, get_by_text}
use Rattle.rx_agenda.proofs.Common.{Named, name_bytes, key_named, IsTied}
use Rattle.std.specs.HashMap.{HashMap, IsEmpty}
use Rattle.rx_agenda.proofs.Laws.{key_named-bind, none_there}
use Rattle.std.proofs.Common.{rules}

pub still_tied : {K S : Type 0} (names : List (Named K)) (n : Named K) (old new : HashMap (String Global) K S)
    → IsTied names old → is_some (key_named names (name_bytes n)) ≡ false
    → ((q : List ℕ) → get_by_text new q ≡ update bytes_eq (get_by_text old) (name_bytes n) (Some n.key) q) → IsTied (names ++ n ∷ []) new
still_tied names n old new tied free updated q =
    search (rules, cond, bytes_eq, key_named-bind, none_there)

-- no name, and an empty map
pub tied_empty : {K S : Type 0} (names : List (Named K)) (m : HashMap (String Global) K S) → names ≡ [] → IsEmpty m → IsTied names m
unfolding key_named
tied_empty names m none empty name = rw (none, empty) refl
