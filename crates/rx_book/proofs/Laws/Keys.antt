-- A key that is known stands in the list of keys.
use Rattle.rx_book.proofs.Common.{◌≡◌, true, List, nat_eq, Contains, and_parts, eqb-true, Key, has_key}
use Rattle.std.proofs.lemmas.List.Folds.{Any-from_list_any}
use Rattle.std.proofs.Common.{rules}

pub same_key : (j k : Key) → j.slot ≡ k.slot → j.number ≡ k.number → j ≡ k
same_key j k slot number = λ i. record { slot = slot i; number = number i }

pub Contains-has_key : (keys : List Key) (k : Key) → has_key keys k ≡ true → Contains keys k
Contains-has_key keys k found = search (rules, Any-from_list_any, nat_eq, and_parts, same_key, eqb-true)
