-- Keys, and what they find or do not.
use Rattle.std.proofs.Common.{◌≡◌, ◌≢◌, true, Option, Some, None, is_some, IsSome, sym, ap, ◌∙◌, ◌⊎◌, true≢false, rules}
use Rattle.std.proofs.lemmas.Bool.{cases_eq, and_parts, eqb-true}
use Rattle.rx_slots.specs.declared.Key.{Key}
use Rattle.rx_tree.specs.Tree.{is_key}

pub same_key : (a b : Key) → a.slot ≡ b.slot → a.number ≡ b.number → a ≡ b
same_key a b slot number = λ i. record { slot = slot i; number = number i }

pub key_is : (a b : Key) → is_key a b ≡ true → a ≡ b
key_is a b same = search (rules, and_parts, same_key, eqb-true)

-- two keys are one, or they differ
pub cases_key : (a b : Key) → (a ≡ b) ⊎ (a ≢ b)
cases_key a b = search (rules, cases_eq, same_key)

pub none_not_some : {X : Type 0} (o : Option X) → o ≡ None → IsSome o → ⊥
none_not_some o none some = true≢false (sym some ∙ ap is_some none)

pub some_of : {X : Type 0} (o : Option X) → IsSome o → (x : X) × (o ≡ Some x)
some_of x0 some = search (rules, true≢false)
