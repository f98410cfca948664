-- What is known where no cause stands against a call.
use Rattle.std.proofs.Common.{◌≡◌, Bool, false, List, [], ◌∷◌, Some, None, cond, rules}
use Rattle.std.specs.List.{AllByRecursion}
use Rattle.std.proofs.lemmas.Option.{none-some}
use Rattle.rx_event.specs.declared.refusal.Refusal.{Refusal}
use Rattle.rx_event.specs.Refusals.{first_of_these, first_cause}

none_of : (stands : Refusal → Bool) (whys : List Refusal) → first_of_these stands whys ≡ None → AllByRecursion (λ why. stands why ≡ false) whys
none_of stands [] none = tt
none_of stands (why ∷ whys) none = search (rules, None, Bool, cond, Some, none-some, none_of stands whys)

-- where there is no first cause none stands
pub no_cause : (stands : Refusal → Bool) → first_cause stands ≡ None → (why : Refusal) → stands why ≡ false
no_cause stands none why = search (rules, none_of)
