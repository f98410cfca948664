-- One node leaves the hub that it names, before all others that leave.
use Rattle.std.proofs.Common.{◌≡◌, ℕ, true, Option, Some, None, List, refl, subst, option_map}
use Rattle.std.proofs.lemmas.Option.{same_Some}
use Rattle.std.specs.List.{cons_option}
use Rattle.std.specs.Option.{option_to_list}
use Rattle.rx_roles.specs.declared.roles.Role.{Role}
use Rattle.rx_pool.specs.declared.search.PooledHub.{PooledHub}
use Rattle.rx_pool.specs.Pool.{is_used}
use Rattle.rx_pool.specs.Choice.{passes}
use Rattle.rx_pool.specs.Moves.{left_all, MayLeaveAll}

-- it may, where all may
pub first_used : (o : Option Role) (places : List ℕ) (hubs : List PooledHub) → MayLeaveAll (cons_option (option_map (λ (r : Role). r.word) o) places) hubs → (r : Role) → o ≡ Some r →
    passes is_used hubs r.word ≡ true
first_used None places hubs may r is = absurd (cc)
first_used (Some x) places hubs may r is = subst (λ (y : Role). passes is_used hubs y.word ≡ true) (same_Some x r is) may.0

-- the rest may behind it
pub rest_may : (o : Option ℕ) (places : List ℕ) (hubs : List PooledHub) → MayLeaveAll (cons_option o places) hubs → MayLeaveAll places (left_all (option_to_list o) hubs)
rest_may None places hubs may = may
rest_may (Some p) places hubs may = may.1

pub left_first : (o : Option ℕ) (places : List ℕ) (hubs : List PooledHub) → left_all places (left_all (option_to_list o) hubs) ≡ left_all (cons_option o places) hubs
left_first None places hubs = refl
left_first (Some p) places hubs = refl
