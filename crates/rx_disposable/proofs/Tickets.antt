-- A group's tickets rise: what that says of a look-up, and which changes keep it.
use Rattle.std.proofs.Common.{◌≡◌, ◌≢◌, ℕ, ◌+◌, ◌<◌, ◌≤◌, nat_eq, true, false, cond, List, [], ◌∷◌, ◌++◌, Some, None, refl, ap, arith}
use Rattle.std.specs.Map.{lookup, remove_entry, set_value}
use Rattle.std.proofs.lemmas.Bool.Decides.{nat_tests}
use Rattle.rx_disposable.specs.Group.{Group, with_added, without, Updates, TicketsRise, IsSound}

module _ {T : Type 0} where
  -- a lower first number will do
  pub rise_from_lower : (low first next : ℕ) (members : List (ℕ × T)) → low ≤ first → TicketsRise first next members → TicketsRise low next members
  rise_from_lower low first next [] le rise = omega arith
  rise_from_lower low first next (m ∷ later) le rise = (omega (arith, rise.0), rise.1)

  -- the next ticket goes to the end
  pub rise-append : (first next : ℕ) (members : List (ℕ × T)) (value : T)
      → TicketsRise first next members → TicketsRise first (next + 1) (members ++ (next, value) ∷ [])
  rise-append first next [] value rise = (rise, omega arith)
  rise-append first next (m ∷ later) value rise = (rise.0, rise-append (m.0 + 1) next later value rise.1)

  -- a member may go
  pub rise-remove_entry : (first next ticket : ℕ) (members : List (ℕ × T))
      → TicketsRise first next members → TicketsRise first next (remove_entry (nat_eq ticket) members)
  rise-remove_entry first next ticket [] rise = rise
  rise-remove_entry first next ticket (m ∷ later) rise =
      elim (nat_eq ticket m.0) as (λ b. TicketsRise first next (cond b later (m ∷ remove_entry (nat_eq ticket) later))) [
        | true ↦ rise_from_lower first (m.0 + 1) next later (omega (arith, rise.0)) rise.1
        | false ↦ (rise.0, rise-remove_entry (m.0 + 1) next ticket later rise.1)
      ]

  -- a member may get another value
  pub rise-set_value : (first next ticket : ℕ) (members : List (ℕ × T)) (value : T)
      → TicketsRise first next members → TicketsRise first next (set_value (nat_eq ticket) members value)
  rise-set_value first next ticket [] value rise = rise
  rise-set_value first next ticket (m ∷ later) value rise =
      elim (nat_eq ticket m.0) as (λ b. TicketsRise first next (cond b ((m.0, value) ∷ later) (m ∷ set_value (nat_eq ticket) later value))) [
        | true ↦ rise
        | false ↦ (rise.0, rise-set_value (m.0 + 1) next ticket later value rise.1)
      ]

  -- no member has a ticket below the first or at the next
  pub lookup_below : (first next ticket : ℕ) (members : List (ℕ × T)) → TicketsRise first next members → ticket < first → lookup (nat_eq ticket) members ≡ None
  lookup_below first next ticket [] rise below = refl
  lookup_below first next ticket (m ∷ later) rise below =
      grind (arith, nat_tests, rise.0, lookup_below (m.0 + 1) next ticket later rise.1)

  pub lookup_next : (first next : ℕ) (members : List (ℕ × T)) → TicketsRise first next members → lookup (nat_eq next) members ≡ None
  lookup_next first next [] rise = refl
  lookup_next first next (m ∷ later) rise =
      grind (arith, nat_tests, below_next (m.0 + 1) next later rise.1, lookup_next (m.0 + 1) next later rise.1)
    where
      below_next : (first next : ℕ) (members : List (ℕ × T)) → TicketsRise first next members → first ≤ next
      below_next first next [] rise = rise
      below_next first next (m ∷ later) rise = omega (arith, rise.0, below_next (m.0 + 1) next later rise.1)

  -- what the next ticket's value changes
  lookup-added_other : (next ticket : ℕ) (members : List (ℕ × T)) (value : T) → ticket ≢ next
      → lookup (nat_eq ticket) (members ++ (next, value) ∷ []) ≡ lookup (nat_eq ticket) members
  lookup-added_other next ticket [] value other = grind (arith, nat_tests)
  lookup-added_other next ticket (m ∷ later) value other =
      ap (cond (nat_eq ticket m.0) (Some m.1)) (lookup-added_other next ticket later value other)

  lookup-added : (next : ℕ) (members : List (ℕ × T)) (value : T) → lookup (nat_eq next) members ≡ None
      → lookup (nat_eq next) (members ++ (next, value) ∷ []) ≡ Some value
  lookup-added next [] value none = grind (arith, nat_tests)
  lookup-added next (m ∷ later) value none = grind (arith, nat_tests, lookup-added next later value)

  pub updates_added : (group : Group T) (value : T) → IsSound group → Updates group (with_added group value) group.given (Some value)
  updates_added group value sound =
      record {
        changed = lookup-added group.given group.members value (lookup_next 0 group.given group.members sound.tickets);
        others = λ other apart. lookup-added_other group.given other group.members value apart;
      }

  -- what a removal changes
  lookup-remove_entry_other : (ticket other : ℕ) (members : List (ℕ × T)) → other ≢ ticket
      → lookup (nat_eq other) (remove_entry (nat_eq ticket) members) ≡ lookup (nat_eq other) members
  lookup-remove_entry_other ticket other [] apart = refl
  lookup-remove_entry_other ticket other (m ∷ later) apart =
      grind (arith, nat_tests, lookup-remove_entry_other ticket other later apart)

  lookup-remove_entry : (first next ticket : ℕ) (members : List (ℕ × T)) → TicketsRise first next members
      → lookup (nat_eq ticket) (remove_entry (nat_eq ticket) members) ≡ None
  lookup-remove_entry first next ticket [] rise = refl
  lookup-remove_entry first next ticket (m ∷ later) rise =
      grind (arith, nat_tests, lookup-remove_entry (m.0 + 1) next ticket later rise.1, lookup_below (m.0 + 1) next ticket later rise.1)

  pub updates_removed : (group : Group T) (ticket : ℕ) → IsSound group → Updates group (without group ticket) ticket None
  updates_removed group ticket sound =
      record {
        changed = lookup-remove_entry 0 group.given ticket group.members sound.tickets;
        others = λ other apart. lookup-remove_entry_other ticket other group.members apart;
      }
