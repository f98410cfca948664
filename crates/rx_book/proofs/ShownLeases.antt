-- The lease of least number.
use Rattle.rx_book.proofs.Common.{◌≡◌, ℕ, ◌<◌, true, List, length, Option, Some, None, option_map, IsTrue, IfSome, refl, sym, ◌∙◌, arith, false_from_ne_true, Event, places, is_out, Slots, Stowed}
use Rattle.rx_book.proofs.Common.{IsFirst, HasNone, some_of, lease_key, AreLeased, find_nothing, find_first, has_lease_key, lease_keys_of}
use Rattle.std.specs.List.{find}
use Rattle.std.specs.Prelude.{IfNone}
use Rattle.rx_event.proofs.Laws.Leases.{is_out_within}
use Rattle.rx_slots.specs.declared.Key.{Key}
use Rattle.rx_tree.specs.declared.node.ResKey.{ResKey}
use Rattle.rx_ground.specs.declared.leases.LeaseKey.{LeaseKey}
use Rattle.rx_ground.specs.Leases.{IsOut}
use Rattle.rx_book.proofs.ShownKeys.{has_lease_key_is}
use Rattle.std.proofs.Common.{rules}

module _ {T : Type 0} (h : List Event) (resources : Slots (Stowed T)) (leases : Slots ResKey) (leased : AreLeased h resources leases) where
  -- a lease that is out has a key
  out_key : (l : ℕ) → is_out h l ≡ true → (key : Key) × (key.number ≡ l) × IsOut leases key
  out_key l out = let has = leased.every l out in (has.key, has.numbered, rw has.found refl)

  -- where there is no key, none is out
  pub open_lease_none : HasNone (IsOut leases) 0 → find (is_out h) (places h) ≡ None
  open_lease_none none = search (rules, find_nothing, false_from_ne_true, out_key)

  -- and the first key is that of the first lease that is out
  pub open_lease_some : (key : Key) → IsFirst (IsOut leases) 0 key → find (is_out h) (places h) ≡ Some key.number
  open_lease_some key first =
      let within = is_out_within h key.number is_so in
      find_first (is_out h) 0 (length h) key.number (omega arith) (omega arith) is_so (λ l less. false_from_ne_true (is_out h l) (not_less l less))
    where
      is_so : is_out h key.number ≡ true
      is_so = let res = some_of _ first.one in (leased.each key res.0 res.1).out

      not_less : (l : ℕ) → l < key.number → is_out h l ≡ true → ⊥
      not_less l less out = let k = out_key l out in let above = first.least k.0 k.2 (omega arith) in let e = k.1 in absurd (omega arith)

  -- so what the ground answers is that
  pub open_lease_is : (o : Option LeaseKey) → IfSome o (λ l. IsFirst (IsOut leases) 0 (lease_key l)) → IfNone o (HasNone (IsOut leases) 0) →
      option_map (λ l. l.number) o ≡ find (is_out h) (places h)
  open_lease_is None first none = sym (open_lease_none none)
  open_lease_is (Some l) first none = sym (open_lease_some (lease_key l) first)

-- its key is known
pub lease_listed : (leases : Slots ResKey) (lease : LeaseKey) → IsFirst (IsOut leases) 0 (lease_key lease) →
    has_lease_key (lease_keys_of leases) lease ≡ true
lease_listed leases lease first = has_lease_key_is leases lease ∙ first.one

pub lease_known : (leases : Slots ResKey) (o : Option LeaseKey) → IfSome o (λ l. IsFirst (IsOut leases) 0 (lease_key l)) →
    IfSome o (λ k. IsTrue (has_lease_key (lease_keys_of leases) k))
lease_known leases None first = tt
lease_known leases (Some l) first = lease_listed leases l first
