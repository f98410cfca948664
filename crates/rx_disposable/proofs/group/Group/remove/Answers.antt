use Rattle.std.proofs.Common.{refl, sym, ◌∙◌}
use Rattle.rx_disposable.proofs.Places.{kept_in_order, kept_absent, remove_absent, kept_some, kept_value, kept_removed, entries_removed}
use Rattle.rx_disposable.proofs.Tickets.{updates_removed}
use Rattle.rx_disposable.proofs.group.Group.remove.Goals as goal

pub place_of-requires : goal.place_of-requires
place_of-requires g c = rw c.as_slice.ensures (kept_in_order _ _ _ _ c.self.invariant)

pub returns-in_err-place-clause-value : goal.returns-in_err-place-clause-value
returns-in_err-place-clause-value g c =
    rw (c.from_residual.ensures, ← c.self.view_is)
    (sym (kept_absent _ _ _ _ c.self.invariant c.args.ticket (rw c.as_slice.ensures at c.in_err-place.ensures.absent)))

pub returns-in_err-place-clause-rest : goal.returns-in_err-place-clause-rest
returns-in_err-place-clause-rest g c =
    rw (
      ← c.self.view_is,
      remove_absent c.args.ticket _
          (kept_absent _ _ _ _ c.self.invariant c.args.ticket (rw c.as_slice.ensures at c.in_err-place.ensures.absent)),
    ) refl

pub into_value-requires : goal.into_value-requires
into_value-requires g c =
    kept_some _ _ _ _ c.self.invariant c.args.ticket _ c.remove.result
    (rw c.as_slice.ensures at c.in_ok-place.ensures.found) c.remove.ensures.value (rw c.as_slice.ensures at c.in_ok-place.ensures.has_ticket)

pub invariant_of-self : goal.invariant_of-self
invariant_of-self g c =
    rw (c.remove.ensures.items, c.remove.ensures.capacity) (kept_removed _ _ _ _ c.self.invariant c.args.ticket _ c.remove.result
    (rw c.as_slice.ensures at c.in_ok-place.ensures.found) c.remove.ensures.value (rw c.as_slice.ensures at c.in_ok-place.ensures.has_ticket))

pub returns-clause-value : goal.returns-clause-value
returns-clause-value g c =
    rw (← c.self.view_is) (sym c.into_value.ensures ∙ kept_value _ _ _ _ c.self.invariant c.args.ticket _ c.remove.result
    (rw c.as_slice.ensures at c.in_ok-place.ensures.found) c.remove.ensures.value (rw c.as_slice.ensures at c.in_ok-place.ensures.has_ticket))

pub returns-clause-rest : goal.returns-clause-rest
returns-clause-rest g c =
    rw (
      ← c.self.view_is,
      c.remove.ensures.items,
      entries_removed _ _ _ _ c.self.invariant c.args.ticket _ c.remove.result
          (rw c.as_slice.ensures at c.in_ok-place.ensures.found) c.remove.ensures.value (rw c.as_slice.ensures at c.in_ok-place.ensures.has_ticket),
    ) refl

pub returns-in_err-place-clause-updates : goal.returns-in_err-place-clause-updates
returns-in_err-place-clause-updates g c =
    record {
      changed = rw (← c.self.view_is) (kept_absent _ _ _ _ c.self.invariant c.args.ticket (rw c.as_slice.ensures at c.in_err-place.ensures.absent));
      others = λ other apart. refl;
    }

pub returns-clause-updates : goal.returns-clause-updates
returns-clause-updates g c =
    rw (
      ← c.self.view_is,
      c.remove.ensures.items,
      entries_removed _ _ _ _ c.self.invariant c.args.ticket _ c.remove.result
          (rw c.as_slice.ensures at c.in_ok-place.ensures.found) c.remove.ensures.value (rw c.as_slice.ensures at c.in_ok-place.ensures.has_ticket),
    )
    (updates_removed _ c.args.ticket c.self.invariant.sound)
