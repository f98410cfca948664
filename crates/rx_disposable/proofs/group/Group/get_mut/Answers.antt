use Rattle.std.proofs.Common.{refl, sym, ◌∙◌}
use borrow.Follows.Closed.{read_of}
use Rattle.std.specs.Option.{ghost_name_of}
use Rattle.rx_disposable.specs.Members.{member_entries}
use Rattle.rx_disposable.proofs.Places.{kept_in_order, kept_absent, kept_value, kept_set, entries_set, set_same}
use Rattle.rx_disposable.proofs.group.Group.get_mut.Goals as goal

pub place_of-requires : goal.place_of-requires
place_of-requires g c = rw c.as_slice.ensures (kept_in_order _ _ _ _ c.self.invariant)

pub returns-in_err-place : goal.returns-in_err-place
returns-in_err-place g c = (
  rw (c.from_residual.ensures, ← c.self.view_is) refl,
  record {
    writes_back = tt;
    value = rw (c.from_residual.ensures, ← c.self.view_is)
        (sym (kept_absent _ _ _ _ c.self.invariant c.args.ticket (rw c.as_slice.ensures at c.in_err-place.ensures.absent)));
  },
)

pub invariant_of-self-lent : goal.invariant_of-self-lent
invariant_of-self-lent g c lent =
    let m = c.in_ok-member.member.now in
    let found = rw c.as_slice.ensures at c.in_ok-place.ensures.found in
    let has = rw c.as_slice.ensures at c.in_ok-place.ensures.has_ticket in (
      kept_set _ _ _ _ c.self.invariant c.args.ticket _ m found c.in_ok-member.ensures.value has,
      rw (set_same _ _ _ _ c.self.invariant c.args.ticket c.in_ok-place.place m found c.in_ok-member.ensures.value has) c.self.invariant,
    )

pub returns : goal.returns
returns g c =
    let m = c.in_ok-member.member.now in
    let found = rw c.as_slice.ensures at c.in_ok-place.ensures.found in
    let has = rw c.as_slice.ensures at c.in_ok-place.ensures.has_ticket in
    let written = entries_set _ _ _ _ c.self.invariant c.args.ticket c.in_ok-place.place m found c.in_ok-member.ensures.value has in
    let same = set_same _ _ _ _ c.self.invariant c.args.ticket c.in_ok-place.place m found c.in_ok-member.ensures.value has in
    rw (← c.self.view_is) (
      λ t. read_of (ghost_name_of c.as_mut.result)
          (λ (w : g.row.T.Denot). record { members = written w t; given = c.self.inside.given; disposed = c.self.inside.disposed })
          (record { members = member_entries (same t); given = c.self.inside.given; disposed = c.self.inside.disposed }),
      record {
        writes_back = tt;
        value = c.as_mut.ensures.value
            ∙ kept_value _ _ _ _ c.self.invariant c.args.ticket c.in_ok-place.place m found c.in_ok-member.ensures.value has;
      },
    )
