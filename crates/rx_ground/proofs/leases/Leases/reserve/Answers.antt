use Rattle.rx_ground.proofs.Common.{length, refl, ap, ◌∙◌, arith, Slots, ResKey, Lists, list_at}
use Rattle.rx_ground.proofs.LeasesStayInOrder.{order_same}
use Rattle.rx_ground.proofs.leases.Leases.reserve.Goals as goal

pub invariant_of-self : goal.invariant_of-self
invariant_of-self c = let is = c.self.invariant in order_same _ _ is _ _ (ap (λ (s : Slots ResKey). s.entries) c.in_err-reserve.ensures.kept) refl
    is.single is.there

pub invariant_of-self-2 : goal.invariant_of-self-2
invariant_of-self-2 c = let is = c.self.invariant in let kept = c.admit.ensures.kept in let list = ap (λ (s : Lists). list_at s 0) kept ∙
    c.in_ok-begin.ensures.same 0 in let many = ap (λ (s : Lists). length s.lists) kept in let one = c.in_ok-begin.ensures.ok in order_same _ _ is _ _
    (ap (λ (s : Slots ResKey). s.entries) c.in_ok-reserve.ensures.kept) list (omega arith) (λ some. omega arith)
