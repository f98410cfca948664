use Rattle.rx_slots.proofs.Common.{true≢false, sym, ap, ◌∙◌, Member, false_from_ne_true, is_end}
use Rattle.rx_slots.proofs.RingsShowLists.{not_itself, eq_is, member_is, stands_on, eq_refl}
use Rattle.rx_slots.proofs.rings.Rings.is_free.Goals as goal
use Rattle.std.proofs.Common.{rules}

pub returns-in-Member-clause-free : goal.returns-in-Member-clause-free
returns-in-Member-clause-free c = let s = c.self.inside.links in rw (← c.self.view_is)
    (λ same e. false_from_ne_true _ (λ i. not_itself s.ends.items s.members.items 0 c.self.invariant e c.args.member i
    (sym (ap (λ l. l.next) c.link.ensures) ∙ c.in-Member.is ∙ ap (λ k. Member k) (eq_is _ _ same))))

pub returns-in-Member-clause-taken : goal.returns-in-Member-clause-taken
returns-in-Member-clause-taken c = let s = c.self.inside.links in rw (← c.self.view_is)
    (λ e i. false_from_ne_true _ (λ same. not_itself s.ends.items s.members.items 0 c.self.invariant e c.args.member i
    (sym (ap (λ l. l.next) c.link.ensures) ∙ c.in-Member.is ∙ ap (λ k. Member k) (eq_is _ _ same))))

pub returns-in-Member-clause-stands : goal.returns-in-Member-clause-stands
returns-in-Member-clause-stands c = let s = c.self.inside.links in rw (← c.self.view_is)
    (λ other. stands_on s.ends.items s.members.items 0 c.self.invariant c.args.member
    (search (rules, true≢false, eq_refl, member_is)))

pub returns-in-End-clause-stands : goal.returns-in-End-clause-stands
returns-in-End-clause-stands c = let s = c.self.inside.links in rw (← c.self.view_is)
    (λ other. stands_on s.ends.items s.members.items 0 c.self.invariant c.args.member
    (λ loop. true≢false (ap is_end (sym (sym (ap (λ l. l.next) c.link.ensures) ∙ c.in-End.is) ∙ loop))))
