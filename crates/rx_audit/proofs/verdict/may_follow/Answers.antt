use Rattle.rx_audit.proofs.Common.{Bool, IsTrue, ◌↔◌, sym, ◌∙◌, false≢true, IfOk-weaker, nothing_kept, IsAllowed, MayFollow}
use Rattle.rx_audit.proofs.TestsToVerdict.{settled_answer, unsettled_climbs}
use Rattle.rx_audit.proofs.verdict.may_follow.Goals as goal

pub returns-then-settled-clause-follows : goal.returns-then-settled-clause-follows
returns-then-settled-clause-follows c = let h = c.args.past.now in IfOk-weaker _ (λ (b : Bool). (IsTrue b) ↔ IsAllowed nothing_kept h _) (λ (b :
    Bool). (IsTrue b) ↔ MayFollow nothing_kept h _) (λ b w. settled_answer h _ b (c.requires.settled.0 c.if-settled.true) w) c.is_allowed.ensures.allows

pub returns-clause-climbed : goal.returns-clause-climbed
returns-clause-climbed c t = let b = c.requires.settled.1 in unsettled_climbs _ _ _ (λ s. false≢true (sym c.if-settled.false ∙ b s))
    (c.may_follow_unsettled.ensures.0 t)
