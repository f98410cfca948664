use Rattle.std.proofs.Common.{◌∙◌, refl, ap}
use Rattle.cellarcliff.specs.LiveCalls.{makes}
use Rattle.cellarcliff.specs.Stages.{stage}
use Rattle.cellarcliff.proofs.live.cellar_live_new.Goals as goal

pub returns-in-Ok-boxed : goal.returns-in-Ok-boxed
returns-in-Ok-boxed c =
    makes (ap stage c.in_default.ensures.taken) (ap stage c.put-in-Ok-boxed.ensures ∙ c.in-Ok-boxed.ensures)
    c.in-Ok.ensures.fresh (c.in-Ok.ensures.limit ∙ c.into.ensures) refl
