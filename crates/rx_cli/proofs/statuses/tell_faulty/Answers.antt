use Rattle.rx_cli.proofs.Common.{subst, [], ◌∙◌, IsTextWritten}
use Rattle.rx_cli.proofs.statuses.tell_faulty.Goals as goal

pub returns-in-Ok-clause-told : goal.returns-in-Ok-clause-told
returns-in-Ok-clause-told g c = (
  c.args.why.now,
  subst (IsTextWritten g.E.Write.contents c.args.errors.now c.tell.new.errors)
      (c.as_bytes.ensures.value ∙ c.as_str.ensures.value ∙ c.in-Ok.ensures) c.tell.ensures.told,
)

pub returns-in-Err-clause-told : goal.returns-in-Err-clause-told
returns-in-Err-clause-told g c = (
  [],
  subst (IsTextWritten g.E.Write.contents c.args.errors.now c.tell-in-Err.new.errors) c.as_bytes-in-Err.ensures.value c.tell-in-Err.ensures.told,
)
