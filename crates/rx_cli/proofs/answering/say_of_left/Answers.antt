use Rattle.rx_cli.proofs.OutcomesOfAnswers.{said_of_whole, no_json_in_whole, lacking_in_whole}
use Rattle.rx_cli.proofs.answering.say_of_left.Goals as goal

pub returns-in-Ok-clause-ok : goal.returns-in-Ok-clause-ok
returns-in-Ok-clause-ok g c =
    said_of_whole _ _ _ _ _ c.say_or_why.result c.in-Ok.ensures.ok c.in-Ok.ensures.stopped c.in-Ok.ensures.unhurt c.as_slice.ensures.value c.say_or_why.ensures

pub returns-in-Ok-clause-syntax : goal.returns-in-Ok-clause-syntax
returns-in-Ok-clause-syntax g c =
    no_json_in_whole g.I.Read.remaining _ _ c.args.input.now c.read_all.new.reader c.say_or_why.result c.in-Ok.ensures.ok c.as_slice.ensures.value c.say_or_why.ensures

pub returns-in-Ok-clause-shape : goal.returns-in-Ok-clause-shape
returns-in-Ok-clause-shape g c = lacking_in_whole _ _ _ _ _ c.say_or_why.result c.in-Ok.ensures.ok c.as_slice.ensures.value c.say_or_why.ensures
