use Rattle.rx_script.proofs.Common.{string_bytes, sym, ap, ◌∙◌, stage_of, dump, named_dump, has_history, unclosed_output}
use Rattle.rx_script.specs.Engine.{engine_names}
use Rattle.rx_script.proofs.OneMoreStep.{IfOk-map}
use Rattle.rx_script.proofs.WrittenBeforeClosing.{history_whole}
use Rattle.rx_script.proofs.running.unclosed_output.Goals as goal

pub returns-in-Dump-clause-ok : goal.returns-in-Dump-clause-ok
returns-in-Dump-clause-ok g c = IfOk-map c.dump_of.result (λ s dumped h w unchecked.
    history_whole c.args.engine.now c.requires.sound h w dump (string_bytes s) (unchecked (ap has_history c.in-Dump.is)) dumped
    ∙ ap (λ f. unclosed_output f c.args.answers.now (stage_of c.args.engine.now h)) (sym c.in-Dump.is)) c.dump_of.ensures

pub returns-in-NamedDump-clause-ok : goal.returns-in-NamedDump-clause-ok
returns-in-NamedDump-clause-ok g c = IfOk-map c.named_dump.result (λ s written h w unchecked.
    history_whole c.args.engine.now c.requires.sound h w (λ k. named_dump k (engine_names c.args.engine.now)) (string_bytes s)
    (unchecked (ap has_history c.in-NamedDump.is)) written
    ∙ ap (λ f. unclosed_output f c.args.answers.now (stage_of c.args.engine.now h)) (sym c.in-NamedDump.is)) c.named_dump.ensures
