-- What `clap` makes of words that are written out.
use Rattle.rx_cli.proofs.Common.{◌≡◌, true, false, [], ◌∷◌, map, codes, refl, fault_of, clap_on_literals, rxbook}
use Rattle.clap.specs.declared.error.kind.ErrorKind.TheVariants.{ValueValidation}
use Rattle.rx_dump.specs.declared.judging.Labels.TheVariants.{Numbers, Names}
use Rattle.rx_script.specs.declared.Form.TheVariants.{Report, Dump, NamedDump}
use Rattle.rx_cli.specs.declared.request.Order.TheVariants.{Say, Live, Storm}
use Rattle.rx_cli.specs.declared.request.Asked.TheVariants.{Run, Trace, Audit, Explain, Picture}
use Rattle.rx_cli.specs.Words.{Orders, greatest_storm, storms_beyond, questions, answers, file_words, refusals_of_files}

pub alone : Orders (codes "rxbook" ∷ []) (Say (Run Report false))
unfolding clap_on_literals
alone = record { taken = refl; named = refl }

pub with_run : Orders (codes "rxbook" ∷ codes "run" ∷ []) (Say (Run Report false))
unfolding clap_on_literals
with_run = record { taken = refl; named = refl }

pub with_dump : Orders (codes "rxbook" ∷ codes "run" ∷ codes "--dump" ∷ [])
    (Say (Run Dump false))
unfolding clap_on_literals
with_dump = record { taken = refl; named = refl }

pub with_names : Orders (codes "rxbook" ∷ codes "run" ∷ codes "--names" ∷ [])
    (Say (Run NamedDump false))
unfolding clap_on_literals
with_names = record { taken = refl; named = refl }

pub with_both : Orders (codes "rxbook" ∷ codes "run" ∷ codes "--dump" ∷ codes "--names" ∷ [])
    (Say (Run NamedDump false))
unfolding clap_on_literals
with_both = record { taken = refl; named = refl }

pub with_trace : Orders (codes "rxbook" ∷ codes "run" ∷ codes "--trace" ∷ []) (Say (Trace false))
unfolding clap_on_literals
with_trace = record { taken = refl; named = refl }

pub with_trace_and_names : Orders (codes "rxbook" ∷ codes "run" ∷ codes "--names" ∷ codes "--trace" ∷ []) (Say (Trace false))
unfolding clap_on_literals
with_trace_and_names = record { taken = refl; named = refl }

pub with_strict : Orders (codes "rxbook" ∷ codes "run" ∷ codes "--strict" ∷ []) (Say (Run Report true))
unfolding clap_on_literals
with_strict = record { taken = refl; named = refl }

pub with_strict_trace : Orders (codes "rxbook" ∷ codes "run" ∷ codes "--trace" ∷ codes "--strict" ∷ []) (Say (Trace true))
unfolding clap_on_literals
with_strict_trace = record { taken = refl; named = refl }

pub with_audit : Orders (codes "rxbook" ∷ codes "audit" ∷ []) (Say (Audit Numbers))
unfolding clap_on_literals
with_audit = record { taken = refl; named = refl }

pub with_audit_names : Orders (codes "rxbook" ∷ codes "audit" ∷ codes "--names" ∷ []) (Say (Audit Names))
unfolding clap_on_literals
with_audit_names = record { taken = refl; named = refl }

pub with_explain : Orders (codes "rxbook" ∷ codes "explain" ∷ []) (Say Explain)
unfolding clap_on_literals
with_explain = record { taken = refl; named = refl }

pub with_picture : Orders (codes "rxbook" ∷ codes "picture" ∷ []) (Say Picture)
unfolding clap_on_literals
with_picture = record { taken = refl; named = refl }

pub with_live : Orders (codes "rxbook" ∷ codes "live" ∷ []) Live
unfolding clap_on_literals
with_live = record { taken = refl; named = refl }

pub with_storm : Orders (codes "rxbook" ∷ codes "storm" ∷ []) (Storm 4 3 100)
unfolding clap_on_literals
with_storm = record { taken = refl; named = refl }

pub with_greatest : Orders greatest_storm (Storm 64 16 10000)
unfolding clap_on_literals
with_greatest = record { taken = refl; named = refl }

pub beyond : map (fault_of rxbook) storms_beyond ≡ map (λ _. ValueValidation ∷ []) storms_beyond
unfolding clap_on_literals
beyond = refl

pub with_help : map (fault_of rxbook) questions ≡ answers
unfolding clap_on_literals
with_help = refl

pub with_files : map (fault_of rxbook) file_words ≡ refusals_of_files
unfolding clap_on_literals
with_files = refl
