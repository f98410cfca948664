use Rattle.rx_cli.proofs.Literals.{alone, with_run, with_dump, with_names, with_both, with_trace, with_trace_and_names, with_strict, with_strict_trace}
use Rattle.rx_cli.proofs.Literals.{with_explain, with_picture, with_live, with_audit, with_audit_names, with_storm, with_greatest, beyond, with_help, with_files}
use Rattle.rx_cli.proofs.word_laws.words_have_their_orders.Goals as goal

pub returns-clause-alone : goal.returns-clause-alone
returns-clause-alone c = alone

pub returns-clause-with_run : goal.returns-clause-with_run
returns-clause-with_run c = with_run

pub returns-clause-with_dump : goal.returns-clause-with_dump
returns-clause-with_dump c = with_dump

pub returns-clause-with_names : goal.returns-clause-with_names
returns-clause-with_names c = with_names

pub returns-clause-with_both : goal.returns-clause-with_both
returns-clause-with_both c = with_both

pub returns-clause-with_trace : goal.returns-clause-with_trace
returns-clause-with_trace c = with_trace

pub returns-clause-with_trace_and_names : goal.returns-clause-with_trace_and_names
returns-clause-with_trace_and_names c = with_trace_and_names

pub returns-clause-with_strict : goal.returns-clause-with_strict
returns-clause-with_strict c = with_strict

pub returns-clause-with_strict_trace : goal.returns-clause-with_strict_trace
returns-clause-with_strict_trace c = with_strict_trace

pub returns-clause-with_audit : goal.returns-clause-with_audit
returns-clause-with_audit c = with_audit

pub returns-clause-with_audit_names : goal.returns-clause-with_audit_names
returns-clause-with_audit_names c = with_audit_names

pub returns-clause-with_explain : goal.returns-clause-with_explain
returns-clause-with_explain c = with_explain

pub returns-clause-with_picture : goal.returns-clause-with_picture
returns-clause-with_picture c = with_picture

pub returns-clause-with_live : goal.returns-clause-with_live
returns-clause-with_live c = with_live

pub returns-clause-with_storm : goal.returns-clause-with_storm
returns-clause-with_storm c = with_storm

pub returns-clause-with_greatest : goal.returns-clause-with_greatest
returns-clause-with_greatest c = with_greatest

pub returns-clause-beyond : goal.returns-clause-beyond
returns-clause-beyond c = beyond

pub returns-clause-help : goal.returns-clause-help
returns-clause-help c = with_help

pub returns-clause-files : goal.returns-clause-files
returns-clause-files c = with_files
