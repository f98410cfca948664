use Rattle.rx_cli.proofs.Common.{◌≡◌, ◌∙◌, ap₂, codes, rules, IfOk-weaker, app_of, new_app, with_rule}
use Rattle.rx_cli.proofs.words.run_command.Goals as goal

pub returns : goal.returns
returns c =
    let dump = c.flag.ensures in
    let names = c.flag-2.ensures in
    let bare : app_of c.after_help-bare.result ≡ new_app (codes "run") = search rules in
    let first = c.in_ok-first.ensures.shape dump.local ∙ ap₂ with_rule bare dump.rule in
    let trace = c.flag-3.ensures in
    let second = c.in_ok-second.ensures.shape names.local ∙ ap₂ with_rule first names.rule in
    let strict = c.flag-4.ensures in
    let third = c.in_ok-third.ensures.shape trace.local ∙ ap₂ with_rule second trace.rule in
    IfOk-weaker c.arg-4.result _ _ (λ r h. h.shape strict.local ∙ ap₂ with_rule third strict.rule) c.arg-4.ensures
