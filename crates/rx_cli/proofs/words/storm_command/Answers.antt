use Rattle.rx_cli.proofs.Common.{◌≡◌, ◌∙◌, ap₂, codes, rules, IfOk-weaker, app_of, new_app, with_rule}
use Rattle.rx_cli.proofs.words.storm_command.Goals as goal

pub returns : goal.returns
returns c =
    let sources = c.number_option.ensures in
    let workers = c.number_option-2.ensures in
    let items = c.number_option-3.ensures in
    let bare : app_of c.after_help-bare.result ≡ new_app (codes "storm") = search rules in
    let first = c.in_ok-first.ensures.shape sources.local ∙ ap₂ with_rule bare sources.rule in
    let second = c.in_ok-second.ensures.shape workers.local ∙ ap₂ with_rule first workers.rule in
    IfOk-weaker c.arg-3.result _ _ (λ r h. h.shape items.local ∙ ap₂ with_rule second items.rule) c.arg-3.ensures
