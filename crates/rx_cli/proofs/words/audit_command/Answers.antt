use Rattle.rx_cli.proofs.Common.{◌≡◌, ◌∙◌, ap₂, codes, rules, IfOk-weaker, app_of, new_app, with_rule}
use Rattle.rx_cli.proofs.words.audit_command.Goals as goal

pub returns : goal.returns
returns c =
    let names = c.flag.ensures in
    let bare : app_of c.after_help-bare.result ≡ new_app (codes "audit") = search rules in
    IfOk-weaker c.arg.result _ _ (λ r h. h.shape names.local ∙ ap₂ with_rule bare names.rule) c.arg.ensures
