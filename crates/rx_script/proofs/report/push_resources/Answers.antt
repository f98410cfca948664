use Rattle.rx_script.proofs.Common.{◌≡◌, ◌++◌, ◌∙◌, ap, string_bytes, name_bytes, res_binding, account_of, res_shown, res_line}
use Rattle.rx_script.proofs.LinesMade.{res_line_more}
use Rattle.rx_script.proofs.report.push_resources.Goals as goal

pub loop-named-preserved : goal.loop-named-preserved
loop-named-preserved g c = λ h whole.
    let item = c.named-item.result in
    let account : c.account_of.result ≡ account_of h item.key.number = c.account_of.ensures h whole in
    let here : string_bytes c.push_res.new.text ≡ string_bytes c.loop-named.text ++ res_shown h (res_binding item) =
    c.in_ok-push_res.ensures ∙ ap (λ n. string_bytes c.loop-named.text ++ res_line n c.account_of.result) c.as_str.ensures.value
    ∙ ap (λ a. string_bytes c.loop-named.text ++ res_line (name_bytes item) a) account in
    res_line_more res_binding c.args.resources.now c.loop-named.named-index item c.loop-named-test.true c.named-item.is h
    (string_bytes c.args.text.now) (string_bytes c.loop-named.text) (string_bytes c.push_res.new.text) (c.loop-named.invariant h whole) here
