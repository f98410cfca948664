use Rattle.rx_cli.proofs.Common.{◌≡◌, ◌∙◌, ◌&&◌, not, Bool, true, false, ap, ap₂, refl, true≢false, sym, IfOk-weaker, App, with_subcommand}
use Rattle.rx_cli.proofs.words.program.Goals as goal

top_is : {a b : App} → a ≡ b → a.top ≡ b.top
top_is e = ap (λ (a : App). a.top) e

-- a plain command has no global argument
no_globals : (groups external globals rest : Bool) → (groups && (not external && (not globals && rest))) ≡ true → globals ≡ false
no_globals groups external false rest plain = refl
no_globals true false true rest plain = absurd (true≢false (sym plain))
no_globals true true true rest plain = absurd (true≢false (sym plain))
no_globals false external true rest plain = absurd (true≢false (sym plain))

plain_is : {a b : App} → a ≡ b → a.top.is_plain ≡ b.top.is_plain
plain_is e = ap (λ (a : App). a.top.is_plain) e

pub returns : goal.returns
returns c =
    let run_is = c.in_ok-run.ensures in
    let audit_is = c.in_ok-audit.ensures in
    let storm_is = c.in_ok-storm.ensures in
    let explain_is = c.explain_command.ensures in
    let picture_is = c.picture_command.ensures in
    let live_is = c.live_command.ensures in
    let one = c.in_ok-command.ensures.shape (no_globals _ _ _ _ (plain_is run_is)) ∙ ap₂ with_subcommand c.top_command.ensures (top_is run_is) in
    let two = c.in_ok-command-2.ensures.shape (no_globals _ _ _ _ (plain_is audit_is)) ∙ ap₂ with_subcommand one (top_is audit_is) in
    let three = c.in_ok-command-3.ensures.shape (no_globals _ _ _ _ (plain_is explain_is)) ∙ ap₂ with_subcommand two (top_is explain_is) in
    let four = c.in_ok-command-4.ensures.shape (no_globals _ _ _ _ (plain_is picture_is)) ∙ ap₂ with_subcommand three (top_is picture_is) in
    let five = c.in_ok-command-5.ensures.shape (no_globals _ _ _ _ (plain_is live_is)) ∙ ap₂ with_subcommand four (top_is live_is) in
    IfOk-weaker c.subcommand-6.result _ _
    (λ r h. h.shape (no_globals _ _ _ _ (plain_is storm_is)) ∙ ap₂ with_subcommand five (top_is storm_is)) c.subcommand-6.ensures
