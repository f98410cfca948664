use Rattle.std.proofs.Common.{rules, ◌≡◌, true, false, Bool, sym, ap, ◌∙◌, refl, Some, None}
use Rattle.std.specs.Prelude.{if◌then◌else◌}
use Rattle.rx_resource.specs.contracts.token.TokenResource.TheImpl.{ghosts}
use Rattle.rx_slots.specs.declared.Key.{Key}
use Rattle.rx_cellar.specs.Codes.{key_of}
use Rattle.rx_cellar.specs.declared.asked.Asked.TheVariants.{Dispose}
use Rattle.rx_cellar.specs.Asking.{asked_of, asks_item}
use Rattle.rx_cellar.specs.Crossings.{no_answer}
use Rattle.rx_cellar.specs.Makings.{shown, of_nothing}
use Rattle.rx_cellar.proofs.FrequentAsked.{disposal_asked}
use Rattle.rx_cellar.proofs.AnswersTold.{answered_once, unknown_once}
use Rattle.rx_cellar.proofs.cellar.Cellar.make_disposal.Goals as goal

pub returns-then-not-has_no_flags : goal.returns-then-not-has_no_flags
returns-then-not-has_no_flags c =
    let command = c.args.command.now in
    let h = c.if-not-has_no_flags.true in
    let not_plain : c.has_no_flags.result ≡ false = search rules in
    let is = disposal_asked command c.requires
    ∙ ap (λ (b : Bool). if b then Some (Dispose (key_of command.node)) else None) (sym c.has_no_flags.ensures ∙ not_plain) in
    unknown_once ghosts (asked_of command) c.args.by c.args.self.now (no_answer c.args.answer.now) c.refuse_unknown.new.answer c.refuse_unknown.result is
    c.refuse_unknown.ensures.answer c.refuse_unknown.ensures.status

pub returns : goal.returns
returns c =
    let command = c.args.command.now in
    let h = c.if-not-has_no_flags.false in
    let plain : c.has_no_flags.result ≡ true = search rules in
    let is = disposal_asked command c.requires
    ∙ ap (λ (b : Bool). if b then Some (Dispose (key_of command.node)) else None) (sym c.has_no_flags.ensures ∙ plain)
    ∙ ap (λ (k : Key). Some (Dispose k)) (sym c.key_of-root.ensures) in
    answered_once ghosts (asked_of command) (Dispose c.key_of-root.result) c.args.by c.args.self.now c.dispose-tried.new.self
    (shown (of_nothing {A = Unit}) c.dispose-tried.result) (no_answer c.args.answer.now) c.answer_done.new.answer c.answer_done.result is (ap asks_item is)
    (record { engine_answer = c.dispose-tried.result; made_so = c.dispose-tried.ensures; is_shown = refl }) c.answer_done.ensures
