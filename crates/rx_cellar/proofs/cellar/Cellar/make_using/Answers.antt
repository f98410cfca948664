use Rattle.std.proofs.Common.{sym, ap, ◌∙◌, refl, Option, subst}
use Rattle.std.specs.Prelude.{option_map}
use Rattle.rx_resource.specs.contracts.token.TokenResource.TheImpl.{ghosts}
use Rattle.rx_event.specs.declared.event.Kind.{Kind}
use Rattle.rx_engine.specs.Usings.{IsUsingMade}
use Rattle.rx_cellar.specs.declared.shapes.NumberedKey.{NumberedKey}
use Rattle.rx_cellar.specs.declared.asked.Opening.{Opening}
use Rattle.rx_cellar.specs.declared.asked.Asked.TheVariants.{Using}
use Rattle.rx_cellar.specs.declared.making.Made.{Made}
use Rattle.rx_cellar.specs.Asking.{asked_of, asks_item}
use Rattle.rx_cellar.specs.Crossings.{no_answer}
use Rattle.rx_cellar.specs.Makings.{shown, of_used, nothing_made}
use Rattle.rx_cellar.proofs.FrequentAsked.{using_asked}
use Rattle.rx_cellar.proofs.AnswersTold.{answered_once, unknown_once, shown_told, shown_refused}
use Rattle.rx_cellar.proofs.cellar.Cellar.make_using.Goals as goal

pub returns-in-Ok : goal.returns-in-Ok
returns-in-Ok c =
    let command = c.args.command.now in
    let o = c.in-Some.opening in
    let e = c.using.new.self in
    let a = no_answer c.args.answer.now in
    let other : NumberedKey = record { slot = c.in-Ok.used.res.slot; number = c.in-Ok.used.res.number } in
    let is = using_asked command c.requires
    ∙ ap (λ (x : Option Opening). option_map (λ (o : Opening). Using o.at o.user command.value) x) (sym c.opening_in.ensures ∙ c.in-Some.is) in
    let made : Made = record c.nothing_made.result { node = c.node_of.result; other = other } in
    let made_is = ap (λ (m : Made). record m { node = c.node_of.result; other = other }) c.nothing_made.ensures
    ∙ ap (λ (n : NumberedKey). record nothing_made { node = n; other = other }) c.node_of.ensures in
    answered_once ghosts (asked_of command) (Using o.at o.user command.value) c.args.by c.args.self.now e
    (shown of_used c.using.result) a c.tell.new.answer 0 is (ap asks_item is)
    (record {
      engine_answer = c.using.result;
      made_so = subst (λ (k : Kind). IsUsingMade ghosts o.at k o.user command.value c.args.by c.args.self.now.engine e c.using.result)
          c.kind_of-kind.ensures.kind c.using.ensures;
      is_shown = refl;
    })
    (shown_told of_used c.using.result c.in-Ok.used made e a c.tell.new.answer 0 c.in-Ok.is made_is c.tell.ensures refl)

pub returns-in-Err : goal.returns-in-Err
returns-in-Err c =
    let command = c.args.command.now in
    let o = c.in-Some.opening in
    let e = c.using.new.self in
    let a = no_answer c.args.answer.now in
    let is = using_asked command c.requires
    ∙ ap (λ (x : Option Opening). option_map (λ (o : Opening). Using o.at o.user command.value) x) (sym c.opening_in.ensures ∙ c.in-Some.is) in
    answered_once ghosts (asked_of command) (Using o.at o.user command.value) c.args.by c.args.self.now e
    (shown of_used c.using.result) a c.refuse.new.answer c.refuse.result is (ap asks_item is)
    (record {
      engine_answer = c.using.result;
      made_so = subst (λ (k : Kind). IsUsingMade ghosts o.at k o.user command.value c.args.by c.args.self.now.engine e c.using.result)
          c.kind_of-kind.ensures.kind c.using.ensures;
      is_shown = refl;
    })
    (shown_refused of_used c.using.result c.in-Err.why e a c.refuse.new.answer c.refuse.result c.in-Err.is c.refuse.ensures.answer c.refuse.ensures.status)

pub returns-in_default : goal.returns-in_default
returns-in_default c =
    let command = c.args.command.now in
    let is = using_asked command c.requires
    ∙ ap (λ (x : Option Opening). option_map (λ (o : Opening). Using o.at o.user command.value) x) (sym c.opening_in.ensures ∙ c.in_default.is) in
    unknown_once ghosts (asked_of command) c.args.by c.args.self.now (no_answer c.args.answer.now) c.refuse_unknown.new.answer c.refuse_unknown.result is
    c.refuse_unknown.ensures.answer c.refuse_unknown.ensures.status
