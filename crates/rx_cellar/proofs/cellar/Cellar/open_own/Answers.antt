use Rattle.std.proofs.Common.{sym, ap, ◌∙◌, refl, Option, subst}
use Rattle.std.specs.Prelude.{option_map}
use Rattle.rx_resource.specs.contracts.token.TokenResource.TheImpl.{ghosts}
use Rattle.rx_event.specs.declared.event.Kind.{Kind}
use Rattle.rx_engine.specs.Openings.{IsOpenMade}
use Rattle.rx_cellar.specs.declared.shapes.NumberedKey.{NumberedKey}
use Rattle.rx_cellar.specs.declared.asked.Opening.{Opening}
use Rattle.rx_cellar.specs.declared.asked.Asked.TheVariants.{Open}
use Rattle.rx_cellar.specs.declared.making.Made.{Made}
use Rattle.rx_cellar.specs.Asking.{asked_of, asks_item}
use Rattle.rx_cellar.specs.Crossings.{no_answer}
use Rattle.rx_cellar.specs.Makings.{shown, of_node, nothing_made}
use Rattle.rx_cellar.proofs.FrequentAsked.{own_asked}
use Rattle.rx_cellar.proofs.AnswersTold.{answered_once, unknown_once, shown_told, shown_refused}
use Rattle.rx_cellar.proofs.cellar.Cellar.open_own.Goals as goal

pub returns-in-Ok : goal.returns-in-Ok
returns-in-Ok c =
    let command = c.args.command.now in
    let kind = c.args.kind in
    let o = c.in-Some.opening in
    let e = c.open.new.self in
    let a = no_answer c.args.answer.now in
    let is = own_asked command kind c.requires.what c.requires.kind
    ∙ ap (λ (x : Option Opening). option_map (λ (o : Opening). Open o.at kind o.user) x) (sym c.opening_in.ensures ∙ c.in-Some.is) in
    let made : Made = record c.nothing_made.result { node = c.node_of.result } in
    let made_is = ap (λ (m : Made). record m { node = c.node_of.result }) c.nothing_made.ensures
    ∙ ap (λ (n : NumberedKey). record nothing_made { node = n }) c.node_of.ensures in
    answered_once ghosts (asked_of command) (Open o.at kind o.user) c.args.by c.args.self.now e
    (shown of_node c.open.result) a c.tell.new.answer 0 is (ap asks_item is)
    (record {
      engine_answer = c.open.result;
      made_so = subst (λ (k : Kind). IsOpenMade ghosts o.at k o.user c.args.by c.args.self.now.engine e c.open.result)
          c.kind_of.ensures.kind c.open.ensures;
      is_shown = refl;
    })
    (shown_told of_node c.open.result c.in-Ok.key made e a c.tell.new.answer 0 c.in-Ok.is made_is c.tell.ensures refl)

pub returns-in-Err : goal.returns-in-Err
returns-in-Err c =
    let command = c.args.command.now in
    let kind = c.args.kind in
    let o = c.in-Some.opening in
    let e = c.open.new.self in
    let a = no_answer c.args.answer.now in
    let is = own_asked command kind c.requires.what c.requires.kind
    ∙ ap (λ (x : Option Opening). option_map (λ (o : Opening). Open o.at kind o.user) x) (sym c.opening_in.ensures ∙ c.in-Some.is) in
    answered_once ghosts (asked_of command) (Open o.at kind o.user) c.args.by c.args.self.now e
    (shown of_node c.open.result) a c.refuse.new.answer c.refuse.result is (ap asks_item is)
    (record {
      engine_answer = c.open.result;
      made_so = subst (λ (k : Kind). IsOpenMade ghosts o.at k o.user c.args.by c.args.self.now.engine e c.open.result)
          c.kind_of.ensures.kind c.open.ensures;
      is_shown = refl;
    })
    (shown_refused of_node c.open.result c.in-Err.why e a c.refuse.new.answer c.refuse.result c.in-Err.is c.refuse.ensures.answer c.refuse.ensures.status)

pub returns-in_default : goal.returns-in_default
returns-in_default c =
    let command = c.args.command.now in
    let kind = c.args.kind in
    let is = own_asked command kind c.requires.what c.requires.kind
    ∙ ap (λ (x : Option Opening). option_map (λ (o : Opening). Open o.at kind o.user) x) (sym c.opening_in.ensures ∙ c.in_default.is) in
    unknown_once ghosts (asked_of command) c.args.by c.args.self.now (no_answer c.args.answer.now) c.refuse_unknown.new.answer c.refuse_unknown.result is
    c.refuse_unknown.ensures.answer c.refuse_unknown.ensures.status
