use Rattle.std.proofs.Common.{sym, subst, Option, None}
use Rattle.std.specs.Prelude.{option_map}
use Rattle.rx_resource.specs.contracts.token.TokenResource.TheImpl.{ghosts}
use Rattle.rx_slots.specs.declared.Key.{Key}
use Rattle.rx_cellar.specs.declared.shapes.Answer.{Answer}
use Rattle.rx_cellar.specs.declared.shapes.Effect.{Effect}
use Rattle.rx_cellar.specs.declared.asked.Item.{Item}
use Rattle.rx_cellar.specs.declared.making.Made.{Made}
use Rattle.rx_cellar.specs.declared.cellar.Cellar.{Cellar}
use Rattle.rx_cellar.specs.Asking.{asked_for}
use Rattle.rx_cellar.specs.Makings.{nothing_made}
use Rattle.rx_cellar.specs.Cellars.{told}
use Rattle.rx_cellar.specs.Crossings.{no_answer, effect_of}
use Rattle.rx_cellar.specs.Attempts.{IsMadeOnce}
use Rattle.rx_cellar.proofs.ItemsEmitted.{item_done, item_refused}
use Rattle.rx_cellar.proofs.cellar.Cellar.emit.Goals as goal

pub returns-in-Ok : goal.returns-in-Ok
returns-in-Ok c =
    let command = c.args.command.now in
    let a = no_answer c.args.answer.now in
    let e = c.next_handing.new.self in
    let item : Item = record { leaf = c.key_of.result; value = command.value } in
    subst (λ (k : Key). IsMadeOnce ghosts (asked_for (record { leaf = k; value = command.value })) c.args.by c.args.self.now c.give_out.new.self a
    c.tell.new.answer c.give_out.result 0) c.key_of.ensures
    (subst (λ (o : Option Effect). IsMadeOnce ghosts (asked_for item) c.args.by c.args.self.now c.give_out.new.self a c.tell.new.answer o 0)
    (sym c.give_out.ensures.effect)
    (subst (λ (b : Answer). IsMadeOnce ghosts (asked_for item) c.args.by c.args.self.now c.give_out.new.self a b (option_map effect_of c.in-Ok.sent) 0)
    (sym c.tell.ensures)
    (subst (λ (m : Made). IsMadeOnce ghosts (asked_for item) c.args.by c.args.self.now c.give_out.new.self a (told m e a) (option_map effect_of c.in-Ok.sent) 0)
    (sym c.nothing_made.ensures)
    (subst (λ (t : Cellar). IsMadeOnce ghosts (asked_for item) c.args.by c.args.self.now t a (told nothing_made e a) (option_map effect_of c.in-Ok.sent) 0)
    (sym c.give_out.ensures.counts)
    (item_done ghosts item c.args.by c.args.self.now e c.next_handing.result c.in-Ok.sent a c.next_handing.ensures c.in-Ok.is)))))

pub returns-in-Err : goal.returns-in-Err
returns-in-Err c =
    let command = c.args.command.now in
    let a = no_answer c.args.answer.now in
    let item : Item = record { leaf = c.key_of.result; value = command.value } in
    let t : Cellar = record c.args.self.now { engine = c.next_handing.new.self } in
    subst (λ (k : Key). IsMadeOnce ghosts (asked_for (record { leaf = k; value = command.value })) c.args.by c.args.self.now t a c.refuse.new.answer None
    c.refuse.result) c.key_of.ensures
    (item_refused ghosts item c.args.by c.args.self.now c.next_handing.new.self c.next_handing.result c.in-Err.why a
    c.refuse.new.answer c.refuse.result c.next_handing.ensures c.in-Err.is c.refuse.ensures.answer c.refuse.ensures.status)
