use Rattle.std.proofs.Common.{refl, None, subst}
use Rattle.rx_resource.specs.contracts.token.TokenResource.TheImpl.{ghosts}
use Rattle.rx_slots.specs.declared.Key.{Key}
use Rattle.rx_cellar.specs.declared.asked.Item.{Item}
use Rattle.rx_cellar.specs.declared.cellar.Cellar.{Cellar}
use Rattle.rx_cellar.specs.Asking.{queued_for}
use Rattle.rx_cellar.specs.Crossings.{no_answer}
use Rattle.rx_cellar.specs.Makings.{shown, of_nothing}
use Rattle.rx_cellar.specs.Attempts.{IsMadeOnce}
use Rattle.rx_cellar.proofs.ItemsEmitted.{item_queued}
use Rattle.rx_cellar.proofs.cellar.Cellar.emit_behind.Goals as goal

pub returns : goal.returns
returns c =
    let command = c.args.command.now in
    let item : Item = record { leaf = c.key_of.result; value = command.value } in
    let t : Cellar = record c.args.self.now { engine = c.next-tried.new.self } in
    subst (λ (k : Key). IsMadeOnce ghosts (queued_for (record { leaf = k; value = command.value })) c.args.by c.args.self.now t
    (no_answer c.args.answer.now) c.answer_done.new.answer None c.answer_done.result) c.key_of.ensures
    (item_queued ghosts item c.args.by c.args.self.now c.next-tried.new.self (shown (of_nothing {A = Unit}) c.next-tried.result) (no_answer c.args.answer.now)
    c.answer_done.new.answer c.answer_done.result
    (record { engine_answer = c.next-tried.result; made_so = c.next-tried.ensures; is_shown = refl }) c.answer_done.ensures)
