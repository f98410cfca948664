use Rattle.std.proofs.Common.{false, refl, ap, ◌∙◌}
use Rattle.rx_cellar.specs.Crossings.{no_answer}
use Rattle.rx_turns.specs.Seen.{seen}
use Rattle.rx_turns.specs.Agendas.{hand_at}
use Rattle.rx_turns.specs.Telling.{handed_told}
use Rattle.rx_turns.specs.States.{TurnState, turn_state}
use Rattle.rx_turns.specs.Calls.{TurnGoesOn, bare_step}
use Rattle.rx_turns.proofs.Handed.{found_holds}
use Rattle.rx_turns.proofs.turns.Turns.next.Goals as goal

pub returns : goal.returns
returns c =
    let marked : TurnState = record (turn_state c.args.self.now) { agenda = seen c.mark.new.self } in
    let handed = hand_at (turn_state c.go_on-found.new.self).agenda c.go_on-found.result in
    record {
      made = no_answer c.args.answer.now;
      step = bare_step handed;
      steps = record {
        marked = marked;
        made = marked;
        marks = record { marks = c.mark.ensures; only = refl };
        makes = (refl, refl, refl, refl);
        goes_on = found_holds (TurnGoesOn c.args.turn (turn_state c.go_on-found.new.self) marked) (turn_state c.go_on-found.new.self) c.go_on-found.result
            c.go_on-found.ensures;
      };
      told = c.tell.ensures ∙ ap (handed_told handed false) c.clear.ensures;
      status_is = refl;
    }
