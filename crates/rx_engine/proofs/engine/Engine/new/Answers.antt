use Rattle.std.proofs.Common.{ap}
use Rattle.rx_book.specs.State.{State}
use Rattle.rx_engine.specs.Ties.{state_of}
use Rattle.rx_engine.proofs.NewEngine.{new_tied}
use Rattle.rx_engine.proofs.engine.Engine.new.Goals as goal

pub invariant_of-result : goal.invariant_of-result
invariant_of-result c =
    new_tied (state_of (record {
      book = c.new.result;
      parts = record { homes = c.new-2.result; hears = c.new-3.result; merges = c.new-4.result; holds = c.new-5.result; shares = c.new-6.result; effects = c.new-7.result; lanes = c.new-8.result; copies = 0 };
      wishes = c.new-9.result;
    })) (ap (λ (s : State). s.history) c.new.ensures) (ap (λ (s : State). s.given) c.new.ensures) (ap (λ (s : State). s.waiting) c.new.ensures)
    c.new-3.ensures c.new-4.ensures c.new-5.ensures c.new-2.ensures c.new-6.ensures.list c.new-6.ensures.hubs c.new-7.ensures c.new-8.ensures.places c.new-9.ensures.roles
