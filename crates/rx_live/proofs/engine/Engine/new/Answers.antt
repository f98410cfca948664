use Rattle.rx_live.proofs.Common.{refl, ap, State, Session, IsNewSession, None}
use Rattle.rx_live.proofs.Soundness.{sound_start}
use Rattle.rx_live.proofs.engine.Engine.new.Goals as goal

pub returns : goal.returns
returns c =
    let s : Session =
    record {
      book = c.new-book.result;
      nodes = c.new.result;
      hubs = c.new-2.result;
      resources = c.new-3.result;
      leases = c.new-4.result;
      untold = None;
      unnamed = None;
    } in
    let fresh : IsNewSession s = record {
      history = ap (λ (b : State). b.history) c.new-book.ensures;
      given = ap (λ (b : State). b.given) c.new-book.ensures;
      nodes = c.new.ensures.none;
      hubs = c.new-2.ensures.none;
      resources = c.new-3.ensures.none;
      leases = c.new-4.ensures.none;
      untold = refl;
      unnamed = refl;
    } in
    record {
      sound = sound_start c.promise.ensures fresh c.new.ensures.paired c.new-2.ensures.paired c.new-3.ensures.paired c.new-4.ensures.paired;
      fresh = fresh;
      limit = ap (λ (b : State). b.limit) c.new-book.ensures;
    }
