use Rattle.std.proofs.Common.{◌≡◌, length, Some, None, sym, subst}
use Rattle.rx_pool.specs.Pool.{is_own}
use Rattle.rx_pool.specs.Choice.{last_before}
use Rattle.rx_event.proofs.Laws.Common.{slice_get}
use Rattle.rx_engine.specs.States.{State}
use Rattle.rx_engine.specs.Sharings.{published, none_serves, one_serves}
use Rattle.rx_engine.proofs.SharesChosen.{seen_itself, found_there}
use Rattle.rx_engine.proofs.engine.Engine.disconnect_share.Goals as goal

pub returns-in_default : goal.returns-in_default
returns-in_default c = none_serves
    (subst (λ (s : State). last_before (is_own (published c.args.word)) s.parts.shares.hubs (length s.parts.shares.hubs) ≡ None) c.self.view_is (sym c.in_default.ensures))
    (seen_itself c.args.self.now)

pub returns-in_default-hub_at : goal.returns-in_default-hub_at
returns-in_default-hub_at c = absurd (found_there (is_own (published c.args.word)) c.self.inside.parts.shares.hubs (length c.self.inside.parts.shares.hubs) c.in-Some.place
    (sym c.in-Some.ensures) (sym c.in_default-hub_at.ensures))

pub returns : goal.returns
returns c = one_serves c.in-Some.place c.in-Some-hub_at.hub
    (subst (λ (s : State). last_before (is_own (published c.args.word)) s.parts.shares.hubs (length s.parts.shares.hubs) ≡ Some c.in-Some.place) c.self.view_is (sym c.in-Some.ensures))
    (subst (λ (s : State). slice_get s.parts.shares.hubs c.in-Some.place ≡ Some c.in-Some-hub_at.hub) c.self.view_is (sym c.in-Some-hub_at.ensures))
    c.disconnect.ensures
