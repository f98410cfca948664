-- What each command does to the lanes.
use Rattle.std.proofs.Common.{sym, subst, length}
use Rattle.rx_resource.specs.declared.Resource.{Ghosts}
use Rattle.rx_resource.specs.declared.token.Token.{Token}
use Rattle.rx_engine.specs.declared.parts.Parts.{Parts}
use Rattle.rx_engine.specs.States.{State, IsPromised}
use Rattle.rx_courses.specs.Courses.{IsCommand, is_refused, has_done, has_held, has_used, has_opened, has_put, has_subscribed, has_connected, has_made_hubs, has_checkpointed, effects_of}
use Rattle.rx_courses.specs.Serving.{maker, answered}
use Rattle.rx_courses.proofs.MovesOfLanes.{moves_none, moves_then, Rests, rests_none, rests_kept, Runs, runs_resting, runs_settled, joins_moves, enters_moves, connects_moves, subscribes_moves, settles_runs}
use Rattle.rx_courses.proofs.HubsTellNone.{calm, quiet_hubs}

pub command_runs : (g : Ghosts Token) (s t : State) → IsPromised s → (c : IsCommand g s t) →
    Runs (maker c) s.parts.lanes (effects_of c) (answered c) t.parts.lanes
command_runs g s t kept (is_refused seen) = runs_resting (rests_kept rests_none seen.parts.lanes)
command_runs g s t kept (has_done by value plain d) = settles_runs g by value d.mid s.parts t.book t.parts moves_none d.settles
command_runs g s t kept (has_held node tag by d) = settles_runs g by 0 d.mid d.entered t.book t.parts (joins_moves d.keeps.joins) d.settles
command_runs g s t kept (has_used at kind user tag by alone d) =
    settles_runs g by 0 d.mid d.with_tag t.book t.parts
    (moves_then (enters_moves s.parts d.entered (length s.book.history) _ _ user.word _ d.name d.enters) (joins_moves d.keeps.joins)) d.settles
command_runs g s t kept (has_opened at kind user by alone d) =
    settles_runs g by 0 d.mid d.entered t.book t.parts (enters_moves s.parts d.entered (length s.book.history) _ _ user.word _ d.name d.enters) d.settles
command_runs g s t kept (has_put to user value by d) = runs_settled moves_none d.puts.delivers d.puts.lanes
command_runs g s t kept (has_subscribed at share user by place d) =
    settles_runs g by 0 d.mid d.entered t.book t.parts
    (subscribes_moves s.parts d.entered (length s.book.history) _ user.word _ place share.word _ d.subscribes) d.settles
command_runs g s t kept (has_connected share user by place d) =
    settles_runs g by 0 d.mid d.entered t.book t.parts (connects_moves s.parts d.entered (length s.book.history) place share.word d.connects) d.settles
command_runs g s t kept (has_made_hubs by makes) = runs_resting (quiet_hubs g by s t (calm s kept) makes).rests
command_runs g s t kept (has_checkpointed c) =
    runs_resting (subst (λ (p : Parts). Rests s.parts.lanes p.lanes) (sym c.parts) rests_none)
