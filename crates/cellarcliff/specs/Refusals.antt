-- What is left of the engine where a command is refused.
use Rattle.std.specs.Prelude.{ℕ, Bool, true, false}
use Rattle.rx_resource.specs.declared.Resource.{Ghosts}
use Rattle.rx_resource.specs.declared.token.Token.{Token}
use Rattle.rx_engine.specs.Checkpoints.{IsCheckpointed}
use Rattle.rx_engine.specs.Hubs.{MakesHubs}
use Rattle.rx_engine.specs.States.{State, IsSeenAs}

-- nothing happened but that room was gotten, a checkpoint made, or hubs for shares
pub data KeepsAllElse (g : Ghosts Token) (s : State) : State → Type 0 where
  is_as_before : KeepsAllElse g s s
  got_room : {t u : State} → KeepsAllElse g s t → IsSeenAs t u → KeepsAllElse g s u
  made_checkpoint : {t u : State} → KeepsAllElse g s t → IsCheckpointed t u → KeepsAllElse g s u
  made_hubs : {t u : State} (by : ℕ) → KeepsAllElse g s t → MakesHubs g by t u → KeepsAllElse g s u

-- neither a checkpoint nor hubs were made
abbrev pub is_room_only : {g : Ghosts Token} {s t : State} → KeepsAllElse g s t → Bool
is_room_only is_as_before = true
is_room_only (got_room before seen) = is_room_only before
is_room_only (made_checkpoint before made) = false
is_room_only (made_hubs by before made) = false
