-- What callers see of a ground before a checkpoint and after it.
use Rattle.rx_book.proofs.Common.{◌≡◌, ℕ, None, Ok, Err, map, ap, length, Ghosts, shown, base_of, Agree, Refusal, first_cause, IsRefusal, Slots, Tree}
use Rattle.rx_book.proofs.Common.{checkpoint_causes, Ground, held_in, waiting_in, label_in, IsCheckpoint, IsStanding, Checkpoints, AnswersCheckpoint, State}
use Rattle.rx_book.proofs.Common.{state_of, keys_of, res_keys_of, lease_keys_of}
use Rattle.rx_event.proofs.Laws.Checkpoints.{kept_agrees}
use Rattle.rx_register.specs.State.{IsPromised as IsRegisterPromised}
use Rattle.rx_tree.specs.declared.node.ResKey.{ResKey}

pub checkpointed : {T : Type 0} (g : Ghosts T) (old new : Ground T) → IsRegisterPromised old.register → IsStanding g old →
    first_cause (checkpoint_causes old.register.history old.register.given) ≡ None → IsCheckpoint old new → Checkpoints (state_of g old) (state_of g new)
checkpointed {T = T} g old new promised standing no_cause checkpoint = record {
  no_cause = no_cause;
  base = checkpoint.register.base;
  history = checkpoint.register.history;
  agree = rw (checkpoint.register.history, checkpoint.register.base) agree;
  limit = checkpoint.register.limit;
  keys = ap (λ (t : Tree T). keys_of t) checkpoint.tree;
  res_keys = ap (λ (t : Tree T). res_keys_of t) checkpoint.tree;
  lease_keys = ap (λ (ls : Slots ResKey). lease_keys_of ls) checkpoint.leases;
  held = ap (λ (t : Tree T). map (label_in g) (held_in t)) checkpoint.tree;
  waiting = ap (λ (t : Tree T). map (label_in g) (waiting_in t)) checkpoint.tree;
  given = checkpoint.register.given;
  closed = checkpoint.closed;
}
  where
    agree : Agree old.register.base old.register.history (base_of old.register.base old.register.history)
        (shown (base_of old.register.base old.register.history))
    agree = kept_agrees old.register.base old.register.history promised.lawful standing.settled

-- what is answered where it was made, and where it was refused
pub answers_made : (old new : State) (place : ℕ) → place ≡ length old.history → Checkpoints old new → AnswersCheckpoint old new (Ok place)
answers_made old new place counted made = record { ok = counted; made = made; refused = tt; kept = tt }

pub answers_refused : (old new : State) (why : Refusal) → IsRefusal (checkpoint_causes old.history old.given) why → new ≡ old →
    AnswersCheckpoint old new (Err why)
answers_refused old new why refused kept = record { ok = tt; made = tt; refused = refused; kept = kept }
