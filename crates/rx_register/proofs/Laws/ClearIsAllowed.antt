-- Where no cause but want of room stands against a call that adds one event, the event is allowed.
use Rattle.std.proofs.Common.{◌≡◌, ℕ, Bool, List, [], ◌∷◌, None, subst, ◌∙◌}
use Rattle.rx_event.specs.declared.event.Event.{Event}
use Rattle.rx_event.specs.declared.event.Event.TheVariants.{Accept}
use Rattle.rx_event.specs.Kept.{Kept}
use Rattle.rx_event.specs.Forced.{IsSettled}
use Rattle.rx_event.specs.Allowed.{IsAllowed, accepted}
use Rattle.rx_event.specs.Lawful.{IsLawful, MayFollow, forced, allowed, opened_with}
use Rattle.rx_event.specs.Calls.{Call, outside_of}
use Rattle.rx_event.specs.Refusals.{first_cause}
use Rattle.rx_event.specs.Causes.{causes, unlimited}
use Rattle.rx_register.specs.Claims.{IsReady, MayFollowInTurn}
use Rattle.rx_register.proofs.Laws.Calls.{call_follows}
use Rattle.rx_register.proofs.Laws.CausesWithoutLimit.{any_limit, limit_for, has_room, first_cause-same, unlimited_room}

-- in a settled history only what callers may do may follow
pub follows_allowed : (base : Kept) → (h : List Event) (e : Event) → IsSettled base h → MayFollow base h e → IsAllowed base h e
follows_allowed base h e settled (forced f) = absurd (settled.none e f)
follows_allowed base h e settled (allowed s a) = a
follows_allowed base h (Accept n tag) settled (opened_with found last o) = accepted o

-- with a limit that it does not reach, no cause stands against the call
clear_at : (base : Kept) → (h : List Event) (limit : ℕ) (fresh : Bool) (call : Call) → first_cause (unlimited (causes base h limit fresh call)) ≡ None →
    first_cause (causes base h (limit_for base h call) fresh call) ≡ None
clear_at base h limit fresh call none =
    let far = limit_for base h call in
    first_cause-same (causes base h far fresh call) (unlimited (causes base h far fresh call))
    (unlimited_room (causes base h far fresh call) (has_room base h fresh call)) ∙
    first_cause-same (unlimited (causes base h far fresh call)) (unlimited (causes base h limit fresh call)) (any_limit base h far limit fresh call) ∙ none

-- one event of a call without a cause is allowed
pub clear_allowed : (base : Kept) → (h : List Event) (limit : ℕ) (fresh : Bool) (call : Call) (e : Event) → IsLawful base h → IsSettled base h →
    outside_of h call ≡ e ∷ [] → first_cause (unlimited (causes base h limit fresh call)) ≡ None → IsReady h call → IsAllowed base h e
clear_allowed base h limit fresh call e law settled adds none ready = follows_allowed base h e settled follows.0 where
  follows : MayFollowInTurn base h (e ∷ [])
  follows = subst (λ (events : List Event). MayFollowInTurn base h events) adds (call_follows base h (limit_for base h call) fresh call (record {
    lawful = law;
    settled = settled;
    no_cause = clear_at base h limit fresh call none;
    ready = ready;
  }))
