-- An event is allowed exactly where no cause but `Full` and `NoMemory` stands against the call behind it.
use Rattle.std.proofs.Common.{◌≡◌, ℕ, Bool, true, false, List, [], ◌∷◌, Option, Some, None, cond, refl, ap, inl, inr, ◌⊎◌, ◌↔◌}
use Rattle.std.proofs.lemmas.Bool.{both_ways, false_from_ne_true}
use Rattle.std.specs.Option.{option_map_or}
use Rattle.rx_note.specs.declared.note.Terminal.TheVariants.{Completed, Error}
use Rattle.rx_event.specs.declared.event.Event.{Event}
use Rattle.rx_event.specs.declared.event.Event.TheVariants.{End, Close, Take}
use Rattle.rx_event.specs.Events.{is_leaf}
use Rattle.rx_event.specs.Tree.{at}
use Rattle.rx_event.specs.declared.refusal.Refusal.{Refusal}
use Rattle.rx_event.specs.declared.refusal.Refusal.TheVariants.{Full, NoMemory}
use Rattle.rx_event.specs.Kept.{Kept}
use Rattle.rx_event.specs.Forced.{IsSettled}
use Rattle.rx_event.specs.Allowed.{IsAllowed}
use Rattle.rx_event.specs.Lawful.{IsLawful}
use Rattle.rx_event.specs.Calls.{Call, Ending, Aborting, Failing, Disposing, Disconnecting, outside_of}
use Rattle.rx_event.specs.Refusals.{first_cause}
use Rattle.rx_event.specs.Causes.{causes, unlimited}
use Rattle.rx_register.specs.Claims.{IsReady, IsClear}
use Rattle.rx_register.specs.CallBehind.{call_behind, refusal_of, takes_waiting, may_fail, hub_disconnected}
use Rattle.rx_register.proofs.Laws.CausesWithoutLimit.{never_NoMemory, none_first}
use Rattle.rx_register.proofs.Laws.ClearIsAllowed.{clear_allowed}
use Rattle.rx_register.proofs.Laws.CallBehindAdds.{behind_adds}
use Rattle.rx_register.proofs.Laws.AllowedIsClear.{IsQuiet, allowed_quiet}

-- the two causes that no event shows
is_room : Refusal → Bool
is_room Full = true
is_room NoMemory = true
is_room _ = false

only_room : (stands : Refusal → Bool) → ((why : Refusal) → unlimited stands why ≡ false) → (why : Refusal) → stands why ≡ true →
    (why ≡ Full) ⊎ (why ≡ NoMemory)
only_room stands quiet Full is = inl refl
only_room stands quiet why is = absurd (both_ways (stands why) (quiet why) is)

room_only : (stands : Refusal → Bool) → stands NoMemory ≡ false → ((why : Refusal) → stands why ≡ true → (why ≡ Full) ⊎ (why ≡ NoMemory)) →
    (why : Refusal) → unlimited stands why ≡ false
unfolding is_room
room_only stands none others Full = refl
room_only stands none others NoMemory = none
room_only stands none others why = false_from_ne_true (stands why) (λ is. clash why refl (others why is)) where
  clash : (other : Refusal) → is_room other ≡ false → (other ≡ Full) ⊎ (other ≡ NoMemory) → ⊥
  clash other apart (inl is) = both_ways (is_room other) apart (ap is_room is)
  clash other apart (inr is) = both_ways (is_room other) apart (ap is_room is)

clear_where : {base : Kept} {h : List Event} {limit : ℕ} {call : Call} → IsQuiet base h limit call → IsClear base h limit true call
clear_where {base} {h} {limit} {call} q = record { others = only_room (causes base h limit true call) q.quiet; ready = q.ready }

none_where : (base : Kept) → (h : List Event) (limit : ℕ) (fresh : Bool) (call : Call) → IsClear base h limit fresh call →
    first_cause (unlimited (causes base h limit fresh call)) ≡ None
none_where base h limit fresh call clear =
    none_first (unlimited (causes base h limit fresh call)) (room_only (causes base h limit fresh call) (never_NoMemory base h limit fresh call) clear.others)

pub any_call : (base : Kept) → (h : List Event) (limit : ℕ) (fresh : Bool) (call : Call) (e : Event) → IsLawful base h → IsSettled base h →
    outside_of h call ≡ e ∷ [] → IsClear base h limit fresh call → IsAllowed base h e
any_call base h limit fresh call e law settled adds clear =
    clear_allowed base h limit fresh call e law settled adds (none_where base h limit fresh call clear) clear.ready

pub allowed_where_clear : (base : Kept) → (h : List Event) (limit : ℕ) (e : Event) → IsLawful base h → IsSettled base h →
    (IsAllowed base h e) ↔ (IsClear base h limit true (call_behind base h e))
allowed_where_clear base h limit e law settled = (
  λ a. clear_where (allowed_quiet base h limit e a),
  λ clear. any_call base h limit true (call_behind base h e) e law settled (behind_adds base h e law) clear,
)

-- what the event hands out waits just where what its call hands out does
ready_waits : (base : Kept) → (h : List Event) (e : Event) → IsReady h (call_behind base h e) → takes_waiting h e ≡ true
ready_waits base h (Take r) ready = ready
ready_waits base h _ ready = refl

failing_ready : (h : List Event) (n code : ℕ) (a b : Bool) →
    IsReady h (cond {A = Call} a (Ending n (Error code)) (cond {A = Call} b (Failing n code) (Aborting n code)))
failing_ready h n code true b = tt
failing_ready h n code false true = tt
failing_ready h n code false false = tt

closing_ready : (h : List Event) (n : ℕ) (o : Option ℕ) → IsReady h (option_map_or (λ g. Disconnecting g) o (Disposing n))
closing_ready h n None = tt
closing_ready h n (Some g) = tt

waits_ready : (base : Kept) → (h : List Event) (e : Event) → takes_waiting h e ≡ true → IsReady h (call_behind base h e)
waits_ready base h (Take r) waits = waits
waits_ready base h (End n (Error code)) waits = failing_ready h n code (at is_leaf h n) (may_fail base h n)
waits_ready base h (End n Completed) waits = tt
waits_ready base h (Close n) waits = closing_ready h n (hub_disconnected h n)
waits_ready base h _ waits = tt

pub allowed_unrefused : (base : Kept) → (h : List Event) (e : Event) → IsLawful base h → IsSettled base h →
    (IsAllowed base h e) ↔ ((refusal_of base h e ≡ None) × (takes_waiting h e ≡ true))
allowed_unrefused base h e law settled = (to, back) where
  to : IsAllowed base h e → (refusal_of base h e ≡ None) × (takes_waiting h e ≡ true)
  to a =
      let q : IsQuiet base h 0 (call_behind base h e) = allowed_quiet base h 0 e a in
      (none_first (unlimited (causes base h 0 true (call_behind base h e))) q.quiet, ready_waits base h e q.ready)

  back : (refusal_of base h e ≡ None) × (takes_waiting h e ≡ true) → IsAllowed base h e
  back w = clear_allowed base h 0 true (call_behind base h e) e law settled (behind_adds base h e law) w.0 (waits_ready base h e w.1)
