-- What is promised of histories that are the same but for their numbers, and of the one order of what is forced.
use Rattle.std.specs.Prelude.{◌≡◌, ◌∷◌, ◌++◌}
use Rattle.rx_event.specs.Claims.Imports.{ℕ, None, List, [], Event, Kept, shown, IsForced, IsSettled, IsAllowed, Started, MayFollow, IsLawful}
use Rattle.rx_event.specs.Claims.Imports.{IsForcedOn, Call, IsStepOf, event_by, call_by, IsKnown, AreSameBy, AreSame, AreSameSince, first_forced, IsFirstOn}

-- the same may come next in both, and leaves both the same
pub record NumbersDoNotMatter (base : Kept) : Type 0 where
  pub start : Started base → AreSame base (shown base) (shown base)
  pub forced : {r s : ℕ → ℕ} {h c : List Event} {e : Event} → AreSameBy base r s h c → IsForced base h e → IsForced base c (event_by r e)
  pub settled : {r s : ℕ → ℕ} {h c : List Event} → AreSameBy base r s h c → IsSettled base h → IsSettled base c
  pub allowed : {r s : ℕ → ℕ} {h c : List Event} {e : Event} → AreSameBy base r s h c → IsSettled base h → IsSettled base c → IsAllowed base h e →
      IsAllowed base c (event_by r e)
  pub event : {r s : ℕ → ℕ} {h c : List Event} {e : Event} → AreSameBy base r s h c → MayFollow base h e → MayFollow base c (event_by r e) →
      AreSameSince base r h c (h ++ e ∷ []) (c ++ event_by r e ∷ [])
  -- in whatever order what is forced comes in each
  pub courses : {r s : ℕ → ℕ} {h c k j : List Event} → AreSameBy base r s h c → IsForcedOn base h k → IsSettled base k →
      IsForcedOn base c j → IsSettled base j → IsLawful base j → AreSameSince base r h c k j
  pub steps : {r s : ℕ → ℕ} {h c k j : List Event} (call : Call) → AreSameBy base r s h c → IsKnown h call →
      IsStepOf base h call k → IsStepOf base c (call_by r call) j → AreSameSince base r h c k j

-- where the one order leads from b
pub record LeadsTo (base : Kept) (b : List Event) : Type 0 where
  pub last : List Event
  pub ordered : IsFirstOn base b last
  pub over : first_forced base last ≡ None
  pub law : IsLawful base last

-- in that order each lawful history comes to just one end
pub record OneOrder (base : Kept) : Type 0 where
  pub leads : (b : List Event) → IsLawful base b → LeadsTo base b
  pub only : (b k j : List Event) → IsFirstOn base b k → first_forced base k ≡ None → IsFirstOn base b j → first_forced base j ≡ None → k ≡ j
  pub is_forced : (b k : List Event) → IsFirstOn base b k → IsForcedOn base b k
  pub settled : (h : List Event) → first_forced base h ≡ None → IsSettled base h
