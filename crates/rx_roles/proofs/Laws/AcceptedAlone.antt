-- Accepting a resource forces nothing.
use Rattle.rx_event.proofs.Laws.Common.{◌≡◌, ℕ, List, [], ◌∷◌, ◌++◌, refl}
use Rattle.rx_event.proofs.Laws.Common.{Kept, IsLawful, IsSettled, IsForcedOn, MayFollow}
use Rattle.rx_event.specs.declared.event.Event.{Event}
use Rattle.rx_event.specs.declared.event.Event.TheVariants.{Accept}
use Rattle.rx_event.proofs.Laws.Calm.{closes_none_kept}
use Rattle.rx_roles.proofs.Laws.NodesAfterStep.{forces_none}

pub accepted_alone : (base : Kept) (h : List Event) (n tag : ℕ) (k : List Event) → IsLawful base h → IsSettled base h → MayFollow base h (Accept n tag) →
    IsForcedOn base (h ++ Accept n tag ∷ []) k → k ≡ h ++ Accept n tag ∷ []
accepted_alone base h n tag k law settled next steps =
    forces_none base law settled next refl (λ u. refl) (closes_none_kept h (Accept n tag) refl) refl steps
