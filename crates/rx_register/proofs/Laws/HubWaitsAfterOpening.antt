-- An opening that forces a connection leaves its hub waiting for one.
use Rattle.std.proofs.Common.{◌≡◌, ℕ, ◌<◌, true, false, List, [], ◌∷◌, ◌++◌, length}
use Rattle.std.proofs.Common.{refl, ap, ◌∙◌, arith, length-append}
use Rattle.std.proofs.Math.Bool.{not, ◌&&◌}
use Rattle.std.specs.Option.{option_map_or}
use Rattle.std.proofs.lemmas.Bool.{false≢true, and_parts, and_from, eq-eqb, false_from_ne_true, not-true}
use Rattle.std.proofs.lemmas.Option.{slice_get_within}
use Rattle.rx_event.specs.declared.event.Place.{Place}
use Rattle.rx_event.specs.declared.event.Place.TheVariants.{Root, Source, Inner, Notifier}
use Rattle.rx_event.specs.declared.event.Kind.{Kind}
use Rattle.rx_event.specs.declared.event.Kind.TheVariants.{Sub}
use Rattle.rx_event.specs.declared.event.Event.{Event}
use Rattle.rx_event.specs.declared.event.Event.TheVariants.{Open}
use Rattle.rx_event.specs.Events.{is_auto_hub, is_connect_of, is_subscriber_of}
use Rattle.rx_event.specs.Kept.{Kept}
use Rattle.rx_event.specs.Tree.{at, is_open, open_connections}
use Rattle.rx_event.specs.Forced.{IsConnectDue}
use Rattle.rx_event.specs.Allowed.{IsFree}
use Rattle.rx_event.specs.Causes.{has_connection, forces_connect}
use Rattle.rx_event.proofs.Laws.Lists.{filter_nonempty, filter_none}
use Rattle.rx_event.proofs.Laws.Places.{slice_get_last, at-append, at_within}
use Rattle.rx_event.proofs.Laws.Openness.{open_old, is_open_last, is_open_made, is_cut_none, is_cut_inner}
use Rattle.rx_event.proofs.Laws.Waits.{at_before}
use Rattle.rx_register.proofs.Laws.OpeningForcesConnection.{connects_none}

-- what is opened at a free place is open
opened_at : (base : Kept) → (h : List Event) (place : Place) (kind : Kind) → IsFree base h place → is_open (h ++ Open place kind ∷ []) (length h) ≡ true
opened_at base h Root kind free = is_open_last h (Open Root kind) refl
opened_at base h (Source p) kind free = is_open_made h (Open (Source p) kind) p refl refl free.0 (is_cut_none h (Open (Source p) kind) p refl)
opened_at base h (Inner p) kind free = is_open_made h (Open (Inner p) kind) p refl refl free.0 (is_cut_inner h p kind p (omega arith))
opened_at base h (Notifier p) kind free = is_open_made h (Open (Notifier p) kind) p refl refl free.0 (is_cut_none h (Open (Notifier p) kind) p refl)

-- no connection is open after it that was not before
still_unconnected : (h : List Event) (place : Place) (kind : Kind) (g : ℕ) → has_connection h g ≡ false →
    open_connections (h ++ Open place kind ∷ []) g ≡ []
still_unconnected h place kind g none =
    filter_none (λ n. at (is_connect_of g) (h ++ Open place kind ∷ []) n && is_open (h ++ Open place kind ∷ []) n) 0
    (length (h ++ Open place kind ∷ [])) (λ c from. false_from_ne_true _ (λ found. clash c found))
  where
    clash : (c : ℕ) → (at (is_connect_of g) (h ++ Open place kind ∷ []) c && is_open (h ++ Open place kind ∷ []) c) ≡ true → ⊥
    clash c found =
        let parts : (at (is_connect_of g) (h ++ Open place kind ∷ []) c ≡ true) × (is_open (h ++ Open place kind ∷ []) c ≡ true) = and_parts _ _ found in
        let made : at (is_connect_of g) h c ≡ true = at_before (is_connect_of g) h (Open place kind) c refl parts.0 in
        let l : c < length h = at_within (is_connect_of g) h c made in
        filter_nonempty (λ n. at (is_connect_of g) h n && is_open h n) 0 (length h) c (omega arith) (omega arith)
        (and_from _ _ made (open_old h (Open place kind) c l parts.1)) (connects_none h g none)

-- the hub of the new subscriber waits
pub opening_waits_for : (base : Kept) → (h : List Event) (place : Place) (kind : Kind) → IsFree base h place → forces_connect h kind ≡ true →
    (g : ℕ) × IsConnectDue (h ++ Open place kind ∷ []) g
opening_waits_for base h place (Sub k) free forces =
    let parts : (at is_auto_hub h k ≡ true) × (not (has_connection h k) ≡ true) = and_parts _ _ forces in
    let older : k < length h = at_within is_auto_hub h k parts.0 in (
      k,
      record {
        auto = at-append is_auto_hub h (Open place (Sub k) ∷ []) k older ∙ parts.0;
        subscriber = length h;
        subscribes = ap (λ o. option_map_or (is_subscriber_of k) o false) (slice_get_last h (Open place (Sub k))) ∙ eq-eqb k k refl;
        subscribed = opened_at base h place (Sub k) free;
        waits = λ t x. (let l = x.later in let w = slice_get_within (h ++ Open place (Sub k) ∷ []) x.place _ x.ended in
            omega (arith, length-append h (Open place (Sub k) ∷ [])));
        unconnected = still_unconnected h place (Sub k) k (not-true (has_connection h k) parts.1);
      },
    )
opening_waits_for base h place _ free forces = absurd (false≢true forces)
