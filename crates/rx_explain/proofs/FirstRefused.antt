-- An event that is refused after a lawful and settled history is the first that may not come there.
use Rattle.std.proofs.Common.{◌≡◌, ℕ, zero, suc, ◌<◌, ◌⊎◌, inl, inr, List, [], ◌∷◌, take, Some, None}
use Rattle.std.proofs.Common.{true, refl, ap, sym, subst, ◌∙◌, arith, slice_get}
use Rattle.std.proofs.lemmas.Bool.{cases_order}
use Rattle.std.proofs.lemmas.List.{take-take}
use Rattle.std.proofs.lemmas.Option.{none-some}
use Rattle.rx_event.specs.declared.event.Event.{Event}
use Rattle.rx_event.specs.declared.event.Event.TheVariants.{Accept}
use Rattle.rx_event.specs.declared.refusal.Refusal.{Refusal}
use Rattle.rx_event.specs.Kept.{nothing_kept}
use Rattle.rx_event.specs.Forced.{IsSettled}
use Rattle.rx_event.specs.Allowed.{IsAllowed, accepted}
use Rattle.rx_event.specs.Lawful.{IsLawful, MayFollow, forced, allowed, opened_with}
use Rattle.rx_register.specs.CallBehind.{refusal_of, takes_waiting}
use Rattle.rx_register.proofs.Laws.AllowedWhereUnrefused.{allowed_unrefused}
use Rattle.rx_audit.specs.declared.verdict.Verdict.{Verdict}
use Rattle.rx_audit.specs.declared.verdict.Verdict.TheVariants.{Lawful, Unlawful, Unsettled}
use Rattle.rx_audit.specs.Verdict.{IsVerdict}
use Rattle.rx_explain.specs.Worded.{IsRefused}
use Rattle.rx_explain.proofs.AcceptedAsRead.{not_lawful}

-- after a settled history only what callers may do may follow
may_be_allowed : (h : List Event) (e : Event) → IsSettled nothing_kept h → MayFollow nothing_kept h e → IsAllowed nothing_kept h e
may_be_allowed h e settled (forced f) = absurd (settled.none e f)
may_be_allowed h e settled (allowed s a) = a
may_be_allowed h (Accept n tag) settled (opened_with at_n len is_open) = accepted is_open

pub refused_breaks : (h : List Event) (e : Event) (why : Refusal) → IsRefused h e why → ¬ MayFollow nothing_kept h e
refused_breaks h e why is follows =
    let unrefused : (refusal_of nothing_kept h e ≡ None) × (takes_waiting h e ≡ true) =
    (allowed_unrefused nothing_kept h e is.lawful is.settled).0 (may_be_allowed h e is.settled follows) in
    none-some why (sym unrefused.0 ∙ is.refused)

get_take : {X : Type 0} (k : ℕ) (xs : List X) (i : ℕ) → i < k → slice_get (take k xs) i ≡ slice_get xs i
get_take zero xs i l = absurd (omega arith)
get_take (suc k) [] i l = refl
get_take (suc k) (x ∷ xs) zero l = refl
get_take (suc k) (x ∷ xs) (suc i) l = get_take k xs i (omega arith)

-- no event before the end of a lawful front breaks
within : (h : List Event) (p q : ℕ) (e : Event) → slice_get h p ≡ Some e → ¬ MayFollow nothing_kept (take p h) e → IsLawful nothing_kept (take q h) → p < q → ⊥
within h p q e found breaks law l =
    not_lawful (take q h) p e (get_take q h p l ∙ found) (subst (λ (k : List Event). ¬ MayFollow nothing_kept k e) (sym (take-take p q h (omega arith))) breaks) law

one_place : (h : List Event) (p q : ℕ) (e f : Event) → slice_get h p ≡ Some e → ¬ MayFollow nothing_kept (take p h) e → IsLawful nothing_kept (take p h) →
    slice_get h q ≡ Some f → ¬ MayFollow nothing_kept (take q h) f → IsLawful nothing_kept (take q h) → p ≡ q
one_place h p q e f at_p breaks_p law_p at_q breaks_q law_q = by_order (cases_order p q) where
  by_order : (p ≡ q) ⊎ ((p < q) ⊎ (q < p)) → p ≡ q
  by_order (inl same) = same
  by_order (inr (inl l)) = absurd (within h p q e at_p breaks_p law_q l)
  by_order (inr (inr l)) = absurd (within h q p f at_q breaks_q law_p l)

-- so a verdict names just its place
pub place_told : (h : List Event) (v : Verdict) (p : ℕ) (e : Event) (why : Refusal) → IsVerdict h v → slice_get h p ≡ Some e → IsRefused (take p h) e why →
    v ≡ Unlawful p
place_told h (Lawful live held waiting) p e why is found refused =
    absurd (not_lawful h p e found (refused_breaks (take p h) e why refused) is.lawful)
place_told h (Unlawful q) p e why is found refused = ap (λ k. Unlawful k) (one_place h q p is.event e is.found is.breaks is.before
    found (refused_breaks (take p h) e why refused) refused.lawful)
place_told h Unsettled p e why is found refused =
    absurd (not_lawful h p e found (refused_breaks (take p h) e why refused) is.lawful)
