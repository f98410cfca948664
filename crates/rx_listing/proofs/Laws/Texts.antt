-- Texts behind one another, with a comma between them, as one more is written.
use Rattle.rx_listing.proofs.Common.{◌≡◌, ℕ, Bool, false, List, [], ◌∷◌, ◌++◌, codes, flat_map, Some, None, refl, sym, ap, ◌∙◌, append_assoc, cons_option}
use Rattle.rx_listing.proofs.Common.{append-nil, joined, has_no_texts, led_text}
use Rattle.std.proofs.lemmas.List.Concat.{flat_map-append}

-- texts behind one another, as there is one more, or none
module _ (xs ys : List (List ℕ)) where
  pub same_texts : ys ≡ xs ++ cons_option None [] → xs ≡ ys
  same_texts none = sym (none ∙ append-nil xs)

  pub more_nil : (object : List ℕ) → ys ≡ xs ++ cons_option (Some object) [] → false ≡ has_no_texts ys
  more_nil object there = not_nil xs ∙ sym (ap has_no_texts there) where
    not_nil : (zs : List (List ℕ)) → false ≡ has_no_texts (zs ++ object ∷ [])
    not_nil [] = refl
    not_nil (z ∷ zs) = refl

  pub more_text : (object : List ℕ) (first : Bool) (begun : List ℕ) {text new : List ℕ} → ys ≡ xs ++ cons_option (Some object) [] →
      first ≡ has_no_texts xs → text ≡ begun ++ joined xs → new ≡ text ++ led_text first object → new ≡ begun ++ joined ys
  more_text object first begun {text} there is written next =
      next ∙ ap (λ (b : Bool). text ++ led_text b object) is ∙ ap (λ (t : List ℕ). t ++ led_text (has_no_texts xs) object) written
      ∙ append_assoc begun (joined xs) (led_text (has_no_texts xs) object) ∙ ap (λ (t : List ℕ). begun ++ t) (led xs)
      ∙ ap (λ (texts : List (List ℕ)). begun ++ joined texts) (sym there)
    where
      led : (zs : List (List ℕ)) → joined zs ++ led_text (has_no_texts zs) object ≡ joined (zs ++ object ∷ [])
      led [] = sym (append-nil object)
      led (z ∷ zs) =
          let comma = λ (q : List ℕ). codes "," ++ q in
          append_assoc z (flat_map comma zs) (codes "," ++ object)
          ∙ ap (λ (t : List ℕ). z ++ t) (ap (λ (t : List ℕ). flat_map comma zs ++ t) (sym (append-nil (codes "," ++ object)))
          ∙ sym (flat_map-append comma zs (object ∷ [])))
