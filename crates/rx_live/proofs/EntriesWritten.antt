-- The numbers that have names, written one after another.
use Rattle.rx_live.proofs.Common.{◌≡◌, ℕ, suc, ◌+◌, Bool, false, List, [], ◌∷◌, ◌++◌, Option, Some, None, ap, ◌∙◌, arith, cons_option, range_with_len, joined}
use Rattle.rx_live.proofs.Common.{filter_map-append, has_no_texts, led_text, same_texts, more_nil, more_text}
use Rattle.std.proofs.Common.{filter_map, rules}
use Rattle.rx_live.proofs.Listings.{range_more}

range_next : (k : ℕ) → range_with_len 0 (k + 1) ≡ range_with_len 0 k ++ k ∷ []
range_next k = ap (range_with_len 0) (let e : k + 1 ≡ suc k = omega arith in e) ∙ range_more 0 k
    ∙ ap (λ (n : ℕ). range_with_len 0 k ++ n ∷ []) (let e : 0 + k ≡ k = omega arith in e)

module _ (f : ℕ → Option (List ℕ)) (k : ℕ) where
  longer : {o : Option (List ℕ)} → f k ≡ o → filter_map f (range_with_len 0 (k + 1)) ≡ filter_map f (range_with_len 0 k) ++ cons_option o []
  longer there = search (rules, filter_map, range_next, filter_map-append, range_with_len, cons_option)

  pub entry_same : f k ≡ None → filter_map f (range_with_len 0 k) ≡ filter_map f (range_with_len 0 (k + 1))
  entry_same none = same_texts (filter_map f (range_with_len 0 k)) (filter_map f (range_with_len 0 (k + 1))) (longer none)

  pub entry_nil : {entry : List ℕ} → f k ≡ Some entry → false ≡ has_no_texts (filter_map f (range_with_len 0 (k + 1)))
  entry_nil {entry} there = search (rules, more_nil, filter_map, range_with_len, longer)

  pub entry_written : {entry : List ℕ} (first : Bool) (begun : List ℕ) {text new : List ℕ} → f k ≡ Some entry →
      first ≡ has_no_texts (filter_map f (range_with_len 0 k)) → text ≡ begun ++ joined (filter_map f (range_with_len 0 k))
      → new ≡ text ++ led_text first entry →
      new ≡ begun ++ joined (filter_map f (range_with_len 0 (k + 1)))
  entry_written {entry} first begun there is written next = search (rules, more_text, filter_map, range_with_len, longer)
