-- A lease is out from the event that gives it to the first one that returns it.
use Rattle.rx_picture.proofs.Common.{◌⊎◌, inl, inr, ◌&&◌, sym, ap, true, ◌∙◌}
use Rattle.rx_picture.proofs.Common.{◌≡◌, ℕ, ◌<◌, ◌≤◌, max, Bool, List, length, take, Option, Some, nat_lt}
use Rattle.rx_picture.proofs.Common.{slice_get, not, list_any, option_map_or, cases_lt, lt-ltb, le-ltb, and_left, Event, Lease}
use Rattle.rx_picture.proofs.Common.{is_out, Loan, Spans, IsShape, TurnsAt, has_returned}
use Rattle.rx_event.proofs.Laws.Leases.{is_out_past}
use Rattle.rx_picture.proofs.Prefixes.{past_prefix, at_prefix}
use Rattle.rx_picture.proofs.WhereTestsTurnTrue.{turn_within}
use Rattle.rx_picture.proofs.WhereLinesEnd.{cut_alone}
use Rattle.std.proofs.Common.{rules}

module _ (h : List Event) (l r back : ℕ) (leased : slice_get h l ≡ Some (Lease r)) (returned : TurnsAt h (has_returned l) (length h) (length h) back) where
  out_prefix : (k : ℕ) → l < k → k ≤ length h → is_out (take k h) l ≡ not (nat_lt back k)
  unfolding is_out
  out_prefix k p m =
      search (rules, Bool, not, list_any, take, at_prefix, Option, Event, option_map_or)

  loan_out : Spans h (λ k. is_out k l) l (max back l)
  loan_out k m = by_place (cases_lt l k) where
    by_place : (l < k) ⊎ (k ≤ l) → is_out (take k h) l ≡ (nat_lt l k && not (nat_lt (max back l) k))
    by_place (inl p) =
        out_prefix k p m ∙ sym (ap (λ (x : Bool). x && not (nat_lt (max back l) k)) (lt-ltb l k p)
        ∙ ap (λ (x : Bool). true && not x) (cut_alone back l k p))
    by_place (inr p) = is_out_past (take k h) l (past_prefix h k l p m) ∙ sym (and_left _ _ (le-ltb l k p))

  pub loan_is : l < length h → IsShape h l (Loan r (max back l))
  loan_is inside = search (rules, turn_within, loan_out)
