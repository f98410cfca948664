-- What a binary search finds among members in order of their tickets.
use Rattle.std.proofs.Common.{◌≡◌, ◌≢◌, ℕ, ◌<◌, ◌≤◌, List, get_or, Result, Ok, Err, IfSome, IfNone, All, sym, ap, inl, inr, arith}
use Rattle.std.specs.List.{HoldsAt}
use Rattle.std.specs.List.Sorted.{IsBinarySearchResult, IsNonDecreasingBy}
use Rattle.std.specs.Ordering.{nat_cmp, ordering_index}
use Rattle.std.specs.Result.{result_ok}
use Rattle.std.proofs.lemmas.Bool.{cases_lt}
use Rattle.std.proofs.lemmas.Bool.Decides.{nat_tests}
use Rattle.std.proofs.lemmas.Cmp.{ranked}
use Rattle.std.proofs.lemmas.List.Elements.{All-from_all_within}
use Rattle.rx_disposable.specs.declared.members.Member.{Member}
use Rattle.rx_disposable.specs.Members.{AreTicketsRising}

module _ {T : Type 0} (ms : List (Member T)) (ordered : AreTicketsRising ms) (ticket : ℕ) where
  -- the comparisons with the ticket rise along the list, as a binary search asks
  comparisons_rise : IsNonDecreasingBy (λ m. ordering_index (nat_cmp m.ticket ticket)) ms
  comparisons_rise i j d le within =
      let rise : (get_or ms i d).ticket ≤ (get_or ms j d).ticket =
      grind (arith, ordered i j d, λ (same : i ≡ j). ap (λ k. (get_or ms k d).ticket) same) in
      grind (arith, nat_tests)

  -- it ends at the ticket's place, or no member has the ticket
  pub searched : (r : Result ℕ ℕ) → IsBinarySearchResult (λ m. nat_cmp m.ticket ticket) ms r
      → IfSome (result_ok r) (HoldsAt (λ m. m.ticket ≡ ticket) ms) × IfNone (result_ok r) (All (λ m. m.ticket ≢ ticket) ms)
  searched (Ok place) equal = ((λ d. ranked _ ticket _ (sym (equal d))), tt)
  searched (Err gap) parted = (
    tt,
    All-from_all_within (λ m. m.ticket ≢ ticket) ms (λ k d low within same. elim (cases_lt k gap) [
      | inl before ↦
          let less : (get_or ms k d).ticket < ticket = ranked _ ticket _ (sym ((parted comparisons_rise).0 k d (omega arith) before)) in
          omega arith
      | inr after ↦
          let more : ticket < (get_or ms k d).ticket = ranked _ ticket _ (sym ((parted comparisons_rise).1 k d after within)) in
          omega arith
    ]),
  )
