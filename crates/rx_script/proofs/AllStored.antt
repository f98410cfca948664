-- Where no checkpoint was made, as at the beginning, the book stores the whole history.
use Rattle.rx_script.proofs.Common.{◌≡◌, List, [], ◌∷◌, length, refl, sym, ap, subst, ◌∙◌, append-nil, arith, Event, nothing_kept, shown, base_of}
use Rattle.rx_script.proofs.Common.{◌++◌, take, moments, notes, IsLawful_nothing, shown_nothing, settled_empty, State, Tallies, AreCountsOf, AreNotesOf, IsHistoryOf}
use Rattle.rx_script.proofs.WholeHistory.{kept_length}
use Rattle.std.proofs.Common.{rules}

-- nothing is kept of nothing
pub base_nothing : base_of nothing_kept [] ≡ nothing_kept
unfolding base_of
base_nothing = search rules

none_before : (h : List Event) → length h ≡ 0 → h ≡ []
none_before [] none = refl
none_before (e ∷ h) none = absurd (omega arith)

module _ {t : Tallies} {s : State} {h : List Event} (w : IsHistoryOf h t s) (unchecked : s.base.at_length ≡ 0) where
  no_front : w.front ≡ []
  no_front = none_before w.front (sym (kept_length w.front w.lawful w.settled s.base w.base) ∙ unchecked)

  pub no_base : s.base ≡ nothing_kept
  no_base = w.base ∙ ap (base_of nothing_kept) no_front ∙ base_nothing

  pub all_stored : s.history ≡ h
  all_stored = search (rules, no_base, shown_nothing, no_front)

-- before the first event
no_notes : notes [] ≡ []
unfolding notes moments
no_notes = refl

pub begun : (t : Tallies) (s : State) → s.base ≡ nothing_kept → s.history ≡ [] → s.given ≡ 0 → AreCountsOf [] t → AreNotesOf [] t → IsHistoryOf [] t s
begun t s same_base same_history none_given counts noted = record {
  front = [];
  since = [];
  whole = refl;
  lawful = IsLawful_nothing;
  settled = settled_empty nothing_kept;
  base = same_base ∙ sym base_nothing;
  history = same_history ∙ sym shown_nothing ∙ ap shown (sym same_base) ∙ sym (append-nil (shown s.base));
  counts = counts;
  told = subst (λ mail. AreNotesOf mail t) (sym none_told) noted;
} where
  none_told : notes [] ++ take s.given (notes s.history) ≡ []
  none_told = ap (λ n. notes [] ++ take n (notes s.history)) none_given ∙ append-nil (notes []) ∙ no_notes
