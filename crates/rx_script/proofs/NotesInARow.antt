-- Notes in a row that are the same, kept as one record.
use Rattle.rx_script.proofs.Common.{◌≡◌, ◌+◌, ◌-◌, ◌<◌, ◌++◌, ◌∷◌, [], ℕ, List, length, take, ap, sym, ◌∙◌, arith, append_assoc, append-nil, take_more}
use Rattle.rx_script.proofs.Common.{flat_map-append}
use Rattle.std.proofs.Common.{slice_set, slice_index_or}
use Rattle.std.proofs.lemmas.List.{take_all, take_more_set, length-set}
use Rattle.std.proofs.lemmas.Grind.{replicate_next}
use Rattle.rx_script.specs.declared.repeated.Repeated.{Repeated}
use Rattle.rx_script.specs.Repeated.{in_a_row, one_by_one}

-- one record more
one_by_one-push : (all : List Repeated) (r : Repeated) → one_by_one (all ++ r ∷ []) ≡ one_by_one all ++ in_a_row r
one_by_one-push all r = flat_map-append in_a_row all (r ∷ []) ∙ ap (λ l. one_by_one all ++ l) (append-nil (in_a_row r))

-- the note of the last record comes once more
pub one_by_one-raised : (all : List Repeated) (r : Repeated) → 0 < length all → r ≡ slice_index_or all (length all - 1) r
    → one_by_one (slice_set all (length all - 1) (record { note = r.note; times = r.times + 1 })) ≡ one_by_one all ++ r.note ∷ []
one_by_one-raised all r within is =
    ap one_by_one set_last ∙ one_by_one-push (take i all) more
    ∙ ap (λ l. one_by_one (take i all) ++ l) (replicate_next r.times r.note) ∙ sym (append_assoc (one_by_one (take i all)) (in_a_row r) (r.note ∷ []))
    ∙ ap (λ l. l ++ r.note ∷ []) (sym (ap one_by_one whole ∙ one_by_one-push (take i all) r)) where
      i : ℕ
      i = length all - 1

      more : Repeated
      more = record { note = r.note; times = r.times + 1 }

      set_last : slice_set all i more ≡ take i all ++ more ∷ []
      set_last = sym (take_all (i + 1) (slice_set all i more) (let l = length-set all i more in omega arith)) ∙ take_more_set all i more (omega arith)

      whole : all ≡ take i all ++ r ∷ []
      whole = sym (take_all (i + 1) all (omega arith)) ∙ take_more all i r (omega arith) ∙ ap (λ y. take i all ++ y ∷ []) (sym is)
