-- The lanes of an answer are claimed one after another.
use Rattle.std.proofs.Common.{◌≡◌, ℕ, suc, ◌+◌, ◌<◌, List, ◌∷◌, length, drop, Some, None, ap, sym, ◌∙◌, subst, slice_get, add-one}
use Rattle.std.specs.Prelude.{slice_index_or}
use Rattle.std.proofs.Math.Seq.{drop-cons}
use Rattle.std.proofs.lemmas.Option.{slice_get-get_or, slice_get_within}
use Rattle.rx_turns.specs.declared.agenda.Turn.{Turn}
use Rattle.rx_turns.specs.States.{TurnState}
use Rattle.rx_turns.specs.Making.{IsMadeDue, has_claimed, went_astray, AreMadeDue, one_claimed}

word_is : (words : List ℕ) (index word : ℕ) → index < length words → slice_get words index ≡ Some word → slice_index_or words index 0 ≡ word
word_is words index word within there = let some : slice_get words index ≡ Some (slice_index_or words index 0) = slice_get-get_or words index 0 within in cc

-- one lane, and then the rest
pub claims_next : (turn : Turn) (s u t : TurnState) (words : List ℕ) (index word : ℕ) → Some word ≡ slice_get words index → IsMadeDue turn word s u →
    AreMadeDue turn t (drop (index + 1) words) u → AreMadeDue turn t (drop index words) s
claims_next turn s u t words index word there claims rest =
    let within = slice_get_within words index word (sym there) in
    let is : slice_index_or words index 0 ≡ word = word_is words index word within (sym there) in
    let step : drop index words ≡ word ∷ drop (index + 1) words =
    drop-cons words index 0 within ∙ (ap (λ w. w ∷ drop (suc index) words) is ∙ ap (λ n. word ∷ drop n words) (sym (add-one index))) in
    subst (λ (ws : List ℕ). AreMadeDue turn t ws s) (sym step) (one_claimed s u word (drop (index + 1) words) claims rest)

-- before the last there is one
pub none_there : (words : List ℕ) (index : ℕ) → None ≡ slice_get words index → index < length words → ⊥
none_there words index none within = let some : slice_get words index ≡ Some
    (slice_index_or words index 0) = slice_get-get_or words index 0 within in absurd (cc)

-- who claims leaves the engine as it is
pub claimed_cellar : (turn : Turn) (word : ℕ) (s t : TurnState) → IsMadeDue turn word s t → t.cellar ≡ s.cellar
claimed_cellar turn word s t (has_claimed claims only) = ap (λ (x : TurnState). x.cellar) only
claimed_cellar turn word s t (went_astray full loses only) = ap (λ (x : TurnState). x.cellar) only
