-- A lane leaves its list, and comes to the end of another.
use Rattle.std.proofs.Common.{◌≡◌, ℕ, ◌<◌, ◌==◌, ◌||◌, Bool, true, false, cond, List, [], ◌∷◌, ◌++◌, length, refl, ap, sym, ◌∙◌, arith}
use Rattle.std.specs.Prelude.{slice_index_or, slice_set}
use Rattle.std.proofs.Math.Bool.{not}
use Rattle.std.proofs.lemmas.List.{get_or-set_same, get_or-set_other}
use Rattle.std.proofs.lemmas.Bool.{false≢true, eqb-true, eq-eqb}
use Rattle.rx_slots.specs.Lists.{Lists, list_at, is_in, take_out}
use Rattle.rx_turns.specs.declared.agenda.Turn.{Turn}
use Rattle.rx_turns.specs.declared.agenda.Row.{Row}
use Rattle.rx_turns.specs.Rows.{is_same, own_line}
use Rattle.rx_turns.specs.Agendas.{DueLists, Claims, LosesNothing}
use Rattle.rx_turns.proofs.Lines.{line_tells}

gone_by : (m x : ℕ) (xs : List ℕ) (b : Bool) → (m == x) ≡ b → is_in m (take_out m xs) ≡ false →
    is_in m (cond (not b) (x ∷ take_out m xs) (take_out m xs)) ≡ false
gone_by m x xs true is rest = rest
gone_by m x xs false is rest = ap (λ b. b || is_in m (take_out m xs)) is ∙ rest

-- who was taken out stands there no more
pub take_out-gone : (m : ℕ) (xs : List ℕ) → is_in m (take_out m xs) ≡ false
take_out-gone m [] = refl
take_out-gone m (x ∷ xs) = gone_by m x xs (m == x) refl (take_out-gone m xs)

set_by : (words : List ℕ) (place word p : ℕ) → place < length words → (b : Bool) → (place == p) ≡ b →
    slice_index_or (slice_set words place word) p 0 ≡ cond b word (slice_index_or words p 0)
set_by words place word p within true is =
    ap (λ (k : ℕ). slice_index_or (slice_set words place word) k 0) (sym (eqb-true place p is)) ∙ get_or-set_same words place word 0 within
set_by words place word p within false is =
    get_or-set_other words place p word 0 (λ same. false≢true (sym is ∙ eq-eqb place p (sym same)))

-- a word is written
pub word_set : (words : List ℕ) (place word p : ℕ) → place < length words →
    slice_index_or (slice_set words place word) p 0 ≡ cond (place == p) word (slice_index_or words p 0)
word_set words place word p within = set_by words place word p within (place == p) refl

pub claimed : (turn : Turn) (place word line : ℕ) (rows : List Row) (lists left joined : Lists) (words : List ℕ) →
    line ≡ own_line turn rows → line < length rows →
    ((e : ℕ) → list_at left e ≡ take_out place (list_at lists e)) →
    ((e : ℕ) → list_at joined e ≡ cond (line == e) (list_at left e ++ place ∷ []) (list_at left e)) →
    joined.members ≡ lists.members → place < length words →
    Claims turn place word (record { rows = rows; lists = lists; words = words }) (record { rows = rows; lists = joined; words = slice_set words place word })
claimed turn place word line rows lists left joined words is within leaves joins members fits = record {
  due = λ t.
      let e = own_line t rows in
      joins e
      ∙ (ap (λ b. cond b (list_at left e ++ place ∷ []) (list_at left e)) (line_tells turn t rows line is within (is_same turn t) refl)
      ∙ ap (λ (xs : List ℕ). cond (is_same turn t) (xs ++ place ∷ []) xs) (leaves e));
  hands = λ t. refl;
  words = λ p. word_set words place word p fits;
  places_are = omega (arith, members);
}

-- more room before it changes nothing
pub claims_behind : (turn : Turn) (place word : ℕ) (a b c : DueLists) → LosesNothing a b → Claims turn place word b c → Claims turn place word a c
claims_behind turn place word a b c l m = record {
  due = λ t. m.due t ∙ ap (λ (xs : List ℕ). cond (is_same turn t) (take_out place xs ++ place ∷ []) (take_out place xs)) (l.due t);
  hands = λ t. m.hands t ∙ l.hands t;
  words = λ p. m.words p ∙ ap (λ w. cond (place == p) word w) (l.words p);
  places_are = let first = l.places_are in let second = m.places_are in omega (arith, first, second);
}
