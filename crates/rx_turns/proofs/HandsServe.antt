-- A stack serves a lane where it has something of that in hand.
use Rattle.std.proofs.Common.{◌≡◌, ◌≢◌, ℕ, ◌+◌, ◌<◌, ◌≤◌, ◌==◌, ◌&&◌, Bool, true, false, List, length, Option, Some, None, refl, ap, sym, ◌∙◌, arith}
use Rattle.std.proofs.Common.{◌⊎◌, inl, inr, nat_lt}
use Rattle.std.proofs.Math.Bool.{not}
use Rattle.std.proofs.lemmas.Bool.{false≢true, and_parts, eqb-true, eq-eqb, lt-ltb, le-ltb, cases_eq, cases_lt}
use Rattle.std.proofs.lemmas.List.{get_or_past}
use Rattle.rx_turns.specs.declared.agenda.Turn.{Turn}
use Rattle.rx_turns.specs.declared.agenda.Task.{Task}
use Rattle.rx_turns.specs.declared.agenda.Row.{Row}
use Rattle.rx_turns.specs.Rows.{is_its, is_of, is_by, is_of_lane, blank, row_on, own_line, HaveOneRowEach}
use Rattle.rx_turns.specs.Agendas.{DueLists, in_hand, IsServing}
use Rattle.rx_turns.proofs.Lines.{is_same-self, line_is, row_is}

abbrev pub row_serves : (by word : ℕ) → Row → Bool
row_serves by word r = is_by by r.turn && is_of_lane word r.in_hand

-- none of the rows before a line does
abbrev pub NoneServes : (by word : ℕ) → List Row → (line : ℕ) → Type 0
NoneServes by word rows line = (k : ℕ) → k < line → row_serves by word (row_on rows k) ≡ false

pub none_next : (by word : ℕ) (rows : List Row) (line : ℕ) → NoneServes by word rows line → row_serves by word (row_on rows line) ≡ false →
    NoneServes by word rows (line + 1)
none_next by word rows line none this k within = by_place (cases_eq k line) where
  by_place : (k ≡ line) ⊎ (k ≢ line) → row_serves by word (row_on rows k) ≡ false
  by_place (inl here) = ap (λ (n : ℕ). row_serves by word (row_on rows n)) here ∙ this
  by_place (inr other) = none k (omega (arith, within, other))

module _ (a : DueLists) (by word : ℕ) where
  by_parts : HaveOneRowEach a.rows → (line : ℕ) → line < length a.rows → (o : Option Turn) (p : Option Task) → (row_on a.rows line).turn ≡ o →
      (row_on a.rows line).in_hand ≡ p → (is_by by o && is_of_lane word p) ≡ true → IsServing a by word
  by_parts apart line within None p turn_is hand_is serves = absurd (false≢true serves)
  by_parts apart line within (Some t) None turn_is hand_is serves = absurd (false≢true (and_parts (t.by == by) false serves).1)
  by_parts apart line within (Some t) (Some h) turn_is hand_is serves =
      let both = and_parts (t.by == by) (h.word == word) serves in
      let own : is_of t (row_on a.rows line) ≡ true = ap (is_its t) turn_is ∙ is_same-self t in (
        t,
        h,
        eqb-true t.by by both.0,
        ap (λ (k : ℕ). (row_on a.rows k).in_hand) (line_is t a.rows line within apart own) ∙ hand_is,
        eqb-true h.word word both.1,
      )

  pub serves_there : HaveOneRowEach a.rows → (line : ℕ) → line < length a.rows → row_serves by word (row_on a.rows line) ≡ true → IsServing a by word
  serves_there apart line within serves = by_parts apart line within (row_on a.rows line).turn (row_on a.rows line).in_hand refl refl serves

  its_by : (t : Turn) (o : Option Turn) → t.by ≡ by → is_its t o ≡ true → is_by by o ≡ true
  its_by t None same own = absurd (false≢true own)
  its_by t (Some u) same own = eq-eqb u.by by (sym (eqb-true t.by u.by (and_parts (t.by == u.by) (t.depth == u.depth) own).0) ∙ same)

  row_of : (t : Turn) (h : Task) → t.by ≡ by → in_hand a t ≡ Some h → h.word ≡ word → own_line t a.rows < length a.rows →
      row_serves by word (row_on a.rows (own_line t a.rows)) ≡ true
  row_of t h same held is within =
      let row = row_on a.rows (own_line t a.rows) in
      let its : is_by by row.turn ≡ true = its_by t row.turn same (row_is t a.rows (own_line t a.rows) refl within) in
      let lane : is_of_lane word row.in_hand ≡ true = ap (is_of_lane word) held ∙ eq-eqb h.word word is in
      λ i. its i && lane i

  pub none_serves : NoneServes by word a.rows (length a.rows) → IsServing a by word → ⊥
  none_serves none (t, h, same, held, is) = by_line (cases_lt (own_line t a.rows) (length a.rows)) where
    by_line : (own_line t a.rows < length a.rows) ⊎ (length a.rows ≤ own_line t a.rows) → ⊥
    by_line (inl within) = false≢true (sym (none (own_line t a.rows) within) ∙ row_of t h same held is within)
    by_line (inr past) = let both : None ≡ Some h = sym (ap (λ (r : Row). r.in_hand) (get_or_past a.rows (own_line t a.rows) blank past)) ∙ held in cc

-- a word that says inside, and one that does not
pub inside_from : (word bound : ℕ) → bound ≤ word → not (nat_lt word bound) ≡ true
inside_from word bound from = ap not (le-ltb word bound from)

pub plain_below : (word bound : ℕ) → word < bound → not (nat_lt word bound) ≡ false
plain_below word bound below = ap not (lt-ltb word bound below)

pub not_both : {b : Bool} → b ≡ true → b ≡ false → ⊥
not_both is not_so = false≢true (sym not_so ∙ is)
