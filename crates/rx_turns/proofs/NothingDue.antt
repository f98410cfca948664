-- Where no list has anything, no lane is due.
use Rattle.std.proofs.Common.{◌≡◌, ◌≢◌, ℕ, ◌+◌, ◌<◌, ◌≤◌, ◌==◌, ◌&&◌, nat_lt, Bool, true, false, List, [], length, Option, Some, None, refl, sym, ap, ◌∙◌, arith}
use Rattle.std.proofs.Common.{◌⊎◌, inl, inr, if◌then◌else◌}
use Rattle.std.proofs.lemmas.Bool.{false≢true, cases_eq, cases_lt}
use Rattle.rx_slots.specs.Lists.{Lists, list_at, is_in}
use Rattle.rx_cellar.specs.declared.shapes.Command.{Command}
use Rattle.rx_cellar.specs.declared.cellar.Cellar.{Cellar}
use Rattle.rx_cellar.specs.Serving.{node_word}
use Rattle.rx_cellar.specs.Words.{place_in}
use Rattle.rx_turns.specs.declared.agenda.Turn.{Turn}
use Rattle.rx_turns.specs.declared.agenda.Row.{Row}
use Rattle.rx_turns.specs.Rows.{AreListed}
use Rattle.rx_turns.specs.States.{TurnState}
use Rattle.rx_turns.specs.Making.{inner_lane, ComesHome, opens_no_inner, is_not_due}

-- no list before a line has
abbrev pub AreEmpty : Lists → (line : ℕ) → Type 0
AreEmpty lists line = (k : ℕ) → k < line → list_at lists k ≡ []

pub empty_next : (lists : Lists) (line : ℕ) → AreEmpty lists line → list_at lists line ≡ [] → AreEmpty lists (line + 1)
empty_next lists line before this k within = by_place (cases_eq k line) where
  by_place : (k ≡ line) ⊎ (k ≢ line) → list_at lists k ≡ []
  by_place (inl here) = ap (list_at lists) here ∙ this
  by_place (inr other) = before k (omega (arith, within, other))

pub all_empty : (rows : List Row) (lists : Lists) → AreListed rows lists → AreEmpty lists (length rows) → (e : ℕ) → list_at lists e ≡ []
all_empty rows lists listed before e = by_line (cases_lt e (length rows)) where
  by_line : (e < length rows) ⊎ (length rows ≤ e) → list_at lists e ≡ []
  by_line (inl within) = before e within
  by_line (inr past) = listed.idle e past

pub none_comes : (turn : Turn) (s : TurnState) (home : Option ℕ) → ((e : ℕ) → list_at s.agenda.lists e ≡ []) → ComesHome turn s s home
none_comes turn s None none = opens_no_inner refl
none_comes turn s (Some word) none = is_not_due word (λ e. ap (is_in (place_in word)) (none e)) refl

opens_by : (turn : Turn) (s : TurnState) (opens : Bool) (home : Option ℕ) → opens ≡ false → ComesHome turn s s (if opens then home else None)
opens_by turn s true home none = absurd (false≢true (sym none))
opens_by turn s false home none = opens_no_inner refl

-- nor where no inner was opened
pub none_opened : (turn : Turn) (s : TurnState) (is_done : Bool) (c : Command) (v : Cellar) → (is_done && (nat_lt c.what 2 && c.place == 2)) ≡ false →
    ComesHome turn s s (inner_lane is_done c v)
none_opened turn s is_done c v none = opens_by turn s (is_done && (nat_lt c.what 2 && c.place == 2)) (node_word v c.node) none
