-- A lane is due to one turn.
use Rattle.std.proofs.Common.{◌≡◌, ℕ, ◌<◌, ◌≤◌, true, List, length, refl, ap, sym, ◌∙◌, ◌⊎◌, inl, inr}
use Rattle.std.proofs.lemmas.Bool.{cases_lt, false≢true}
use Rattle.rx_slots.specs.Lists.{Lists, list_at, is_in, IsPlain}
use Rattle.rx_turns.specs.declared.agenda.Row.{Row}
use Rattle.rx_turns.specs.Rows.{row_on, own_line, AreListed}
use Rattle.rx_turns.specs.Agendas.{IsDueOnce}
use Rattle.rx_turns.proofs.Lines.{row_is, one_turn}

within_by : (rows : List Row) (lists : Lists) (line place : ℕ) → AreListed rows lists → is_in place (list_at lists line) ≡ true →
    (line < length rows) ⊎ (length rows ≤ line) → line < length rows
within_by rows lists line place listed there (inl within) = within
within_by rows lists line place listed there (inr past) = absurd (false≢true (ap (is_in place) (sym (listed.idle line past)) ∙ there))

pub due_once : (rows : List Row) (lists : Lists) (words : List ℕ) → IsPlain lists → AreListed rows lists →
    IsDueOnce (record { rows = rows; lists = lists; words = words })
due_once rows lists words plain listed t u place at_t at_u =
    let line = own_line t rows in
    let same : line ≡ own_line u rows = plain.once line (own_line u rows) place at_t at_u in
    let within = within_by rows lists line place listed at_t (cases_lt line (length rows)) in
    one_turn t u (row_on rows line) (row_is t rows line refl within) (row_is u rows line same within)
