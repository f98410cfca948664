-- What a handle keeps, as a caller sees it.
use Rattle.std.specs.Prelude.{ℕ, Bool, cond, List, length, Option, None, Some}
use Rattle.rx_live.specs.Session.{Session}
use Rattle.rx_live.specs.Live.{session, answer}
use Rattle.cellarcliff.specs.declared.kept.Kept.{Kept}
use Rattle.cellarcliff.specs.declared.kept.Unread.{Unread}
use Rattle.cellarcliff.specs.declared.kept.Unread.TheVariants.{Nothing, Answer, Last}

-- nothing; a book; a book and the answer that waits; the last answer of a book that was ended, which waits
pub data HandleStage : Type 0 where
  absent : HandleStage
  opened : Session → HandleStage
  waiting : Session → List ℕ → HandleStage
  ended : List ℕ → HandleStage

-- a book and its last answer, by whether that waits
abbrev pub stage_by : Session → (text : List ℕ) → Unread → HandleStage
stage_by s text Nothing = opened s
stage_by s text Answer = waiting s text
stage_by s text Last = ended text

abbrev pub length_by : (text : List ℕ) → Unread → Option ℕ
length_by text Nothing = None
length_by text Answer = Some (length text)
length_by text Last = Some (length text)

abbrev pub unread_length : Kept → Option ℕ
unread_length kept = length_by (answer kept.live) kept.unread

abbrev pub handle_stage : Kept → HandleStage
handle_stage kept = stage_by (session kept.live) (answer kept.live) kept.unread

abbrev pub stage : Option Kept → HandleStage
stage None = absent
stage (Some kept) = handle_stage kept

-- what is left of it, by whether its last answer was handed out
abbrev pub left : Bool → Kept → HandleStage
left is_over kept = cond is_over absent (handle_stage kept)

-- something is kept
abbrev pub IsPresent : HandleStage → Type 0
IsPresent absent = ⊥
IsPresent (opened s) = Unit {0}
IsPresent (waiting s text) = Unit {0}
IsPresent (ended text) = Unit {0}

-- this answer waits
pub data Waits (text : List ℕ) : HandleStage → Type 0 where
  answer_waits : (s : Session) → Waits text (waiting s text)
  last_waits : Waits text (ended text)
