-- What each call on a handle does: `old` and `new` are what the handle keeps before and after it. Each constructor is
-- one outcome, with its status:
--     0 done        1 the buffer is too small, the answer waits        2 the handle keeps nothing        3 an answer waits
--     4 memory was refused        5 the handle keeps something already        6 nothing waits
use Rattle.std.specs.Prelude.{◌≡◌, ℕ, List, length, None, IsUtf8}
use Rattle.rx_line.specs.FreeCommands.{free_in}
use Rattle.rx_live.specs.Session.{Session}
use Rattle.rx_live.specs.Lines.{IsPutOff, Sends, EndsSession, IsNewSession}
use Rattle.cellarcliff.specs.Stages.{HandleStage, absent, opened, waiting, ended, IsPresent, Waits}
use Rattle.cellarcliff.specs.Answers.{IsGiven, IsTextTooLong, IsBufferKept, TellsNoText}

-- a book whose history may have so many events
pub data IsLiveMade (max_events : ℕ) (old new : HandleStage) (status : ℕ) : Type 0 where
  makes : {s : Session} → old ≡ absent → new ≡ opened s → IsNewSession s → s.book.limit ≡ max_events → status ≡ 0 → IsLiveMade max_events old new status
  is_starved : old ≡ absent → new ≡ old → status ≡ 4 → IsLiveMade max_events old new status
  is_held : IsPresent old → new ≡ old → status ≡ 5 → IsLiveMade max_events old new status

module _ (old new : HandleStage) (line buffer buffer' : List ℕ) (told status : ℕ) where
  -- a line that got 0 or 1 was taken, once; with any other status it was not, and with 4 a checkpoint may have been made; a command that
  -- takes no memory never gets 4
  pub data IsSent : Type 0 where
    sends : {s t : Session} {text : List ℕ} → old ≡ opened s → Sends s line text t → new ≡ opened t
        → status ≡ 0 → IsGiven text buffer buffer' told → IsSent
    sends_on : {s t : Session} {text : List ℕ} → old ≡ opened s → Sends s line text t → new ≡ waiting t text
        → status ≡ 1 → IsTextTooLong text buffer buffer' told → IsSent
    has_none : old ≡ absent → new ≡ old → status ≡ 2 → TellsNoText buffer buffer' told → IsSent
    has_mail : {text : List ℕ} → Waits text old → new ≡ old → status ≡ 3
        → IsBufferKept (length text) buffer buffer' told → IsSent
    is_starved : {s t : Session} → old ≡ opened s → IsPutOff line s t → (IsUtf8 line → free_in line ≡ None) → new ≡ opened t
        → status ≡ 4 → TellsNoText buffer buffer' told → IsSent

module _ (old new : HandleStage) (buffer buffer' : List ℕ) (told status : ℕ) where
  pub data IsAnswerRead : Type 0 where
    reads : {s : Session} {text : List ℕ} → old ≡ waiting s text → new ≡ opened s
        → status ≡ 0 → IsGiven text buffer buffer' told → IsAnswerRead
    reads_last : {text : List ℕ} → old ≡ ended text → new ≡ absent
        → status ≡ 0 → IsGiven text buffer buffer' told → IsAnswerRead
    is_long : {text : List ℕ} → Waits text old → new ≡ old → status ≡ 1 → IsTextTooLong text buffer buffer' told → IsAnswerRead
    has_none : old ≡ absent → new ≡ old → status ≡ 2 → TellsNoText buffer buffer' told → IsAnswerRead
    is_idle : {s : Session} → old ≡ opened s → new ≡ old → status ≡ 6 → TellsNoText buffer buffer' told → IsAnswerRead

  pub data IsEnded : Type 0 where
    ends : {s t : Session} {text : List ℕ} → old ≡ opened s → EndsSession s text t → new ≡ absent
        → status ≡ 0 → IsGiven text buffer buffer' told → IsEnded
    ends_on : {s t : Session} {text : List ℕ} → old ≡ opened s → EndsSession s text t → new ≡ ended text
        → status ≡ 1 → IsTextTooLong text buffer buffer' told → IsEnded
    has_none : old ≡ absent → new ≡ old → status ≡ 2 → TellsNoText buffer buffer' told → IsEnded
    has_mail : {text : List ℕ} → Waits text old → new ≡ old → status ≡ 3
        → IsBufferKept (length text) buffer buffer' told → IsEnded
    is_starved : {s : Session} → old ≡ opened s → new ≡ old → status ≡ 4 → TellsNoText buffer buffer' told → IsEnded
