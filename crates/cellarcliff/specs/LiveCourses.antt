-- What the calls on one handle come to, by what a caller sees of them: lines that were taken go in, texts that were handed
-- out come out.
use Rattle.std.specs.Prelude.{ℕ, ◌==◌, ◌||◌, List, [], ◌∷◌, ◌++◌, map, take, if◌then◌else◌}
use Rattle.rx_live.specs.Session.{Session}
use Rattle.rx_live.specs.Lines.{IsPutOff, Sends, EndsSession, IsNewSession}
use Rattle.rx_live.specs.Promise.{NameAct, released, IsKept}
use Rattle.cellarcliff.specs.Stages.{HandleStage, absent, opened}
use Rattle.cellarcliff.specs.LiveCalls.{IsSent, IsAnswerRead, IsEnded}

-- the line, where its status says that it was taken
abbrev pub line_taken : (status : ℕ) → List ℕ → List (List ℕ)
line_taken status line = if (status == 0) || (status == 1) then line ∷ [] else []

-- the text in the buffer, where the status says that one was written
abbrev pub handed : (status told : ℕ) → (buffer : List ℕ) → List (List ℕ)
handed status told buffer = if status == 0 then take told buffer ∷ [] else []

-- calls on one handle, one after another, with whatever buffers: the lines that were taken, and the texts that were
-- handed out. A prime marks the buffer after the call.
pub data Course : HandleStage → List (List ℕ) → List (List ℕ) → HandleStage → Type 0 where
  no_call : {s : HandleStage} → Course s [] [] s
  send : {old mid new : HandleStage} {lines texts : List (List ℕ)} (line buffer buffer' : List ℕ) (told status : ℕ)
      → IsSent old mid line buffer buffer' told status → Course mid lines texts new
      → Course old (line_taken status line ++ lines) (handed status told buffer' ++ texts) new
  read : {old mid new : HandleStage} {lines texts : List (List ℕ)} (buffer buffer' : List ℕ) (told status : ℕ)
      → IsAnswerRead old mid buffer buffer' told status → Course mid lines texts new
      → Course old lines (handed status told buffer' ++ texts) new
  end : {old mid new : HandleStage} {lines texts : List (List ℕ)} (buffer buffer' : List ℕ) (told status : ℕ)
      → IsEnded old mid buffer buffer' told status → Course mid lines texts new
      → Course old lines (handed status told buffer' ++ texts) new

-- a book from here to its end: each line with its answer, in order, and the last answer; and what they hand in and
-- release. Where memory was refused a line was put off.
pub data IsServed : Session → (lines texts : List (List ℕ)) → List NameAct → Type 0 where
  is_put_off : {s t : Session} {line : List ℕ} {lines texts : List (List ℕ)} {acts : List NameAct} → IsPutOff line s t
      → IsServed t lines texts acts → IsServed s lines texts acts
  answers : {s t : Session} {lines texts : List (List ℕ)} {acts : List NameAct} (line text : List ℕ)
      → (sent : Sends s line text t) → IsServed t lines texts acts
      → IsServed s (line ∷ lines) (text ∷ texts) (sent.acts ++ acts)
  ends : {s t : Session} (text : List ℕ) → (ended : EndsSession s text t) → IsServed s [] (text ∷ []) (map released ended.names)

-- each line that was taken is answered once, in order, and each resource's name is released once
pub record IsKeptTo (first : Session) (lines texts : List (List ℕ)) : Type 0 where
  pub acts : List NameAct
  pub served : IsServed first lines texts acts
  pub kept : IsKept acts

-- whatever calls are made of a new book until its handle keeps nothing
abbrev pub AreAnswersHandedOut : Type 0
AreAnswersHandedOut = (first : Session) (lines texts : List (List ℕ)) → IsNewSession first
    → Course (opened first) lines texts absent → IsKeptTo first lines texts
