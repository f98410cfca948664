-- What is still to come of the calls on a handle, by what it keeps.
use Rattle.std.proofs.Common.{◌≡◌, ℕ, List, [], ◌∷◌, ◌++◌, map, take, drop, length, refl, sym, ap, ◌∙◌, subst}
use Rattle.std.proofs.lemmas.List.{take_at}
use Rattle.rx_live.specs.Session.{Session}
use Rattle.rx_live.specs.Promise.{NameAct, released}
use Rattle.cellarcliff.specs.Answers.{IsGiven}
use Rattle.cellarcliff.specs.LiveCalls.{IsSent, IsAnswerRead, IsEnded}
use Rattle.cellarcliff.specs.Stages.{HandleStage, absent, opened, waiting, ended}
use Rattle.cellarcliff.specs.LiveCalls as call
use Rattle.cellarcliff.specs.LiveCourses.{line_taken, handed, Course, no_call, send, read, end, IsServed, is_put_off, answers, ends, AreAnswersHandedOut}
use Rattle.cellarcliff.proofs.HeldToTheEnd.{served_kept}

record HasServed (s : Session) (lines texts : List (List ℕ)) : Type 0 where
  acts : List NameAct
  served : IsServed s lines texts acts

record Hands (s : Session) (text : List ℕ) (lines texts : List (List ℕ)) : Type 0 where
  rest : List (List ℕ)
  is : texts ≡ text ∷ rest
  served : HasServed s lines rest

-- which lines and which texts may come until it keeps nothing
abbrev Owes : HandleStage → (lines texts : List (List ℕ)) → Type 0
Owes absent lines texts = (lines ≡ []) × (texts ≡ [])
Owes (opened s) lines texts = HasServed s lines texts
Owes (waiting s text) lines texts = Hands s text lines texts
Owes (ended text) lines texts = (lines ≡ []) × (texts ≡ text ∷ [])

owes_as : {old s : HandleStage} (lines lines' texts texts' : List (List ℕ)) → old ≡ s → lines ≡ lines' → texts ≡ texts'
    → Owes s lines' texts' → Owes old lines texts
owes_as {old} {s} lines lines' texts texts' stage in_is out_is owes =
    subst (λ (t : HandleStage). Owes t lines texts) (sym stage) (subst (λ (l : List (List ℕ)). Owes s l texts) (sym in_is)
    (subst (λ (l : List (List ℕ)). Owes s lines' l) (sym out_is) owes))

-- the text that was written is the one that the buffer has
text_handed : (text buffer buffer' : List ℕ) (told status : ℕ) → status ≡ 0 → IsGiven text buffer buffer' told
    → handed status told buffer' ≡ text ∷ []
text_handed text buffer buffer' told status done given =
    ap (λ (s : ℕ). handed s told buffer') done
    ∙ ap (λ (t : List ℕ). t ∷ []) (ap (λ (b : List ℕ). take told b) given.front
    ∙ take_at text (drop (length text) buffer) told (sym given.count))

module _ {old mid : HandleStage} (lines texts : List (List ℕ)) where
  owes_sent : (line buffer buffer' : List ℕ) (told status : ℕ) → IsSent old mid line buffer buffer' told status
      → Owes mid lines texts → Owes old (line_taken status line ++ lines) (handed status told buffer' ++ texts)
  owes_sent line buffer buffer' told status (call.sends {s} {t} {text} was sent now done given) owes =
      let rest : HasServed t lines texts = subst (λ (m : HandleStage). Owes m lines texts) now owes in
      owes_as _ (line ∷ lines) _ (text ∷ texts) was (ap (λ (n : ℕ). line_taken n line ++ lines) done)
      (ap (λ (l : List (List ℕ)). l ++ texts) (text_handed text buffer buffer' told status done given))
      (record { acts = sent.acts ++ rest.acts; served = answers line text sent rest.served })
  owes_sent line buffer buffer' told status (call.sends_on {s} {t} {text} was sent now done long) owes =
      let waits : Hands t text lines texts = subst (λ (m : HandleStage). Owes m lines texts) now owes in
      let rest = waits.served in
      owes_as _ (line ∷ lines) _ (text ∷ waits.rest) was (ap (λ (n : ℕ). line_taken n line ++ lines) done)
      (ap (λ (n : ℕ). handed n told buffer' ++ texts) done ∙ waits.is)
      (record { acts = sent.acts ++ rest.acts; served = answers line text sent rest.served })
  owes_sent line buffer buffer' told status (call.has_none was now done silent) owes =
      owes_as _ lines _ texts (sym now) (ap (λ (n : ℕ). line_taken n line ++ lines) done)
      (ap (λ (n : ℕ). handed n told buffer' ++ texts) done) owes
  owes_sent line buffer buffer' told status (call.has_mail waits now done kept) owes =
      owes_as _ lines _ texts (sym now) (ap (λ (n : ℕ). line_taken n line ++ lines) done)
      (ap (λ (n : ℕ). handed n told buffer' ++ texts) done) owes
  owes_sent line buffer buffer' told status (call.is_starved {s} {t} was off free now done silent) owes =
      let rest : HasServed t lines texts = subst (λ (m : HandleStage). Owes m lines texts) now owes in
      owes_as _ lines _ texts was (ap (λ (n : ℕ). line_taken n line ++ lines) done)
      (ap (λ (n : ℕ). handed n told buffer' ++ texts) done)
      (record { acts = rest.acts; served = is_put_off off rest.served })

  -- a call that did nothing
  owes_still : (buffer' : List ℕ) (told status : ℕ) → mid ≡ old → handed status told buffer' ≡ [] → Owes mid lines texts
      → Owes old lines (handed status told buffer' ++ texts)
  owes_still buffer' told status now none owes =
      owes_as lines lines _ texts (sym now) refl (ap (λ (l : List (List ℕ)). l ++ texts) none) owes

  owes_read : (buffer buffer' : List ℕ) (told status : ℕ) → IsAnswerRead old mid buffer buffer' told status
      → Owes mid lines texts → Owes old lines (handed status told buffer' ++ texts)
  owes_read buffer buffer' told status (call.reads {s} {text} was now done given) owes =
      let rest : HasServed s lines texts = subst (λ (m : HandleStage). Owes m lines texts) now owes in
      owes_as lines lines _ (text ∷ texts) was refl
      (ap (λ (l : List (List ℕ)). l ++ texts) (text_handed text buffer buffer' told status done given))
      (record { rest = texts; is = refl; served = rest })
  owes_read buffer buffer' told status (call.reads_last {text} was now done given) owes =
      let none : (lines ≡ []) × (texts ≡ []) = subst (λ (m : HandleStage). Owes m lines texts) now owes in
      owes_as lines lines _ (text ∷ texts) was refl
      (ap (λ (l : List (List ℕ)). l ++ texts) (text_handed text buffer buffer' told status done given))
      (none.0, ap (λ (l : List (List ℕ)). text ∷ l) none.1)
  owes_read buffer buffer' told status (call.is_long waits now done long) owes =
      owes_still buffer' told status now (ap (λ (n : ℕ). handed n told buffer') done) owes
  owes_read buffer buffer' told status (call.has_none was now done silent) owes =
      owes_still buffer' told status now (ap (λ (n : ℕ). handed n told buffer') done) owes
  owes_read buffer buffer' told status (call.is_idle was now done silent) owes =
      owes_still buffer' told status now (ap (λ (n : ℕ). handed n told buffer') done) owes

  owes_ended : (buffer buffer' : List ℕ) (told status : ℕ) → IsEnded old mid buffer buffer' told status
      → Owes mid lines texts → Owes old lines (handed status told buffer' ++ texts)
  owes_ended buffer buffer' told status (call.ends {s} {t} {text} was last now done given) owes =
      let none : (lines ≡ []) × (texts ≡ []) = subst (λ (m : HandleStage). Owes m lines texts) now owes in
      owes_as lines [] _ (text ∷ []) was none.0
      ((ap (λ (l : List (List ℕ)). l ++ texts) (text_handed text buffer buffer' told status done given))
      ∙ ap (λ (l : List (List ℕ)). text ∷ l) none.1)
      (record { acts = map released last.names; served = ends text last })
  owes_ended buffer buffer' told status (call.ends_on {s} {t} {text} was last now done long) owes =
      let all : (lines ≡ []) × (texts ≡ text ∷ []) = subst (λ (m : HandleStage). Owes m lines texts) now owes in
      owes_as lines [] _ (text ∷ []) was all.0
      (ap (λ (n : ℕ). handed n told buffer' ++ texts) done ∙ all.1)
      (record { acts = map released last.names; served = ends text last })
  owes_ended buffer buffer' told status (call.has_none was now done silent) owes =
      owes_still buffer' told status now (ap (λ (n : ℕ). handed n told buffer') done) owes
  owes_ended buffer buffer' told status (call.has_mail waits now done kept) owes =
      owes_still buffer' told status now (ap (λ (n : ℕ). handed n told buffer') done) owes
  owes_ended buffer buffer' told status (call.is_starved was now done silent) owes =
      owes_still buffer' told status now (ap (λ (n : ℕ). handed n told buffer') done) owes

owes_all : {old new : HandleStage} {lines texts : List (List ℕ)} → Course old lines texts new → new ≡ absent → Owes old lines texts
owes_all {old} no_call over = owes_as [] [] [] [] over refl refl (refl, refl)
owes_all (send {old} {mid} {new} {lines} {texts} line buffer buffer' told status sent rest) over =
    owes_sent lines texts line buffer buffer' told status sent (owes_all rest over)
owes_all (read {old} {mid} {new} {lines} {texts} buffer buffer' told status was rest) over =
    owes_read lines texts buffer buffer' told status was (owes_all rest over)
owes_all (end {old} {mid} {new} {lines} {texts} buffer buffer' told status was rest) over =
    owes_ended lines texts buffer buffer' told status was (owes_all rest over)

pub handed_out : AreAnswersHandedOut
handed_out first lines texts fresh calls =
    let all : HasServed first lines texts = owes_all calls refl in
    record { acts = all.acts; served = all.served; kept = served_kept first lines texts all.acts fresh all.served }
