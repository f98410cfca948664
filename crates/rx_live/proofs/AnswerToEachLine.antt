-- What an answer says of the session.
use Rattle.rx_live.proofs.Common.{◌≡◌, ℕ, List, [], ◌++◌, codes, map, Option, Some, None, Result, Ok, Err, refl, ap, ◌∙◌, append_assoc, subst, Bool, true}
use Rattle.rx_live.proofs.Common.{false, IfOk, OnOk, is_some, AllocError, Name, Task, Order, task, query, list, dump, refused_text, faulty_text, name_text}
use Rattle.rx_live.proofs.Common.{member_text, Cause, Accepted, Refused, Session, IsSound, released, no_act, told_text, WritesNotes, is_late}
use Rattle.rx_live.proofs.Common.{late_text, all_names, answer_front_text, closed_names, SaysClosed, Renews, IsFullByOpen, query_text, dump_text, DoesTask}
use Rattle.rx_live.proofs.Common.{handed_by}
use Rattle.rx_live.proofs.Common.{TellsAll, as_it_was, renewed, FindsFull, EndsSession, IsSessionClosed, Answered, IsFullByAge, WritesAnswer, Tries}
use Rattle.rx_live.specs.Lines.{CarriesOut, refuses, carries, is_faulty, is_refused, is_carried, is_queried, is_listed, is_dumped, AnswersAsked}
use Rattle.rx_live.proofs.Laws.HeldStaysHeld.{leads_same, alike_held, renewed_held}
use Rattle.rx_live.proofs.AcceptedBindsNames.{alike_same}
use Rattle.rx_live.proofs.Acts.{carried_leads, refused_alike}
use Rattle.rx_live.proofs.Listings.{leads_all}
use Rattle.std.proofs.Common.{rules}

-- behind what was written
behind : (b f p q r s : List ℕ) → b ++ f ++ p ++ q ++ r ++ s ≡ b ++ (f ++ p ++ q ++ r ++ s)
behind b f p q r s = search (rules, append_assoc)

-- a task that is carried out
pub carried_out : {old : Session} (done new : Session) (k : Task) (begun front said text : List ℕ) → DoesTask old k Accepted done →
    front ≡ answer_front_text old k done → SaysClosed (closed_names old k done) said → TellsAll done (begun ++ (front ++ said)) new text →
    WritesAnswer (λ t. CarriesOut old k t new) begun text
carried_out {old} done new k begun front said text does is closed tells =
    let notes : List ℕ = member_text (codes "notes") (map told_text tells.told) in
    let names : List ℕ = member_text (codes "release") (map name_text tells.names) in
    let late : List ℕ = late_text (is_late new) in
    let answer : List ℕ = answer_front_text old k done ++ said ++ notes ++ names ++ late ++ codes "}" in
    let all : TellsAll done (answer_front_text old k done ++ said) new answer = record {
      mid = tells.mid;
      told = tells.told;
      tells = tells.tells;
      all_notes = tells.all_notes;
      sound = tells.sound;
      names = tells.names;
      releases = tells.releases;
      all_names = tells.all_names;
      written = refl;
    } in
    record {
      answer = answer;
      is = carries (handed_by k ++ map released all.names) (record {
        done = done;
        does = does;
        said = said;
        closed = closed;
        left = new;
        tells = all;
        alike = alike_same new;
        acts_are = refl;
      });
      written = tells.written ∙ behind begun (front ++ said) notes names late (codes "}")
          ∙ ap (λ (t : List ℕ). begun ++ (t ++ said ++ notes ++ names ++ late ++ codes "}")) is;
    }

-- what is asked
pub answered_one : (old new : Session) (asked : Option Order) (text : List ℕ) (t : Task) → asked ≡ Some (task t) → CarriesOut old t text new →
    Answered old asked new text
answered_one old new asked text t order (refuses why does alive is) =
    record { acts = []; answer = is_refused t why order does alive is; leads = no_act (alike_held old new (refused_alike old new t why does)) }
answered_one old new asked text t order (carries acts carried) =
    record { acts = acts; answer = is_carried t order carried; leads = carried_leads old new t text acts carried }

written_as : (p q : List ℕ → Type 0) (begun text : List ℕ) → ((t : List ℕ) → p t → q t) → WritesAnswer p begun text → WritesAnswer q begun text
written_as p q begun text goes w = record { answer = w.answer; is = goes w.answer w.is; written = w.written }

-- an attempt at a task is one at what is asked
pub tried_task : (old new : Session) (asked : Option Order) (k : Task) (begun text : List ℕ) (result : Result Bool AllocError) → asked ≡ Some (task k) →
    IfOk result (Tries (λ t. CarriesOut old k t new) (FindsFull old k new) begun text) →
    IfOk result (Tries (Answered old asked new) (IsFullByAge old asked new) begun text)
tried_task old new asked k begun text (Err e) order tried = tried
tried_task old new asked k begun text (Ok true) order tried =
    written_as (λ t. CarriesOut old k t new) (Answered old asked new) begun text (λ t. answered_one old new asked t k order) tried
tried_task old new asked k begun text (Ok false) order tried = (record { t = k; order = order; full = tried.0 }, tried.1)

-- an answer that changed nothing
pub tried_said : (old : Session) (asked : Option Order) (begun answer text : List ℕ) (result : Result Bool AllocError) → Answered old asked old answer →
    IfOk result (λ b. b ≡ true) → OnOk result (text ≡ begun ++ answer) → IfOk result (Tries (Answered old asked old) (IsFullByAge old asked old) begun text)
tried_said old asked begun answer text x5 answered done is = search rules

pub answered_queried : (old : Session) (asked : Option Order) (text : List ℕ) (node : Name) → asked ≡ Some (query node) → text ≡ query_text old node →
    Answered old asked old text
answered_queried old asked text node order is = record { acts = []; answer = is_queried node order is; leads = no_act (λ n. refl) }

pub answered_listed : (old : Session) (asked : Option Order) (text : List ℕ) → asked ≡ Some list → Answered old asked old text
answered_listed old asked text order = record { acts = []; answer = is_listed order; leads = no_act (λ n. refl) }

pub answered_dumped : (old : Session) (asked : Option Order) (text : List ℕ) → asked ≡ Some dump → text ≡ dump_text old → Answered old asked old text
answered_dumped old asked text order is = record { acts = []; answer = is_dumped order is; leads = no_act (λ n. refl) }

pub answered_faulty : (old : Session) (asked : Option Order) (told text : List ℕ) → asked ≡ None → text ≡ faulty_text told → Answered old asked old text
answered_faulty old asked told text faulty is = record { acts = []; answer = is_faulty told faulty is; leads = no_act (λ n. refl) }

-- which of the two an attempt came to
pub answered_so : (p : List ℕ → Type 0) (q : Type 0) (begun text : List ℕ) {b : Bool} → b ≡ true → Tries p q begun text b → WritesAnswer p begun text
answered_so p q begun text is tried = subst (λ (b : Bool). Tries p q begun text b) is tried

pub found_so : (p : List ℕ → Type 0) (q : Type 0) (begun text : List ℕ) {b : Bool} → b ≡ false → Tries p q begun text b → q × (text ≡ begun)
found_so p q begun text is tried = subst (λ (b : Bool). Tries p q begun text b) is tried

-- as it came, or behind a checkpoint
pub sent_first : (old new : Session) (asked : Option Order) (begun text : List ℕ) → WritesAnswer (Answered old asked new) begun text → IsSound new →
    WritesAnswer (λ t. AnswersAsked old asked t new) begun text
sent_first old new asked begun text wrote sound = search (rules, written_as, as_it_was)

pub sent_again : {old mid : Session} (aged new : Session) (asked : Option Order) (begun text : List ℕ) → IsFullByAge old asked mid → Renews mid aged →
    WritesAnswer (Answered aged asked new) begun text → IsSound new → WritesAnswer (λ t. AnswersAsked old asked t new) begun text
sent_again {old} {mid} aged new asked begun text full renews wrote sound = search (rules, renewed_held, written_as, renewed, leads_same)

-- the last line
pub ended : {old : Session} (left new : Session) (front after text : List ℕ) → IsSound old →
    front ≡ codes "{\"closed\":true" ++ member_text (codes "release") (map name_text (all_names old)) →
    WritesNotes old front left after → text ≡ after ++ late_text (is_some left.untold) ++ codes "}" → IsSessionClosed new → EndsSession old text new
ended {old} left new front after text sound is notes closing closed = record {
  names = all_names old;
  leads = leads_all old sound;
  told = notes.told;
  left = left;
  tells = notes.tells;
  all_notes = notes.all;
  written = closing ∙ ap (λ (t : List ℕ). t ++ late_text (is_some left.untold) ++ codes "}")
      (notes.written ∙ ap (λ (t : List ℕ). t ++ member_text (codes "notes") (map told_text notes.told)) is);
  closed = closed;
}

-- one that is refused
pub refused_out : (old new : Session) (k : Task) (why : Cause) (begun answer text : List ℕ) → DoesTask old k (Refused why) new → IsFullByOpen old why →
    answer ≡ refused_text why → text ≡ begun ++ answer → WritesAnswer (λ t. CarriesOut old k t new) begun text
refused_out old new k why begun answer text does alive is written = record { answer = answer; is = refuses why does alive is; written = written }
