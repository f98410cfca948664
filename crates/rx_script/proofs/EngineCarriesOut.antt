-- An engine carries out a step: it is refused by the scenario, refused by the book, or accepted. The book goes by its stored history,
-- and the course by the whole one.
use Rattle.rx_script.proofs.Common.{◌≡◌, ◌≤◌, ◌+◌, ◌++◌, ℕ, List, [], Bool, true, false, refl, sym, ap, subst, ◌∙◌, arith, append_assoc, length, Some, None}
use Rattle.rx_script.proofs.Common.{none-some, Event, Refusal, Gone, nothing_kept, Agree, taken_count, IsLawful, Call, IsStepOf, first_cause, State}
use Rattle.rx_script.proofs.Common.{IsPromised, Continues, by_key, causes, Request, stands, Accepts, connection_made, Answer, Accepted, Refused, Cause, Book}
use Rattle.rx_script.proofs.Common.{Engine, Command, drain, checkpoint, Stage, own_cause, call_of, after, front_is_fresh, Drains, limited, Executes, refused}
use Rattle.rx_script.proofs.Common.{refused_by_book, accepted, drained, Shelf, Tallies, stage_of, IsHistoryOf, IsSound, CarriesStep}
use Rattle.rx_script.proofs.Common.{◌≢◌, inl, inr, NoMemory, IsRefusal, Result, IfOk, take, append-nil, notes, Mail, ◌∷◌, by_pushes, AreCountsOf, AreNotesOf}
use Rattle.std.proofs.lemmas.List.{take-append-le}
use Rattle.rx_event.specs.Notes.{mail_of}
use Rattle.rx_event.proofs.Laws.Counts.{notes-push}
use Rattle.std.specs.declared.alloc.AllocError.{AllocError}
use Rattle.rx_event.specs.Kept.{stored}
use Rattle.rx_book.proofs.Laws.StepsContinue.{step_taken}
use Rattle.rx_script.proofs.GivenKeysStay.{HasKeys, keys_kept}
use Rattle.rx_script.proofs.SameRows.{same_row}
use Rattle.rx_script.proofs.SameNames.{own_kept, call_kept, after_kept, connection_past, with_history}
use Rattle.rx_script.proofs.WholeHistory.{whole_lawful, whole_agree, StepOver, step_over, DrainOver, drain_over}
use Rattle.std.proofs.Common.{rules}

-- to look for the key is to look whether the node is open
pub first_cause-by_key : (known : Bool) (stand : Refusal → Bool) → (known ≡ false → stand Gone ≡ true) → first_cause (by_key known stand) ≡ first_cause stand
first_cause-by_key x0 stand gone = search rules

-- the stage that the stored history tells of
abbrev pub stored_stage : {R : Type 0} → Engine R → Stage
stored_stage e = with_history (stage_of e []) e.book.history 0

-- no cause of the scenario's own stands against the step, it makes the call that is asked for, and the first of the book's causes
-- against that by keys is the first by numbers
pub record Agrees {R : Type 0} (e : Engine R) (asked : Request) (step : Command) : Type 0 where
  pub own : own_cause (stored_stage e) step ≡ None
  pub called : call_of (stored_stage e) step ≡ Some asked.call
  pub same : first_cause (stands e.book asked)
      ≡ first_cause (causes e.book.base e.book.history e.book.limit (front_is_fresh (stored_stage e)) asked.call)

-- the engine with another book and stock
abbrev pub with : {R : Type 0} → Engine R → State → Shelf → Engine R
with e book stock =
    record { book = book; nodes = e.nodes; hubs = e.hubs; resources = e.resources; leases = e.leases; stock = stock; tallies = e.tallies; faults = e.faults }

-- no release met a fault, and nothing was gathered for the report
abbrev pub KeepsRest : {R : Type 0} → Engine R → Engine R → Type 0
KeepsRest old new = (new.faults ≡ old.faults) × (new.tallies ≡ old.tallies)

-- what a history told is told by a longer one too, and first
notes_longer : (h es : List Event) → (more : List Mail) × (notes (h ++ es) ≡ notes h ++ more)
notes_longer h = by_pushes (λ es. (more : List Mail) × (notes (h ++ es) ≡ notes h ++ more))
    ([], ap notes (append-nil h) ∙ sym (append-nil (notes h)))
    (λ es e before. (
      before.0 ++ mail_of (h ++ es) e,
      ap notes (sym (append_assoc h es (e ∷ []))) ∙ notes-push (h ++ es) e ∙ ap (λ l. l ++ mail_of (h ++ es) e) before.1
          ∙ append_assoc (notes h) before.0 (mail_of (h ++ es) e),
    ))

notes_begun : (h es : List Event) (n : ℕ) → n ≤ length (notes h) → take n (notes (h ++ es)) ≡ take n (notes h)
notes_begun h es n within = ap (take n) (notes_longer h es).1 ∙ take-append-le n (notes h) (notes_longer h es).0 within

-- the whole history and the stored one ---------------------------------------------------------------

module _ {t : Tallies} {s : State} {h : List Event} (w : IsHistoryOf h t s) (kept : IsPromised s) where
  pub stored_lawful : IsLawful s.base (stored s.base w.since)
  stored_lawful = subst (IsLawful s.base) w.history kept.lawful

  pub history_lawful : IsLawful nothing_kept h
  history_lawful = search (rules, whole_lawful, stored_lawful)

  pub history_agrees : Agree nothing_kept h s.base s.history
  history_agrees = subst (λ (l : List Event). Agree nothing_kept l s.base s.history) (sym w.whole)
      (subst (Agree nothing_kept (w.front ++ w.since) s.base) (sym w.history) (whole_agree w.front w.lawful w.settled s.base w.base w.since stored_lawful))

  -- the causes against a call are the same
  cause_same : (fresh : Bool) (call : Call)
      → first_cause (causes nothing_kept h (s.base.at_length + s.limit) fresh call) ≡ first_cause (causes s.base s.history s.limit fresh call)
  cause_same fresh call = search (rules, same_row, history_agrees, history_lawful)

  -- the history with these events more
  abbrev on : List Event → List Event
  on events = w.front ++ (w.since ++ events)

  on_whole : (events : List Event) → on events ≡ h ++ events
  on_whole events = sym (append_assoc w.front w.since events) ∙ ap (λ (l : List Event). l ++ events) (sym w.whole)

  on_stored : (events : List Event) → stored s.base (w.since ++ events) ≡ s.history ++ events
  on_stored events = search (rules, append_assoc)

  history_on : (u : Tallies) (new : State) (events : List Event) → u ≡ t → new.base ≡ s.base → new.given ≡ s.given
      → new.history ≡ stored s.base (w.since ++ events) → IsHistoryOf (on events) u new
  history_on u new events same_tallies same_base same_given same_history = record {
    front = w.front;
    since = w.since ++ events;
    whole = refl;
    lawful = w.lawful;
    settled = w.settled;
    base = same_base ∙ w.base;
    history = same_history ∙ ap (λ b. stored b (w.since ++ events)) (sym same_base);
    counts = subst (AreCountsOf w.front) (sym same_tallies) w.counts;
    told = subst (AreNotesOf (notes w.front ++ take new.given (notes new.history))) (sym same_tallies)
        (subst (λ mail. AreNotesOf (notes w.front ++ mail) t) handed w.told);
  } where
    longer : new.history ≡ s.history ++ events
    longer = same_history ∙ on_stored events

    handed : take s.given (notes s.history) ≡ take new.given (notes new.history)
    handed = sym (ap (λ l. take s.given (notes l)) longer ∙ notes_begun s.history events s.given kept.given) ∙ ap (λ n. take n (notes new.history)) (sym same_given)

-- refusals by the book -------------------------------------------------------------------------------

-- where it is no want of memory, the book's first cause
pub cause_of : (stand : Refusal → Bool) (why : Refusal) → IsRefusal stand why → why ≢ NoMemory → first_cause stand ≡ Some why
cause_of stand why refusal other = elim refusal [ inl cause ↦ cause | inr none ↦ absurd (other none.1) ]

pub answered : (r : Result Answer AllocError) (why : Refusal) (P : Answer → Type 0)
    → IfOk r (λ a. (a ≡ Refused (Book why)) × (why ≢ NoMemory)) → (why ≢ NoMemory → P (Refused (Book why))) → IfOk r P
answered x0 why x2 told here = search rules

-- carrying out ---------------------------------------------------------------------------------------

-- nothing was changed
pub unchanged : {R : Type 0} {e : Engine R} (step : Command) (answer : Answer) (book : State) (stock : Shelf) → IsSound e → book ≡ e.book
    → stock.wares ≡ e.stock.wares
    → ((h : List Event) → IsHistoryOf h e.tallies e.book → Executes (limited e.book.limit) (stage_of e h) step answer (stage_of e h))
    → CarriesStep e step answer (with e book stock)
unchanged {R} {e} step answer book stock sound same_book same_stock executes =
    let at_book : CarriesStep e step answer (with e e.book stock) = record {
      executes = λ h w. (
        h,
        subst (λ wares. Executes (limited e.book.limit) (stage_of e h) step answer (record (stage_of e h) { stock = wares })) (sym same_stock) (executes h w),
        w,
      );
      sound = record { kept = sound.kept; nodes = sound.nodes; resources = sound.resources; leases = sound.leases; faults = sound.faults };
      limit = refl;
      given = inl refl;
    } in
    subst (λ b. CarriesStep e step answer (with e b stock)) (sym same_book) at_book

pub refused_own : {R : Type 0} {e : Engine R} (step : Command) (why : Cause) (book : State) (stock : Shelf) → IsSound e → book ≡ e.book
    → stock.wares ≡ e.stock.wares → own_cause (stored_stage e) step ≡ Some why → CarriesStep e step (Refused why) (with e book stock)
refused_own {e} step why book stock sound same_book same_stock own = search (rules, unchanged, refused, own_kept, own)

pub refused_there : {R : Type 0} {e : Engine R} {step : Command} {asked : Request} {why : Refusal} (book : State) (stock : Shelf) → IsSound e
    → book ≡ e.book → stock.wares ≡ e.stock.wares → Agrees e asked step
    → first_cause (stands e.book asked) ≡ Some why → CarriesStep e step (Refused (Book why)) (with e book stock)
refused_there {e} {step} {asked} {why} book stock sound same_book same_stock agrees cause =
    unchanged step (Refused (Book why)) book stock sound same_book same_stock (λ h w.
    refused_by_book (own_kept (stored_stage e) h e.book.base.at_length step ∙ agrees.own)
    (call_kept (stored_stage e) h e.book.base.at_length step ∙ agrees.called)
    (cause_same w sound.kept (front_is_fresh (stored_stage e)) asked.call ∙ sym agrees.same ∙ cause))

-- what is known of the engine after a call that the book accepted: its names and its stock are those after the step
pub record HasAccepted {R : Type 0} (e : Engine R) (asked : Request) (step : Command) (new : Engine R) : Type 0 where
  pub kept : IsPromised new.book
  pub accepts : Accepts e.book asked new.book
  pub staged : stored_stage new ≡ after (stored_stage e) step new.book.history
  pub keys : HasKeys new new.book
  pub rest : KeepsRest e new

module _ {R : Type 0} {e new : Engine R} {step : Command} {asked : Request} (sound : IsSound e) (agrees : Agrees e asked step)
    (done : HasAccepted e asked step new) where
  module _ (h : List Event) (w : IsHistoryOf h e.tallies e.book) where
    over : StepOver w.front w.lawful w.settled e.book.base w.base w.since asked.call new.book.history
    over = step_over w.front w.lawful w.settled e.book.base w.base w.since asked.call new.book.history (stored_lawful w sound.kept)
        (subst (λ (l : List Event). IsStepOf e.book.base l asked.call new.book.history) w.history done.accepts.step)

    abbrev then : List Event
    then = on w sound.kept over.events

    calls : call_of (stage_of e h) step ≡ Some asked.call
    calls = call_kept (stored_stage e) h e.book.base.at_length step ∙ agrees.called

    plain : step ≡ checkpoint → ⊥
    plain is = none-some asked.call (ap (call_of (stored_stage e)) (sym is) ∙ agrees.called)

    long : length h ≡ length e.book.history
    long = (history_agrees w sound.kept).same_length

    ends : after (stage_of e h) step then ≡ stage_of new then
    ends = after_kept (stored_stage e) h e.book.base.at_length step plain then new.book.history long
        (ap (connection_made h) (on_whole w sound.kept over.events) ∙ connection_past h e.book.history over.events long
        ∙ ap (connection_made e.book.history) (sym (over.same ∙ on_stored w sound.kept over.events)))
        ∙ ap (λ (s : Stage). with_history s then e.book.base.at_length) (sym done.staged)
        ∙ ap (λ b. with_history (stored_stage new) then b.at_length) (sym done.accepts.base)

    goes_to : (k : List Event) × Executes (limited e.book.limit) (stage_of e h) step Accepted (stage_of new k) × IsHistoryOf k new.tallies new.book
    goes_to = (
      then,
      subst (λ s. Executes (limited e.book.limit) (stage_of e h) step Accepted s) ends
          (accepted then (own_kept (stored_stage e) h e.book.base.at_length step ∙ agrees.own) calls
          (cause_same w sound.kept (front_is_fresh (stored_stage e)) asked.call ∙ sym agrees.same ∙ done.accepts.no_cause)
          (subst (λ (l : List Event). IsStepOf nothing_kept l asked.call then) (sym w.whole) over.step)),
      history_on w sound.kept new.tallies new.book over.events done.rest.1 done.accepts.base done.accepts.given over.same,
    )

  pub accepted_to : CarriesStep e step Accepted new
  accepted_to = record {
    executes = goes_to;
    sound = record {
      kept = done.kept;
      nodes = done.keys.nodes;
      resources = done.keys.resources;
      leases = done.keys.leases;
      faults = let taken = step_taken e.book.base e.book.history new.book.history asked.call done.accepts.step in
          let over = ap (λ b. taken_count b new.book.history) done.accepts.base in
          let faults = sound.faults in
          let same = done.rest.0 in omega arith;
    };
    limit = done.accepts.limit;
    given = inl done.accepts.given;
  }

-- taking and releasing all that waits
module _ {R : Type 0} (e : Engine R) (book : State) (faults : ℕ) (sound : IsSound e) (drains : Drains e.book.base e.book.history book.history)
    (goes : Continues e.book book) where
  -- the engine after it
  abbrev pub drained_engine : Engine R
  drained_engine =
      record { book = book; nodes = e.nodes; hubs = e.hubs; resources = e.resources; leases = e.leases; stock = e.stock; tallies = e.tallies; faults = faults }

  drains_to : (h : List Event) → IsHistoryOf h e.tallies e.book
      → (k : List Event) × Executes (limited e.book.limit) (stage_of e h) drain Accepted (stage_of drained_engine k) × IsHistoryOf k e.tallies book
  drains_to h w = (
    on w sound.kept over.events,
    subst (λ b. Executes (limited e.book.limit) (stage_of e h) drain Accepted (with_history (stage_of e h)
        (on w sound.kept over.events) b.at_length)) (sym goes.base)
        (drained (subst (λ (l : List Event). Drains nothing_kept l (on w sound.kept over.events)) (sym w.whole) over.drains)),
    history_on w sound.kept e.tallies book over.events refl goes.base goes.given over.same,
  ) where
    over : DrainOver w.front w.lawful w.settled e.book.base w.base w.since book.history
    over = drain_over w.front w.lawful w.settled e.book.base w.base w.since book.history (stored_lawful w sound.kept)
        (subst (λ (l : List Event). Drains e.book.base l book.history) w.history drains)

  pub drained_to : (released : ℕ) → IsPromised book → taken_count book.base book.history ≡ taken_count e.book.base e.book.history + released
      → faults ≤ e.faults + released → CarriesStep e drain Accepted drained_engine
  drained_to released kept rose few = record {
    executes = drains_to;
    sound = let older = keys_kept sound kept goes in record {
      kept = kept;
      nodes = older.nodes;
      resources = older.resources;
      leases = older.leases;
      faults = let before = sound.faults in omega arith;
    };
    limit = goes.limit;
    given = inl goes.given;
  }
