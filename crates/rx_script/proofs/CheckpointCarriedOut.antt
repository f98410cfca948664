-- A checkpoint, carried out by an engine: what is to be reported is gathered, and then the book lets its events go.
use Rattle.rx_script.proofs.Common.{◌≡◌, ◌++◌, ℕ, List, [], length, drop, refl, sym, ap, subst, ◌∙◌, arith, append-nil, Event, nothing_kept, shown}
use Rattle.rx_script.proofs.Common.{notes, alike_of, base_length, checkpoints_agree, Key, ResKey, LeaseKey, State, IsPromised}
use Rattle.rx_script.proofs.Common.{Checkpoints, Accepted, checkpoint, Tallies, AreNotesOf, AreTalliesOf, GoesOnFromFront, Gathers, IsNodeKey, IsHeldKey}
use Rattle.rx_script.proofs.Common.{IsLeaseKey}
use Rattle.rx_script.proofs.Common.{Engine, limited, Executes, checkpointed, stage_of, IsHistoryOf, IsSound, CarriesStep, take, append_assoc, Mail, inr}
use Rattle.std.proofs.lemmas.List.{take-append-drop}
use Rattle.std.proofs.Math.Seq.{drop-append_seam}
use Rattle.rx_event.proofs.Laws.SameForcedAndAllowed.{agree_back, settled_too}
use Rattle.rx_script.proofs.EngineCarriesOut.{stored_lawful, history_lawful, history_agrees}
use Rattle.rx_script.proofs.WholeHistory.{shown_length, kept_length, notes_whole}
use Rattle.std.proofs.Common.{rules}

-- what was gathered is that of the whole history
module _ {t : Tallies} {s : State} {h : List Event} (w : IsHistoryOf h t s) (kept : IsPromised s) where
  goes_on : GoesOnFromFront w.front h s
  goes_on = search (rules, kept_length, drop, length, shown_length, drop-append_seam)

  pub all_told : notes w.front ++ notes s.history ≡ notes h
  all_told = ap (λ (l : List Event). notes w.front ++ notes l) w.history
      ∙ sym (notes_whole w.front w.lawful w.settled s.base w.base w.since (stored_lawful w kept)) ∙ ap notes (sym w.whole)

  told : (notes w.front ++ take s.given (notes s.history)) ++ drop s.given (notes s.history) ≡ notes h
  told = append_assoc (notes w.front) (take s.given (notes s.history)) (drop s.given (notes s.history))
      ∙ ap (λ (l : List Mail). notes w.front ++ l) (take-append-drop s.given (notes s.history)) ∙ all_told

  pub gathered : (u : Tallies) → Gathers t u s → AreTalliesOf h u
  gathered u gathers = record {
    counts = gathers.counts w.front h w.counts goes_on (history_lawful w kept);
    notes = subst (λ mail. AreNotesOf mail u) told (gathers.notes (notes w.front ++ take s.given (notes s.history)) w.told);
  }

-- keys that a book gave stay so
module _ (s mid new : State) (same : mid.history ≡ s.history) (same_keys : mid.keys ≡ s.keys) (same_res : mid.res_keys ≡ s.res_keys)
    (same_leases : mid.lease_keys ≡ s.lease_keys)
    (made : Checkpoints mid new) where
  long : length s.history ≡ length new.history
  long = ap length (sym same) ∙ made.agree.same_length

  node_key_stays : (k : Key) → IsNodeKey s k → IsNodeKey new k
  node_key_stays k known = search (rules, long, alike_of)

  held_key_stays : (k : ResKey) → IsHeldKey s k → IsHeldKey new k
  held_key_stays k known = search (rules, long)

  lease_key_stays : (k : LeaseKey) → IsLeaseKey s k → IsLeaseKey new k
  lease_key_stays k known = search (rules, long)

-- the engine after it
module _ {R : Type 0} (e : Engine R) (t : Tallies) (given : ℕ) (book : State) (sound : IsSound e) (kept : IsPromised book)
    (gathers : Gathers e.tallies t e.book) (made : Checkpoints (record e.book { given = given }) book) where
  abbrev pub checked_engine : Engine R
  checked_engine =
      record { book = book; nodes = e.nodes; hubs = e.hubs; resources = e.resources; leases = e.leases; stock = e.stock; tallies = t; faults = e.faults }

  module _ (h : List Event) (w : IsHistoryOf h e.tallies e.book) where
    here : book.base.at_length ≡ length h
    here = ap (λ b. b.at_length) made.base ∙ base_length e.book.base e.book.history ∙ sym (history_agrees w sound.kept).same_length

    checked_history : IsHistoryOf h t book
    checked_history = record {
      front = h;
      since = [];
      whole = sym (append-nil h);
      lawful = history_lawful w sound.kept;
      settled = settled_too e.book.base e.book.history nothing_kept h
          (agree_back nothing_kept h e.book.base e.book.history (history_agrees w sound.kept)) sound.kept.lawful
          (history_lawful w sound.kept) sound.kept.settled;
      base = made.base ∙ sym (checkpoints_agree.one_base nothing_kept h e.book.base e.book.history (history_agrees w sound.kept));
      history = made.history ∙ sym (append-nil (shown book.base));
      counts = (gathered w sound.kept t gathers).counts;
      told = subst (λ mail. AreNotesOf mail t) (sym (ap (λ n. notes h ++ take n (notes book.history)) made.given ∙ append-nil (notes h)))
          (gathered w sound.kept t gathers).notes;
    }

  checks : (h : List Event) → IsHistoryOf h e.tallies e.book
      → (k : List Event) × Executes (limited e.book.limit) (stage_of e h) checkpoint Accepted (stage_of checked_engine k) × IsHistoryOf k t book
  checks h w = (
    h,
    subst (λ n. Executes (limited e.book.limit) (stage_of e h) checkpoint Accepted (record (stage_of e h) { checked = n })) (sym (here h w)) checkpointed,
    checked_history h w,
  )

  pub checkpointed_to : CarriesStep e checkpoint Accepted checked_engine
  checkpointed_to = record {
    executes = checks;
    sound = record {
      kept = kept;
      nodes = λ i d lt. node_key_stays e.book (record e.book { given = given }) book refl refl refl refl made _ (sound.nodes i d lt);
      resources = λ i d lt. held_key_stays e.book (record e.book { given = given }) book refl refl refl refl made _ (sound.resources i d lt);
      leases = λ i d lt. lease_key_stays e.book (record e.book { given = given }) book refl refl refl refl made _ (sound.leases i d lt);
      faults = let taken = made.agree.taken_total in let few = sound.faults in omega arith;
    };
    limit = made.limit;
    given = inr made.history;
  }
