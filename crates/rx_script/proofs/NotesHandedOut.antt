-- Notes that are handed out while a run goes on.
use Rattle.rx_script.proofs.Common.{◌≡◌, ◌+◌, ◌++◌, ◌∷◌, [], List, take, sym, ap, subst, ◌∙◌, append_assoc, Some, slice_get, Event, notes, Mail}
use Rattle.rx_script.proofs.Common.{State, IsPromised, Tallies, AreNotesOf, Engine, stage_of, IsHistoryOf, IsSound}
use Rattle.rx_script.specs.Engine.{StaysAt}
use Rattle.rx_script.proofs.TakenUp.{take_next, counts_kept}

module _ {R : Type 0} where
  pub stays_on : {a b c : Engine R} → StaysAt a b → StaysAt b c → StaysAt a c
  stays_on s t = record {
    history = λ h w. t.history h (s.history h w);
    stage = λ h. t.stage h ∙ s.stage h;
    sound = t.sound;
    limit = t.limit ∙ s.limit;
  }

module _ {R : Type 0} (e : Engine R) (note : Mail) (t : Tallies) (book : State) (sound : IsSound e)
    (same : book ≡ record e.book { given = e.book.given + 1 })
    (found : Some note ≡ slice_get (notes e.book.history) e.book.given) (kept : IsPromised book)
    (noted : (mail : List Mail) → AreNotesOf mail e.tallies → AreNotesOf (mail ++ note ∷ []) t)
    (counted : t ≡ record e.tallies { notes = t.notes }) where
  abbrev pub noted_engine : Engine R
  noted_engine =
      record { book = book; nodes = e.nodes; hubs = e.hubs; resources = e.resources; leases = e.leases; stock = e.stock; tallies = t; faults = e.faults }

  module _ (h : List Event) (w : IsHistoryOf h e.tallies e.book) where
    abbrev handed : State
    handed = record e.book { given = e.book.given + 1 }

    more : (notes w.front ++ take e.book.given (notes e.book.history)) ++ note ∷ [] ≡ notes w.front ++ take (e.book.given + 1) (notes e.book.history)
    more = append_assoc (notes w.front) (take e.book.given (notes e.book.history)) (note ∷ [])
        ∙ ap (λ (l : List Mail). notes w.front ++ l) (sym (take_next (notes e.book.history) e.book.given note (sym found)))

    at_handed : IsHistoryOf h t handed
    at_handed = record {
      front = w.front;
      since = w.since;
      whole = w.whole;
      lawful = w.lawful;
      settled = w.settled;
      base = w.base;
      history = w.history;
      counts = counts_kept w.front e.tallies t counted w.counts;
      told = subst (λ mail. AreNotesOf mail t) more (noted (notes w.front ++ take e.book.given (notes e.book.history)) w.told);
    }

  pub note_kept : StaysAt e noted_engine
  note_kept = record {
    history = λ h w. subst (IsHistoryOf h t) (sym same) (at_handed h w);
    stage = λ h. ap (λ (s : State). stage_of (record e { book = s }) h) same;
    sound = subst (λ (s : State). IsSound (record e { book = s; tallies = t })) (sym same) (record {
      kept = subst IsPromised same kept;
      nodes = λ i d lt. let k = sound.nodes i d lt in record { within = k.within; found = k.found };
      resources = λ i d lt. let k = sound.resources i d lt in record { within = k.within; found = k.found };
      leases = λ i d lt. let k = sound.leases i d lt in record { within = k.within; found = k.found };
      faults = sound.faults;
    });
    limit = ap (λ (s : State). s.limit) same;
  }
