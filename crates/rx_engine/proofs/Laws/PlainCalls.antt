-- What a plain command asks of the book is one event, and what that tells.
use Rattle.std.proofs.Common.{◌≡◌, ℕ, ◌≤◌, Bool, true, false, List, [], ◌∷◌, ◌++◌, length, drop, refl, sym, ap, ◌∙◌, subst}
use Rattle.std.proofs.Math.Seq.{drop-append_seam}
use Rattle.std.proofs.lemmas.Bool.{false≢true}
use Rattle.rx_event.specs.declared.event.Event.{Event}
use Rattle.rx_event.specs.declared.mail.Mail.{Mail}
use Rattle.rx_event.proofs.Laws.Common.{Kept, notes, mail_of, makes_node, makes_resource, IsSettled, IsForcedOn, MayFollow, forced, allowed}
use Rattle.rx_event.specs.Allowed.{IsAllowed}
use Rattle.rx_event.specs.Lawful.{opened_with}
use Rattle.rx_event.specs.Calls.{outside_of}
use Rattle.rx_book.specs.State.{State as BookState, IsPromised as IsBookPromised}
use Rattle.rx_book.specs.Requests.{Request}
use Rattle.rx_book.specs.Answers.{Accepts}
use Rattle.rx_book.proofs.Laws.LastsThroughSteps.{keeps_resources}
use Rattle.rx_roles.specs.Effects.{items_in}
use Rattle.rx_roles.proofs.Laws.NodesAfterStep.{first_follows}
use Rattle.rx_roles.proofs.Laws.NotesOfStep.{StepTells, step_tells}
use Rattle.rx_engine.specs.Settlements.{mail_left}
use Rattle.std.proofs.Common.{◌≡◌, ℕ, length, ◌≤◌, Bool, true, false, List, map, refl, ap}
use Rattle.rx_event.specs.declared.event.Event.TheVariants.{Item, End, Decline, Close, Use, Remove, Lease, Return, Hub}
use Rattle.rx_event.proofs.Laws.Common.{mail_of}
use Rattle.rx_event.specs.Events.{is_item}
use Rattle.rx_event.specs.Notes.{notes}
use Rattle.rx_event.specs.Calls.{Call, Emitting}
use Rattle.rx_note.specs.declared.note.Terminal.TheVariants.{Error}
use Rattle.rx_register.proofs.Laws.Follow.{disconnecting_one}
use Rattle.rx_book.specs.State.{State as BookState, IsPromised as IsBookPromised}
use Rattle.rx_book.specs.Requests.{Request}
use Rattle.rx_book.specs.Answers.{Accepts}
use Rattle.rx_roles.specs.Effects.{items_in}
use Rattle.rx_engine.specs.Settlements.{mail_left}
use Rattle.rx_engine.specs.LettingGo.{IsNext, next_lease, next_root, next_hub}
use Rattle.rx_engine.specs.Plain.{IsPlain, emits, ends, aborts, declines, fails, disposes, applies, removes, leases, gives_back, publishes, disconnects}

-- one call -------------------------------------------------------------------------------------------

-- the book accepted a call by one event of a caller that makes no node and accepts or takes no resource
pub record IsPlainCall (s : BookState) (asked : Request) (e : Event) (mid : BookState) : Type 0 where
  pub promised : IsBookPromised s
  pub accepts : Accepts s asked mid
  pub one : outside_of s.history asked.call ≡ e ∷ []
  pub plain : makes_node e ≡ false
  pub unheld : makes_resource e ≡ false
  pub keeps : keeps_resources asked.call ≡ true

pub may_be : (base : Kept) (h : List Event) (e : Event) → MayFollow base h e → IsSettled base h → makes_resource e ≡ false → IsAllowed base h e
may_be base h e (forced f) settled plain = absurd (settled.none e f)
may_be base h e (allowed settled a) still plain = a
may_be base h e (opened_with is one o) settled plain = absurd (false≢true (sym plain))

module _ {s mid : BookState} {asked : Request} {e : Event} (c : IsPlainCall s asked e mid) where
  pub steps : IsForcedOn s.base (s.history ++ e ∷ []) mid.history
  steps = subst (λ (es : List Event). IsForcedOn s.base (s.history ++ es) mid.history) c.one c.accepts.step.forced

  pub tells : StepTells s.history mid.history (items_in (mail_of s.history e))
  tells = step_tells s.base s.history e mid.history c.promised.lawful c.promised.settled
      (may_be s.base s.history e (first_follows s.base s.history e mid.history c.promised.lawful c.accepts.step.lawful steps) c.promised.settled c.unheld)
      c.plain steps

  -- the notes that are left are those that the call told
  pub left_is : s.given ≡ length (notes s.history) → mail_left mid ≡ tells.rest
  left_is all = ap (λ (n : ℕ). drop n (notes mid.history)) (c.accepts.given ∙ all) ∙ ap (drop (length (notes s.history))) tells.is
      ∙ drop-append_seam (notes s.history) tells.rest

  -- of which no more are items than the call's own event tells
  pub left_few : s.given ≡ length (notes s.history) → items_in (mail_left mid) ≤ items_in (mail_of s.history e)
  left_few all = subst (λ (ms : List Mail). items_in ms ≤ items_in (mail_of s.history e)) (sym (left_is all)) tells.few

abbrev pub is_emitting : Call → Bool
is_emitting (Emitting leaf value) = true
is_emitting _ = false

-- the call's own event
pub record HasEvent (s : BookState) (asked : Request) (mid : BookState) : Type 0 where
  pub event : Event
  pub call : IsPlainCall s asked event mid
  pub quiet : is_emitting asked.call ≡ false → is_item event ≡ false

unfoldable pub plain_call : (s : BookState) (asked : Request) (mid : BookState) → IsBookPromised s → IsPlain s asked → Accepts s asked mid → HasEvent s asked mid
plain_call s asked mid kept (emits leaf value) accepts =
    record {
      event = Item leaf.number value;
      call = record { promised = kept; accepts = accepts; one = refl; plain = refl; unheld = refl; keeps = refl };
      quiet = λ q. q;
    }
plain_call s asked mid kept (ends leaf terminal) accepts =
    record {
      event = End leaf.number terminal;
      call = record { promised = kept; accepts = accepts; one = refl; plain = refl; unheld = refl; keeps = refl };
      quiet = λ q. refl;
    }
plain_call s asked mid kept (aborts node code) accepts =
    record {
      event = End node.number (Error code);
      call = record { promised = kept; accepts = accepts; one = refl; plain = refl; unheld = refl; keeps = refl };
      quiet = λ q. refl;
    }
plain_call s asked mid kept (declines merging) accepts =
    record {
      event = Decline merging.number;
      call = record { promised = kept; accepts = accepts; one = refl; plain = refl; unheld = refl; keeps = refl };
      quiet = λ q. refl;
    }
plain_call s asked mid kept (fails merging code) accepts =
    record {
      event = End merging.number (Error code);
      call = record {
        promised = kept;
        accepts = accepts;
        one = refl;
        plain = refl;
        unheld = refl;
        keeps = refl;
      };
      quiet = λ q. refl;
    }
plain_call s asked mid kept (disposes root) accepts =
    record {
      event = Close root.number;
      call = record { promised = kept; accepts = accepts; one = refl; plain = refl; unheld = refl; keeps = refl };
      quiet = λ q. refl;
    }
plain_call s asked mid kept (applies res) accepts =
    record {
      event = Use res.number;
      call = record { promised = kept; accepts = accepts; one = refl; plain = refl; unheld = refl; keeps = refl };
      quiet = λ q.
          refl;
    }
plain_call s asked mid kept (removes res) accepts =
    record {
      event = Remove res.number;
      call = record { promised = kept; accepts = accepts; one = refl; plain = refl; unheld = refl; keeps = refl };
      quiet = λ q. refl;
    }
plain_call s asked mid kept (leases res) accepts =
    record {
      event = Lease res.number;
      call = record { promised = kept; accepts = accepts; one = refl; plain = refl; unheld = refl; keeps = refl };
      quiet = λ q.
          refl;
    }
plain_call s asked mid kept (gives_back lease) accepts =
    record {
      event = Return lease.number;
      call = record { promised = kept; accepts = accepts; one = refl; plain = refl; unheld = refl; keeps = refl };
      quiet = λ q. refl;
    }
plain_call s asked mid kept (publishes mode) accepts =
    record { event = Hub mode; call = record { promised = kept; accepts = accepts; one = refl; plain = refl; unheld = refl; keeps = refl }; quiet = λ q. refl }
plain_call s asked mid kept (disconnects hub) accepts =
    let one = disconnecting_one s.base s.history hub kept.lawful accepts.no_cause in
    record {
      event = Close one.0;
      call = record { promised = kept; accepts = accepts; one = ap (map (λ (c : ℕ). Close c)) one.1; plain = refl; unheld = refl; keeps = refl };
      quiet = λ q. refl;
    }

-- what is let go of next is asked for by such a command
pub next_plain : (b : BookState) (asked : Request) → IsNext b asked → IsPlain b asked
next_plain b asked (next_lease k found known) = gives_back k
next_plain b asked (next_root k none found known) = disposes k
next_plain b asked (next_hub hub none no_root found) = disconnects hub
