-- What is asked by an opening of a node that holds a resource from then on, and what it answers: it is an opening, and then a holding.
use Rattle.std.specs.Prelude.{◌≡◌, ◌+◌, ◌≤◌, ◌<◌, Bool, None, Result, IfOk, IfErr, OnErr, [], ◌∷◌, ◌++◌, length, map}
use Rattle.std.specs.List.{AllPairs, Contains}
use Rattle.rx_resource.specs.declared.Resource.{Ghosts}
use Rattle.rx_event.specs.declared.event.Kind.{Kind}
use Rattle.rx_event.specs.declared.event.Event.TheVariants.{Accept}
use Rattle.rx_event.specs.declared.refusal.Refusal.{Refusal}
use Rattle.rx_event.specs.Causes.{added_by, by_key}
use Rattle.rx_event.specs.Calls.{Opening}
use Rattle.rx_event.specs.Refusals.{first_cause, IsRefusal}
use Rattle.rx_event.specs.Totals.{debt}
use Rattle.rx_ground.specs.OpeningHolding.{opening_holding_causes}
use Rattle.rx_event.specs.Gone.{goes, AreJust}
use Rattle.rx_slots.specs.declared.Key.{Key}
use Rattle.rx_ground.specs.Gone.{GoesFirst}
use Rattle.rx_ground.specs.Shown.{Ground}
use Rattle.rx_book.specs.declared.answer.At.{At}
use Rattle.rx_book.specs.declared.answer.OpenedHolding.{OpenedHolding}
use Rattle.rx_book.specs.declared.answer.Refused.{Refused}
use Rattle.rx_book.specs.State.{State}
use Rattle.rx_book.specs.Requests.{place_of, is_known_place, is_fresh_in, open_request, hold_request}
use Rattle.rx_book.specs.Answers.{Accepts, IsOpened, IsNewResKey}
use Rattle.rx_book.specs.Shown.{state_of}
use Rattle.rx_book.specs.Steps.{IsAdmitted}

-- the causes that stand in this state against it
abbrev pub stands_holding : State → At → Kind → (is_fresh : Bool) → Refusal → Bool
stands_holding s at kind is_fresh =
    by_key (is_known_place s.keys at) (opening_holding_causes s.base s.history s.limit is_fresh (place_of at) kind)

module _ {T : Type 0} where
  -- such a node was opened, with what that forces, and then the resource was held there, which comes last and closes no node, so that
  -- what the opening closed is what the call closed
  pub record IsOpenedHolding (g : Ghosts T) (old : State) (at : At) (kind : Kind) (x : T) (new : State) (o : OpenedHolding) : Type 0 where
    pub middle : State
    pub opens : Accepts old (open_request old at kind) middle
    pub holds : Accepts middle (hold_request g middle o.opened.key x) (record new { closed = [] })
    pub last : new.history ≡ middle.history ++ Accept o.opened.key.number (g.tag_of x) ∷ []
    pub keys : new.keys ≡ middle.keys
    pub closed : AreJust (goes old.history new.history) (map (λ k. k.number) new.closed)
    pub closed_keys : (k : Key) → Contains new.closed k → k.number < length old.history → Contains old.keys k
    pub closed_order : AllPairs (GoesFirst new.history) (map (λ k. k.number) new.closed)
    pub opened : IsOpened old new o.opened
    pub res : IsNewResKey new (length middle.history) o.res

  -- accepted, where no cause stood; or refused for the first cause, or where none stands for want of memory, with nothing changed: the
  -- resource then comes back as it was
  pub record AnswersOpenedHolding (g : Ghosts T) (old : State) (at : At) (kind : Kind) (x : T) (new : State)
      (answer : Result OpenedHolding (Refused T)) : Type 0 where
    pub ok : IfOk answer (IsOpenedHolding g old at kind x new)
    pub no_cause : IfOk answer (λ o. first_cause (stands_holding old at kind (is_fresh_in g x)) ≡ None)
    pub refused : IfErr answer (λ r. IsRefusal (stands_holding old at kind (is_fresh_in g x)) r.why)
    pub back : IfErr answer (λ r. r.back ≡ x)
    pub kept : OnErr answer (new ≡ old)

  -- the opening is let in, and there is room for the holding too; no public clause cites this
  pub record IsAdmittedHolding (g : Ghosts T) (b : Ground T) (at : At) (kind : Kind) (is_fresh : Bool) : Type 0 where
    pub opening : IsAdmitted g b (open_request (state_of g b) at kind)
    pub none : first_cause (stands_holding (state_of g b) at kind is_fresh) ≡ None
    pub events : debt b.register.base b.register.history + added_by b.register.history (Opening (place_of at) kind) + 3 ≤ b.register.room
    pub resources : 0 < b.tree.resources.room
