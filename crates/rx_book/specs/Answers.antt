-- What the answers of calls say: one relation for each kind of answer, of the state before, what was asked, the state after, and
-- the answer.
use Rattle.std.specs.Prelude.{◌≡◌, ℕ, ◌+◌, ◌<◌, Bool, true, false, Option, Some, None, List, [], length, map, option_map, IsTrue, if◌then◌else◌}
use Rattle.std.specs.Prelude.{Result, IfOk, IfErr, OnOk, OnErr, IfSome, IfNone, MatchOption, ⊤}
use Rattle.std.specs.List.{AllPairs, Contains}
use Rattle.rx_resource.specs.declared.Resource.{Ghosts}
use Rattle.rx_event.specs.declared.refusal.Refusal.{Refusal}
use Rattle.rx_event.specs.declared.event.Event.{Event}
use Rattle.rx_event.specs.declared.event.Event.TheVariants.{Connect}
use Rattle.rx_event.specs.Tree.{at}
use Rattle.rx_event.specs.Calls.{IsStepOf}
use Rattle.rx_event.specs.Refusals.{first_cause, IsRefusal}
use Rattle.rx_event.specs.Gone.{goes, AreJust}
use Rattle.rx_ground.specs.Gone.{GoesFirst}
use Rattle.rx_ground.specs.Shown.{label_of}
use Rattle.rx_slots.specs.declared.Key.{Key}
use Rattle.rx_tree.specs.declared.node.ResKey.{ResKey}
use Rattle.rx_ground.specs.declared.leases.LeaseKey.{LeaseKey}
use Rattle.rx_book.specs.declared.answer.Opened.{Opened}
use Rattle.rx_book.specs.declared.answer.OpenedUsing.{OpenedUsing}
use Rattle.rx_book.specs.declared.answer.Refused.{Refused}
use Rattle.rx_book.specs.State.{State, has_key, has_res_key, has_lease_key}
use Rattle.rx_book.specs.Requests.{Request, stands, take_request}

abbrev pub makes_connection : Event → Bool
makes_connection (Connect hub) = true
makes_connection _ = false

-- the connection that a call made, whose Connect comes directly after its own event
abbrev pub connection_made : List Event → List Event → Option ℕ
connection_made old new = if at makes_connection new (length old + 1) then Some (length old + 1) else None

-- an accepted call: no cause stood against it, the history goes on by a step of that call, the base, the limit, the notes handed out
-- and the keys of all that is still there are as before, and the list of what was closed has just the nodes that went with it, each once,
-- under the key that it had, and in the order in which they went
pub record Accepts (old : State) (asked : Request) (new : State) : Type 0 where
  pub no_cause : first_cause (stands old asked) ≡ None
  pub base : new.base ≡ old.base
  pub step : IsStepOf old.base old.history asked.call new.history
  pub limit : new.limit ≡ old.limit
  pub given : new.given ≡ old.given
  pub keys : (k : Key) → Contains new.keys k → k.number < length old.history → Contains old.keys k
  pub res_keys : (k : ResKey) → Contains new.res_keys k → k.number < length old.history → Contains old.res_keys k
  pub lease_keys : (k : LeaseKey) → Contains new.lease_keys k → k.number < length old.history → Contains old.lease_keys k
  pub closed : AreJust (goes old.history new.history) (map (λ k. k.number) new.closed)
  pub closed_keys : (k : Key) → Contains new.closed k → k.number < length old.history → Contains old.keys k
  pub closed_order : AllPairs (GoesFirst new.history) (map (λ k. k.number) new.closed)

-- refusals ----------------------------------------------------------------------------------------

-- the first cause; or, of a call that may take memory, want of memory where none stands
abbrev pub IsRefusalOf : (may_want : Bool) → (Refusal → Bool) → Refusal → Type 0
IsRefusalOf true stand why = IsRefusal stand why
IsRefusalOf false stand why = first_cause stand ≡ Some why

-- of a call that takes no memory: the first cause
abbrev pub IsCause : State → Request → Refusal → Type 0
IsCause old asked why = first_cause (stands old asked) ≡ Some why

-- of a call that may take memory: the first cause, or where none stands want of memory
abbrev pub IsCauseOrWant : State → Request → Refusal → Type 0
IsCauseOrWant old asked why = IsRefusal (stands old asked) why

-- and with it the resource that was handed in comes back as it was
pub record IsGivenBack {T : Type 0} (old : State) (asked : Request) (resource : T) (refused : Refused T) : Type 0 where
  pub why : IsCauseOrWant old asked refused.why
  pub back : refused.back ≡ resource

-- what is answered --------------------------------------------------------------------------------

-- the place of the call's own event
abbrev pub IsPlace : State → ℕ → Type 0
IsPlace old place = place ≡ length old.history

-- the key of an open node that was made at this place
pub record IsNewKey (new : State) (place : ℕ) (k : Key) : Type 0 where
  pub number : k.number ≡ place
  pub listed : IsTrue (has_key new.keys k)

-- the key of a held resource that was accepted at this place
pub record IsNewResKey (new : State) (place : ℕ) (k : ResKey) : Type 0 where
  pub number : k.number ≡ place
  pub listed : IsTrue (has_res_key new.res_keys k)

-- the key of a lease that was given out at this place
pub record IsNewLeaseKey (new : State) (place : ℕ) (k : LeaseKey) : Type 0 where
  pub number : k.number ≡ place
  pub listed : IsTrue (has_lease_key new.lease_keys k)

-- a new node's key, and the key of the connection that its opening forced, if it did
pub record IsOpened (old new : State) (o : Opened) : Type 0 where
  pub key : IsNewKey new (length old.history) o.key
  pub connection : option_map (λ k. k.number) o.connected ≡ connection_made old.history new.history
  pub connected : IfSome o.connected (λ k. IsTrue (has_key new.keys k))

pub record IsOpenedUsing (old new : State) (o : OpenedUsing) : Type 0 where
  pub key : IsNewKey new (length old.history) o.key
  pub res : IsNewResKey new (length old.history + 1) o.res

-- answers -----------------------------------------------------------------------------------------

-- accepted, with what it gives; or refused, with nothing changed
pub record Answers {A E : Type 0} (gives : A → Type 0) (refuses : E → Type 0) (old : State) (asked : Request) (new : State) (answer : Result A E) : Type 0 where
  pub ok : IfOk answer gives
  pub accepted : OnOk answer (Accepts old asked new)
  pub refused : IfErr answer refuses
  pub kept : OnErr answer (new ≡ old)

-- a place, from a call that takes no memory
abbrev pub AnswersPlace : State → Request → State → Result ℕ Refusal → Type 0
AnswersPlace old asked = Answers (IsPlace old) (IsCause old asked) old asked

-- and from one that may take memory
abbrev pub AnswersPlaceOrWant : State → Request → State → Result ℕ Refusal → Type 0
AnswersPlaceOrWant old asked = Answers (IsPlace old) (IsCauseOrWant old asked) old asked

-- the key of the new node
abbrev pub AnswersKey : State → Request → State → Result Key Refusal → Type 0
AnswersKey old asked new = Answers (IsNewKey new (length old.history)) (IsCauseOrWant old asked) old asked new

-- the key of the new lease
abbrev pub AnswersLeaseKey : State → Request → State → Result LeaseKey Refusal → Type 0
AnswersLeaseKey old asked new = Answers (IsNewLeaseKey new (length old.history)) (IsCauseOrWant old asked) old asked new

-- a resource's own word, of which nothing is said
abbrev pub AnswersWord : State → Request → State → Result ℕ Refusal → Type 0
AnswersWord old asked = Answers (λ word. ⊤) (IsCauseOrWant old asked) old asked

abbrev pub AnswersOpened : State → Request → State → Result Opened Refusal → Type 0
AnswersOpened old asked new = Answers (IsOpened old new) (IsCauseOrWant old asked) old asked new

module _ {T : Type 0} where
  abbrev pub AnswersOpenedUsing : State → Request → T → State → Result OpenedUsing (Refused T) → Type 0
  AnswersOpenedUsing old asked resource new = Answers (IsOpenedUsing old new) (IsGivenBack old asked resource) old asked new

  abbrev pub AnswersResKey : State → Request → T → State → Result ResKey (Refused T) → Type 0
  AnswersResKey old asked resource new = Answers (IsNewResKey new (length old.history)) (IsGivenBack old asked resource) old asked new

  -- one of the resources that wait, by its number, or None exactly where none waits
  pub record AnswersHanded (g : Ghosts T) (old new : State) (answer : Option (ℕ × T)) : Type 0 where
    pub cases : MatchOption answer (old.waiting ≡ []) (λ handed. Contains old.waiting (label_of g handed.0 handed.1))
    pub accepted : IfSome answer (λ handed. Accepts old (take_request handed.0) new)
    pub kept : IfNone answer (new ≡ old)
    -- so a loop that takes until nothing waits ends
    pub fewer : IfSome answer (λ handed. length new.waiting < length old.waiting)
