-- Opening a node that holds a tag from then on, in one command.
use Rattle.std.specs.Prelude.{◌≡◌, ℕ, Bool, true, Option, [], length, Result, IfOk, IfErr, OnErr, ◌⊎◌}
use Rattle.rx_resource.specs.declared.Resource.{Ghosts}
use Rattle.rx_resource.specs.declared.Life.TheVariants.{Live}
use Rattle.rx_resource.specs.declared.token.Token.{Token}
use Rattle.rx_event.specs.declared.event.Event.TheVariants.{Open}
use Rattle.rx_event.specs.declared.event.Kind.{Kind}
use Rattle.rx_event.specs.declared.refusal.Refusal.{Refusal}
use Rattle.rx_event.specs.declared.refusal.Refusal.TheVariants.{NoMemory}
use Rattle.rx_event.specs.Events.{is_root, is_merging}
use Rattle.rx_event.specs.Refusals.{IsRefusal}
use Rattle.rx_slots.specs.declared.Key.{Key}
use Rattle.rx_book.specs.declared.answer.At.{At}
use Rattle.rx_book.specs.State.{State as BookState}
use Rattle.rx_book.specs.Requests.{open_request, place_of, is_fresh_in}
use Rattle.rx_book.specs.Answers.{Accepts, IsNewKey, IsNewResKey}
use Rattle.rx_event.specs.Causes.{by_key}
use Rattle.rx_ground.specs.OpeningHolding.{opening_holding_causes}
use Rattle.rx_lanes.specs.declared.names.LaneName.{LaneName}
use Rattle.rx_engine.specs.declared.parts.Parts.{Parts}
use Rattle.rx_engine.specs.declared.parts.User.{User}
use Rattle.rx_engine.specs.declared.parts.Used.{Used}
use Rattle.rx_engine.specs.declared.homes.LaneOf.{LaneOf}
use Rattle.rx_engine.specs.Homes.{whose, is_housed, home_of}
use Rattle.rx_engine.specs.States.{State, IsSeenAs}
use Rattle.rx_event.specs.Gone.{goes, AreJust}
use Rattle.rx_engine.specs.Settlements.{closed_of, Settles}
use Rattle.rx_engine.specs.Openings.{Enters}
use Rattle.rx_engine.specs.Holdings.{held_request, Keeps}
use Rattle.rx_engine.specs.Closings.{with_wish, Closes}

-- the causes that stand against it: the node whose lane is asked for counts as the place's
abbrev pub stands_using : BookState → At → Kind → Option LaneOf → (is_fresh : Bool) → Refusal → Bool
stands_using b at kind asked is_fresh = by_key (is_housed b (whose at asked))
    (opening_holding_causes b.base b.history b.limit is_fresh (place_of at) kind)

-- the book opened the node, and then held the resource there, and what the opening closed is what the call closed; the node has its roles, and the tag its own, in the lane that the node has,
-- before anything is told
pub record IsUsingDone (g : Ghosts Token) (at : At) (kind : Kind) (user : User) (tag by : ℕ) (s t : State) : Type 0 where
  pub middle : BookState
  pub opens : Accepts s.book (open_request s.book at kind) middle
  pub housed : is_housed s.book (whose at user.lane) ≡ true
  pub node : Key
  pub number : node.number ≡ length s.book.history
  pub mid : BookState
  pub holds : Accepts middle (held_request g middle node tag) (record mid { closed = [] })
  pub closed : AreJust (goes s.book.history mid.history) (closed_of mid)
  pub name : LaneName
  pub entered : Parts
  pub enters : Enters s.parts (length s.book.history) (is_root (Open (place_of at) kind))
      (is_merging (Open (place_of at) kind)) user.word
      (home_of s at user.lane) name entered
  pub with_tag : Parts
  pub keeps : Keeps entered (length middle.history) tag name with_tag
  pub settles : Settles g by 0 mid with_tag t.book t.parts
  pub closes : Closes mid (with_wish s.wishes.roles.list (length s.book.history) user) t.wishes

-- done, and the keys are those of the open node and of the held resource which were made by the two events, between which is what the
-- opening forces; or refused, for want of memory or as the book refuses, and nothing changed but room
pub record IsUsingMade (g : Ghosts Token) (at : At) (kind : Kind) (user : User) (tag by : ℕ) (s t : State)
    (answer : Result Used Refusal) : Type 0 where
  pub key : IfOk answer (λ u. IsNewKey t.book (length s.book.history) u.key)
  pub done : IfOk answer (λ u. (d : IsUsingDone g at kind user tag by s t) × (d.node ≡ u.key) × IsNewResKey t.book (length d.middle.history) u.res)
  pub refused : IfErr answer (λ why. (why ≡ NoMemory) ⊎ IsRefusal (stands_using s.book at kind user.lane (is_fresh_in g (record { tag = tag; life = Live; uses = 0 }))) why)
  pub kept : OnErr answer (IsSeenAs s t)
