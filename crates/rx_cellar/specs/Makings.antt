-- What each command comes to, and what of it crosses.
use Rattle.std.specs.Prelude.{◌≡◌, ◌≢◌, ℕ, pos, length, Option, Some, None, Result, Ok, Err, IfOk}
use Rattle.rx_resource.specs.declared.Resource.{Ghosts}
use Rattle.rx_resource.specs.declared.token.Token.{Token}
use Rattle.rx_event.specs.declared.refusal.Refusal.{Refusal}
use Rattle.rx_event.specs.declared.refusal.Refusal.TheVariants.{NoHub}
use Rattle.rx_note.specs.declared.note.Terminal.TheVariants.{Completed, Error}
use Rattle.rx_slots.specs.declared.Key.{Key}
use Rattle.rx_tree.specs.declared.node.ResKey.{ResKey}
use Rattle.rx_ground.specs.declared.leases.LeaseKey.{LeaseKey}
use Rattle.rx_book.specs.declared.answer.At.{At}
use Rattle.rx_book.specs.Answers.{IsNewLeaseKey}
use Rattle.rx_book.specs.Requests.{Request, next_request, dispose_request, end_request, abort_request, fail_request, decline_request}
use Rattle.rx_book.specs.Requests.{apply_request, remove_request, lease_request, give_back_request}
use Rattle.rx_pool.specs.declared.search.Share.{Share}
use Rattle.rx_engine.specs.declared.parts.User.{User}
use Rattle.rx_engine.specs.declared.parts.Used.{Used}
use Rattle.rx_engine.specs.declared.sharing.Subscribed.{Subscribed}
use Rattle.rx_engine.specs.declared.sharing.Connected.{Connected}
use Rattle.rx_engine.specs.States.{State, IsPromised}
use Rattle.rx_engine.specs.Commands.{IsFreeMade, IsCostlyMade}
use Rattle.rx_roles.specs.declared.effect.Effect.{Effect as Sent}
use Rattle.rx_engine.specs.Handings.{IsNextHanded}
use Rattle.rx_engine.specs.Openings.{IsOpenMade}
use Rattle.rx_engine.specs.Usings.{IsUsingMade}
use Rattle.rx_engine.specs.Holdings.{IsHoldMade}
use Rattle.rx_engine.specs.Puttings.{IsPutMade}
use Rattle.rx_engine.specs.Sharings.{IsSubscribeMade, IsConnectMade, IsDisconnectMade}
use Rattle.rx_engine.specs.LettingGo.{IsClosingMade}
use Rattle.rx_engine.specs.Hubs.{AreHubsMade}
use Rattle.rx_cellar.specs.Codes.{no_node, key_numbered}
use Rattle.rx_cellar.specs.declared.making.Made.{Made}
use Rattle.rx_cellar.specs.declared.asked.OwnKind.TheVariants.{Pass}
use Rattle.rx_cellar.specs.declared.asked.Item.{Item}
use Rattle.rx_cellar.specs.declared.asked.Asked.{Asked}
use Rattle.rx_cellar.specs.declared.asked.Asked.TheVariants.{Open, Subscribe, Using, Hold, Next, Complete, Error as Fails, Fail, Decline, Dispose, Connect, Disconnect}
use Rattle.rx_cellar.specs.declared.asked.Asked.TheVariants.{Put, Shut, Abort, Apply, Remove, Lease, GiveBack}
use Rattle.rx_cellar.specs.Asking.{kind_of, item_asked}

-- nothing was opened
abbrev pub nothing_made : Made
nothing_made = record { node = no_node; other = no_node; is_connected = 0; hub = 0 }

abbrev pub of_nothing : {A : Type 0} → A → Made
of_nothing a = nothing_made

abbrev pub of_node : Key → Made
of_node k = record nothing_made { node = key_numbered k }

abbrev pub of_used : Used → Made
of_used u = record nothing_made { node = key_numbered u.key; other = record { slot = u.res.slot; number = u.res.number } }

abbrev pub of_held : ResKey → Made
of_held r = record nothing_made { other = record { slot = r.slot; number = r.number } }

abbrev pub of_lease : LeaseKey → Made
of_lease l = record nothing_made { other = record { slot = l.slot; number = l.number } }

-- a subscriber, with the connection that came with it
abbrev pub with_connection : Option Key → Made → Made
with_connection None m = m
with_connection (Some k) m = record m { other = key_numbered k; is_connected = 1 }

abbrev pub of_subscribed : Subscribed → Made
of_subscribed s = with_connection s.connection (record nothing_made { node = key_numbered s.key; hub = s.place })

abbrev pub of_connected : Connected → Made
of_connected c = record nothing_made { other = key_numbered c.key; hub = c.place }

-- what is shown of an answer of the engine
abbrev pub shown : {A B : Type 0} → (A → B) → Result A Refusal → Result B Refusal
shown made (Ok a) = Ok (made a)
shown made (Err why) = Err why

-- the engine answered this, and it is what crosses
pub record Shows {A B : Type 0} (is : Result A Refusal → Type 0) (made : A → B) (answer : Result B Refusal) : Type 0 where
  pub engine_answer : Result A Refusal
  pub made_so : is engine_answer
  pub is_shown : answer ≡ shown made engine_answer

abbrev pub IsSubscribed : Ghosts Token → At → Share → User → (by : ℕ) → State → State → Result Made Refusal → Type 0
IsSubscribed g at share user by s t answer = Shows (IsSubscribeMade g at share user by s t) of_subscribed answer

abbrev pub IsConnected : Ghosts Token → Share → User → (by : ℕ) → State → State → Result Made Refusal → Type 0
IsConnected g share user by s t answer = Shows (IsConnectMade g share user by s t) of_connected answer

-- where a share finds no hub, the hubs are made first, and then it is asked again; between these the engine keeps its promise
pub data WithHubs (g : Ghosts Token) (by : ℕ) (is : State → State → Result Made Refusal → Type 0) (s t : State) : Result Made Refusal → Type 0 where
  found_one : {answer : Result Made Refusal} → answer ≢ Err NoHub → is s t answer → WithHubs g by is s t answer
  made_none : {why : Refusal} (u : State) → is s u (Err NoHub) → IsPromised u → AreHubsMade {A = Unit} g by u t (Err why) → WithHubs g by is s t (Err why)
  made_all : {answer : Result Made Refusal} (u v : State) (ok : Unit) → is s u (Err NoHub) → IsPromised u → AreHubsMade {A = Unit} g by u v (Ok ok) → IsPromised v →
      is v t answer → WithHubs g by is s t answer

abbrev pub IsLeaseAnswered : Ghosts Token → ResKey → (by : ℕ) → State → State → Result LeaseKey Refusal → Type 0
IsLeaseAnswered g res by s t answer =
    IsCostlyMade g (λ x. lease_request x.book res) by 0 s t answer × IfOk answer (IsNewLeaseKey t.book (length s.book.history))

-- a plain command, which opens nothing
abbrev pub IsFree : Ghosts Token → (State → Request) → (by value : ℕ) → State → State → Result Made Refusal → Type 0
IsFree g asked by value s t answer = Shows {A = Unit} (IsFreeMade g asked by value s t) of_nothing answer

-- what a command comes to
abbrev pub IsPerformed : Ghosts Token → Asked → (by : ℕ) → State → State → Result Made Refusal → Type 0
IsPerformed g (Open at kind user) by s t a = Shows (IsOpenMade g at (kind_of kind) user by s t) of_node a
IsPerformed g (Subscribe at share hint user) by s t a = WithHubs g by (IsSubscribed g at share user by) s t a
IsPerformed g (Using at user tag) by s t a = Shows (IsUsingMade g at (kind_of Pass) user tag by s t) of_used a
IsPerformed g (Hold node tag) by s t a = Shows (IsHoldMade g node tag by s t) of_held a
IsPerformed g (Next leaf value hands) by s t a = Shows {A = Unit} (IsCostlyMade g (λ x. next_request x.book leaf (pos 0)) by value s t) of_nothing a
IsPerformed g (Complete leaf) by s t a = IsFree g (λ x. end_request x.book leaf Completed) by 0 s t a
IsPerformed g (Fails leaf value) by s t a = IsFree g (λ x. end_request x.book leaf (Error 0)) by value s t a
IsPerformed g (Fail merging value) by s t a = IsFree g (λ x. fail_request x.book merging 0) by value s t a
IsPerformed g (Decline merging) by s t a = IsFree g (λ x. decline_request x.book merging) by 0 s t a
IsPerformed g (Dispose root) by s t a = IsFree g (λ x. dispose_request x.book root) by 0 s t a
IsPerformed g (Connect share hint user) by s t a = WithHubs g by (IsConnected g share user by) s t a
IsPerformed g (Disconnect word hint) by s t a = Shows {A = Unit} (IsDisconnectMade g word by s t) of_nothing a
IsPerformed g (Put to user value) by s t a = Shows {A = Unit} (IsPutMade to user value by s t) of_nothing a
IsPerformed g Shut by s t a = Shows {A = Unit} (IsClosingMade g by s t) of_nothing a
IsPerformed g (Abort node value) by s t a = IsFree g (λ x. abort_request x.book node 0) by value s t a
IsPerformed g (Apply res) by s t a = Shows {A = Unit} (IsCostlyMade g (λ x. apply_request x.book res) by 0 s t) of_nothing a
IsPerformed g (Remove res) by s t a = IsFree g (λ x. remove_request x.book res) by 0 s t a
IsPerformed g (Lease res) by s t a = Shows (IsLeaseAnswered g res by s t) of_lease a
IsPerformed g (GiveBack lease) by s t a = IsFree g (λ x. give_back_request x.book lease) by 0 s t a

-- what a command made, and the effect that is handed out with its answer
pub record Outcome : Type 0 where
  pub made : Made
  pub given : Option Sent

abbrev pub of_made : Made → Outcome
of_made made = record { made = made; given = None }

abbrev pub of_given : Option Sent → Outcome
of_given given = record { made = nothing_made; given = given }

-- an item that asks for it is handed out as it is emitted; no other command hands anything out
abbrev pub ComesToIf : Option Item → Ghosts Token → Asked → (by : ℕ) → State → State → Result Outcome Refusal → Type 0
ComesToIf None g asked by s t answer = Shows (IsPerformed g asked by s t) of_made answer
ComesToIf (Some item) g asked by s t answer = Shows (IsNextHanded g item.leaf by item.value s t) of_given answer

abbrev pub ComesTo : Ghosts Token → Asked → (by : ℕ) → State → State → Result Outcome Refusal → Type 0
ComesTo g asked by s t answer = ComesToIf (item_asked asked) g asked by s t answer
