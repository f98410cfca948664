-- What a command comes to that makes a call as a value.
use Rattle.rx_live.proofs.Common.{◌≡◌, true, Bool, Option, None, Some, option_map, Result, IfOk, IfErr, refl, sym, subst, AllocError, Refusal, Call}
use Rattle.rx_live.proofs.Common.{keeps_resources, keeps_leases, IsRefusal, stands, State, IsPromised, Command, Outcome, Refused, NoName, Session, IsSound}
use Rattle.rx_live.proofs.Common.{apply, remove, next, end, abort, decline, fail, dispose, disconnect, node_by_name, resource_by_name, hub_by_name}
use Rattle.rx_live.proofs.Common.{CarriesSoundly, outcome_of, RunsCommand}
use Rattle.rx_book.specs.Answers.{IsRefusalOf}
use Rattle.rx_book.specs.Asks.{request_of, takes_memory, Asks}
use Rattle.rx_book.specs.declared.answer.Answer.{Answer}
use Rattle.rx_book.specs.declared.call.Call.{Call as Asked}
use Rattle.rx_book.specs.declared.call.Call.TheVariants.{Next, End, Abort, Decline, Fail, Dispose, Apply, Remove, Disconnect}
use Rattle.rx_live.specs.KeyedCalls.{keeps_names, call_by_keys}
use Rattle.rx_live.proofs.Soundness.{Called, goes_on}
use Rattle.std.proofs.Common.{rules}

-- the call accepts and takes no resource, and gives and takes back no lease
abbrev pub KeepsNames : Call → Type 0
KeepsNames call = (keeps_resources call ≡ true) × (keeps_leases call ≡ true)

-- what a call comes to, or a name that is not bound
abbrev pub Comes : Session → Option Asked → Outcome → Session → Type 0
Comes s None o t = (o ≡ Refused NoName) × (t ≡ s)
Comes s (Some call) o t = KeepsNames (request_of s.book call).call → CarriesSoundly s (Some (request_of s.book call)) o t

-- of a command that uses one name
by_name : {K : Type 0} (s : Session) (f : K → Asked) (key : Option K) (o : Outcome) (t : Session) → IsSound s
    → ((k : K) → KeepsNames (request_of s.book (f k)).call) → Comes s (option_map f key) o t
    → CarriesSoundly s (option_map (λ k. request_of s.book (f k)) key) o t × IsSound t
by_name s f x2 o t sound keeps comes = search rules

pub runs : (s : Session) (c : Command) (o : Outcome) (t : Session) → IsSound s → keeps_names c ≡ true → Comes s (call_by_keys s c) o t
    → RunsCommand s c o t × IsSound t
runs s (apply res word) o t sound asked comes = by_name s (λ k. Apply k word) (resource_by_name s res) o t sound (λ k. (refl, refl)) comes
runs s (remove res) o t sound asked comes = by_name s Remove (resource_by_name s res) o t sound (λ k. (refl, refl)) comes
runs s (next node value) o t sound asked comes = by_name s (λ k. Next k value) (node_by_name s node) o t sound (λ k. (refl, refl)) comes
runs s (end node terminal) o t sound asked comes = by_name s (λ k. End k terminal) (node_by_name s node) o t sound (λ k. (refl, refl)) comes
runs s (abort node code) o t sound asked comes = by_name s (λ k. Abort k code) (node_by_name s node) o t sound (λ k. (refl, refl)) comes
runs s (decline node) o t sound asked comes = by_name s Decline (node_by_name s node) o t sound (λ k. (refl, refl)) comes
runs s (fail node code) o t sound asked comes = by_name s (λ k. Fail k code) (node_by_name s node) o t sound (λ k. (refl, refl)) comes
runs s (dispose node) o t sound asked comes = by_name s Dispose (node_by_name s node) o t sound (λ k. (refl, refl)) comes
runs s (disconnect hub) o t sound asked comes = by_name s Disconnect (hub_by_name s hub) o t sound (λ k. (refl, refl)) comes
runs s _ o t sound asked comes = absurd (cc)

-- a call is refused for its first cause, or one that takes memory for want of it
cause_or_want : (may_want : Bool) (stand : Refusal → Bool) (answer : Result Answer Refusal) → IfErr answer (IsRefusalOf may_want stand)
    → IfErr answer (IsRefusal stand)
cause_or_want may_want stand x2 is = search rules

pub call_runs : {s : Session} (c : Command) {call : Asked} {book : State} {answer : Result Answer Refusal} → IsSound s → keeps_names c ≡ true
    → call_by_keys s c ≡ Some call → IsPromised book → Asks s.book call book answer
    → RunsCommand s c (outcome_of answer) (record s { book = book }) × IsSound (record s { book = book })
call_runs {s} c {call} {book} {answer} sound asked found kept asks =
    let o : Outcome = outcome_of answer in
    let t : Session = record s { book = book } in
    let refuses = cause_or_want (takes_memory call) (stands s.book (request_of s.book call)) answer asks.refused in
    let called : KeepsNames (request_of s.book call).call → Called s.book (request_of s.book call) answer book = λ keeps.
    record { kept = kept; resources = keeps.0; leases = keeps.1; accepts = asks.accepted; refuses = refuses; same = asks.kept } in
    runs s c o t sound asked (subst (λ (j : Option Asked). Comes s j o t) (sym found) (λ keeps. goes_on {answer = answer} sound (called keeps) refl))

pub nameless_runs : (s : Session) (c : Command) → IsSound s → keeps_names c ≡ true → call_by_keys s c ≡ None → RunsCommand s c (Refused NoName) s
nameless_runs s c sound asked none = search (rules, runs)

pub told_so : (P : Outcome → Type 0) (outcome : Outcome) (result : Result Outcome AllocError) → P outcome → IfOk result (λ o. o ≡ outcome) → IfOk result P
told_so x0 outcome x2 p is = search rules
