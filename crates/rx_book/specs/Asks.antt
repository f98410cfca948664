-- A call as a value: the request that it is, and what it answers.
use Rattle.std.specs.Prelude.{Bool, true, false, length, ⊤, Result}
use Rattle.rx_event.specs.declared.refusal.Refusal.{Refusal}
use Rattle.rx_book.specs.declared.call.Call.{Call}
use Rattle.rx_book.specs.declared.call.Call.TheVariants.{Open, Next, End, Abort, Decline, Fail, Dispose, Apply, Remove, Lease, GiveBack}
use Rattle.rx_book.specs.declared.call.Call.TheVariants.{Hub, Connect, Disconnect}
use Rattle.rx_book.specs.declared.answer.Answer.{Answer}
use Rattle.rx_book.specs.declared.answer.Answer.TheVariants.{Place, Opened, Connected, Leased, Word}
use Rattle.rx_book.specs.State.{State}
use Rattle.rx_book.specs.Requests.{Request, stands, open_request, next_request, end_request, abort_request, decline_request, fail_request}
use Rattle.rx_book.specs.Requests.{dispose_request, apply_request, remove_request, lease_request, give_back_request, hub_request, connect_request}
use Rattle.rx_book.specs.Requests.{disconnect_request}
use Rattle.rx_book.specs.Answers.{Answers, IsPlace, IsOpened, IsNewKey, IsNewLeaseKey, IsRefusalOf}

abbrev pub request_of : State → Call → Request
request_of s (Open at kind) = open_request s at kind
request_of s (Next leaf value) = next_request s leaf value
request_of s (End leaf terminal) = end_request s leaf terminal
request_of s (Abort node code) = abort_request s node code
request_of s (Decline merging) = decline_request s merging
request_of s (Fail merging code) = fail_request s merging code
request_of s (Dispose root) = dispose_request s root
request_of s (Apply res word) = apply_request s res
request_of s (Remove res) = remove_request s res
request_of s (Lease res) = lease_request s res
request_of s (GiveBack lease) = give_back_request s lease
request_of s (Hub mode) = hub_request mode
request_of s (Connect hub) = connect_request hub
request_of s (Disconnect hub) = disconnect_request hub

-- it may take memory
abbrev pub takes_memory : Call → Bool
takes_memory (Open at kind) = true
takes_memory (Next leaf value) = true
takes_memory (Apply res word) = true
takes_memory (Lease res) = true
takes_memory (Hub mode) = true
takes_memory (Connect hub) = true
takes_memory _ = false

-- what it costs is the same of any book
abbrev pub has_fixed_cost : Call → Bool
has_fixed_cost (Apply res word) = true
has_fixed_cost (Lease res) = true
has_fixed_cost (Hub mode) = true
has_fixed_cost (Connect hub) = true
has_fixed_cost _ = false

-- the first cause, or want of memory of a call that may take some
abbrev pub refuses : State → Call → Refusal → Type 0
refuses s call = IsRefusalOf (takes_memory call) (stands s (request_of s call))

-- what it answers where it is accepted
abbrev pub gives : State → Call → State → Answer → Type 0
gives old (Open at kind) new (Opened o) = IsOpened old new o
gives old (Open at kind) new _ = ⊥
gives old (Apply res word) new (Word w) = ⊤
gives old (Apply res word) new _ = ⊥
gives old (Lease res) new (Leased k) = IsNewLeaseKey new (length old.history) k
gives old (Lease res) new _ = ⊥
gives old (Connect hub) new (Connected k) = IsNewKey new (length old.history) k
gives old (Connect hub) new _ = ⊥
gives old _ new (Place n) = IsPlace old n
gives old _ new _ = ⊥

abbrev pub Asks : State → Call → State → Result Answer Refusal → Type 0
Asks old call new = Answers (gives old call new) (refuses old call) old (request_of old call) new
