-- An item that is emitted and handed out is a command that is made.
use Rattle.std.proofs.Common.{◌≡◌, ℕ, Option, Some, None, Result, Ok, Err, refl, sym, ap}
use Rattle.std.specs.Prelude.{option_map}
use Rattle.rx_resource.specs.declared.Resource.{Ghosts}
use Rattle.rx_resource.specs.declared.token.Token.{Token}
use Rattle.rx_event.specs.declared.refusal.Refusal.{Refusal}
use Rattle.rx_roles.specs.declared.effect.Effect.{Effect as Sent}
use Rattle.rx_engine.specs.States.{State}
use Rattle.rx_engine.specs.Handings.{IsNextHanded}
use Rattle.rx_cellar.specs.Codes.{refusal_status}
use Rattle.rx_cellar.specs.declared.shapes.Answer.{Answer}
use Rattle.rx_cellar.specs.declared.asked.Item.{Item}
use Rattle.rx_cellar.specs.declared.cellar.Cellar.{Cellar}
use Rattle.rx_cellar.specs.declared.making.Made.{Made}
use Rattle.rx_cellar.specs.Asking.{asked_for, queued_for}
use Rattle.rx_cellar.specs.Makings.{nothing_made, of_given, shown, IsPerformed}
use Rattle.rx_cellar.specs.Cellars.{Performs, told, counted_if}
use Rattle.rx_cellar.specs.Crossings.{effect_of}
use Rattle.rx_cellar.specs.Attempts.{IsMadeOnce, once_done, once_refused}
use Rattle.rx_cellar.specs.Frequent.{IsToldOrRefused}
use Rattle.rx_cellar.proofs.AnswersTold.{answered_once}

emits : (g : Ghosts Token) (item : Item) (by : ℕ) (s : Cellar) (e : State) (answer is : Result (Option Sent) Refusal) →
    IsNextHanded g item.leaf by item.value s.engine e answer → answer ≡ is →
    Performs g (asked_for item) by s (record s { engine = e }) (shown of_given is)
emits g item by s e answer is emitted same =
    record { performed = record { engine_answer = answer; made_so = emitted; is_shown = ap (shown of_given) (sym same) }; only = refl }

pub item_done : (g : Ghosts Token) (item : Item) (by : ℕ) (s : Cellar) (e : State) (answer : Result (Option Sent) Refusal) (given : Option Sent) (a : Answer) →
    IsNextHanded g item.leaf by item.value s.engine e answer → answer ≡ Ok given →
    IsMadeOnce g (asked_for item) by s (record s { engine = e; released = counted_if given s.released }) a (told nothing_made e a) (option_map effect_of given) 0
item_done g item by s e answer given a emitted is =
    once_done (of_given given) (record s { engine = e }) (emits g item by s e answer (Ok given) emitted is) refl refl refl refl

pub item_refused : (g : Ghosts Token) (item : Item) (by : ℕ) (s : Cellar) (e : State) (answer : Result (Option Sent) Refusal) (why : Refusal)
    (a b : Answer) (status : ℕ) → IsNextHanded g item.leaf by item.value s.engine e answer → answer ≡ Err why → b ≡ a → status ≡ refusal_status why →
    IsMadeOnce g (asked_for item) by s (record s { engine = e }) a b None status
item_refused g item by s e answer why a b status emitted is same status_is =
    once_refused why (emits g item by s e answer (Err why) emitted is) same refl status_is

-- and one that waits
pub item_queued : (g : Ghosts Token) (item : Item) (by : ℕ) (s : Cellar) (e : State) (r : Result Made Refusal) (a b : Answer) (n : ℕ) →
    IsPerformed g (queued_for item) by s.engine e r → IsToldOrRefused r e a b n → IsMadeOnce g (queued_for item) by s (record s { engine = e }) a b None n
item_queued g item by s e r a b n performed answered =
    answered_once g (Some (queued_for item)) (queued_for item) by s e r a b n refl refl performed answered
