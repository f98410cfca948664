-- How a command that takes no memory is answered.
use Rattle.rx_live.proofs.Common.{◌≡◌, ℕ, ◌++◌, Bool, true, false, List, [], refl, sym, ap, ◌∙◌, append-nil, length, is_some, ok_text, Session, plain}
use Rattle.rx_live.proofs.Common.{answer_front_text, said_if, connected_by, connection_made}
use Rattle.rx_line.specs.declared.free.FreeCommand.{FreeCommand}
use Rattle.rx_line.specs.declared.free.FreeCommand.TheVariants.{Remove, Return, End, Decline, Dispose, Disconnect, Drain}
use Rattle.rx_line.specs.FreeCommands.{free_command_of}
use Rattle.rx_live.proofs.Common.{Session, IsSound, Data, Items, Order, task, order_in, IsOrderOf, as_array, Task, WritesAnswer, Answered, as_it_was, none-some}
use Rattle.rx_live.proofs.Common.{Some, None, subst}
use Rattle.serde_json.specs.Data.{array}
use Rattle.rx_line.specs.Orders.{says, query_in, is_timed, command_in, task_in, holding_in, is_opening}
use Rattle.rx_scenario.specs.Reading.{action_in}
use Rattle.rx_live.specs.Lines.{AnswersAsked, CarriesOut, one_asked, is_json, Sends}
use Rattle.rx_live.proofs.AnswerToEachLine.{answered_one}

said_none : (b : Bool) → said_if b [] ≡ []
said_none true = refl
said_none false = refl

said_free : (b : Bool) (c : FreeCommand) → said_if b (connected_by (plain (free_command_of c))) ≡ []
said_free b (Remove res) = said_none b
said_free b (Return lease) = said_none b
said_free b (End node) = said_none b
said_free b (Decline node) = said_none b
said_free b (Dispose node) = said_none b
said_free b (Disconnect hub) = said_none b
said_free b Drain = said_none b

pub free_front : (old done : Session) (c : FreeCommand) → ok_text (length old.book.history) ≡ answer_front_text old (plain (free_command_of c)) done
free_front old done c =
    sym (append-nil (ok_text (length old.book.history)))
    ∙ ap (λ (t : List ℕ). ok_text (length old.book.history) ++ t) (sym (said_free (is_some (connection_made old.book.history done.book.history)) c))

-- what asks for something is no array
not_many : (ds : Items) → order_in (array ds) ≡ None
unfolding order_in says query_in is_timed command_in task_in holding_in is_opening action_in
not_many ds = refl

single : (d : Data) (o : Order) → order_in d ≡ Some o → as_array d ≡ None
single (array ds) o is = absurd (none-some o (sym (not_many ds) ∙ is))
single _ o is = refl

sent_one : (old new : Session) (line : List ℕ) (k : Task) (text : List ℕ) → IsOrderOf line (task k) → CarriesOut old k text new → IsSound new →
    Sends old line text new
sent_one old new line k text order out sound =
    let asked : Answered old (order_in order.value) new text = answered_one old new (order_in order.value) text k order.order out in
    let one : AnswersAsked old (order_in order.value) text new = record {
      aged = old;
      ages = as_it_was;
      acts = asked.acts;
      answer = asked.answer;
      leads = asked.leads;
      sound = sound;
    } in
    record {
      acts = asked.acts;
      answer = is_json order.value order.json (one_asked (single order.value (task k) order.order) one);
      leads = asked.leads;
      sound = sound;
    }

pub free_sent : (old new : Session) (line : List ℕ) (k : Task) (begun text : List ℕ) → begun ≡ [] → IsOrderOf line (task k) →
    WritesAnswer (λ t. CarriesOut old k t new) begun text → IsSound new → Sends old line text new
free_sent old new line k begun text none order wrote sound =
    let is : text ≡ wrote.answer = wrote.written ∙ ap (λ (b : List ℕ). b ++ wrote.answer) none in
    sent_one old new line k text order (subst (λ (t : List ℕ). CarriesOut old k t new) (sym is) wrote.is) sound
