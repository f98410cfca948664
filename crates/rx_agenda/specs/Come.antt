-- The steps that come of an agenda, one after another, as a run drives it: the next step, its answer, and what follows it.
use Rattle.std.specs.Prelude.{◌≡◌, ℕ, Some, List, [], ◌∷◌, ◌++◌}
use Rattle.rx_scenario.specs.Scenario.{Name, Command, Action, command, cancel, Step, list_of}
use Rattle.rx_agenda.specs.declared.answer.Answer.{Answer}
use Rattle.rx_agenda.specs.Agenda.{Agenda, next_step, Cancels, followed_by}

-- what is to come after a step's action, before what follows it: a command leaves it, and a cancel may take a step off
pub data Acts (a : Agenda) : Action → Answer → Agenda → Type 0 where
  does_command : {c : Command} {answer : Answer} → Acts a (command c) answer a
  does_cancel : {label : Name} {answer : Answer} {b : Agenda} → Cancels a label answer b → Acts a (cancel label) answer b

-- these steps came until this time, with these answers, and this is to come
pub data HaveCome (until : ℕ) (first : Agenda) : List (Step × Answer) → Agenda → Type 0 where
  none_yet : HaveCome until first [] first
  one_more : {done : List (Step × Answer)} {a rest b : Agenda} {s : Step} {answer : Answer} → HaveCome until first done a
      → next_step until a ≡ Some (s, rest) → Acts rest s.action answer b
      → HaveCome until first (done ++ (s, answer) ∷ []) (followed_by answer (list_of s.followers) b)
