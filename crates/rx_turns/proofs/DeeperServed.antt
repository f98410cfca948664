-- One deeper turn after another is served, until none has anything.
use Rattle.std.proofs.Common.{◌≡◌, true, Some, None, ◌∙◌}
use Rattle.rx_turns.specs.declared.agenda.Turn.{Turn}
use Rattle.rx_turns.specs.Rows.{is_deeper, is_before}
use Rattle.rx_turns.specs.Agendas.{DueLists, HasNothing, IsDueOnce}
use Rattle.rx_turns.specs.States.{TurnState}
use Rattle.rx_turns.specs.Serving.{Serves}
use Rattle.rx_turns.specs.Promises.{IsLeftAlone}
use Rattle.rx_turns.proofs.Others.{leaves_others_alone}
use Rattle.rx_turns.proofs.Passed.{IsPassed, passed_next, passed_all}
use Rattle.rx_turns.proofs.Promised.{nothing_left}

nothing_still : (u : Turn) (a b : DueLists) → IsLeftAlone u a b → HasNothing a u → HasNothing b u
nothing_still u a b alone none = (alone.due ∙ none.0, alone.hand ∙ none.1)

pub served_next : (turn last inner : Turn) (s t : TurnState) → IsPassed HasNothing turn last s.agenda → is_deeper last inner ≡ true →
    ((u : Turn) → is_deeper last u ≡ true → is_before u (Some inner) ≡ true → HasNothing s.agenda u) → IsDueOnce s.agenda → Serves inner t s None →
    IsPassed HasNothing turn inner t.agenda
served_next turn last inner s t passed deep between once serves =
    passed_next HasNothing nothing_still (λ u a none. none) turn last s.agenda passed inner t.agenda deep between (nothing_left inner s t serves)
    (λ u other. leaves_others_alone inner u s t None once other serves)

pub served_all : (turn last : Turn) (a : DueLists) → IsPassed HasNothing turn last a → ((u : Turn) → is_deeper last u ≡ true → HasNothing a u) →
    (u : Turn) → is_deeper turn u ≡ true → HasNothing a u
served_all turn last a passed none = passed_all HasNothing nothing_still (λ u a none. none) turn last a passed none
