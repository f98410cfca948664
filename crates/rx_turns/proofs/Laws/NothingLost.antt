-- More room changes nothing of what is due and in hand.
use Rattle.std.proofs.Common.{refl, ◌∙◌, arith}
use Rattle.rx_turns.specs.Agendas.{DueLists, LosesNothing}

pub loses_none : (a : DueLists) → LosesNothing a a
loses_none a = record { due = λ t. refl; hands = λ t. refl; words = λ p. refl; places_are = omega arith }

pub loses_on : (a b c : DueLists) → LosesNothing a b → LosesNothing b c → LosesNothing a c
loses_on a b c l m = record {
  due = λ t. m.due t ∙ l.due t;
  hands = λ t. m.hands t ∙ l.hands t;
  words = λ p. m.words p ∙ l.words p;
  places_are = let first = l.places_are in let second = m.places_are in omega (arith, first, second);
}
