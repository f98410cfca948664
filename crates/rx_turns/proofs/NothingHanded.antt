-- A command that is no item hands nothing out with its answer.
use Rattle.std.proofs.lemmas.Bool.{false≢true, eqb-true, lt-ltb, ltb-true}
use Rattle.std.proofs.Common.{◌≡◌, ℕ, ◌<◌, ◌==◌, ◌&&◌, ◌||◌, nat_lt, Bool, true, false, sym, Option, Some, None, is_some, Result, Ok, Err, refl, ap, ◌∙◌}
use Rattle.std.proofs.Common.{arith, if◌then◌else◌}
use Rattle.rx_resource.specs.declared.Resource.{Ghosts}
use Rattle.rx_resource.specs.declared.token.Token.{Token}
use Rattle.rx_event.specs.declared.refusal.Refusal.{Refusal}
use Rattle.rx_engine.specs.States.{State}
use Rattle.rx_roles.specs.declared.effect.Effect.{Effect as Sent}
use Rattle.rx_cellar.specs.declared.shapes.Command.{Command}
use Rattle.rx_cellar.specs.declared.shapes.Answer.{Answer}
use Rattle.rx_cellar.specs.declared.making.Made.{Made}
use Rattle.rx_cellar.specs.declared.asked.Asked.{Asked}
use Rattle.rx_cellar.specs.declared.cellar.Cellar.{Cellar}
use Rattle.rx_cellar.specs.declared.shapes.Effect.{Effect}
use Rattle.rx_cellar.specs.Asking.{asked_of, asked_as, item_asked, asks_item, is_emission}
use Rattle.rx_cellar.specs.Crossings.{effect_of, no_answer}
use Rattle.rx_cellar.proofs.Laws.ItemsAsked.{other_asks, other_as}
use Rattle.rx_cellar.specs.Makings.{Outcome, of_made, shown, ComesToIf}
use Rattle.rx_cellar.specs.Cellars.{IsTried, at_once, once_more, IsTriedAgain, behind_one, behind_none, IsAskedMade, is_done, is_refused}
use Rattle.rx_cellar.specs.Cellars.{IsCommandMade}
use Rattle.rx_cellar.specs.Serving.{node_word}
use Rattle.rx_turns.specs.Making.{may_ask, opens_lanes, inner_lane}
use Rattle.std.specs.Prelude.{option_map}

abbrev given_of : Result Outcome Refusal → Option Sent
given_of (Ok o) = o.given
given_of (Err why) = None

given_made : (r : Result Made Refusal) → given_of (shown of_made r) ≡ None
given_made (Ok made) = refl
given_made (Err why) = refl

comes_if : (g : Ghosts Token) (item : _) (asked : Asked) (by : ℕ) (s t : State) (r : Result Outcome Refusal) → is_some item ≡ false →
    ComesToIf item g asked by s t r → given_of r ≡ None
comes_if g None asked by s t r none comes = ap given_of comes.is_shown ∙ given_made comes.engine_answer
comes_if g (Some item) asked by s t r none comes = absurd (cc)

again : (g : Ghosts Token) (asked : Asked) (by : ℕ) (s t : Cellar) (r : Result Outcome Refusal) → is_some (item_asked asked) ≡ false →
    IsTriedAgain g asked by s t r → given_of r ≡ None
again g asked by s t r none (behind_one at u tidies made) = comes_if g (item_asked asked) asked by u.engine t.engine r none made.performed
again g asked by s t r none (behind_none tidies) = refl

tried : (g : Ghosts Token) (asked : Asked) (by : ℕ) (s t : Cellar) (r : Result Outcome Refusal) → is_some (item_asked asked) ≡ false →
    IsTried g asked by s t r → given_of r ≡ None
tried g asked by s t r none (at_once other made) = comes_if g (item_asked asked) asked by s.engine t.engine r none made.performed
tried g asked by s t r none (once_more u first rest) = again g asked by u t r none rest

asked_bare : (g : Ghosts Token) (asked : Asked) (by : ℕ) (s t : Cellar) (a b : Answer) (given : Option Effect) (status : ℕ) →
    is_some (item_asked asked) ≡ false → IsAskedMade g asked by s t a b given status → given ≡ None
asked_bare g asked by s t a b given _ none (is_done o u v tidies made counts tells gives) =
    gives ∙ ap (option_map effect_of) (tried g asked by u v (Ok o) none made)
asked_bare g asked by s t a b given _ none (is_refused why u tidies made same nothing) = nothing

pub nothing_given : (g : Ghosts Token) (asked : Option Asked) (by : ℕ) (s t : Cellar) (a b : Answer) (given : Option Effect) (status : ℕ) →
    asks_item asked ≡ false → IsCommandMade g asked by s t a b given status → given ≡ None
nothing_given g None by s t a b given status none (five, same, kept, nothing) = nothing
nothing_given g (Some asked) by s t a b given status none made = asked_bare g asked by s t (no_answer a) b given status none made

-- what asks for no memory is no item
no_emission : (c : Command) → may_ask c.what ≡ false → is_emission c ≡ false
no_emission c asks = by_test (c.what == 3) refl
  where
    by_test : (b : Bool) → (c.what == 3) ≡ b → is_emission c ≡ false
    by_test false is = ap (λ x. (x && (c.flags == 0)) && (c.spare == 0)) is
    by_test true is = absurd (false≢true (sym asks ∙ ap may_ask (eqb-true c.what 3 is)))

pub no_item : (c : Command) → may_ask c.what ≡ false → asks_item (asked_as false (asked_of c)) ≡ false
no_item c asks =
    let plain = other_asks c (no_emission c asks) in
    ap asks_item (sym (other_as false (asked_of c) plain)) ∙ plain

-- nor is what opens lanes
none_emitted : (c : Command) → opens_lanes c.what ≡ true → is_emission c ≡ false
none_emitted c opens = by_test (c.what == 3) refl
  where
    by_test : (b : Bool) → (c.what == 3) ≡ b → is_emission c ≡ false
    by_test false is = ap (λ x. (x && (c.flags == 0)) && (c.spare == 0)) is
    by_test true is = absurd (false≢true (sym (ap opens_lanes (eqb-true c.what 3 is)) ∙ opens))

pub no_item_opened : (waits : Bool) (c : Command) → opens_lanes c.what ≡ true → asks_item (asked_as waits (asked_of c)) ≡ false
no_item_opened waits c opens =
    let plain = other_asks c (none_emitted c opens) in
    ap asks_item (sym (other_as waits (asked_of c) plain)) ∙ plain

-- what opens no lanes opens no inner
no_home : (b : Bool) (o : Option ℕ) → (if b && false then o else None) ≡ None
no_home true o = refl
no_home false o = refl

pub no_inner : (b : Bool) (c : Command) (s : Cellar) → nat_lt c.what 2 ≡ false → inner_lane b c s ≡ None
no_inner b c s other = ap (λ x. if b && (x && c.place == 2) then node_word s c.node else None) other ∙ no_home b (node_word s c.node)

pub not_opening : (what : ℕ) → opens_lanes what ≡ false → nat_lt what 2 ≡ false
not_opening what none = by_test (nat_lt what 2) refl
  where
    by_test : (b : Bool) → nat_lt what 2 ≡ b → nat_lt what 2 ≡ false
    by_test false is = is
    by_test true is = absurd (false≢true (sym none ∙ ap (λ b. b || what == 9) is))

may_of : (what : ℕ) → what < 2 → may_ask what ≡ true
may_of what few = ap (λ b. b || what == 9 || what == 11 || what == 14 || what == 16) (lt-ltb what 4 (omega (arith, few)))

pub not_asking : (what : ℕ) → may_ask what ≡ false → nat_lt what 2 ≡ false
not_asking what asks = by_test (nat_lt what 2) refl
  where
    by_test : (b : Bool) → nat_lt what 2 ≡ b → nat_lt what 2 ≡ false
    by_test false is = is
    by_test true is = absurd (false≢true (sym asks ∙ may_of what (ltb-true what 2 is)))
