-- What is seen of a command of numbers.
use Rattle.std.proofs.Common.{◌≡◌, ℕ, ◌==◌, Bool, false, List, [], ◌++◌, Option, Some, None, Ok, Err, refl, sym, ap, subst, ◌∙◌}
use Rattle.std.proofs.Common.{if◌then◌else◌}
use Rattle.std.proofs.lemmas.Bool.{false≢true}
use Rattle.std.specs.Prelude.{option_map}
use Rattle.rx_resource.specs.declared.Resource.{Ghosts}
use Rattle.rx_resource.specs.declared.token.Token.{Token}
use Rattle.rx_event.specs.declared.refusal.Refusal.{Refusal}
use Rattle.rx_event.specs.declared.refusal.Refusal.TheVariants.{Full, Gone, WrongKind, PlaceTaken, NothingOwed, NotRoot, NoHub, HubOrder, Connected}
use Rattle.rx_event.specs.declared.refusal.Refusal.TheVariants.{NotConnected, NotFresh, NotHeld, HasChild, TooMany, NoLease, Leased, MailLeft, NoMemory}
use Rattle.rx_lanes.specs.declared.names.Due.{Due}
use Rattle.rx_roles.specs.declared.effect.Effect.{Effect as Sent}
use Rattle.rx_engine.specs.States.{State, IsPromised}
use Rattle.rx_cellar.specs.Codes.{refusal_status}
use Rattle.rx_cellar.specs.declared.shapes.Answer.{Answer}
use Rattle.rx_cellar.specs.declared.shapes.Effect.{Effect}
use Rattle.rx_cellar.specs.declared.asked.Asked.{Asked}
use Rattle.rx_cellar.specs.declared.cellar.Cellar.{Cellar}
use Rattle.rx_cellar.specs.declared.asked.Asked.TheVariants.{Next}
use Rattle.rx_cellar.specs.Asking.{asked_as}
use Rattle.rx_cellar.specs.Cellars.{is_due, IsAskedMade, is_done, is_refused as is_not_done, IsCommandMade}
use Rattle.rx_cellar.specs.Crossings.{effect_of, no_answer}
use Rattle.rx_turns.specs.Courses.{Seen, IsEngineCourse, tag_asked}
use Rattle.rx_turns.proofs.Laws.CoursesTold.{unchanged, and_then}
use Rattle.rx_turns.proofs.CommandsAreCourses.{told_first, told_due, tidy, tried}

-- a refusal is not done
pub not_done : (why : Refusal) → (refusal_status why == 0) ≡ false
not_done NoMemory = refl
not_done Full = refl
not_done Gone = refl
not_done WrongKind = refl
not_done PlaceTaken = refl
not_done NothingOwed = refl
not_done NotRoot = refl
not_done NoHub = refl
not_done HubOrder = refl
not_done Connected = refl
not_done NotConnected = refl
not_done NotFresh = refl
not_done NotHeld = refl
not_done HasChild = refl
not_done TooMany = refl
not_done NoLease = refl
not_done Leased = refl
not_done MailLeft = refl

-- what is seen of it -------------------------------------------------------------------------------------

abbrev pub tag_if : Option Asked → (status : ℕ) → List Seen
tag_if asked status = if status == 0 then tag_asked asked else []

-- what is handed out with the answer
abbrev pub handed_with : List Due → Option Effect → List Seen
handed_with due None = []
handed_with due (Some e) = told_first due e

abbrev acts_made : Option Asked → (status : ℕ) → List Due → Option Effect → List Seen
acts_made asked status due given = tag_if asked status ++ handed_with due given

given_acts : (due : List Due) (given : Option Sent) → handed_with due (option_map effect_of given) ≡ told_due due given
given_acts due None = refl
given_acts due (Some sent) = refl

refused_acts : (asked : Option Asked) (status : ℕ) (due : List Due) → (status == 0) ≡ false → acts_made asked status due None ≡ []
refused_acts asked status due undone = ap (λ (b : Bool). (if b then tag_asked asked else []) ++ []) undone

asked_made : (g : Ghosts Token) (asked : Asked) (by : ℕ) (s t : Cellar) (a b : Answer) (given : Option Effect) (status : ℕ) → IsPromised s.engine →
    IsAskedMade g asked by s t a b given status → IsEngineCourse g s.engine t.engine (acts_made (Some asked) status t.engine.parts.lanes.due given)
asked_made g asked by s t a b given _ kept (is_done o u v tidies made counts tells gives) =
    let before = tidy g (is_due s) s u kept tidies in
    subst (λ (x : State). IsEngineCourse g s.engine x (acts_made (Some asked) 0 x.parts.lanes.due given)) (sym (ap (λ (c : Cellar). c.engine) counts))
    (subst (λ (xs : List Seen). IsEngineCourse g s.engine v.engine (tag_asked (Some asked) ++ xs))
    (sym (ap (handed_with v.engine.parts.lanes.due) gives ∙ given_acts v.engine.parts.lanes.due o.given))
    (and_then before.0 (tried g asked by u v (Ok o) before.1 made)))
asked_made g asked by s t a b given _ kept (is_not_done why u tidies made same none) =
    let before = tidy g (is_due s) s u kept tidies in
    subst (λ (xs : List Seen). IsEngineCourse g s.engine t.engine xs)
    (sym (ap (acts_made (Some asked) (refusal_status why) t.engine.parts.lanes.due) none
    ∙ refused_acts (Some asked) (refusal_status why) t.engine.parts.lanes.due (not_done why)))
    (and_then before.0 (tried g asked by u t (Err why) before.1 made))

pub made_course : (g : Ghosts Token) (asked : Option Asked) (by : ℕ) (s t : Cellar) (a b : Answer) (given : Option Effect) (status : ℕ) → IsPromised s.engine →
    IsCommandMade g asked by s t a b given status → IsEngineCourse g s.engine t.engine (tag_if asked status ++ handed_with t.engine.parts.lanes.due given)
made_course g None by s t a b given status kept (five, same, kept_so, none) =
    subst (λ (xs : List Seen). IsEngineCourse g s.engine t.engine xs)
    (sym (ap (acts_made None status t.engine.parts.lanes.due) none ∙ refused_acts None status t.engine.parts.lanes.due (ap (λ (n : ℕ). n == 0) five)))
    (unchanged g s.engine t.engine (ap (λ (c : Cellar). c.engine) same))
made_course g (Some asked) by s t a b given status kept is = asked_made g asked by s t (no_answer a) b given status kept is

-- a command that was refused hands out nothing
none_asked : (g : Ghosts Token) (asked : Asked) (by : ℕ) (s t : Cellar) (a b : Answer) (given : Option Effect) (status : ℕ) →
    IsAskedMade g asked by s t a b given status → (status == 0) ≡ false → given ≡ None
none_asked g asked by s t a b given _ (is_done o u v tidies made counts tells gives) undone = absurd (false≢true (sym undone))
none_asked g asked by s t a b given _ (is_not_done why u tidies made same none) undone = none

pub none_handed_with : (g : Ghosts Token) (asked : Option Asked) (by : ℕ) (s t : Cellar) (a b : Answer) (given : Option Effect) (status : ℕ) →
    IsCommandMade g asked by s t a b given status → (status == 0) ≡ false → given ≡ None
none_handed_with g None by s t a b given status (five, same, kept_so, none) undone = none
none_handed_with g (Some asked) by s t a b given status is undone = none_asked g asked by s t (no_answer a) b given status is undone

-- an item that waits hands in no tag either
pub same_tag : (waits : Bool) (asked : Option Asked) → tag_asked (asked_as waits asked) ≡ tag_asked asked
same_tag waits None = refl
same_tag waits (Some (Next leaf value may_hand)) = refl
same_tag waits (Some asked) = refl
