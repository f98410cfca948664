-- Courses of an engine, with what is seen of them.
use Rattle.std.proofs.Common.{◌≡◌, ℕ, ◌++◌, Bool, List, [], Option, refl, sym, ap, subst, ◌∙◌, append-nil, append_assoc}
use Rattle.rx_resource.specs.declared.Resource.{Ghosts}
use Rattle.rx_resource.specs.declared.token.Token.{Token}
use Rattle.rx_lanes.specs.declared.names.LaneName.{LaneName}
use Rattle.rx_roles.specs.declared.effect.Effect.{Effect as Sent}
use Rattle.rx_engine.specs.States.{State, IsPromised}
use Rattle.rx_engine.specs.Servings.{IsTake, IsGiveUp}
use Rattle.rx_courses.specs.Courses.{IsCommand}
use Rattle.rx_courses.specs.Courses.{Course, begins, commands, takes, gives_up}
use Rattle.rx_turns.specs.Courses.{Seen}
use Rattle.rx_turns.specs.Courses.{seen_tag, seen_told, seen_back, seen_of, IsEngineCourse}

pub unchanged : (g : Ghosts Token) (s t : State) → t ≡ s → IsEngineCourse g s t []
unchanged g s t same = subst (λ (x : State). IsEngineCourse g s x []) (sym same) (record { course = begins; acts_are = refl })

pub by_command : (g : Ghosts Token) (s t : State) → IsPromised s → (c : IsCommand g s t) → IsEngineCourse g s t (seen_tag c)
by_command g s t kept c = record { course = commands begins kept c; acts_are = refl }

pub by_take : (g : Ghosts Token) (s t : State) (name : LaneName) (inside : Bool) (by : ℕ) (answer : Option Sent) → IsPromised s →
    IsTake name inside by s t answer → IsEngineCourse g s t (seen_told name answer)
by_take g s t name inside by answer kept take = record { course = takes name inside by begins kept take; acts_are = refl }

pub by_giving_up : (g : Ghosts Token) (s t : State) (name : LaneName) (by : ℕ) (undone : Option Sent) (answer : Option Bool) → IsPromised s →
    IsGiveUp name by undone s t answer → IsEngineCourse g s t (seen_back name answer undone)
by_giving_up g s t name by undone answer kept give = record { course = gives_up name by undone begins kept give; acts_are = refl }

course_on : {g : Ghosts Token} {s t u : State} {acts : List Seen} → IsEngineCourse g s t acts → (q : Course g t u) → IsEngineCourse g s u (acts ++ seen_of q)
course_on {g} {s} {t} {u} {acts} p begins = subst (λ (xs : List Seen). IsEngineCourse g s u xs) (sym (append-nil acts)) p
course_on {acts = acts} p (commands before kept c) =
    let o = course_on p before in
    record {
      course = commands o.course kept c;
      acts_are = ap (λ (xs : List Seen). xs ++ seen_tag c) o.acts_are ∙ append_assoc acts (seen_of before) (seen_tag c);
    }
course_on {acts = acts} p (takes {answer = answer} name inside by before kept take) =
    let o = course_on p before in
    record {
      course = takes name inside by o.course kept take;
      acts_are = ap (λ (xs : List Seen). xs ++ seen_told name answer) o.acts_are ∙ append_assoc acts (seen_of before) (seen_told name answer);
    }
course_on {acts = acts} p (gives_up {answer = answer} name by undone before kept give) =
    let o = course_on p before in
    record {
      course = gives_up name by undone o.course kept give;
      acts_are = ap (λ (xs : List Seen). xs ++ seen_back name answer undone) o.acts_are ∙ append_assoc acts (seen_of before) (seen_back name answer undone);
    }

pub and_then : {g : Ghosts Token} {s t u : State} {xs ys : List Seen} → IsEngineCourse g s t xs → IsEngineCourse g t u ys → IsEngineCourse g s u (xs ++ ys)
and_then {g} {s} {t} {u} {xs} p q = subst (λ (zs : List Seen). IsEngineCourse g s u (xs ++ zs)) q.acts_are (course_on p q.course)
