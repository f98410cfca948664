use Rattle.rx_live.proofs.Common.{◌≡◌, ℕ, true, sym, subst, take_request, Accepts, is_some, name_of_number, session_of}
use Rattle.rx_live.proofs.Drops.{contains_number, waiting_named, IsForgotten, never_none, taken_sound}
use Rattle.rx_live.proofs.telling.take_name.Goals as goal

pub returns-clause-none : goal.returns-clause-none
returns-clause-none c =
    let s = session_of c.args.engine.now in
    let named : is_some (name_of_number s.resources c.number-number.result) ≡ true = waiting_named s c.number-number.result c.requires
    (contains_number (λ l. l.number) s.book.waiting _ c.number-number.result c.in_ok-handed.ensures.cases c.number-number.ensures) in
    never_none c.forget.result (name_of_number s.resources c.number-number.result) _ c.forget.ensures.value named

pub returns-clause-all : goal.returns-clause-all
returns-clause-all c =
    let s = session_of c.args.engine.now in
    let named : is_some (name_of_number s.resources c.number-number.result) ≡ true = waiting_named s c.number-number.result c.requires
    (contains_number (λ l. l.number) s.book.waiting _ c.number-number.result c.in_ok-handed.ensures.cases c.number-number.ensures) in
    never_none c.forget.result (name_of_number s.resources c.number-number.result) _ c.forget.ensures.value named

pub returns-clause-sound : goal.returns-clause-sound
returns-clause-sound c =
    let s = session_of c.args.engine.now in
    let named : is_some (name_of_number s.resources c.number-number.result) ≡ true = waiting_named s c.number-number.result c.requires
    (contains_number (λ l. l.number) s.book.waiting _ c.number-number.result c.in_ok-handed.ensures.cases c.number-number.ensures) in
    let gone : IsForgotten s c.number-number.result c.forget.result c.forget.new.self =
    record { paired = c.forget.ensures.paired; value = c.forget.ensures.value; forgets = c.forget.ensures.some } in
    taken_sound c.requires c.promise-2.ensures
    (subst (λ (q : ℕ). Accepts s.book (take_request q) c.take.new.self) (sym c.number-number.ensures) c.in_ok-handed.ensures.accepted) named gone
