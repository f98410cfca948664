use Rattle.std.proofs.Common.{◌≡◌, ℕ, Bool, true, false, List, [], ◌∷◌, ◌++◌, length, Some, None}
use Rattle.std.proofs.Common.{refl, sym, ap, ◌∙◌, arith, slice_get, length-append, append_assoc, append-nil}
use Rattle.std.proofs.Math.Bool.{not}
use Rattle.std.specs.Option.{option_map_or}
use Rattle.std.proofs.lemmas.List.{length-map, get_or-map}
use Rattle.std.proofs.lemmas.Bool.{false≢true}
use Rattle.std.specs.Bool.{if◌then◌else◌}
use Rattle.rx_event.specs.Kept.{Kept}
use Rattle.rx_event.specs.declared.event.Event.{Event}
use Rattle.rx_event.specs.declared.event.Event.TheVariants.{Open, Accept}
use Rattle.rx_event.specs.declared.event.Place.TheVariants.{Root}
use Rattle.rx_event.specs.declared.event.Kind.TheVariants.{Pass}
use Rattle.rx_event.specs.declared.refusal.Refusal.{Refusal}
use Rattle.rx_event.specs.declared.refusal.Refusal.TheVariants.{Gone, NotRoot}
use Rattle.rx_event.specs.Events.{is_root}
use Rattle.rx_event.specs.Tree.{at, is_open}
use Rattle.rx_event.specs.Calls.{OpeningUsing, IsStepOf}
use Rattle.rx_event.specs.Refusals.{first_cause}
use Rattle.rx_event.proofs.Laws.Places.{at-append}
use Rattle.rx_slots.specs.declared.Key.{Key}
use Rattle.rx_book.specs.State.{State, IsPromised, has_key}
use Rattle.rx_book.specs.Requests.{stands, dispose_request}
use Rattle.rx_book.proofs.Laws.Keys.{Contains-has_key}
use Rattle.rx_event.specs.Lawful.{IsForcedOn, stays, more}
use Rattle.rx_book_tests.proofs.caller.use_once.Goals as goal

-- what is forced comes behind
forced_behind : (base : Kept) → {h k : List Event} → IsForcedOn base h k → (t : List Event) × (k ≡ h ++ t)
forced_behind base (stays {h}) = ([], sym (append-nil h))
forced_behind base (more {h} {k} {e} before next) =
    let b = forced_behind base before in (b.0 ++ e ∷ [], ap (λ (m : List Event). m ++ e ∷ []) b.1 ∙ append_assoc h b.0 (e ∷ []))

-- a key that a book knows is an open node's
known_open : (s : State) → IsPromised s → (k : Key) → has_key s.keys k ≡ true → is_open s.history k.number ≡ true
known_open s kept k has =
    let c = Contains-has_key s.keys k has in
    let number : Key → ℕ = λ j. j.number in
    let same = get_or-map number s.keys c.0 k k.number c.1 ∙ ap number c.2 in
    ap (is_open s.history) (sym same) ∙ kept.keys.each c.0 k.number (rw (length-map s.keys number) c.1)

-- what stands directly behind a history
slice_get_behind : (h : List Event) (e : Event) (t : List Event) → slice_get (h ++ e ∷ t) (length h) ≡ Some e
slice_get_behind [] e t = refl
slice_get_behind (x ∷ h) e t = slice_get_behind h e t

-- a root that was opened with a resource is one
root_opened : (base : Kept) → (h k : List Event) (tag n : ℕ) → IsStepOf base h (OpeningUsing Root tag) k → n ≡ length h → at is_root k n ≡ true
root_opened base h k tag n step e =
    let b = forced_behind base step.forced in
    ap (λ (m : List Event). at is_root m n) b.1
    ∙ rw e (at-append is_root (h ++ Open Root Pass ∷ Accept (length h) tag ∷ []) b.0 (length h) (omega (arith, length-append {A = Event})) ∙ at_end h)
  where
    at_end : (h : List Event) → at is_root (h ++ Open Root Pass ∷ Accept (length h) tag ∷ []) (length h) ≡ true
    at_end h = ap (λ o. option_map_or is_root o false) (slice_get_behind h (Open Root Pass) (Accept (length h) tag ∷ []))

-- nothing stands against the closing of an open root
closing_accepted : (s : State) (k : Key) (why : Refusal) → has_key s.keys k ≡ true → is_open s.history k.number ≡ true
    → at is_root s.history k.number ≡ true → first_cause (stands s (dispose_request s k)) ≡ Some why → ⊥
closing_accepted s k why has alive root e = shape (is_open s.history k.number) (at is_root s.history k.number) why alive root (rw has at e)
  where
    shape : (a b : Bool) (why : Refusal) → a ≡ true → b ≡ true → (if not a then Some Gone else (if not b then Some NotRoot else None)) ≡ Some why → ⊥
    shape true true why alive root e = cc
    shape true false why alive root e = absurd (false≢true root)
    shape false b why alive root e = absurd (false≢true alive)

pub unreachable-requires : goal.unreachable-requires
unreachable-requires g c =
    let s = c.open_using.new.self in
    let key = c.in_ok-opened.opened.key in
    let given = c.in_ok-opened.ensures in
    let refused : first_cause (stands s (dispose_request s key)) ≡ Some c.in-Err.field-0 = c.in-Err.ensures.refused in
    closing_accepted s key c.in-Err.field-0 given.ok.key.listed
    (known_open s c.promise.ensures key given.ok.key.listed)
    (root_opened c.args.book.now.base c.args.book.now.history s.history _ key.number given.accepted.step given.ok.key.number) refused
