-- The empty base is one that a history may begin with.
use Rattle.rx_event.proofs.Laws.Common.{◌≡◌, ℕ, true, List, [], refl, sym, subst, arith, AllByRecursion, both_ways, false≢true, none-some, Event, is_open}
use Rattle.rx_event.proofs.Laws.Common.{source_completed, Moment, moments, projections, owed, is_fired, notes, uses}
use Rattle.rx_event.proofs.Laws.Common.{nothing_kept, shown, MayFollow, Started, IsLawful}
use Rattle.rx_event.specs.Claims.Checkpoints.{EmptyBase}
use Rattle.rx_event.proofs.Laws.Openness.{is_open_past}
use Rattle.std.proofs.Common.{rules}

closed : (n : ℕ) → is_open [] n ≡ true → ⊥
closed n o = both_ways _ (is_open_past [] n (omega arith)) o

pub started_empty : Started nothing_kept
unfolding shown uses is_fired notes moments projections
started_empty = search (rules, none-some, false≢true, closed)

pub shown_nothing : shown nothing_kept ≡ []
unfolding shown
shown_nothing = refl

-- a list of no events is a lawful history that begins with nothing
pub IsLawful_nothing : IsLawful nothing_kept []
IsLawful_nothing = search (rules, shown_nothing, started_empty)

-- so it is lawful where each event may follow those before it
lawful_each : (h : List Event) → IsLawful nothing_kept h → AllByRecursion (λ (m : Moment). MayFollow nothing_kept m.before m.event) (moments h)
unfolding shown moments
lawful_each h law = subst (λ (k : List Event). AllByRecursion (λ (m : Moment). MayFollow nothing_kept m.before m.event) (moments k)) (sym law.reads) law.each

lawful_of : (h : List Event) → AllByRecursion (λ (m : Moment). MayFollow nothing_kept m.before m.event) (moments h) → IsLawful nothing_kept h
unfolding shown moments
lawful_of h each = record { started = started_empty; since = h; reads = refl; each = each }

pub empty_base : EmptyBase
unfolding uses owed source_completed shown
empty_base = search (rules, shown_nothing, started_empty, lawful_each, lawful_of)
