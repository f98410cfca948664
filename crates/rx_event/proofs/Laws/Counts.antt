-- What one more event adds to what was told and counted.
use Rattle.rx_event.proofs.Laws.Common.{◌≡◌, ℕ, ◌+◌, List, [], ◌∷◌, ◌++◌, append-nil, sum_by, count_by, sum_by-cons, Event, projections, stops_of}
use Rattle.rx_event.proofs.Laws.Common.{is_projection_to, notes, mail_of}
use Rattle.std.proofs.Common.{add-zero, rules}
use Rattle.std.proofs.lemmas.List.Sums.{sum_by-append}
use Rattle.std.proofs.lemmas.List.Concat.{flat_map-append}
use Rattle.rx_event.proofs.Laws.Lawful.{moments-push}

-- the notes of one more event come last
pub notes-push : (h : List Event) (e : Event) → notes (h ++ e ∷ []) ≡ notes h ++ mail_of h e
unfolding notes
notes-push h e = search (rules, moments-push, flat_map-append, append-nil)

-- so do its projections
pub projections-push : (h : List Event) (e : Event) (f : ℕ) → projections (h ++ e ∷ []) f ≡ projections h f + count_by (is_projection_to f) (stops_of h e)
unfolding projections
projections-push h e f = search (rules, count_by, sum_by, moments-push, sum_by-append, sum_by-cons, add-zero)
