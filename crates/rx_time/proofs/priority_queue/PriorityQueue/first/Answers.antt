use Rattle.std.proofs.Common.{◌≡◌, refl, inl, inr, arith}
use Rattle.std.proofs.lemmas.Bool.{cases_lt, false≢true}
use Rattle.std.specs.BTreeSet.{btree_set_len}
use Rattle.rx_time.proofs.AgendaMatchesEntries.{PointsAt-first, work-none}
use Rattle.rx_time.proofs.priority_queue.PriorityQueue.first.Goals as goal

pub returns-in-Some : goal.returns-in-Some
returns-in-Some g c = rw (← c.self.view_is) (PointsAt-first _ _ _ c.self.invariant c.in-Some.ensures.member c.in-Some.ensures.least)

pub returns-in-None : goal.returns-in-None
returns-in-None g c =
    let empty : btree_set_len c.self.inside.agenda ≡ 0 =
    elim (cases_lt 0 (btree_set_len c.self.inside.agenda)) [ inl some ↦ absurd (false≢true (c.in-None.ensures.variant.1 some)) | inr none ↦ omega arith ] in
    rw (← c.self.view_is, work-none c.self.inside.entries.entries c.self.inside.agenda c.self.invariant empty) refl
