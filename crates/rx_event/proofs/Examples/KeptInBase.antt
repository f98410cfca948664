-- The definitions at worked examples: what a base keeps, and what it shows.
use Rattle.rx_event.proofs.Laws.Common.{◌≡◌, true, false, List, [], ◌∷◌, refl, pos, Completed, Root, Source, Inner, Leaf, Pass, Flat, Auto, Event, Open, Hub}
use Rattle.rx_event.proofs.Laws.Common.{Accept, Use, Remove, Item, End, Close, Take, parent, ancestors, is_shut, is_open, is_owned, is_out, leases_of}
use Rattle.rx_event.proofs.Laws.Common.{is_held, is_taken, is_waiting, uses, most_visits, climb, stops, moments, projections, owed, source_completed, Kept}
use Rattle.rx_event.proofs.Laws.Common.{nothing_kept, shown, source_opened, base_of}
use Rattle.rx_event.specs.declared.base.BaseState.TheVariants.{Owned, Waiting}
use Rattle.rx_event.specs.Kept.{stored}

-- a FlatMap whose source was opened and completed, and which owes one item; the leaf is forgotten
abbrev projected : List Event
projected = Open Root Flat ∷ Open (Source 0) Leaf ∷ Item 1 (pos 5) ∷ End 1 Completed ∷ []

abbrev projected_base : Kept
projected_base =
    record {
      at_length = 4;
      items = 1;
      accepted = 0;
      taken = 0;
      hubs = [];
      nodes = (record { number = 0; made = Open Root Flat; source_opened = true; notifier_opened = false; source_completed = true; owed = 1 }) ∷ [];
      resources = [];
      leases = [];
    }

projected_is : (base_of nothing_kept projected ≡ projected_base) × (shown projected_base ≡ Open Root Flat ∷ Close 1 ∷ Close 2 ∷ Close 3 ∷ [])
unfolding base_of shown owed projections moments stops climb most_visits is_open is_shut ancestors parent source_completed is_held is_owned is_out leases_of
    is_waiting is_taken
projected_is = (refl, refl)

-- its source's place stays taken, and an inner pays
still_opened : (source_opened projected_base (stored projected_base (Open (Inner 0) Leaf ∷ [])) 0 ≡ true) ×
    (owed projected_base (stored projected_base (Open (Inner 0) Leaf ∷ [])) 0 ≡ 0)
unfolding shown owed projections moments stops climb most_visits is_open is_shut ancestors parent
still_opened = (refl, refl)

-- and the base of that, again
abbrev paid_base : Kept
paid_base =
    record {
      at_length = 5;
      items = 1;
      accepted = 0;
      taken = 0;
      hubs = [];
      nodes = (record { number = 0; made = Open Root Flat; source_opened = true; notifier_opened = false; source_completed = true; owed = 0 })
          ∷ (record { number = 4; made = Open (Inner 0) Leaf; source_opened = false; notifier_opened = false; source_completed = false; owed = 0 }) ∷ [];
      resources = [];
      leases = [];
    }

paid_kept : base_of projected_base (stored projected_base (Open (Inner 0) Leaf ∷ [])) ≡ paid_base
unfolding base_of shown owed projections moments stops climb most_visits is_open is_shut ancestors parent source_completed is_held is_owned is_out leases_of
    is_waiting is_taken
paid_kept = refl

-- resources: one held and used once, one removed at an open node, which waits, and one taken, which is forgotten
abbrev resourceful : List Event
resourceful = Hub Auto ∷ Open Root Pass ∷ Accept 1 7 ∷ Use 2 ∷ Accept 1 8 ∷ Remove 4 ∷ Accept 1 9 ∷ Remove 6 ∷ Take 6 ∷ []

abbrev resourceful_base : Kept
resourceful_base =
    record {
      at_length = 9;
      items = 0;
      accepted = 3;
      taken = 1;
      hubs = (record { number = 0; mode = Auto }) ∷ [];
      nodes = (record { number = 1; made = Open Root Pass; source_opened = false; notifier_opened = false; source_completed = false; owed = 0 }) ∷ [];
      resources = (record { number = 2; node = 1; tag = 7; uses = 1; state = Owned }) ∷ (record
          { number = 4; node = 1; tag = 8; uses = 0; state = Waiting }) ∷ [];
      leases = [];
    }

resourceful_kept : base_of nothing_kept resourceful ≡ resourceful_base
unfolding base_of shown owed projections moments stops climb most_visits is_open is_shut ancestors parent source_completed is_held is_owned is_out leases_of
    is_waiting is_taken uses
resourceful_kept = refl

-- after it the first can be used, and the second waits
used_on : (uses resourceful_base (stored resourceful_base (Use 2 ∷ [])) 2 ≡ 2) × (is_held (stored resourceful_base []) 2 ≡ true) ×
    (is_waiting (stored resourceful_base []) 4 ≡ true)
unfolding shown uses is_held is_owned is_out leases_of is_open is_shut ancestors parent is_waiting is_taken
used_on = (refl, refl, refl)
