-- The definitions at worked examples: TakeUntil.
use Rattle.rx_event.proofs.Laws.Common.{◌≡◌, List, [], ◌∷◌, ◌++◌, refl, pos, Completed, Root, Source, Notifier, Leaf, Until, Sub, Auto, Event, Open, Hub}
use Rattle.rx_event.proofs.Laws.Common.{Connect, Item, End, Close, nothing_kept, shown, parent, ancestors, is_shut, is_open, open_nodes, Delivery, Firing}
use Rattle.rx_event.proofs.Laws.Common.{most_visits, climb, stops, moments, is_fired, notes, fired, left, IsDue, Next, visits}
use Rattle.rx_note.specs.declared.note.Note.TheVariants.{End as Ended}

-- source and notifier are leaves of their own
abbrev until : List Event
until = Open Root Until ∷ Open (Source 0) Leaf ∷ Open (Notifier 0) Leaf ∷ Item 1 (pos 4) ∷ Item 2 (pos 7) ∷ []

until_is : (IsDue nothing_kept until (End 0 Completed)) × (notes (until ++ End 0 Completed ∷ []) ≡
    (record { place = 3; to = 0; note = Next (pos 4) }) ∷ (record { place = 5; to = 0; note = Ended Completed }) ∷ []) ×
    (open_nodes (until ++ End 0 Completed ∷ []) ≡ [])
unfolding is_fired moments stops climb most_visits is_open is_shut ancestors parent shown notes
until_is = (fired refl refl refl, refl, refl)

-- source and notifier subscribe to one hub: the item that fires is first delivered
abbrev both : List Event
both = Hub Auto ∷ Open Root Until ∷ Open (Source 1) (Sub 0) ∷ Connect 0 ∷ Open (Notifier 1) (Sub 0) ∷ Open (Source 3) Leaf ∷ []

both_is : (stops both 5 ≡ Delivery 1 ∷ Firing 1 ∷ []) × (visits both 5 ≡ 5) × (IsDue nothing_kept (both ++ Item 5 (pos 9) ∷ []) (End 1 Completed))
unfolding stops climb most_visits is_open is_shut ancestors parent shown visits is_fired moments
both_is = (refl, refl, fired refl refl refl)

-- then the hub has no subscriber, and its connection closes
both_left : (IsDue nothing_kept (both ++ Item 5 (pos 9) ∷ End 1 Completed ∷ []) (Close 3)) ×
    (open_nodes (both ++ Item 5 (pos 9) ∷ End 1 Completed ∷ Close 3 ∷ []) ≡ []) × (notes (both ++ Item 5 (pos 9) ∷ End 1 Completed ∷ Close 3 ∷ []) ≡
    (record { place = 6; to = 1; note = Next (pos 9) }) ∷ (record { place = 7; to = 1; note = Ended Completed }) ∷ [])
unfolding is_open is_shut ancestors parent shown notes moments stops climb most_visits
both_left = (left {g = 0} refl refl refl refl, refl, refl)
