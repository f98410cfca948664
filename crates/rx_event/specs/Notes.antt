-- What observers are told (Observable Contract: OnNext, OnCompleted, OnError).
use Rattle.std.specs.Prelude.{◌==◌, ◌∷◌, if◌then◌else◌}
use Rattle.rx_event.specs.Imports.{ℕ, ℤ, Option, Some, None, List, [], length, filter, map, filter_map, flat_map, Project, Event}
use Rattle.rx_event.specs.Imports.{Item, End}
use Rattle.rx_note.specs.declared.note.Note.{Note}
use Rattle.rx_note.specs.declared.note.Note.TheVariants.{Next}
use Rattle.rx_event.specs.declared.mail.Mail.{Mail}
use Rattle.rx_event.specs.Events.{is_root}
use Rattle.rx_event.specs.Tree.{at}
use Rattle.rx_event.specs.Climb.{Stop, Delivery, Projection, Firing, stops}
use Rattle.rx_event.specs.Moments.{moments}

-- what a stop of the item tells: a delivery and a projection the item, a firing nothing
abbrev pub told : ℕ → ℤ → Stop → Option Mail
told place value (Delivery n) = Some (record { place = place; to = n; note = Next value })
told place value (Projection f) = Some (record { place = place; to = f; note = Project value })
told place value (Firing u) = None

-- what an event after this history tells: an item its stops, the end of a root that end
abbrev pub mail_of : List Event → Event → List Mail
mail_of before (Item leaf value) = filter_map (told (length before) value) (stops before leaf)
mail_of before (End n t) =
    if at is_root before n then (record { place = length before; to = n; note = Rattle.rx_note.specs.declared.note.Note.TheVariants.End t }) ∷ [] else []
mail_of before _ = []

-- all that was told, by place
unfoldable pub notes : List Event → List Mail
notes h = flat_map (λ m. mail_of m.before m.event) (moments h)

-- what node n was told
abbrev pub notes_to : List Event → ℕ → List Note
notes_to h n = map (λ m. m.note) (filter (λ m. m.to == n) (notes h))
