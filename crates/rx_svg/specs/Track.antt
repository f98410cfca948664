-- What stands in the tracks of a picture.
use Rattle.std.specs.Prelude.{ℕ, ℤ, ◌+◌, ◌*◌, ◌/◌, Option, Bool, false, not, ◌&&◌, min, max, nat_lt, if◌then◌else◌, List, [], ◌∷◌, ◌++◌, codes, length}
use Rattle.std.specs.Prelude.{slice_get, slice_index_or}
use Rattle.std.specs.Option.{option_map_or}
use Rattle.std.specs.List.{fold}
use Rattle.rx_note.specs.declared.note.Terminal.TheVariants.{Completed, Error}
use Rattle.rx_event.specs.declared.event.Event.{Event}
use Rattle.rx_event.specs.declared.event.Event.TheVariants.{Connect, Lease, Use, Item, Decline}
use Rattle.rx_event.specs.Events.{is_root}
use Rattle.rx_event.specs.declared.mail.Mail.{Mail}
use Rattle.rx_picture.specs.declared.row.Ending.{Ending}
use Rattle.rx_picture.specs.declared.row.Ending.TheVariants.{Lasting, Ended, Disposed}
use Rattle.rx_picture.specs.declared.row.Shape.{Shape}
use Rattle.rx_picture.specs.declared.row.Shape.TheVariants.{Node, Hub, Resource, Loan}
use Rattle.rx_picture.specs.declared.row.Row.{Row}
use Rattle.rx_picture.specs.declared.points.Point.{Point}
use Rattle.rx_picture.specs.declared.drawing.Drawing.{Drawing}
use Rattle.rx_picture.specs.Rows.{track_of}
use Rattle.rx_picture.specs.Leaks.{is_leaking_row}
use Rattle.rx_svg.specs.Parts.{words, number, text_of}
use Rattle.rx_svg.specs.Label.{called_text}
use Rattle.rx_svg.specs.Stroke.{Stretch, Look, line_text, bar_text, mark_text, code_text, arrow_text, above_text, grid_text, marble_text}
use Rattle.rx_svg.specs.Stroke.{bar_shape, cross_shape, strokes_shape, check_shape, tick_shape, dot_shape, square_shape, struck_shape}

-- where things stand --------------------------------------------------------------------------------

-- a place, from the left
abbrev pub x_of : Drawing → ℕ → ℕ
x_of d place = 20 + 22 * min (slice_index_or d.columns.items place 0) 2000

-- the track of a number, from the top
abbrev pub y_of : Drawing → ℕ → ℕ
y_of d n = 54 + 44 * min (slice_index_or d.tracks.items n 0) 200

-- the list, which says of each number how many stand before it, counts this one
abbrev pub is_counted : List ℕ → ℕ → Bool
is_counted columns n = nat_lt n (length columns) && nat_lt (slice_index_or columns n 0) (slice_index_or columns (n + 1) 0)

-- the number has a track that is shown
abbrev pub has_track : Drawing → ℕ → Bool
has_track d n = is_counted d.tracks.items n

-- the place is shown
abbrev pub has_column : Drawing → ℕ → Bool
has_column d n = is_counted d.columns.items n

-- the stretch of a track between two events, of so many
abbrev pub stretch_of : Drawing → ℕ → ℕ → ℕ → ℕ → Stretch
stretch_of d y after until end = record { from = x_of d after; to = x_of d until; y = y; after = after; until = until; end = end }

-- what the number names is a root, by the place at which its track begins
abbrev pub is_root_point : Point → Bool
is_root_point point = is_root point.event

abbrev pub is_root_of : Drawing → ℕ → Bool
is_root_of d n = option_map_or is_root_point (slice_get d.points.items (slice_index_or d.columns.items n 0)) false

-- a row -------------------------------------------------------------------------------------------

-- what is not released at the end has a colour of its own
abbrev pub label_class : Bool → List ℕ
label_class unreleased = if unreleased then codes "label unreleased" else codes "label"

-- what a track shows, up to here
unfoldable pub label_front : List ℕ → ℕ → ℕ → List ℕ
label_front class x y =
    text_of (words (codes "<text class=\"") ∷ words class ∷ words (codes "\" x=\"") ∷ number x ∷ words (codes "\" y=\"") ∷ number y
    ∷ words (codes "\" dx=\"-11\" dy=\"-22\">") ∷ [])

unfoldable pub label_element : List ℕ → ℕ → ℕ → ℕ → Option (List ℕ) → Event → List ℕ
label_element class x y n name made = label_front class x y ++ called_text n name made ++ codes "</text>\n"

-- a bar for completed, a cross for an error with its code, two strokes for a disposal, nothing where it is still open
abbrev pub ending_text : ℕ → ℕ → ℕ → Ending → List ℕ
ending_text x y at Lasting = []
ending_text x y at (Ended Completed) = mark_text (codes "mark") bar_shape (codes "completed") x y at
ending_text x y at (Ended (Error code)) = mark_text (codes "mark") cross_shape (codes "ended with an error") x y at ++ code_text x y code
ending_text x y at Disposed = mark_text (codes "mark") strokes_shape (codes "closed") x y at

-- the line of a node that was open
abbrev pub life_text : Drawing → ℕ → ℕ → ℕ → ℕ → Ending → List ℕ
life_text d y n until end ending =
    if nat_lt n until
    then line_text (codes "life") (codes "open") (stretch_of d y n until end) ++ ending_text (x_of d until) y until ending
    else []

-- a full bar while the node owns it, a lower one while a lease is out, and a hollow one while neither is said of it
abbrev pub stretch_text : Drawing → Look → ℕ → ℕ → ℕ → ℕ → List ℕ
stretch_text d look y after until end = if nat_lt after until then bar_text look (stretch_of d y after until end) else []

abbrev pub held_class : Bool → List ℕ
held_class unreleased = if unreleased then codes "held unreleased" else codes "held"

abbrev pub wait_class : Bool → List ℕ
wait_class unreleased = if unreleased then codes "waiting unreleased" else codes "waiting"

abbrev pub owned_look : Bool → Look
owned_look unreleased = record { class = held_class unreleased; title = codes "held by its node"; above = codes "5"; height = codes "10" }

abbrev pub loan_look : Bool → Look
loan_look unreleased = record { class = held_class unreleased; title = codes "held by a lease"; above = codes "3"; height = codes "6" }

abbrev pub wait_look : Bool → Look
wait_look unreleased =
    record { class = wait_class unreleased; title = codes "waits, but where a lease holds it,"; above = codes "5"; height = codes "10" }

abbrev pub owned_text : Drawing → Bool → ℕ → ℕ → ℕ → ℕ → List ℕ
owned_text d unreleased = stretch_text d (owned_look unreleased)

abbrev pub loan_text : Drawing → Bool → ℕ → ℕ → ℕ → ℕ → List ℕ
loan_text d unreleased = stretch_text d (loan_look unreleased)

abbrev pub wait_text : Drawing → Bool → ℕ → ℕ → ℕ → ℕ → List ℕ
wait_text d unreleased = stretch_text d (wait_look unreleased)

-- a check mark where it is released, an arrow where it is not
abbrev pub release_text : Drawing → Bool → ℕ → ℕ → List ℕ
release_text d unreleased y taken =
    if unreleased then arrow_text (x_of d taken) y else mark_text (codes "mark") check_shape (codes "released") (x_of d taken) y taken

abbrev pub shape_text : Drawing → Bool → ℕ → ℕ → ℕ → Shape → List ℕ
shape_text d unreleased y n end (Node until ending) = life_text d y n until end ending
shape_text d unreleased y n end Hub = line_text (codes "hub") (codes "a hub") (stretch_of d y n end end)
shape_text d unreleased y n end (Resource after until taken) =
    wait_text d unreleased y n after end ++ wait_text d unreleased y until taken end ++ owned_text d unreleased y after until end
    ++ release_text d unreleased y taken
shape_text d unreleased y n end (Loan resource until) = if has_column d n then loan_text d unreleased y n until end else []

-- a track has its grid from where it begins, and its label above that. A lease has none, and lies in the track of its resource
abbrev pub row_head : Drawing → Bool → ℕ → ℕ → Option (List ℕ) → Event → List ℕ
row_head d unreleased n end name (Lease r) = []
row_head d unreleased n end name made =
    grid_text (x_of d n) (y_of d n) (x_of d end) ++ label_element (label_class unreleased) (x_of d n) (y_of d n) n name made

unfoldable pub row_text : Drawing → (ℕ → Option (List ℕ)) → ℕ → Row → List ℕ
row_text d names end row =
    row_head d (is_leaking_row end row) row.number end (names row.number) row.made
    ++ shape_text d (is_leaking_row end row) (y_of d (track_of row.number row.made)) row.number end row.shape

-- marks -------------------------------------------------------------------------------------------

-- a mark in the track of a number, if it has one
abbrev pub in_track_text : Drawing → ℕ → ℕ → List ℕ → List ℕ → List ℕ → List ℕ
in_track_text d n place class shape title = if has_track d n then mark_text class shape title (x_of d place) (y_of d n) place else []

-- the value of an item above the leaf that emits it; above a root it stands already, with what the root received
abbrev pub value_in_track : Drawing → ℕ → ℕ → ℤ → List ℕ
value_in_track d n place value = if has_track d n && not (is_root_of d n) then above_text (x_of d place) (y_of d n) value else []

-- a dot for an item at the leaf that emits it
abbrev pub emitted_text : Drawing → ℕ → ℕ → ℤ → List ℕ
emitted_text d n place value = in_track_text d n place (codes "full") dot_shape (codes "emitted") ++ value_in_track d n place value

-- what an event did in a track: an item that is emitted, a struck diamond for one that is declined, a square where a hub
-- is connected, a tick where a resource is used
abbrev pub done_text : Drawing → ℕ → Event → List ℕ
done_text d place (Item n value) = emitted_text d n place value
done_text d place (Decline f) = in_track_text d f place (codes "marble") struck_shape (codes "declined")
done_text d place (Connect g) = in_track_text d g place (codes "full") square_shape (codes "connected")
done_text d place (Use r) = in_track_text d r place (codes "tick") tick_shape (codes "used")
done_text d place _ = []

unfoldable pub tick_text : Drawing → Point → List ℕ
tick_text d point = done_text d point.place point.event

unfoldable pub note_marble : Drawing → Mail → List ℕ
note_marble d m = marble_text (x_of d m.place) (y_of d m.to) m.place m.to m.note

-- the width ---------------------------------------------------------------------------------------

-- the room of a label: 7.5 for each of its characters, of up to 2,000
abbrev pub label_room : ℕ → Option (List ℕ) → Event → ℕ
label_room n name (Lease r) = 0
label_room n name made = 15 * min (length (called_text n name made)) 2000 / 2

unfoldable pub label_end : Drawing → (ℕ → Option (List ℕ)) → Row → ℕ
label_end d names row = x_of d row.number + label_room row.number (names row.number) row.made

-- behind the last place there is room for an arrow, and the legend and each label have room
abbrev pub width : Drawing → (ℕ → Option (List ℕ)) → ℕ → List Row → ℕ
width d names end rows = fold (λ wide row. max wide (label_end d names row)) (max (x_of d end + 24) 400) rows
