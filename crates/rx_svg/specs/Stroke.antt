-- The elements of a picture, each as its text. Where one points, a browser shows the title.
use Rattle.std.specs.Prelude.{ℕ, ℤ, ◌==◌, List, [], ◌∷◌, ◌++◌, codes, if◌then◌else◌}
use Rattle.rx_note.specs.declared.note.Note.{Note}
use Rattle.rx_note.specs.declared.note.Note.TheVariants.{Next, Project, End}
use Rattle.rx_event.specs.declared.event.Event.{Event}
use Rattle.rx_svg.specs.Parts.{words, number, signed, text_of}
use Rattle.rx_svg.specs.Label.{event_label}
use Rattle.rx_svg.specs.Said.{said_label}

-- stretches ---------------------------------------------------------------------------------------

-- a stretch of a track: from which x to which, at which y, and after which event, until which one, of how many
pub record Stretch : Type 0 where
  pub from : ℕ
  pub to : ℕ
  pub y : ℕ
  pub after : ℕ
  pub until : ℕ
  pub end : ℕ

-- how a bar looks: its class, the words of its title, so high above its middle and so high in all
pub record Look : Type 0 where
  pub class : List ℕ
  pub title : List ℕ
  pub above : List ℕ
  pub height : List ℕ

-- what ends with the history has no event that ends it
unfoldable pub until_text : ℕ → ℕ → List ℕ
until_text until end = if until == end then codes " on" else text_of (words (codes ", until event ") ∷ number until ∷ [])

-- how the element of a stretch ends
unfoldable pub stretch_end : ℕ → ℕ → List ℕ
stretch_end until end = until_text until end ++ codes "</title></path>\n"

-- a line between two places: its front, and the whole
unfoldable pub line_front : List ℕ → List ℕ → ℕ → ℕ → ℕ → ℕ → List ℕ
line_front class title from to y after =
    text_of (words (codes "<path class=\"") ∷ words class ∷ words (codes "\" d=\"M") ∷ number from ∷ words (codes " ") ∷ number y
    ∷ words (codes "H") ∷ number to ∷ words (codes "\"><title>") ∷ words title ∷ words (codes " from event ") ∷ number after ∷ [])

unfoldable pub line_text : List ℕ → List ℕ → Stretch → List ℕ
line_text class title s = line_front class title s.from s.to s.y s.after ++ stretch_end s.until s.end

-- a bar between two places: its front, and the whole
unfoldable pub bar_front : List ℕ → List ℕ → List ℕ → List ℕ → ℕ → ℕ → ℕ → ℕ → List ℕ
bar_front class title above height from to y after =
    text_of (words (codes "<path class=\"") ∷ words class ∷ words (codes "\" d=\"M") ∷ number from ∷ words (codes " ") ∷ number y
    ∷ words (codes "m0 -") ∷ words above ∷ words (codes "H") ∷ number to ∷ words (codes "v") ∷ words height ∷ words (codes "H") ∷ number from
    ∷ words (codes "z\"><title>") ∷ words title ∷ words (codes " from event ") ∷ number after ∷ [])

unfoldable pub bar_text : Look → Stretch → List ℕ
bar_text look s = bar_front look.class look.title look.above look.height s.from s.to s.y s.after ++ stretch_end s.until s.end

-- marks -------------------------------------------------------------------------------------------

-- a mark of this shape, and what its event did
unfoldable pub mark_text : List ℕ → List ℕ → List ℕ → ℕ → ℕ → ℕ → List ℕ
mark_text class shape title x y at =
    text_of (words (codes "<path class=\"") ∷ words class ∷ words (codes "\" d=\"M") ∷ number x ∷ words (codes " ") ∷ number y ∷ words shape
    ∷ words (codes "\"><title>") ∷ words title ∷ words (codes " by event ") ∷ number at ∷ words (codes "</title></path>\n") ∷ [])

abbrev pub bar_shape : List ℕ
bar_shape = codes "m0 -8v16"

abbrev pub cross_shape : List ℕ
cross_shape = codes "m-6 -6l12 12m0 -12l-12 12"

abbrev pub strokes_shape : List ℕ
strokes_shape = codes "m-5 8l6 -16m4 0l-6 16"

abbrev pub check_shape : List ℕ
check_shape = codes "m4 0l4 5l8 -10"

abbrev pub tick_shape : List ℕ
tick_shape = codes "m0 -10v20"

abbrev pub arrow_shape : List ℕ
arrow_shape = codes "m0 -9l15 9l-15 9z"

abbrev pub dot_shape : List ℕ
dot_shape = codes "m-3 0a3 3 0 1 0 6 0a3 3 0 1 0 -6 0z"

abbrev pub square_shape : List ℕ
square_shape = codes "m-4 -4h8v8h-8z"

abbrev pub ring_shape : List ℕ
ring_shape = codes "m-6 0a6 6 0 1 0 12 0a6 6 0 1 0 -12 0z"

abbrev pub diamond_shape : List ℕ
diamond_shape = codes "m-7 0l7 -7l7 7l-7 7z"

abbrev pub struck_shape : List ℕ
struck_shape = codes "m-7 0l7 -7l7 7l-7 7zm1 6l12 -12"

abbrev pub flag_shape : List ℕ
flag_shape = codes "m-5 -15h10l-5 6z"

-- a text beside a place
unfoldable pub code_text : ℕ → ℕ → ℕ → List ℕ
code_text x y code =
    text_of (words (codes "<text x=\"") ∷ number x ∷ words (codes "\" y=\"") ∷ number y ∷ words (codes "\" dx=\"10\" dy=\"4\">") ∷ number code
    ∷ words (codes "</text>\n") ∷ [])

-- the arrow of a resource that is not released at the end
unfoldable pub arrow_text : ℕ → ℕ → List ℕ
arrow_text x y =
    text_of (words (codes "<path class=\"arrow unreleased\" d=\"M") ∷ number x ∷ words (codes " ") ∷ number y ∷ words arrow_shape
    ∷ words (codes "\"><title>not released at the end</title></path>\n") ∷ [])

-- signs of the legend -----------------------------------------------------------------------------

-- a sign that stands for all of its kind
unfoldable pub sign_text : List ℕ → List ℕ → ℕ → ℕ → List ℕ
sign_text class shape x y =
    text_of (words (codes "<path class=\"") ∷ words class ∷ words (codes "\" d=\"M") ∷ number x ∷ words (codes " ") ∷ number y ∷ words shape
    ∷ words (codes "\"></path>\n") ∷ [])

-- the words beside it
unfoldable pub meaning_text : List ℕ → ℕ → ℕ → List ℕ
meaning_text meaning x y =
    text_of (words (codes "<text x=\"") ∷ number x ∷ words (codes "\" y=\"") ∷ number y ∷ words (codes "\" dx=\"22\" dy=\"4\">") ∷ words meaning
    ∷ words (codes "</text>\n") ∷ [])

unfoldable pub key_text : List ℕ → List ℕ → List ℕ → ℕ → ℕ → List ℕ
key_text class shape meaning x y = sign_text class shape x y ++ meaning_text meaning x y

-- a short line, a short bar, a lower one, and a flag in the row of its words
abbrev pub line_sample : List ℕ
line_sample = codes "m-10 0h20"

abbrev pub bar_sample : List ℕ
bar_sample = codes "m-10 -5h20v10h-20z"

abbrev pub low_sample : List ℕ
low_sample = codes "m-10 -3h20v6h-20z"

abbrev pub flag_sample : List ℕ
flag_sample = codes "m-5 -3h10l-5 6z"

-- marbles -----------------------------------------------------------------------------------------

-- a circle for an item, a diamond for one that is to be projected, a flag for an end
abbrev pub marble_shape : Note → List ℕ
marble_shape (Next value) = ring_shape
marble_shape (Project value) = diamond_shape
marble_shape (End t) = flag_shape

-- the value above it
unfoldable pub above_text : ℕ → ℕ → ℤ → List ℕ
above_text x y value =
    text_of (words (codes "<text class=\"value\" x=\"") ∷ number x ∷ words (codes "\" y=\"") ∷ number y ∷ words (codes "\" dy=\"-9\">")
    ∷ signed value ∷ words (codes "</text>\n") ∷ [])

abbrev pub value_text : ℕ → ℕ → Note → List ℕ
value_text x y (Next value) = above_text x y value
value_text x y (Project value) = above_text x y value
value_text x y (End t) = []

unfoldable pub marble_front : ℕ → ℕ → ℕ → List ℕ → List ℕ
marble_front x y to shape =
    text_of (words (codes "<path class=\"marble\" d=\"M") ∷ number x ∷ words (codes " ") ∷ number y ∷ words shape
    ∷ words (codes "\"><title>") ∷ number to ∷ words (codes " was told") ∷ [])

unfoldable pub by_text : ℕ → List ℕ
by_text at = text_of (words (codes " by event ") ∷ number at ∷ words (codes "</title></path>\n") ∷ [])

unfoldable pub marble_text : ℕ → ℕ → ℕ → ℕ → Note → List ℕ
marble_text x y at to note = marble_front x y to (marble_shape note) ++ said_label note ++ by_text at ++ value_text x y note

-- places ------------------------------------------------------------------------------------------

-- the column of a place, so high
unfoldable pub column_front : ℕ → ℕ → ℕ → List ℕ
column_front x height place =
    text_of (words (codes "<path class=\"place\" d=\"M") ∷ number x ∷ words (codes " 20m-11 0h22v") ∷ number height
    ∷ words (codes "h-22z\"><title>") ∷ number place ∷ words (codes ":") ∷ [])

unfoldable pub column_text : ℕ → ℕ → ℕ → Event → List ℕ
column_text x height place event = column_front x height place ++ event_label event ++ codes "</title></path>\n"

-- its number above it
unfoldable pub axis_text : ℕ → ℕ → List ℕ
axis_text x place =
    text_of (words (codes "<text class=\"axis\" x=\"") ∷ number x ∷ words (codes "\" y=\"14\">") ∷ number place ∷ words (codes "</text>\n") ∷ [])

-- the grid of a track: a line on each side of a place
unfoldable pub grid_text : ℕ → ℕ → ℕ → List ℕ
grid_text x y to =
    text_of (words (codes "<path class=\"grid\" d=\"M") ∷ number x ∷ words (codes " ") ∷ number y ∷ words (codes "m-11 0H") ∷ number to
    ∷ words (codes "\"></path>\n") ∷ [])

-- the line through all tracks at the place whose event may not stand there
unfoldable pub broken_text : ℕ → ℕ → ℕ → List ℕ
broken_text x height place =
    text_of (words (codes "<path class=\"broken\" d=\"M") ∷ number x ∷ words (codes " 20v") ∷ number height
    ∷ words (codes "\"><title>unlawful: event ") ∷ number place ∷ words (codes "</title></path>\n") ∷ [])
