-- The SVG document of a drawing, with the verdict of the audit.
use Rattle.std.specs.Prelude.{◌≡◌, ℕ, ◌+◌, ◌*◌, ◌%◌, ◌==◌, ◌||◌, Bool, min, nat_lt, if◌then◌else◌, Option, List, [], ◌∷◌, ◌++◌, codes, flat_map, length}
use Rattle.std.specs.Prelude.{slice_index_or}
use Rattle.rx_event.specs.declared.event.Event.{Event}
use Rattle.rx_audit.specs.declared.verdict.Verdict.{Verdict}
use Rattle.rx_audit.specs.declared.verdict.Verdict.TheVariants.{Lawful, Unlawful, Unsettled}
use Rattle.rx_audit.specs.Verdict.{IsVerdict}
use Rattle.rx_picture.specs.declared.points.Point.{Point}
use Rattle.rx_picture.specs.declared.drawing.Drawing.{Drawing}
use Rattle.rx_picture.specs.Drawn.{IsDrawing}
use Rattle.rx_svg.specs.Parts.{words, number, text_of}
use Rattle.rx_svg.specs.Stroke.{bar_shape, cross_shape, strokes_shape, check_shape, tick_shape, arrow_shape, dot_shape, square_shape, ring_shape}
use Rattle.rx_svg.specs.Stroke.{diamond_shape, struck_shape, line_sample, bar_sample, low_sample, flag_sample, sign_text, key_text, column_text, axis_text, broken_text}
use Rattle.rx_svg.specs.Track.{x_of, row_text, tick_text, note_marble, width}
use Rattle.rx_svg.specs.WellFormed.{IsWellFormed}

-- how many tracks and places are shown
abbrev pub tracks_shown : Drawing → ℕ → ℕ
tracks_shown d end = min (slice_index_or d.tracks.items end 0) 200

abbrev pub places_shown : Drawing → ℕ → ℕ
places_shown d end = min (slice_index_or d.columns.items end 0) 2000

-- all tracks together are so high
abbrev pub height_of : Drawing → ℕ → ℕ
height_of d end = 4 + 44 * tracks_shown d end

abbrev pub style_text : List ℕ
style_text =
    codes "<style>svg{background:#fff}text{font:12px monospace;fill:#222;pointer-events:none}"
    ++ codes ".axis,.value{font-family:sans-serif;text-anchor:middle}.value{letter-spacing:-.4px}"
    ++ codes ".label{paint-order:stroke;stroke:#fff;stroke-width:3}"
    ++ codes "path{stroke:#222;stroke-width:2;fill:none}.place{stroke:none;pointer-events:all}"
    ++ codes ".grid{stroke:#ddd;stroke-width:26;stroke-dasharray:1 21;pointer-events:none}.hub{stroke-dasharray:2 4}"
    ++ codes ".held,.full{fill:#222}.waiting{fill:#fff;stroke-dasharray:3 3}.marble{fill:#fff}"
    ++ codes "path.unreleased{stroke:#b45309}text.unreleased,.held.unreleased,.arrow{fill:#b45309}"
    ++ codes ".tick{stroke:#fff}.broken{stroke-width:5;stroke-dasharray:9 5}"
    ++ codes "@media(prefers-color-scheme:dark){svg{background:#111}text{fill:#eee}path{stroke:#eee}"
    ++ codes ".label{stroke:#111}.grid{stroke:#333}.held,.full{fill:#eee}.waiting,.marble{fill:#111}.tick{stroke:#111}"
    ++ codes "path.unreleased{stroke:#fbbf24}text.unreleased,.held.unreleased,.arrow{fill:#fbbf24}}</style>\n"

unfoldable pub head_text : ℕ → ℕ → List ℕ
head_text width height =
    text_of (words (codes "<svg xmlns=\"http://www.w3.org/2000/svg\" width=\"") ∷ number width ∷ words (codes "\" height=\"") ∷ number height
    ∷ words (codes "\" viewBox=\"0 0 ") ∷ number width ∷ words (codes " ") ∷ number height ∷ words (codes "\">\n") ∷ words style_text ∷ [])

-- a number stands above each place of one digit or two, and else above each fifth place that is shown
abbrev pub is_numbered : Drawing → ℕ → Bool
is_numbered d place = nat_lt place 100 || slice_index_or d.columns.items place 0 % 5 == 0

abbrev pub number_above : Drawing → ℕ → List ℕ
number_above d place = if is_numbered d place then axis_text (x_of d place) place else []

unfoldable pub point_text : Drawing → ℕ → Point → List ℕ
point_text d height point = column_text (x_of d point.place) height point.place point.event ++ number_above d point.place

-- what stands under the picture -------------------------------------------------------------------

-- a line of text of this class under the tracks, up to its words
unfoldable pub legend_front : List ℕ → ℕ → List ℕ
legend_front class y =
    text_of (words (codes "<text class=\"") ∷ words class ∷ words (codes "\" x=\"10\" y=\"") ∷ number y ∷ words (codes "\">") ∷ [])

-- how much of it is left at the end
unfoldable pub lawful_text : ℕ → ℕ → ℕ → List ℕ
lawful_text live held waiting =
    text_of (words (codes "lawful; at the end ") ∷ number live ∷ words (codes " open, ") ∷ number held ∷ words (codes " held, ")
    ∷ number waiting ∷ words (codes " waiting") ∷ [])

unfoldable pub unlawful_text : ℕ → List ℕ
unlawful_text place = text_of (words (codes "unlawful: event ") ∷ number place ∷ words (codes " may not follow those before it") ∷ [])

unfoldable pub unsettled_text : List ℕ
unsettled_text = codes "unsettled: an operator has something left to do"

abbrev pub verdict_label : Verdict → List ℕ
verdict_label (Lawful live held waiting) = lawful_text (length live.items) (length held.items) (length waiting.items)
verdict_label (Unlawful place) = unlawful_text place
verdict_label Unsettled = unsettled_text

-- how many resources are not released, if any is not
abbrev pub unreleased_words : ℕ → List ℕ
unreleased_words n = if n == 1 then codes " resource not released at the end" else codes " resources not released at the end"

unfoldable pub count_text : ℕ → List ℕ → List ℕ
count_text n ending = text_of (number n ∷ words ending ∷ [])

abbrev pub unreleased_text : ℕ → List ℕ
unreleased_text n = if n == 0 then codes "all resources released" else count_text n (unreleased_words n)

-- a line about such resources has their colour
abbrev pub unreleased_class : ℕ → List ℕ
unreleased_class n = if n == 0 then codes "under" else codes "unreleased"

abbrev pub break_text : Drawing → ℕ → Verdict → List ℕ
break_text d height (Unlawful place) = broken_text (x_of d place) height place
break_text d height _ = []

unfoldable pub shares_text : Drawing → ℕ → List ℕ
shares_text d end =
    text_of (number (tracks_shown d end) ∷ words (codes " of ") ∷ number d.all ∷ words (codes " tracks and ") ∷ number (places_shown d end)
    ∷ words (codes " of ") ∷ number end ∷ words (codes " places are drawn") ∷ [])

-- three lines under tracks that are so high
unfoldable pub verdict_line : ℕ → Verdict → List ℕ
verdict_line height verdict = legend_front (codes "under") (height + 46) ++ verdict_label verdict ++ codes "</text>\n"

unfoldable pub unreleased_line : ℕ → ℕ → List ℕ
unreleased_line height n = legend_front (unreleased_class n) (height + 64) ++ unreleased_text n ++ codes "</text>\n"

unfoldable pub shares_line : Drawing → ℕ → ℕ → List ℕ
shares_line d end height = legend_front (codes "under") (height + 82) ++ shares_text d end ++ codes "</text>\n"

-- the legend: each sign, and what it means --------------------------------------------------------

-- how nodes begin and end
unfoldable pub nodes_legend : ℕ → ℕ → List ℕ
nodes_legend x y =
    key_text (codes "life") line_sample (codes "open") x y ++ key_text (codes "mark") bar_shape (codes "completed") x (y + 18)
    ++ key_text (codes "mark") cross_shape (codes "error") x (y + 36) ++ key_text (codes "mark") strokes_shape (codes "unsubscribed") x (y + 54)
    ++ key_text (codes "hub") line_sample (codes "hub") x (y + 72) ++ key_text (codes "full") square_shape (codes "connected") x (y + 90)

-- what a FlatMap or Switch is to project, and what may not follow
unfoldable pub others_legend : ℕ → ℕ → List ℕ
others_legend x y =
    key_text (codes "marble") diamond_shape (codes "item to project") x y
    ++ key_text (codes "marble") struck_shape (codes "item declined") x (y + 18)
    ++ key_text (codes "broken") bar_shape (codes "unlawful from here") x (y + 36)

-- what is emitted and received
unfoldable pub items_legend : ℕ → ℕ → List ℕ
items_legend x y =
    key_text (codes "full") dot_shape (codes "item emitted") x y ++ key_text (codes "marble") ring_shape (codes "item received") x (y + 18)
    ++ key_text (codes "marble") flag_sample (codes "end received") x (y + 36)

-- how resources are held and released; a tick is shown on a bar
unfoldable pub resources_legend : ℕ → ℕ → List ℕ
resources_legend x y =
    key_text (codes "held") bar_sample (codes "resource held") x y ++ key_text (codes "held") low_sample (codes "lease") x (y + 18)
    ++ sign_text (codes "held") bar_sample x (y + 36) ++ key_text (codes "tick") tick_shape (codes "resource used") x (y + 36)
    ++ key_text (codes "waiting") bar_sample (codes "waits for release") x (y + 54) ++ key_text (codes "mark") check_shape (codes "released") x (y + 72)
    ++ key_text (codes "arrow unreleased") arrow_shape (codes "not released at the end") x (y + 90)

-- in two columns
unfoldable pub legend_text : ℕ → List ℕ
legend_text y = nodes_legend 20 y ++ others_legend 20 (y + 108) ++ items_legend 190 y ++ resources_legend 190 (y + 54)

-- three lines, and the legend below them
unfoldable pub under_text : Drawing → ℕ → ℕ → Verdict → List ℕ
under_text d end height verdict =
    verdict_line height verdict ++ unreleased_line height (length d.leaks.items) ++ shares_line d end height ++ legend_text (height + 106)

-- the whole ---------------------------------------------------------------------------------------

unfoldable pub tracks_text : Drawing → (ℕ → Option (List ℕ)) → ℕ → ℕ → Verdict → List ℕ
tracks_text d names end height verdict =
    flat_map (point_text d height) d.points.items ++ break_text d height verdict ++ flat_map (row_text d names end) d.rows.items
    ++ flat_map (note_marble d) d.marbles.items ++ flat_map (tick_text d) d.points.items

-- the document of a drawing of so many events, with the names of numbers
unfoldable pub svg_text : Drawing → (ℕ → Option (List ℕ)) → ℕ → Verdict → List ℕ
svg_text d names end verdict =
    head_text (width d names end d.rows.items) (height_of d end + 264) ++ tracks_text d names end (height_of d end) verdict
    ++ under_text d end (height_of d end) verdict ++ codes "</svg>\n"

-- the text is the document of the drawing of these events, with the names of numbers and the verdict, and a well-formed one
pub record IsPicture (h : List Event) (names : ℕ → Option (List ℕ)) (text : List ℕ) : Type 0 where
  pub drawing : Drawing
  pub is : IsDrawing h drawing
  pub verdict : Verdict
  pub judges : IsVerdict h verdict
  pub reads : text ≡ svg_text drawing names (length h) verdict
  pub well_formed : IsWellFormed text
