-- What stands in the tracks of a picture is content, whatever the drawing is.
use Rattle.rx_svg.proofs.Common.{◌≡◌, ℕ, Bool, true, Option, List, [], ◌∷◌, ◌++◌, ℤ, codes, nat_lt, decimal, refl, subst, not, ◌&&◌}
use Rattle.rx_svg.proofs.Common.{Event, Point, Drawing, Part, words, number, text_of, event_label, name_label, called_text, Look}
use Rattle.rx_svg.proofs.Common.{x_of, row_text, tick_text, note_marble, is_plain, IsContent, nothing, and_from}
use Rattle.rx_event.specs.declared.mail.Mail.{Mail}
use Rattle.rx_picture.specs.declared.row.Ending.{Ending}
use Rattle.rx_picture.specs.declared.row.Shape.{Shape}
use Rattle.rx_picture.specs.declared.row.Shape.TheVariants.{Node, Hub, Resource, Loan}
use Rattle.rx_picture.specs.declared.row.Row.{Row}
use Rattle.rx_svg.specs.Stroke.{dot_shape}
use Rattle.rx_svg.specs.Track.{y_of, has_track, has_column, is_root_of, stretch_of, label_class, label_front, label_element, ending_text, life_text, stretch_text, owned_look, loan_look}
use Rattle.rx_svg.specs.Track.{wait_look, owned_text, loan_text, wait_text, release_text, shape_text, row_head, in_track_text, emitted_text, done_text}
use Rattle.rx_svg.proofs.Characters.{decimal_is_plain, event_is_plain}
use Rattle.rx_svg.proofs.ShownNames.{named_is_content}
use Rattle.rx_svg.proofs.Markup.{Valued, are_plain, content_then}
use Rattle.rx_svg.proofs.Contents.{plain_content, content_append, content_if}
use Rattle.rx_svg.proofs.Elements.{valued, text_around, between, words_of, line_is_content, bar_is_content, mark_is_content, code_is_content, arrow_is_content}
use Rattle.rx_svg.proofs.Elements.{above_is_content, grid_is_content, marble_is_content}
use Rattle.std.proofs.Common.{rules}

called_is_content : (n : ℕ) (name : Option (List ℕ)) (made : Event) → IsContent (called_text n name made)
unfolding called_text
called_is_content n name made =
    content_append (decimal n ++ name_label name) (event_label made)
    (content_append (decimal n) (name_label name) (plain_content (decimal n) (decimal_is_plain n)) (named_is_content name))
    (plain_content (event_label made) (event_is_plain made))

label_is_content : (class : List ℕ) (x y n : ℕ) (name : Option (List ℕ)) (made : Event) → is_plain class ≡ true
    → IsContent (label_element class x y n name made)
unfolding label_element label_front text_of
label_is_content class x y n name made plain =
    let front : List Part =
    words (codes "<text class=\"") ∷ words class ∷ words (codes "\" x=\"") ∷ number x ∷ words (codes "\" y=\"") ∷ number y
    ∷ words (codes "\" dx=\"-11\" dy=\"-22\">") ∷ [] in
    let attributes : List Valued =
    valued (codes "class") (words class ∷ []) ∷ valued (codes "x") (number x ∷ []) ∷ valued (codes "y") (number y ∷ [])
    ∷ valued (codes "dx") (words (codes "-11") ∷ []) ∷ valued (codes "dy") (words (codes "-22") ∷ []) ∷ [] in
    subst IsContent (between front (words (codes "</text>\n") ∷ []) (called_text n name made))
    (text_around attributes (words (called_text n name made) ∷ []) (and_from _ _ (and_from _ _ plain refl) refl) refl
    (content_then (called_text n name made) [] (called_is_content n name made) nothing))

class_is_plain : (unreleased : Bool) → is_plain (label_class unreleased) ≡ true
class_is_plain x0 = search rules

head_is_content : (d : Drawing) (unreleased : Bool) (n end : ℕ) (name : Option (List ℕ)) (made : Event)
    → IsContent (row_head d unreleased n end name made)
head_is_content d unreleased n end name x5 =
    search (rules, nothing, content_append, grid_is_content, label_is_content, class_is_plain)

ending_is_content : (x y at : ℕ) (ending : Ending) → IsContent (ending_text x y at ending)
ending_is_content x y at x3 = search (rules, nothing, mark_is_content, codes, content_append, code_is_content)

life_is_content : (d : Drawing) (y n until end : ℕ) (ending : Ending) → IsContent (life_text d y n until end ending)
life_is_content d y n until end ending =
    search (rules, codes, content_if, nat_lt, content_append, line_is_content, ending_is_content, nothing)

stretch_is_content : (d : Drawing) (look : Look) (y after until end : ℕ) → are_plain (words_of look) ≡ true
    → IsContent (stretch_text d look y after until end)
stretch_is_content d look y after until end plain =
    search (rules, content_if, nat_lt, bar_is_content, nothing)

owned_is_plain : (unreleased : Bool) → are_plain (words_of (owned_look unreleased)) ≡ true
owned_is_plain x0 = search rules

loan_is_plain : (unreleased : Bool) → are_plain (words_of (loan_look unreleased)) ≡ true
loan_is_plain x0 = search rules

wait_is_plain : (unreleased : Bool) → are_plain (words_of (wait_look unreleased)) ≡ true
wait_is_plain x0 = search rules

owned_is_content : (d : Drawing) (unreleased : Bool) (y after until end : ℕ) → IsContent (owned_text d unreleased y after until end)
owned_is_content d unreleased y after until end = stretch_is_content d (owned_look unreleased) y after until end (owned_is_plain unreleased)

loan_is_content : (d : Drawing) (unreleased : Bool) (y after until end : ℕ) → IsContent (loan_text d unreleased y after until end)
loan_is_content d unreleased y after until end = stretch_is_content d (loan_look unreleased) y after until end (loan_is_plain unreleased)

wait_is_content : (d : Drawing) (unreleased : Bool) (y after until end : ℕ) → IsContent (wait_text d unreleased y after until end)
wait_is_content d unreleased y after until end = stretch_is_content d (wait_look unreleased) y after until end (wait_is_plain unreleased)

release_is_content : (d : Drawing) (unreleased : Bool) (y taken : ℕ) → IsContent (release_text d unreleased y taken)
release_is_content d unreleased y taken =
    search (rules, content_if, codes, arrow_is_content, mark_is_content)

shape_is_content : (d : Drawing) (unreleased : Bool) (y n end : ℕ) (shape : Shape) → IsContent (shape_text d unreleased y n end shape)
shape_is_content d unreleased y n end (Node until ending) = life_is_content d y n until end ending
shape_is_content d unreleased y n end Hub = line_is_content (codes "hub") (codes "a hub") (stretch_of d y n end end) refl
shape_is_content d unreleased y n end (Resource after until taken) =
    let waits = wait_text d unreleased y n after end in
    let waits_again = wait_text d unreleased y until taken end in
    let owned = owned_text d unreleased y after until end in
    content_append (waits ++ waits_again ++ owned) (release_text d unreleased y taken)
    (content_append (waits ++ waits_again) owned
    (content_append waits waits_again (wait_is_content d unreleased y n after end) (wait_is_content d unreleased y until taken end))
    (owned_is_content d unreleased y after until end)) (release_is_content d unreleased y taken)
shape_is_content d unreleased y n end (Loan resource until) = content_if (has_column d n) _ _ (loan_is_content d unreleased y n until end) nothing

pub row_is_content : (d : Drawing) (names : ℕ → Option (List ℕ)) (end : ℕ) (row : Row) → IsContent (row_text d names end row)
unfolding row_text
row_is_content d names end row =
    search (rules, content_append, head_is_content, shape_is_content)

in_track_is_content : (d : Drawing) (n place : ℕ) (class shape title : List ℕ) → are_plain (words class ∷ words shape ∷ words title ∷ []) ≡ true
    → IsContent (in_track_text d n place class shape title)
in_track_is_content d n place class shape title plain =
    content_if (has_track d n) _ _ (mark_is_content class shape title (x_of d place) (y_of d n) place plain) nothing

emitted_is_content : (d : Drawing) (n place : ℕ) (value : ℤ) → IsContent (emitted_text d n place value)
emitted_is_content d n place value =
    content_append _ _ (in_track_is_content d n place (codes "full") dot_shape (codes "emitted") refl)
    (content_if (has_track d n && not (is_root_of d n)) _ _ (above_is_content (x_of d place) (y_of d n) value) nothing)

done_is_content : (d : Drawing) (place : ℕ) (event : Event) → IsContent (done_text d place event)
done_is_content d place x2 = search (rules, in_track_is_content, codes, emitted_is_content, nothing)

pub tick_is_content : (d : Drawing) (point : Point) → IsContent (tick_text d point)
unfolding tick_text
tick_is_content d point = done_is_content d point.place point.event

pub told_is_content : (d : Drawing) (m : Mail) → IsContent (note_marble d m)
unfolding note_marble
told_is_content d m = marble_is_content (x_of d m.place) (y_of d m.to) m.place m.to m.note
