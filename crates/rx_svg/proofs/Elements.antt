-- The elements of a picture are content, whatever the numbers in them are.
use Rattle.rx_svg.proofs.Common.{◌≡◌, ℕ, true, List, [], ◌∷◌, ◌++◌, map, ℤ, codes, refl, subst, append_assoc, ◌==◌, list_all, and_from, and_parts}
use Rattle.rx_svg.proofs.Common.{Note, Event, Part, words, number, signed, text_of, event_label, said_label, Look, line_text}
use Rattle.rx_svg.proofs.Common.{bar_text, mark_text, code_text, is_plain, are_distinct, IsContent, nothing}
use Rattle.rx_svg.specs.Stroke.{Stretch, until_text, stretch_end, line_front, bar_front, arrow_shape, arrow_text, marble_shape}
use Rattle.rx_svg.specs.Stroke.{above_text, value_text, marble_front, by_text, marble_text, column_front, column_text, axis_text, grid_text, broken_text}
use Rattle.rx_svg.proofs.Characters.{both_are_plain, event_is_plain, note_is_plain}
use Rattle.rx_svg.proofs.Contents.{content_append}
use Rattle.rx_svg.proofs.Markup.{Valued, text_from, text_from-append, are_plain, attribute_of, is_valued, element_parts, tag_of, element_then}
use Rattle.rx_svg.proofs.Markup.{parts_are_plain, plain_parts, newline}
use Rattle.std.proofs.Common.{rules}

abbrev pub valued : List ℕ → List Part → Valued
valued name value = record { name = name; value = value }

-- a path of this class, with a title, at the end of a line
abbrev path_parts : List ℕ → List Part → List Part → List Part
path_parts class drawn title =
    element_parts (codes "path") (valued (codes "class") (words class ∷ []) ∷ valued (codes "d") drawn ∷ []) (element_parts (codes "title") [] title ++ [])

path_then : (class : List ℕ) (drawn title rest : List Part) → is_plain class ≡ true → are_plain drawn ≡ true → are_plain title ≡ true
    → IsContent (text_from rest) → IsContent (text_from (path_parts class drawn title ++ rest))
path_then class drawn title rest c d t after =
    let attributes : List Valued = valued (codes "class") (words class ∷ []) ∷ valued (codes "d") drawn ∷ [] in
    let titled : IsContent (text_from (element_parts (codes "title") [] title ++ [])) =
    element_then (codes "title") [] title [] (tag_of (codes "title") [] refl refl refl) (plain_parts title t) nothing in
    element_then (codes "path") attributes (element_parts (codes "title") [] title ++ []) rest
    (tag_of (codes "path") attributes refl (and_from _ _ (and_from _ _ c refl) (and_from _ _ d refl)) refl) titled after

-- one with nothing inside
pub sign_then : (class : List ℕ) (drawn : List Part) → is_plain class ≡ true → are_plain drawn ≡ true
    → IsContent (text_from (element_parts (codes "path") (valued (codes "class") (words class ∷ []) ∷ valued (codes "d") drawn ∷ []) []
    ++ words (codes "\n") ∷ []))
sign_then class drawn c d =
    let attributes : List Valued = valued (codes "class") (words class ∷ []) ∷ valued (codes "d") drawn ∷ [] in
    element_then (codes "path") attributes [] (words (codes "\n") ∷ [])
    (tag_of (codes "path") attributes refl (and_from _ _ (and_from _ _ c refl) (and_from _ _ d refl)) refl) nothing newline

-- a text of parts that are content, at the end of a line
pub text_around : (attributes : List Valued) (inside : List Part) → list_all is_valued attributes ≡ true
    → are_distinct (map (λ a. a.name) (map attribute_of attributes)) ≡ true → IsContent (text_from inside)
    → IsContent (text_from (element_parts (codes "text") attributes inside ++ words (codes "\n") ∷ []))
text_around attributes inside each once content =
    element_then (codes "text") attributes inside (words (codes "\n") ∷ []) (tag_of (codes "text") attributes refl each once) content newline

-- a text of plain parts
pub text_content : (attributes : List Valued) (inside : List Part) → list_all is_valued attributes ≡ true
    → are_distinct (map (λ a. a.name) (map attribute_of attributes)) ≡ true → are_plain inside ≡ true
    → IsContent (text_from (element_parts (codes "text") attributes inside ++ words (codes "\n") ∷ []))
text_content attributes inside each once plain = text_around attributes inside each once (plain_parts inside plain)

-- stretches ---------------------------------------------------------------------------------------

until_is_plain : (until end : ℕ) → is_plain (until_text until end) ≡ true
unfolding until_text text_of
until_is_plain until end = both_are_plain (until == end) _ _ refl (parts_are_plain (words (codes ", until event ") ∷ number until ∷ []) refl)

pub line_is_content : (class title : List ℕ) (s : Stretch) → are_plain (words class ∷ words title ∷ []) ≡ true → IsContent (line_text class title s)
unfolding line_text line_front stretch_end text_of
line_is_content class title s plain =
    let of_class = and_parts (is_plain class) _ plain in
    let of_title = and_parts (is_plain title) _ of_class.1 in
    let drawn : List Part = words (codes "M") ∷ number s.from ∷ words (codes " ") ∷ number s.y ∷ words (codes "H") ∷ number s.to ∷ [] in
    let told : List Part = words title ∷ words (codes " from event ") ∷ number s.after ∷ words (until_text s.until s.end) ∷ [] in
    let front : List Part =
    words (codes "<path class=\"") ∷ words class ∷ words (codes "\" d=\"M") ∷ number s.from ∷ words (codes " ") ∷ number s.y
    ∷ words (codes "H") ∷ number s.to ∷ words (codes "\"><title>") ∷ words title ∷ words (codes " from event ") ∷ number s.after ∷ [] in
    subst IsContent (text_from-append front (words (until_text s.until s.end) ∷ words (codes "</title></path>\n") ∷ []))
    (path_then class drawn told (words (codes "\n") ∷ []) of_class.0 refl
    (and_from _ _ of_title.0 (and_from _ _ (until_is_plain s.until s.end) refl)) newline)

-- the words of a bar
abbrev pub words_of : Look → List Part
words_of look = words look.class ∷ words look.title ∷ words look.above ∷ words look.height ∷ []

pub bar_is_content : (look : Look) (s : Stretch) → are_plain (words_of look) ≡ true → IsContent (bar_text look s)
unfolding bar_text bar_front stretch_end text_of
bar_is_content look s plain =
    let of_class = and_parts (is_plain look.class) _ plain in
    let of_title = and_parts (is_plain look.title) _ of_class.1 in
    let of_above = and_parts (is_plain look.above) _ of_title.1 in
    let of_height = and_parts (is_plain look.height) _ of_above.1 in
    let drawn : List Part =
    words (codes "M") ∷ number s.from ∷ words (codes " ") ∷ number s.y ∷ words (codes "m0 -") ∷ words look.above ∷ words (codes "H") ∷ number s.to
    ∷ words (codes "v") ∷ words look.height ∷ words (codes "H") ∷ number s.from ∷ words (codes "z") ∷ [] in
    let told : List Part = words look.title ∷ words (codes " from event ") ∷ number s.after ∷ words (until_text s.until s.end) ∷ [] in
    let front : List Part =
    words (codes "<path class=\"") ∷ words look.class ∷ words (codes "\" d=\"M") ∷ number s.from ∷ words (codes " ") ∷ number s.y
    ∷ words (codes "m0 -") ∷ words look.above ∷ words (codes "H") ∷ number s.to ∷ words (codes "v") ∷ words look.height
    ∷ words (codes "H") ∷ number s.from ∷ words (codes "z\"><title>") ∷ words look.title ∷ words (codes " from event ") ∷ number s.after ∷ [] in
    subst IsContent (text_from-append front (words (until_text s.until s.end) ∷ words (codes "</title></path>\n") ∷ []))
    (path_then look.class drawn told (words (codes "\n") ∷ []) of_class.0 (and_from _ _ of_above.0 (and_from _ _ of_height.0 refl))
    (and_from _ _ of_title.0 (and_from _ _ (until_is_plain s.until s.end) refl)) newline)

-- marks -------------------------------------------------------------------------------------------

pub mark_is_content : (class shape title : List ℕ) (x y at : ℕ) → are_plain (words class ∷ words shape ∷ words title ∷ []) ≡ true
    → IsContent (mark_text class shape title x y at)
unfolding mark_text text_of
mark_is_content class shape title x y at plain =
    let of_class = and_parts (is_plain class) _ plain in
    let of_shape = and_parts (is_plain shape) _ of_class.1 in
    let of_title = and_parts (is_plain title) _ of_shape.1 in
    let drawn : List Part = words (codes "M") ∷ number x ∷ words (codes " ") ∷ number y ∷ words shape ∷ [] in
    let told : List Part = words title ∷ words (codes " by event ") ∷ number at ∷ [] in
    path_then class drawn told (words (codes "\n") ∷ []) of_class.0 (and_from _ _ of_shape.0 refl) (and_from _ _ of_title.0 refl) newline

pub arrow_is_content : (x y : ℕ) → IsContent (arrow_text x y)
unfolding arrow_text text_of
arrow_is_content x y =
    let drawn : List Part = words (codes "M") ∷ number x ∷ words (codes " ") ∷ number y ∷ words arrow_shape ∷ [] in
    path_then (codes "arrow unreleased") drawn (words (codes "not released at the end") ∷ []) (words (codes "\n") ∷ []) refl refl refl newline

pub broken_is_content : (x height place : ℕ) → IsContent (broken_text x height place)
unfolding broken_text text_of
broken_is_content x height place =
    let drawn : List Part = words (codes "M") ∷ number x ∷ words (codes " 20v") ∷ number height ∷ [] in
    path_then (codes "broken") drawn (words (codes "unlawful: event ") ∷ number place ∷ []) (words (codes "\n") ∷ []) refl refl refl newline

pub code_is_content : (x y code : ℕ) → IsContent (code_text x y code)
unfolding code_text text_of
code_is_content x y code =
    let attributes : List Valued =
    valued (codes "x") (number x ∷ []) ∷ valued (codes "y") (number y ∷ []) ∷ valued (codes "dx") (words (codes "10") ∷ [])
    ∷ valued (codes "dy") (words (codes "4") ∷ []) ∷ [] in
    text_content attributes (number code ∷ []) refl refl refl

pub above_is_content : (x y : ℕ) (value : ℤ) → IsContent (above_text x y value)
unfolding above_text text_of
above_is_content x y value =
    let attributes : List Valued =
    valued (codes "class") (words (codes "value") ∷ []) ∷ valued (codes "x") (number x ∷ []) ∷ valued (codes "y") (number y ∷ [])
    ∷ valued (codes "dy") (words (codes "-9") ∷ []) ∷ [] in
    text_content attributes (signed value ∷ []) refl refl refl

value_is_content : (x y : ℕ) (note : Note) → IsContent (value_text x y note)
value_is_content x y x2 = search (rules, above_is_content, nothing)

-- marbles and places ------------------------------------------------------------------------------

shape_is_plain : (note : Note) → is_plain (marble_shape note) ≡ true
shape_is_plain x0 = search rules

-- a front, something plain, and an end
pub between : (front ending : List Part) (text : List ℕ) → text_from (front ++ words text ∷ ending) ≡ text_from front ++ text ++ text_from ending
between front ending text = search (rules, text_from-append, words, append_assoc, text_from)

pub marble_is_content : (x y at to : ℕ) (note : Note) → IsContent (marble_text x y at to note)
unfolding marble_text marble_front by_text text_of
marble_is_content x y at to note =
    let drawn : List Part = words (codes "M") ∷ number x ∷ words (codes " ") ∷ number y ∷ words (marble_shape note) ∷ [] in
    let told : List Part = number to ∷ words (codes " was told") ∷ words (said_label note) ∷ words (codes " by event ") ∷ number at ∷ [] in
    let front : List Part =
    words (codes "<path class=\"marble\" d=\"M") ∷ number x ∷ words (codes " ") ∷ number y ∷ words (marble_shape note)
    ∷ words (codes "\"><title>") ∷ number to ∷ words (codes " was told") ∷ [] in
    let ending : List Part = words (codes " by event ") ∷ number at ∷ words (codes "</title></path>\n") ∷ [] in
    let path =
    path_then (codes "marble") drawn told (words (codes "\n") ∷ []) refl (and_from _ _ (shape_is_plain note) refl)
    (and_from _ _ (note_is_plain note) refl) newline in
    content_append (text_from front ++ said_label note ++ text_from ending) (value_text x y note)
    (subst IsContent (between front ending (said_label note)) path) (value_is_content x y note)

pub column_is_content : (x height place : ℕ) (event : Event) → IsContent (column_text x height place event)
unfolding column_text column_front text_of
column_is_content x height place event =
    let drawn : List Part = words (codes "M") ∷ number x ∷ words (codes " 20m-11 0h22v") ∷ number height ∷ words (codes "h-22z") ∷ [] in
    let told : List Part = number place ∷ words (codes ":") ∷ words (event_label event) ∷ [] in
    let front : List Part =
    words (codes "<path class=\"place\" d=\"M") ∷ number x ∷ words (codes " 20m-11 0h22v") ∷ number height
    ∷ words (codes "h-22z\"><title>") ∷ number place ∷ words (codes ":") ∷ [] in
    subst IsContent (between front (words (codes "</title></path>\n") ∷ []) (event_label event))
    (path_then (codes "place") drawn told (words (codes "\n") ∷ []) refl refl (and_from _ _ (event_is_plain event) refl) newline)

pub axis_is_content : (x place : ℕ) → IsContent (axis_text x place)
unfolding axis_text text_of
axis_is_content x place =
    let attributes : List Valued =
    valued (codes "class") (words (codes "axis") ∷ []) ∷ valued (codes "x") (number x ∷ []) ∷ valued (codes "y") (words (codes "14") ∷ []) ∷ [] in
    text_content attributes (number place ∷ []) refl refl refl

pub grid_is_content : (x y to : ℕ) → IsContent (grid_text x y to)
unfolding grid_text text_of
grid_is_content x y to =
    let drawn : List Part = words (codes "M") ∷ number x ∷ words (codes " ") ∷ number y ∷ words (codes "m-11 0H") ∷ number to ∷ [] in
    sign_then (codes "grid") drawn refl refl
