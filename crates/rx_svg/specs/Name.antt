-- How a name stands in a picture.
use Rattle.std.specs.Prelude.{ℕ, ◌-◌, Bool, not, ◌&&◌, ◌==◌, Option, Some, None, List, [], ◌∷◌, ◌++◌, codes, flat_map, length, take, if◌then◌else◌}
use Rattle.rx_svg.specs.Parts.{most_shown, rest_text}
use Rattle.rx_svg.specs.WellFormed.{is_plain_character}

-- markup stands as a reference, and each byte of a control character or of a letter beyond ASCII as a question mark
abbrev pub escape : ℕ → List ℕ
escape b =
    if b == 60 then codes "&lt;"
    else if b == 62 then codes "&gt;"
    else if b == 38 then codes "&amp;"
    else if b == 34 then codes "&quot;"
    else codes "?"

-- a plain character stands as it is, but not the end of a line, which is a control character
abbrev pub stands_in_name : ℕ → Bool
stands_in_name b = is_plain_character b && not (b == 10)

abbrev pub byte_text : ℕ → List ℕ
byte_text b = if stands_in_name b then b ∷ [] else escape b

-- what stands behind a number: the front of its name, in brackets
unfoldable pub shown_name : List ℕ → List ℕ
shown_name name = codes " (" ++ flat_map byte_text (take most_shown name) ++ rest_text (length name - most_shown) ++ codes ")"

abbrev pub name_label : Option (List ℕ) → List ℕ
name_label None = []
name_label (Some name) = shown_name name
