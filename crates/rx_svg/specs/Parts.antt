-- Texts that are made of fixed words and of numbers, and where a long one is cut.
use Rattle.std.specs.Prelude.{ℕ, ℤ, ◌==◌, if◌then◌else◌, List, [], ◌∷◌, codes, flat_map}
use Rattle.std.specs.Fmt.{decimal, signed_decimal}
use Rattle.rx_svg.specs.declared.pieces.Piece.{Piece}
use Rattle.rx_svg.specs.declared.pieces.Piece.TheVariants.{Words, Number, Signed}

pub data Part : Type 0 where
  words : List ℕ → Part
  number : ℕ → Part
  signed : ℤ → Part

abbrev pub part_codes : Part → List ℕ
part_codes (words w) = w
part_codes (number n) = decimal n
part_codes (signed n) = signed_decimal n

unfoldable pub text_of : List Part → List ℕ
text_of parts = flat_map part_codes parts

-- of a list so many numbers stand in a picture, and of a name so many bytes
abbrev pub most_shown : ℕ
most_shown = 200

-- how many more there are, if there are more
unfoldable pub rest_text : ℕ → List ℕ
rest_text n = if n == 0 then [] else text_of (words (codes " and ") ∷ number n ∷ words (codes " more") ∷ [])

abbrev pub part_of : Piece → Part
part_of (Words w) = words w.now
part_of (Number n) = number n
part_of (Signed n) = signed n

abbrev pub piece_text : Piece → List ℕ
piece_text piece = part_codes (part_of piece)
