-- Elements whose texts are made of fixed words and of numbers.
use Rattle.rx_svg.proofs.Common.{◌≡◌, ℕ, Bool, true, ◌&&◌, List, [], ◌∷◌, ◌++◌, map, flat_map, codes, refl, sym, ap, subst, ◌∙◌, append_assoc, append-nil}
use Rattle.rx_svg.proofs.Common.{list_all, and_from, and_parts, Part, words, number, signed, Attribute, IsTag, IsContent, nothing, text_first, element_first}
use Rattle.rx_svg.proofs.Common.{is_plain, is_tag_name, is_attribute, are_distinct, attribute_text, element_text}
use Rattle.std.proofs.Common.{ap₂, rules}
use Rattle.std.proofs.lemmas.List.Concat.{flat_map-append}
use Rattle.rx_svg.specs.Parts.{part_codes}
use Rattle.rx_svg.proofs.Characters.{plain_append, decimal_is_plain, signed_is_plain}
use Rattle.rx_svg.proofs.Contents.{content_append}

abbrev pub text_from : List Part → List ℕ
text_from parts = flat_map part_codes parts

pub text_from-append : (ps qs : List Part) → text_from (ps ++ qs) ≡ text_from ps ++ text_from qs
text_from-append = flat_map-append part_codes

-- plain parts -------------------------------------------------------------------------------------

abbrev pub is_plain_part : Part → Bool
is_plain_part (words w) = is_plain w
is_plain_part (number n) = true
is_plain_part (signed n) = true

abbrev pub are_plain : List Part → Bool
are_plain parts = list_all is_plain_part parts

part_is_plain : (part : Part) → is_plain_part part ≡ true → is_plain (part_codes part) ≡ true
part_is_plain x0 p = search (rules, decimal_is_plain, signed_is_plain)

pub parts_are_plain : (parts : List Part) → are_plain parts ≡ true → is_plain (text_from parts) ≡ true
parts_are_plain [] p = refl
parts_are_plain (part ∷ parts) p =
    let both = and_parts (is_plain_part part) (are_plain parts) p in
    plain_append (part_codes part) (text_from parts) (part_is_plain part both.0) (parts_are_plain parts both.1)

-- tags --------------------------------------------------------------------------------------------

-- an attribute whose value is made of parts
pub record Valued : Type 0 where
  pub name : List ℕ
  pub value : List Part

abbrev pub attribute_of : Valued → Attribute
attribute_of a = record { name = a.name; value = text_from a.value }

abbrev pub is_valued : Valued → Bool
is_valued a = is_tag_name a.name && are_plain a.value

each_is_attribute : (attributes : List Valued) → list_all is_valued attributes ≡ true → list_all is_attribute (map attribute_of attributes) ≡ true
each_is_attribute [] p = refl
each_is_attribute (a ∷ attributes) p =
    let both = and_parts (is_valued a) (list_all is_valued attributes) p in
    search (rules, and_parts, and_from, parts_are_plain, each_is_attribute attributes both.1)

abbrev pub attribute_parts : Valued → List Part
attribute_parts a = words (codes " ") ∷ words a.name ∷ words (codes "=\"") ∷ (a.value ++ words (codes "\"") ∷ [])

abbrev pub element_parts : List ℕ → List Valued → List Part → List Part
element_parts name attributes inside =
    words (codes "<") ∷ words name
    ∷ (flat_map attribute_parts attributes ++ words (codes ">") ∷ (inside ++ words (codes "</") ∷ words name ∷ words (codes ">") ∷ []))

-- how they read -----------------------------------------------------------------------------------

bracketed_5 : (a b c d e : List ℕ) → a ++ (b ++ (c ++ (d ++ (e ++ [])))) ≡ a ++ b ++ c ++ d ++ e
bracketed_5 a b c d e = simp (append_assoc, append-nil)

bracketed_8 : (a b c d e f g h : List ℕ) → a ++ (b ++ (c ++ (d ++ (e ++ (f ++ (g ++ (h ++ []))))))) ≡ (a ++ b ++ c ++ d) ++ e ++ (f ++ g ++ h)
bracketed_8 a b c d e f g h = simp (append_assoc, append-nil)

attribute_reads : (a : Valued) → text_from (attribute_parts a) ≡ attribute_text (attribute_of a)
attribute_reads a =
    ap (λ v. codes " " ++ (a.name ++ (codes "=\"" ++ v))) (text_from-append a.value (words (codes "\"") ∷ []))
    ∙ bracketed_5 (codes " ") a.name (codes "=\"") (text_from a.value) (codes "\"")

attributes_read : (attributes : List Valued) → text_from (flat_map attribute_parts attributes) ≡ flat_map attribute_text (map attribute_of attributes)
attributes_read [] = refl
attributes_read (a ∷ attributes) =
    text_from-append (attribute_parts a) (flat_map attribute_parts attributes) ∙ ap₂ (λ x y. x ++ y) (attribute_reads a) (attributes_read attributes)

pub element_reads : (name : List ℕ) (attributes : List Valued) (inside : List Part)
    → text_from (element_parts name attributes inside) ≡ element_text name (map attribute_of attributes) (text_from inside)
element_reads name attributes inside =
    let ending : List Part = words (codes "</") ∷ words name ∷ words (codes ">") ∷ [] in
    ap (λ t. codes "<" ++ (name ++ t)) (text_from-append (flat_map attribute_parts attributes) (words (codes ">") ∷ (inside ++ ending)))
    ∙ ap₂ (λ s t. codes "<" ++ (name ++ (s ++ (codes ">" ++ t)))) (attributes_read attributes) (text_from-append inside ending)
    ∙ bracketed_8 (codes "<") name (flat_map attribute_text (map attribute_of attributes)) (codes ">") (text_from inside) (codes "</") name (codes ">")

-- what they are -----------------------------------------------------------------------------------

pub tag_of : (name : List ℕ) (attributes : List Valued) → is_tag_name name ≡ true → list_all is_valued attributes ≡ true
    → are_distinct (map (λ a. a.name) (map attribute_of attributes)) ≡ true → IsTag name (map attribute_of attributes)
tag_of name attributes named each once = record { named = named; each = each_is_attribute attributes each; once = once }

pub element_then : (name : List ℕ) (attributes : List Valued) (inside rest : List Part) → IsTag name (map attribute_of attributes)
    → IsContent (text_from inside) → IsContent (text_from rest) → IsContent (text_from (element_parts name attributes inside ++ rest))
element_then name attributes inside rest tag within after =
    subst IsContent
    (ap (λ t. t ++ text_from rest) (sym (element_reads name attributes inside)) ∙ sym (text_from-append (element_parts name attributes inside) rest))
    (element_first name (map attribute_of attributes) (text_from inside) (text_from rest) tag within after)

pub words_then : (text : List ℕ) (rest : List Part) → is_plain text ≡ true → IsContent (text_from rest) → IsContent (text_from (words text ∷ rest))
words_then text rest plain after = text_first text (text_from rest) plain after

pub content_then : (text : List ℕ) (rest : List Part) → IsContent text → IsContent (text_from rest) → IsContent (text_from (words text ∷ rest))
content_then text rest content after = content_append text (text_from rest) content after

pub plain_parts : (parts : List Part) → are_plain parts ≡ true → IsContent (text_from parts)
plain_parts parts plain = subst IsContent (append-nil (text_from parts)) (text_first (text_from parts) [] (parts_are_plain parts plain) nothing)

-- the end of a line
pub newline : IsContent (text_from (words (codes "\n") ∷ []))
newline = plain_parts (words (codes "\n") ∷ []) refl
