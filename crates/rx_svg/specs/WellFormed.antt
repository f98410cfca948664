-- When a text is a well-formed document, by the grammar of XML: World Wide Web Consortium, "Extensible Markup Language
-- (XML) 1.0", https://www.w3.org/TR/xml/, sections 2.1 to 2.4, 3, 3.1, 4.1 and 4.6. Only elements, attributes, plain
-- characters and references to the entities that need no declaration are admitted here. Comments, declarations,
-- instructions and elements with no end tag are not, so that each text which is well formed here is so there.
use Rattle.std.specs.Prelude.{◌≡◌, ℕ, Bool, true, not, ◌&&◌, ◌||◌, ◌==◌, nat_le, nat_lt, IsTrue, List, [], ◌∷◌, ◌++◌, codes, length, map, flat_map, bytes_eq}
use Rattle.std.specs.List.{list_all, list_any}

-- characters --------------------------------------------------------------------------------------

-- a printable character of ASCII or the end of a line, but none of those that markup is made of
abbrev pub is_plain_character : ℕ → Bool
is_plain_character c = (c == 10 || (nat_le 32 c && nat_le c 126)) && not (list_any (λ m. c == m) (codes "<>&\""))

abbrev pub is_plain : List ℕ → Bool
is_plain text = list_all is_plain_character text

abbrev pub is_letter : ℕ → Bool
is_letter c = (nat_le 65 c && nat_le c 90) || (nat_le 97 c && nat_le c 122)

-- a name is one letter or more
abbrev pub is_tag_name : List ℕ → Bool
is_tag_name name = nat_lt 0 (length name) && list_all is_letter name

-- a space or the end of a line
abbrev pub is_space : ℕ → Bool
is_space c = c == 32 || c == 10

-- references --------------------------------------------------------------------------------------

-- the entities that need no declaration: each is one character of markup, or the apostrophe
abbrev pub is_predefined : List ℕ → Bool
is_predefined name = list_any (bytes_eq name) (codes "lt" ∷ codes "gt" ∷ codes "amp" ∷ codes "apos" ∷ codes "quot" ∷ [])

abbrev pub reference_text : List ℕ → List ℕ
reference_text name = codes "&" ++ name ++ codes ";"

-- tags --------------------------------------------------------------------------------------------

pub record Attribute : Type 0 where
  pub name : List ℕ
  pub value : List ℕ

abbrev pub attribute_text : Attribute → List ℕ
attribute_text a = codes " " ++ a.name ++ codes "=\"" ++ a.value ++ codes "\""

abbrev pub start_tag : List ℕ → List Attribute → List ℕ
start_tag name attributes = codes "<" ++ name ++ flat_map attribute_text attributes ++ codes ">"

abbrev pub end_tag : List ℕ → List ℕ
end_tag name = codes "</" ++ name ++ codes ">"

abbrev pub is_attribute : Attribute → Bool
is_attribute a = is_tag_name a.name && is_plain a.value

-- no name stands twice
abbrev pub are_distinct : List (List ℕ) → Bool
are_distinct [] = true
are_distinct (name ∷ names) = not (list_any (bytes_eq name) names) && are_distinct names

-- an element may have this name and these attributes
pub record IsTag (name : List ℕ) (attributes : List Attribute) : Type 0 where
  pub named : IsTrue (is_tag_name name)
  pub each : IsTrue (list_all is_attribute attributes)
  pub once : IsTrue (are_distinct (map (λ a. a.name) attributes))

-- elements ----------------------------------------------------------------------------------------

-- a start tag, what stands inside, and the end tag of the same name
abbrev pub element_text : List ℕ → List Attribute → List ℕ → List ℕ
element_text name attributes inside = start_tag name attributes ++ inside ++ end_tag name

-- what may stand inside an element: plain characters, references and elements, one after the other
pub data IsContent : List ℕ → Type 0 where
  nothing : IsContent []
  text_first : (text rest : List ℕ) → IsTrue (is_plain text) → IsContent rest → IsContent (text ++ rest)
  reference_first : (name rest : List ℕ) → IsTrue (is_predefined name) → IsContent rest → IsContent (reference_text name ++ rest)
  element_first : (name : List ℕ) (attributes : List Attribute) (inside rest : List ℕ)
      → IsTag name attributes → IsContent inside → IsContent rest
      → IsContent (element_text name attributes inside ++ rest)

-- a document is one element, with no more than white space after it
pub record IsWellFormed (text : List ℕ) : Type 0 where
  pub name : List ℕ
  pub attributes : List Attribute
  pub tag : IsTag name attributes
  pub inside : List ℕ
  pub content : IsContent inside
  pub space : List ℕ
  pub white : IsTrue (list_all is_space space)
  pub reads : text ≡ element_text name attributes inside ++ space
