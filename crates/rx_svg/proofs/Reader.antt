-- A reader that goes over a text once, from left to right. Every well-formed text passes: so what it refuses is not well formed.
use Rattle.rx_svg.proofs.Common.{◌≡◌, ℕ, Bool, true, false, ◌&&◌, not, nat_lt, List, [], ◌∷◌, ◌++◌, map, flat_map, length, codes, refl, sym, ap, ◌∙◌}
use Rattle.rx_svg.proofs.Common.{append_assoc, append-nil, ◌==◌, if◌then◌else◌, list_all, list_any, and_parts, and_from, false≢true, cond-true}
use Rattle.rx_svg.proofs.Common.{or_cases, Attribute, IsTag, IsContent, nothing, text_first, reference_first, element_first, IsWellFormed, is_plain_character}
use Rattle.rx_svg.proofs.Common.{is_plain, is_tag_name, is_attribute, are_distinct, is_predefined, reference_text, attribute_text, element_text}
use Rattle.std.proofs.Common.{fold, bytes_eq, rules}
use Rattle.std.proofs.lemmas.Bool.{or_parts, or_from, not-true, not_from_false, both_ways, false_from_ne_true}
use Rattle.std.proofs.lemmas.List.Sums.{fold-append}
use Rattle.std.proofs.lemmas.Slice.Eq.{bytes_eq-Decides}
use Rattle.rx_svg.specs.WellFormed.{is_letter, is_space}

-- a start tag so far: the elements that are open around it, innermost first, its name, and the attributes that were seen
pub record Tag : Type 0 where
  pub around : List (List ℕ)
  pub name : List ℕ
  pub seen : List (List ℕ)

-- where one stands in a text: inside of these elements, innermost first, or in a tag, with the letters of its name so far
pub data Standing : Type 0 where
  before : Standing
  content : List (List ℕ) → Standing
  in_reference : List (List ℕ) → List ℕ → Standing
  bracket : List (List ℕ) → Standing
  in_name : List (List ℕ) → List ℕ → Standing
  in_attribute : Tag → List ℕ → Standing
  at_value : Tag → Standing
  in_value : Tag → Standing
  after_value : Tag → Standing
  in_end : List (List ℕ) → List ℕ → Standing
  after : Standing
  refused : Standing

-- where one stands once an element inside of these is closed
abbrev pub left_in : List (List ℕ) → Standing
left_in [] = after
left_in (top ∷ around) = content (top ∷ around)

abbrev pub closed : List (List ℕ) → List ℕ → Standing
closed [] name = refused
closed (top ∷ around) name = if bytes_eq top name then left_in around else refused

abbrev pub is_new : List (List ℕ) → List ℕ → Bool
is_new seen name = not (list_any (bytes_eq name) seen)

abbrev pub with_seen : Tag → List ℕ → Tag
with_seen t name = record { around = t.around; name = t.name; seen = name ∷ t.seen }

abbrev pub bare : List (List ℕ) → List ℕ → Tag
bare around name = record { around = around; name = name; seen = [] }

-- one character more: 60 is `<`, 62 `>`, 38 `&`, 59 `;`, 47 `/`, 61 `=`, 34 the quotation mark, 32 a space
abbrev pub step : Standing → ℕ → Standing
step before c = if c == 60 then bracket [] else refused
step (content around) c =
    if is_plain_character c then content around
    else (if c == 60 then bracket around else (if c == 38 then in_reference around [] else refused))
step (in_reference around name) c =
    if is_letter c then in_reference around (name ++ c ∷ [])
    else (if c == 59 && is_predefined name then content around else refused)
step (bracket around) c = if is_letter c then in_name around (c ∷ []) else (if c == 47 then in_end around [] else refused)
step (in_name around name) c =
    if is_letter c then in_name around (name ++ c ∷ [])
    else (if c == 32 then in_attribute (bare around name) [] else (if c == 62 then content (name ∷ around) else refused))
step (in_attribute t name) c =
    if is_letter c then in_attribute t (name ++ c ∷ [])
    else (if c == 61 && (nat_lt 0 (length name) && is_new t.seen name) then at_value (with_seen t name) else refused)
step (at_value t) c = if c == 34 then in_value t else refused
step (in_value t) c = if is_plain_character c then in_value t else (if c == 34 then after_value t else refused)
step (after_value t) c = if c == 32 then in_attribute t [] else (if c == 62 then content (t.name ∷ t.around) else refused)
step (in_end around name) c = if is_letter c then in_end around (name ++ c ∷ []) else (if c == 62 then closed around name else refused)
step after c = if is_space c then after else refused
step refused c = refused

abbrev pub is_after : Standing → Bool
is_after after = true
is_after _ = false

abbrev pub passes : List ℕ → Bool
passes text = is_after (fold step before text)

-- characters --------------------------------------------------------------------------------------

kept : (test : ℕ → Bool) (s : Standing) → ((c : ℕ) → test c ≡ true → step s c ≡ s) → (text : List ℕ) → list_all test text ≡ true → fold step s text ≡ s
kept test s keeps [] p = refl
kept test s keeps (c ∷ text) p =
    let both = and_parts (test c) (list_all test text) p in
    ap (λ (r : Standing). fold step r text) (keeps c both.0) ∙ kept test s keeps text both.1

letters_read : (s : List ℕ → Standing) → ((name : List ℕ) (c : ℕ) → is_letter c ≡ true → step (s name) c ≡ s (name ++ c ∷ []))
    → (name rest : List ℕ) → list_all is_letter rest ≡ true → fold step (s name) rest ≡ s (name ++ rest)
letters_read s takes name [] p = sym (ap s (append-nil name))
letters_read s takes name (c ∷ rest) p =
    let both = and_parts (is_letter c) (list_all is_letter rest) p in
    search (rules, fold, name, append_assoc, letters_read s takes (name ++ c ∷ []) rest both.1)

-- a name that is one of some names of letters has letters only
letters_of : (name : List ℕ) (names : List (List ℕ)) → list_any (bytes_eq name) names ≡ true → list_all (list_all is_letter) names ≡ true
    → list_all is_letter name ≡ true
letters_of name [] found all = absurd (false≢true found)
letters_of name (m ∷ names) found all = search (rules, or_cases, bytes_eq, name, list_any, list_all, bytes_eq-Decides, and_parts, letters_of name names)

name_read : (around : List (List ℕ)) (name : List ℕ) → is_tag_name name ≡ true → fold step (bracket around) name ≡ in_name around name
name_read around [] p = absurd (false≢true p)
name_read around (c ∷ rest) p =
    let named = and_parts (nat_lt 0 (length (c ∷ rest))) (list_all is_letter (c ∷ rest)) p in
    let both = and_parts (is_letter c) (list_all is_letter rest) named.1 in
    ap (λ (r : Standing). fold step r rest) (cond-true (is_letter c) (in_name around (c ∷ [])) (if c == 47 then in_end around [] else refused) both.0)
    ∙ letters_read (in_name around) (λ name c letter. cond-true _ _ _ letter) (c ∷ []) rest both.1

-- attributes --------------------------------------------------------------------------------------

apart : (m n : List ℕ) → bytes_eq m n ≡ false → bytes_eq n m ≡ false
apart m n p =
    search (rules, false_from_ne_true, bytes_eq, both_ways, bytes_eq-Decides)

still_new : (seen : List (List ℕ)) (name : List ℕ) (names : List (List ℕ)) → list_all (is_new seen) names ≡ true
    → not (list_any (bytes_eq name) names) ≡ true → list_all (is_new (name ∷ seen)) names ≡ true
still_new seen name [] p q = refl
still_new seen name (n ∷ names) p q =
    let first = and_parts (is_new seen n) (list_all (is_new seen) names) p in
    let other = or_parts (bytes_eq name n) (list_any (bytes_eq name) names) (not-true _ q) in
    and_from _ _ (not_from_false _ (or_from _ _ (apart name n other.0) (not-true _ first.0)))
    (still_new seen name names first.1 (not_from_false _ other.1))

bracketed : (a b c d e f : List ℕ) → a ++ b ++ c ++ d ++ e ++ f ≡ a ++ (b ++ (c ++ (d ++ (e ++ f))))
bracketed a b c d e f = simp append_assoc

attribute_read : (t : Tag) (a : Attribute) (rest : List ℕ) → is_attribute a ≡ true → is_new t.seen a.name ≡ true
    → fold step (after_value t) (attribute_text a ++ rest) ≡ fold step (after_value (with_seen t a.name)) rest
attribute_read t a rest p new =
    let both = and_parts (is_tag_name a.name) (is_plain a.value) p in
    let named = and_parts (nat_lt 0 (length a.name)) (list_all is_letter a.name) both.0 in
    let u = with_seen t a.name in
    let quoted = codes "\"" ++ rest in
    ap (λ text. fold step (after_value t) text) (bracketed (codes " ") a.name (codes "=\"") a.value (codes "\"") rest)
    ∙ fold-append step (in_attribute t []) a.name (codes "=\"" ++ (a.value ++ quoted))
    ∙ ap (λ (r : Standing). fold step r (codes "=\"" ++ (a.value ++ quoted)))
    (letters_read (in_attribute t) (λ name c letter. cond-true _ _ _ letter) [] a.name named.1)
    ∙ ap (λ (r : Standing). fold step r (codes "\"" ++ (a.value ++ quoted))) (cond-true _ (at_value u) refused (and_from _ _ named.0 new))
    ∙ fold-append step (in_value u) a.value quoted
    ∙ ap (λ (r : Standing). fold step r quoted) (kept is_plain_character (in_value u) (λ c plain. cond-true _ _ _ plain) a.value both.1)

attributes_read : (t : Tag) (attributes : List Attribute) → list_all is_attribute attributes ≡ true
    → list_all (is_new t.seen) (map (λ a. a.name) attributes) ≡ true → are_distinct (map (λ a. a.name) attributes) ≡ true
    → fold step (after_value t) (flat_map attribute_text attributes ++ codes ">") ≡ content (t.name ∷ t.around)
attributes_read t [] p q d = refl
attributes_read t (a ∷ attributes) p q d =
    let each = and_parts (is_attribute a) (list_all is_attribute attributes) p in
    let new = and_parts (is_new t.seen a.name) (list_all (is_new t.seen) (map (λ b. b.name) attributes)) q in
    let once = and_parts (not (list_any (bytes_eq a.name) (map (λ b. b.name) attributes))) (are_distinct (map (λ b. b.name) attributes)) d in
    ap (λ text. fold step (after_value t) text) (append_assoc (attribute_text a) (flat_map attribute_text attributes) (codes ">"))
    ∙ attribute_read t a (flat_map attribute_text attributes ++ codes ">") each.0 new.0
    ∙ attributes_read (with_seen t a.name) attributes each.1 (still_new t.seen a.name (map (λ b. b.name) attributes) new.1 once.0) once.1

none_seen : (names : List (List ℕ)) → list_all (is_new []) names ≡ true
none_seen [] = refl
none_seen (n ∷ names) = none_seen names

-- after the name of a tag one stands as after a value
as_after_value : (around : List (List ℕ)) (name : List ℕ) (attributes : List Attribute)
    → fold step (in_name around name) (flat_map attribute_text attributes ++ codes ">")
    ≡ fold step (after_value (bare around name)) (flat_map attribute_text attributes ++ codes ">")
as_after_value around name [] = refl
as_after_value around name (a ∷ attributes) = refl

-- elements ----------------------------------------------------------------------------------------

bracketed_element : (a b c d e f g h : List ℕ) → (a ++ b ++ c ++ d) ++ e ++ (f ++ g ++ h) ≡ a ++ (b ++ ((c ++ d) ++ (e ++ (f ++ (g ++ h)))))
bracketed_element a b c d e f g h = simp append_assoc

end_read : (around : List (List ℕ)) (name : List ℕ) → is_tag_name name ≡ true
    → fold step (content (name ∷ around)) (codes "</" ++ (name ++ codes ">")) ≡ left_in around
end_read around name p =
    let named = and_parts (nat_lt 0 (length name)) (list_all is_letter name) p in
    fold-append step (in_end (name ∷ around) []) name (codes ">")
    ∙ ap (λ (r : Standing). fold step r (codes ">")) (letters_read (in_end (name ∷ around)) (λ so_far c letter. cond-true _ _ _ letter) [] name named.1)
    ∙ cond-true _ (left_in around) refused ((bytes_eq-Decides name name).1 refl)

-- from behind the bracket of its start tag
rest_read : (around : List (List ℕ)) (name : List ℕ) (attributes : List Attribute) (inside : List ℕ) → IsTag name attributes
    → fold step (content (name ∷ around)) inside ≡ content (name ∷ around)
    → fold step (bracket around) (name ++ ((flat_map attribute_text attributes ++ codes ">") ++ (inside ++ (codes "</" ++ (name ++ codes ">")))))
    ≡ left_in around
rest_read around name attributes inside tag within =
    search (rules, codes, name, flat_map, fold-append, bracket, around, fold, name_read, in_name, as_after_value, attributes_read, none_seen, map, content, end_read)

element_shape : (name : List ℕ) (attributes : List Attribute) (inside : List ℕ) → element_text name attributes inside
    ≡ codes "<" ++ (name ++ ((flat_map attribute_text attributes ++ codes ">") ++ (inside ++ (codes "</" ++ (name ++ codes ">")))))
element_shape name attributes inside =
    search (rules, bracketed_element, codes, name, flat_map)

reference_read : (around : List (List ℕ)) (name : List ℕ) → is_predefined name ≡ true
    → fold step (content around) (reference_text name) ≡ content around
reference_read around name known =
    search (rules, fold-append, content, around, codes, name, fold, letters_read, in_reference, cond-true, letters_of, refused, and_from)

content_read : (text : List ℕ) → IsContent text → (top : List ℕ) (around : List (List ℕ))
    → fold step (content (top ∷ around)) text ≡ content (top ∷ around)
content_read text nothing = λ top around. refl
content_read text (text_first plain rest p more) = λ top around.
    search (rules, fold-append, content, around, fold, kept, cond-true, content_read rest more top around)
content_read text (reference_first name rest known more) = λ top around.
    search (rules, fold-append, content, around, name, fold, reference_read, content_read rest more top around)
content_read text (element_first name attributes inside rest tag within more) = λ top around.
    search (rules, fold-append, content, around, name, fold, element_shape, rest_read, content_read inside within name (top ∷ around), content_read rest more top around)

pub well_formed_passes : (text : List ℕ) → IsWellFormed text → passes text ≡ true
well_formed_passes text w =
    search (rules, fold-append, before, fold, element_shape, rest_read, content_read, kept, cond-true)
