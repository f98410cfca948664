-- The document of a drawing is well formed, whatever the drawing and the verdict are.
use Rattle.rx_svg.proofs.Common.{◌≡◌, ℕ, true, Option, List, [], ◌∷◌, ◌++◌, map, codes, flat_map, length, take, refl, sym, ap, subst, ◌∙◌, append_assoc}
use Rattle.rx_svg.proofs.Common.{append-nil, ◌==◌, and_from, Verdict, Point, Drawing, Part, words, number, text_of, x_of}
use Rattle.rx_svg.proofs.Common.{point_text, svg_text, is_plain, IsContent, nothing, IsWellFormed}
use Rattle.std.proofs.Common.{◌-◌, drop, rules}
use Rattle.rx_svg.specs.Page.{style_text, head_text, is_numbered, number_above, legend_front, lawful_text, unlawful_text, unsettled_text}
use Rattle.rx_svg.specs.Page.{verdict_label, count_text, unreleased_words, unreleased_text, unreleased_class, break_text, shares_text}
use Rattle.rx_svg.specs.Page.{verdict_line, unreleased_line, shares_line, under_text, tracks_text}
use Rattle.rx_svg.proofs.Characters.{both_are_plain}
use Rattle.rx_svg.proofs.Contents.{content_append, contents, content_if}
use Rattle.rx_svg.proofs.Markup.{Valued, text_from, text_from-append, attribute_of, element_parts, element_reads, tag_of, element_then, words_then}
use Rattle.rx_svg.proofs.Markup.{content_then, parts_are_plain, plain_parts, newline}
use Rattle.rx_svg.proofs.Elements.{valued, text_content, between, broken_is_content, column_is_content, axis_is_content}
use Rattle.rx_svg.proofs.Rows.{row_is_content, tick_is_content, told_is_content}
use Rattle.rx_svg.proofs.Legends.{legend_is_content}

-- under the tracks ---------------------------------------------------------------------------------

lawful_is_plain : (live held waiting : ℕ) → is_plain (lawful_text live held waiting) ≡ true
unfolding lawful_text text_of
lawful_is_plain live held waiting =
    search (rules, parts_are_plain)

unlawful_is_plain : (place : ℕ) → is_plain (unlawful_text place) ≡ true
unfolding unlawful_text text_of
unlawful_is_plain place =
    search (rules, parts_are_plain)

unsettled_is_plain : is_plain unsettled_text ≡ true
unfolding unsettled_text
unsettled_is_plain = refl

verdict_is_plain : (verdict : Verdict) → is_plain (verdict_label verdict) ≡ true
verdict_is_plain x0 = search (rules, lawful_is_plain, unlawful_is_plain, unsettled_is_plain)

shares_is_plain : (d : Drawing) (end : ℕ) → is_plain (shares_text d end) ≡ true
unfolding shares_text text_of
shares_is_plain d end =
    search (rules, parts_are_plain)

count_is_plain : (n : ℕ) (ending : List ℕ) → is_plain ending ≡ true → is_plain (count_text n ending) ≡ true
unfolding count_text text_of
count_is_plain n ending plain = parts_are_plain (number n ∷ words ending ∷ []) (and_from _ _ plain refl)

words_are_plain : (n : ℕ) → is_plain (unreleased_words n) ≡ true
words_are_plain n = both_are_plain (n == 1) _ _ refl refl

unreleased_is_plain : (n : ℕ) → is_plain (unreleased_text n) ≡ true
unreleased_is_plain n = both_are_plain (n == 0) _ _ refl (count_is_plain n (unreleased_words n) (words_are_plain n))

class_is_plain : (n : ℕ) → is_plain (unreleased_class n) ≡ true
class_is_plain n = both_are_plain (n == 0) _ _ refl refl

below_is_content : (class : List ℕ) (y : ℕ) (text : List ℕ) → is_plain class ≡ true → is_plain text ≡ true
    → IsContent (legend_front class y ++ text ++ codes "</text>\n")
unfolding legend_front text_of
below_is_content class y text of_class plain =
    let front : List Part =
    words (codes "<text class=\"") ∷ words class ∷ words (codes "\" x=\"10\" y=\"") ∷ number y ∷ words (codes "\">") ∷ [] in
    let attributes : List Valued =
    valued (codes "class") (words class ∷ []) ∷ valued (codes "x") (words (codes "10") ∷ []) ∷ valued (codes "y") (number y ∷ []) ∷ [] in
    subst IsContent (between front (words (codes "</text>\n") ∷ []) text)
    (text_content attributes (words text ∷ []) (and_from _ _ (and_from _ _ of_class refl) refl) refl (and_from _ _ plain refl))

verdict_is_content : (height : ℕ) (verdict : Verdict) → IsContent (verdict_line height verdict)
unfolding verdict_line
verdict_is_content height verdict = search (rules, below_is_content, verdict_is_plain)

unreleased_are_content : (height n : ℕ) → IsContent (unreleased_line height n)
unfolding unreleased_line
unreleased_are_content height n = below_is_content _ _ _ (class_is_plain n) (unreleased_is_plain n)

shares_are_content : (d : Drawing) (end height : ℕ) → IsContent (shares_line d end height)
unfolding shares_line
shares_are_content d end height = search (rules, below_is_content, shares_is_plain)

under_is_content : (d : Drawing) (end height : ℕ) (verdict : Verdict) → IsContent (under_text d end height verdict)
unfolding under_text
under_is_content d end height verdict =
    search (rules, content_append, verdict_is_content, unreleased_are_content, shares_are_content, legend_is_content)

-- the tracks ---------------------------------------------------------------------------------------

number_is_content : (d : Drawing) (place : ℕ) → IsContent (number_above d place)
number_is_content d place = content_if (is_numbered d place) _ _ (axis_is_content (x_of d place) place) nothing

point_is_content : (d : Drawing) (height : ℕ) (point : Point) → IsContent (point_text d height point)
unfolding point_text
point_is_content d height point =
    content_append _ _ (column_is_content (x_of d point.place) height point.place point.event) (number_is_content d point.place)

break_is_content : (d : Drawing) (height : ℕ) (verdict : Verdict) → IsContent (break_text d height verdict)
break_is_content d height x2 = search (rules, nothing, broken_is_content)

tracks_are_content : (d : Drawing) (names : ℕ → Option (List ℕ)) (end height : ℕ) (verdict : Verdict)
    → IsContent (tracks_text d names end height verdict)
unfolding tracks_text
tracks_are_content d names end height verdict =
    search (rules, flat_map, contents, point_is_content, row_is_content, tick_is_content, told_is_content, content_append, break_is_content)

-- the whole ---------------------------------------------------------------------------------------

-- what the style says between its tags, of which the first has 7 characters, and the other 9 with the end of the line
rules_text : List ℕ
rules_text = take (length style_text - 16) (drop 7 style_text)

style_is_content : IsContent style_text
unfolding rules_text
style_is_content =
    element_then (codes "style") [] (words rules_text ∷ []) (words (codes "\n") ∷ []) (tag_of (codes "style") [] refl refl refl)
    (plain_parts (words rules_text ∷ []) refl) newline

abbrev svg_attributes : ℕ → ℕ → List Valued
svg_attributes width height =
    valued (codes "xmlns") (words (codes "http://www.w3.org/2000/svg") ∷ []) ∷ valued (codes "width") (number width ∷ [])
    ∷ valued (codes "height") (number height ∷ []) ∷ valued (codes "viewBox")
    (words (codes "0 0 ") ∷ number width ∷ words (codes " ") ∷ number height ∷ []) ∷ []

abbrev svg_inside : List ℕ → List ℕ → List Part
svg_inside tracks under = words (codes "\n") ∷ words style_text ∷ words tracks ∷ words under ∷ []

inside_is_content : (tracks under : List ℕ) → IsContent tracks → IsContent under → IsContent (text_from (svg_inside tracks under))
inside_is_content tracks under p q =
    search (rules, words_then, codes, words, content_then, style_is_content, nothing)

four : (a b c d : List ℕ) → a ++ (b ++ (c ++ (d ++ []))) ≡ a ++ b ++ c ++ d
four a b c d = simp (append_assoc, append-nil)

document_reads : (width height : ℕ) (tracks under : List ℕ) → head_text width height ++ tracks ++ under ++ codes "</svg>\n"
    ≡ text_from (element_parts (codes "svg") (svg_attributes width height) (svg_inside tracks under)) ++ codes "\n"
unfolding head_text text_of
document_reads width height tracks under =
    let front : List Part =
    words (codes "<svg xmlns=\"http://www.w3.org/2000/svg\" width=\"") ∷ number width ∷ words (codes "\" height=\"") ∷ number height
    ∷ words (codes "\" viewBox=\"0 0 ") ∷ number width ∷ words (codes " ") ∷ number height ∷ words (codes "\">\n") ∷ words style_text ∷ [] in
    sym (four (text_from front) tracks under (codes "</svg>\n"))
    ∙ sym (text_from-append front (words tracks ∷ words under ∷ words (codes "</svg>\n") ∷ []))
    ∙ text_from-append (element_parts (codes "svg") (svg_attributes width height) (svg_inside tracks under)) (words (codes "\n") ∷ [])

document_is_well_formed : (width height : ℕ) (tracks under : List ℕ) → IsContent tracks → IsContent under
    → IsWellFormed (head_text width height ++ tracks ++ under ++ codes "</svg>\n")
document_is_well_formed width height tracks under p q =
    record {
      name = codes "svg";
      attributes = map attribute_of (svg_attributes width height);
      tag = tag_of (codes "svg") (svg_attributes width height) refl refl refl;
      inside = text_from (svg_inside tracks under);
      content = inside_is_content tracks under p q;
      space = codes "\n";
      white = refl;
      reads =
          document_reads width height tracks under
          ∙ ap (λ t. t ++ codes "\n") (element_reads (codes "svg") (svg_attributes width height) (svg_inside tracks under));
    }

pub svg_is_well_formed : (d : Drawing) (names : ℕ → Option (List ℕ)) (end : ℕ) (verdict : Verdict) → IsWellFormed (svg_text d names end verdict)
unfolding svg_text
svg_is_well_formed d names end verdict =
    search (rules, document_is_well_formed, tracks_are_content, under_is_content)
