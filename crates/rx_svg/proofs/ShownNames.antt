-- A name is shown as content, whatever it is.
use Rattle.rx_svg.proofs.Common.{◌≡◌, ℕ, ◌<◌, Bool, true, false, List, [], codes, flat_map, Option, refl, subst, arith, append-nil}
use Rattle.rx_svg.proofs.Common.{not, ◌==◌, list_any, and_from, and_parts, or_cases, cond-true, byte_text, name_label, is_plain_character, stands_in_name}
use Rattle.rx_svg.proofs.Common.{is_predefined, reference_text, IsContent, nothing, reference_first, take, ◌++◌, ◌∷◌, length, is_plain, words, number, text_of}
use Rattle.std.proofs.Common.{◌-◌}
use Rattle.rx_svg.specs.Parts.{rest_text}
use Rattle.rx_svg.proofs.Characters.{both_are_plain}
use Rattle.rx_svg.proofs.Markup.{parts_are_plain}
use Rattle.std.proofs.Math.Bool.{◌||◌}
use Rattle.std.proofs.lemmas.Bool.{eqb-true, leb-true, cond-false, cases_Bool}
use Rattle.rx_svg.specs.Name.{escape, shown_name}
use Rattle.rx_svg.proofs.Contents.{plain_content, content_append, content_if, contents}
use Rattle.std.proofs.Common.{rules}

or_shape : (a b c d : Bool) → (((a || b) || c) || d) ≡ (a || (b || (c || (d || false))))
or_shape a b c d = grind arith

pub markup_by_or : (b : ℕ) → (((b == 60 || b == 62) || b == 38) || b == 34) ≡ list_any (λ m. b == m) (codes "<>&\"")
markup_by_or b = or_shape (b == 60) (b == 62) (b == 38) (b == 34)

plain_is_ascii : (b : ℕ) → is_plain_character b ≡ true → b < 128
plain_is_ascii b plain =
    search (rules, and_parts, not, list_any, codes, or_cases, eqb-true, leb-true)

name_is_plain : (b : ℕ) → stands_in_name b ≡ true → is_plain_character b ≡ true
name_is_plain b stands = (and_parts (is_plain_character b) (not (b == 10)) stands).0

pub name_is_ascii : (b : ℕ) → stands_in_name b ≡ true → b < 128
name_is_ascii b stands = plain_is_ascii b (name_is_plain b stands)

reference_is_content : (name : List ℕ) → is_predefined name ≡ true → IsContent (reference_text name)
reference_is_content name known = subst IsContent (append-nil (reference_text name)) (reference_first name [] known nothing)

escape_is_content : (b : ℕ) → IsContent (escape b)
escape_is_content b =
    content_if (b == 60) _ _ (reference_is_content (codes "lt") refl)
    (content_if (b == 62) _ _ (reference_is_content (codes "gt") refl)
    (content_if (b == 38) _ _ (reference_is_content (codes "amp") refl)
    (content_if (b == 34) _ _ (reference_is_content (codes "quot") refl) (plain_content (codes "?") refl))))

byte_is_content : (b : ℕ) → IsContent (byte_text b)
byte_is_content b = search (rules, cases_Bool, cond-true, plain_content, and_from, name_is_plain, cond-false, escape_is_content)

pub rest_is_plain : (n : ℕ) → is_plain (rest_text n) ≡ true
unfolding rest_text text_of
rest_is_plain n = both_are_plain (n == 0) [] (text_of (words (codes " and ") ∷ number n ∷ words (codes " more") ∷ [])) refl
    (parts_are_plain (words (codes " and ") ∷ number n ∷ words (codes " more") ∷ []) refl)

shown_is_content : (name : List ℕ) → IsContent (shown_name name)
unfolding shown_name
shown_is_content name =
    content_append (codes " (" ++ flat_map byte_text (take 200 name) ++ rest_text (length name - 200)) (codes ")")
    (content_append (codes " (" ++ flat_map byte_text (take 200 name)) (rest_text (length name - 200))
    (content_append (codes " (") (flat_map byte_text (take 200 name)) (plain_content (codes " (") refl) (contents byte_text byte_is_content (take 200 name)))
    (plain_content _ (rest_is_plain (length name - 200))))
    (plain_content (codes ")") refl)

pub named_is_content : (name : Option (List ℕ)) → IsContent (name_label name)
named_is_content x0 = search (rules, nothing, shown_is_content)
