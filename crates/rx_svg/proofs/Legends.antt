-- The legend is content, wherever it stands.
use Rattle.rx_svg.proofs.Common.{◌≡◌, ℕ, true, List, [], ◌∷◌, ◌++◌, codes, refl, ap, ◌∙◌, append_assoc, and_from, and_parts, words}
use Rattle.rx_svg.proofs.Common.{number, text_of, is_plain, IsContent}
use Rattle.rx_svg.specs.Stroke.{bar_shape, cross_shape, strokes_shape, check_shape, tick_shape, arrow_shape, dot_shape, square_shape, ring_shape}
use Rattle.rx_svg.specs.Stroke.{diamond_shape, struck_shape, flag_sample}
use Rattle.rx_svg.specs.Stroke.{sign_text, meaning_text, key_text, line_sample, bar_sample, low_sample}
use Rattle.rx_svg.specs.Page.{nodes_legend, others_legend, items_legend, resources_legend, legend_text}
use Rattle.rx_svg.proofs.Contents.{content_append}
use Rattle.rx_svg.proofs.Markup.{Valued, are_plain}
use Rattle.rx_svg.proofs.Elements.{valued, sign_then, text_content}
use Rattle.std.proofs.Common.{◌+◌, rules}

sign_is_content : (class shape : List ℕ) (x y : ℕ) → are_plain (words class ∷ words shape ∷ []) ≡ true → IsContent (sign_text class shape x y)
unfolding sign_text text_of
sign_is_content class shape x y plain =
    let of_class = and_parts (is_plain class) _ plain in
    let of_shape = and_parts (is_plain shape) _ of_class.1 in
    sign_then class (words (codes "M") ∷ number x ∷ words (codes " ") ∷ number y ∷ words shape ∷ []) of_class.0 (and_from _ _ of_shape.0 refl)

meaning_is_content : (meaning : List ℕ) (x y : ℕ) → is_plain meaning ≡ true → IsContent (meaning_text meaning x y)
unfolding meaning_text text_of
meaning_is_content meaning x y plain =
    let attributes : List Valued =
    valued (codes "x") (number x ∷ []) ∷ valued (codes "y") (number y ∷ []) ∷ valued (codes "dx") (words (codes "22") ∷ [])
    ∷ valued (codes "dy") (words (codes "4") ∷ []) ∷ [] in
    text_content attributes (words meaning ∷ []) refl refl (and_from _ _ plain refl)

key_is_content : (class shape meaning : List ℕ) (x y : ℕ) → are_plain (words class ∷ words shape ∷ []) ≡ true → is_plain meaning ≡ true
    → IsContent (key_text class shape meaning x y)
unfolding key_text
key_is_content class shape meaning x y plain words_plain =
    content_append (sign_text class shape x y) (meaning_text meaning x y) (sign_is_content class shape x y plain) (meaning_is_content meaning x y words_plain)

nodes_are_content : (x y : ℕ) → IsContent (nodes_legend x y)
unfolding nodes_legend
nodes_are_content x y =
    content_append _ _
    (content_append _ _
    (content_append _ _
    (content_append _ _
    (content_append _ _ (key_is_content (codes "life") line_sample (codes "open") x y refl refl)
    (key_is_content (codes "mark") bar_shape (codes "completed") x (y + 18) refl refl))
    (key_is_content (codes "mark") cross_shape (codes "error") x (y + 36) refl refl))
    (key_is_content (codes "mark") strokes_shape (codes "unsubscribed") x (y + 54) refl refl))
    (key_is_content (codes "hub") line_sample (codes "hub") x (y + 72) refl refl))
    (key_is_content (codes "full") square_shape (codes "connected") x (y + 90) refl refl)

others_are_content : (x y : ℕ) → IsContent (others_legend x y)
unfolding others_legend
others_are_content x y =
    content_append _ _
    (content_append _ _ (key_is_content (codes "marble") diamond_shape (codes "item to project") x y refl refl)
    (key_is_content (codes "marble") struck_shape (codes "item declined") x (y + 18) refl refl))
    (key_is_content (codes "broken") bar_shape (codes "unlawful from here") x (y + 36) refl refl)

items_are_content : (x y : ℕ) → IsContent (items_legend x y)
unfolding items_legend
items_are_content x y =
    content_append _ _
    (content_append _ _ (key_is_content (codes "full") dot_shape (codes "item emitted") x y refl refl)
    (key_is_content (codes "marble") ring_shape (codes "item received") x (y + 18) refl refl))
    (key_is_content (codes "marble") flag_sample (codes "end received") x (y + 36) refl refl)

resources_are_content : (x y : ℕ) → IsContent (resources_legend x y)
unfolding resources_legend
resources_are_content x y =
    content_append _ _
    (content_append _ _
    (content_append _ _
    (content_append _ _
    (content_append _ _
    (content_append _ _ (key_is_content (codes "held") bar_sample (codes "resource held") x y refl refl)
    (key_is_content (codes "held") low_sample (codes "lease") x (y + 18) refl refl))
    (sign_is_content (codes "held") bar_sample x (y + 36) refl))
    (key_is_content (codes "tick") tick_shape (codes "resource used") x (y + 36) refl refl))
    (key_is_content (codes "waiting") bar_sample (codes "waits for release") x (y + 54) refl refl))
    (key_is_content (codes "mark") check_shape (codes "released") x (y + 72) refl refl))
    (key_is_content (codes "arrow unreleased") arrow_shape (codes "not released at the end") x (y + 90) refl refl)

pub legend_is_content : (y : ℕ) → IsContent (legend_text y)
unfolding legend_text
legend_is_content y =
    search (rules, content_append, nodes_are_content, others_are_content, items_are_content, resources_are_content)

-- one text behind another, behind the same one
pub one_more : (s r a t b : List ℕ) → r ≡ s ++ a → t ≡ r ++ b → t ≡ s ++ (a ++ b)
one_more s r a t b p q = q ∙ ap (λ (u : List ℕ). u ++ b) p ∙ append_assoc s a b
