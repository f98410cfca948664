-- What may stand inside an element: one after the other, and where something is left out.
use Rattle.rx_svg.proofs.Common.{◌≡◌, ℕ, Bool, true, List, [], ◌∷◌, ◌++◌, flat_map, subst, append_assoc, append-nil, if◌then◌else◌, is_plain}
use Rattle.rx_svg.proofs.Common.{IsContent, nothing, text_first, reference_first, element_first}
use Rattle.std.proofs.Common.{rules}

pub plain_content : (text : List ℕ) → is_plain text ≡ true → IsContent text
plain_content text plain = subst IsContent (append-nil text) (text_first text [] plain nothing)

pub content_append : (a b : List ℕ) → IsContent a → IsContent b → IsContent (a ++ b)
content_append a b nothing q = q
content_append a b (text_first text rest plain p) q =
    search (rules, append_assoc, text_first, content_append rest b p q)
content_append a b (reference_first name rest known p) q =
    search (rules, append_assoc, reference_first, content_append rest b p q)
content_append a b (element_first name attributes inside rest tag within p) q =
    search (rules, append_assoc, element_first, content_append rest b p q)

pub contents : {X : Type 0} (f : X → List ℕ) → ((x : X) → IsContent (f x)) → (xs : List X) → IsContent (flat_map f xs)
contents f each [] = nothing
contents f each (x ∷ xs) = content_append (f x) (flat_map f xs) (each x) (contents f each xs)

pub content_if : (b : Bool) (x y : List ℕ) → IsContent x → IsContent y → IsContent (if b then x else y)
content_if x0 x y p q = search rules
