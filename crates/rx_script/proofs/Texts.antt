-- Lines of one more answer.
use Rattle.rx_script.proofs.Common.{◌≡◌, ◌<◌, ◌+◌, ◌++◌, ◌∷◌, [], ℕ, List, length, take, get_or, ap, ◌∙◌, append-nil, append_assoc, length-take, arith}
use Rattle.rx_script.proofs.Common.{flat_map, take_more, flat_map-append, Answer, refused_line, refused_lines}
use Rattle.std.specs.List.{enumerate_from}
use Rattle.std.proofs.Common.{rules}

enumerate_from-push : {X : Type 0} (n : ℕ) (xs : List X) (x : X) → enumerate_from n (xs ++ x ∷ []) ≡ enumerate_from n xs ++ (n + length xs, x) ∷ []
enumerate_from-push n [] x = let e : n ≡ n + 0 = omega arith in ap (λ k. (k, x) ∷ []) e
enumerate_from-push n (y ∷ ys) x =
    let e : n + 1 + length ys ≡ n + length (y ∷ ys) = omega arith in
    ap (λ l. (n, y) ∷ l) (enumerate_from-push (n + 1) ys x ∙ ap (λ k. enumerate_from (n + 1) ys ++ (k, x) ∷ []) e)

-- one line more
pub refused_lines-more : (xs : List Answer) (i : ℕ) (d : Answer) → i < length xs
    → refused_lines (take (i + 1) xs) ≡ refused_lines (take i xs) ++ refused_line i (get_or xs i d)
refused_lines-more xs i d h =
    let more = take_more xs i d h in
    let long : 0 + length (take i xs) ≡ i = simp length-take (omega arith) in
    ap refused_lines more ∙ ap (flat_map (λ p. refused_line p.0 p.1)) (enumerate_from-push 0 (take i xs) (get_or xs i d))
    ∙ flat_map-append (λ p. refused_line p.0 p.1) (enumerate_from 0 (take i xs)) ((0 + length (take i xs), get_or xs i d) ∷ [])
    ∙ ap (λ l. refused_lines (take i xs) ++ l)
    (append-nil (refused_line (0 + length (take i xs)) (get_or xs i d)) ∙ ap (λ k. refused_line k (get_or xs i d)) long)

pub pushed_refused : (old : List ℕ) {mid : List ℕ} (new : List ℕ) (xs : List Answer) (i : ℕ) (d : Answer) → i < length xs
    → mid ≡ old ++ refused_lines (take i xs) → new ≡ mid ++ refused_line i (get_or xs i d) → new ≡ old ++ refused_lines (take (i + 1) xs)
pushed_refused old new xs i d h before here = search (rules, get_or, append_assoc, take, refused_lines-more)
