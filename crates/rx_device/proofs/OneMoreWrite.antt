-- One more write of a text, after the front that is written.
use Rattle.std.proofs.Common.{◌≡◌, ◌-◌, ◌+◌, ◌++◌, ◌<◌, ◌||◌, ◌==◌, ℕ, Bool, List, length, take, drop, subst, sym, ap, ◌∙◌, rules}
use Rattle.std.specs.Prelude.{Option}
use Rattle.std.specs.Io.KnownBytes.{Appends}
use Rattle.std.proofs.lemmas.Bool.{ne_eqb}
use Rattle.std.proofs.lemmas.List.{take_rest}
use Rattle.std.proofs.Math.Seq.{take-add}
use Rattle.std.proofs.KnownBytes.{Appends-trans}

pub written_more : (a b c : Option (List ℕ)) (text : List ℕ) (done n : ℕ)
    → Appends a b (take done text) → Appends b c (take n (take (length text - done) (drop done text))) → Appends a c (take (done + n) text)
written_more a b c text done n p q =
    let joined : take done text ++ take n (take (length text - done) (drop done text)) ≡ take (done + n) text =
    ap (λ (l : List ℕ). take done text ++ take n l) (take_rest text done) ∙ sym (take-add done n text) in
    subst (Appends a c) joined (Appends-trans a b c _ _ p q)

or_moved : (b : Bool) (n : ℕ) → 0 < n → (b || n == 0) ≡ b
or_moved x0 n some = search (rules, ne_eqb)

-- a writer that took bytes is one that stopped where it was before
pub moves_on : (start old new : Bool) (n : ℕ) → 0 < n → new ≡ (old || n == 0) → old ≡ start → new ≡ start
moves_on start old new n some noted so_far = noted ∙ or_moved old n some ∙ so_far
