use Rattle.std.proofs.Common.{ℕ, List, ◌++◌, ap, ◌∙◌, append_assoc}
use Rattle.std.specs.Prelude.{codes, string_bytes}
use Rattle.rx_line.specs.Pieces.{cause_name, refused_text}
use Rattle.rx_line.proofs.pieces.put_refused.Goals as goal

pub returns-clause-bytes : goal.returns-clause-bytes
unfolding refused_text
returns-clause-bytes c =
    let begun : List ℕ = string_bytes c.args.text.now in
    let front : List ℕ = codes "{\"refused\":\"" in
    let name : List ℕ = cause_name c.args.why in
    let end : List ℕ = codes "\"}" in
    c.put-3.ensures.bytes ∙ ap (λ (t : List ℕ). t ++ end) (c.put-2.ensures.bytes ∙ (λ i. c.put.ensures.bytes i ++ c.cause_name.ensures.name i))
    ∙ append_assoc (begun ++ front) name end ∙ append_assoc begun front (name ++ end)
