use Rattle.std.proofs.Common.{List, ℕ, take, sym, subst}
use Rattle.std.specs.Prelude.{IsUtf8}
use Rattle.rx_line.proofs.WordsLexed.{word_utf8}
use Rattle.rx_line.proofs.free.quoted_word_in.Goals as goal

pub unreachable-requires : goal.unreachable-requires
unreachable-requires c =
    let q : List ℕ = c.in_ok-quoted.quoted.now in
    let word : IsUtf8 (take c.name_len-len.result q) = subst (λ n. IsUtf8 (take n q)) (sym c.name_len-len.ensures.value) (word_utf8 q) in
    c.in-Err.ensures.cases.0 word
