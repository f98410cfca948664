-- The text of a verdict on a history whose numbers have no names.
use Rattle.std.proofs.Common.{◌≡◌, ℕ, List, [], ◌∷◌, ◌++◌, codes, flat_map, refl, ap, ◌∙◌, append-nil, decimal}
use Rattle.std.specs.Prelude.{None}
use Rattle.rx_audit.specs.declared.verdict.Verdict.{Verdict}
use Rattle.rx_audit.specs.declared.verdict.Verdict.TheVariants.{Lawful, Unlawful, Unsettled}
use Rattle.rx_dump.specs.Verdict.{number_text, numbers_line, verdict_text}
use Rattle.rx_dump.specs.NamedVerdict.{label_text, entry_text, named_line, named_verdict}

entry_alone : (n : ℕ) → entry_text (λ _. None) n ≡ number_text n
unfolding label_text
entry_alone n = ap (λ (t : List ℕ). codes " " ++ t) (append-nil (decimal n))

entries_alone : (numbers : List ℕ) → flat_map (entry_text (λ _. None)) numbers ≡ flat_map number_text numbers
entries_alone [] = refl
entries_alone (n ∷ ns) =
    ap (λ (t : List ℕ). t ++ flat_map (entry_text (λ _. None)) ns) (entry_alone n)
    ∙ ap (λ (t : List ℕ). number_text n ++ t) (entries_alone ns)

line_alone : (word numbers : List ℕ) → named_line (λ _. None) word numbers ≡ numbers_line word numbers
unfolding named_line numbers_line
line_alone word numbers = ap (λ (t : List ℕ). word ++ codes ":" ++ t ++ codes "\n") (entries_alone numbers)

lines_alone : {live held waiting live' held' waiting' : List ℕ} → live ≡ live' → held ≡ held' → waiting ≡ waiting'
    → codes "lawful\n" ++ live ++ held ++ waiting ≡ codes "lawful\n" ++ live' ++ held' ++ waiting'
lines_alone p q r = cc

pub alone : (v : Verdict) → named_verdict (λ _. None) v ≡ verdict_text v
unfolding named_verdict verdict_text
alone (Lawful live held waiting) =
    lines_alone (line_alone (codes "live") live.items) (line_alone (codes "held") held.items) (line_alone (codes "waiting") waiting.items)
alone (Unlawful place) = refl
alone Unsettled = refl
