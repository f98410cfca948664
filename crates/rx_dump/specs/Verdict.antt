-- The text of a verdict.
use Rattle.std.specs.Prelude.{◌++◌, codes}
use Rattle.rx_dump.specs.Imports.{ℕ, Bool, true, false, List, flat_map, decimal, Verdict}
use Rattle.rx_audit.specs.declared.verdict.Verdict.TheVariants.{Lawful, Unlawful, Unsettled}

abbrev pub number_text : ℕ → List ℕ
number_text n = codes " " ++ decimal n

-- what the numbers are of, and each number after a space
unfoldable pub numbers_line : List ℕ → List ℕ → List ℕ
numbers_line name numbers = name ++ codes ":" ++ flat_map number_text numbers ++ codes "\n"

unfoldable pub verdict_text : Verdict → List ℕ
verdict_text (Lawful live held waiting) =
    codes "lawful\n" ++ numbers_line (codes "live") live.items ++ numbers_line (codes "held") held.items
    ++ numbers_line (codes "waiting") waiting.items
verdict_text (Unlawful place) = codes "unlawful " ++ decimal place ++ codes "\n"
verdict_text Unsettled = codes "unsettled\n"

abbrev pub is_lawful : Verdict → Bool
is_lawful (Lawful live held waiting) = true
is_lawful (Unlawful place) = false
is_lawful Unsettled = false
