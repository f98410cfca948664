-- The text of a verdict, in which the name of each number stands behind it.
use Rattle.std.specs.Prelude.{ℕ, Option, Some, None, List, [], ◌++◌, codes, flat_map}
use Rattle.std.specs.Fmt.{decimal}
use Rattle.serde_json.specs.Data.{string}
use Rattle.serde_json.specs.Written.{compact_text}
use Rattle.rx_audit.specs.declared.verdict.Verdict.{Verdict}
use Rattle.rx_audit.specs.declared.verdict.Verdict.TheVariants.{Lawful, Unlawful, Unsettled}

-- behind a number its name, as a JSON string
abbrev pub name_after_number : Option (List ℕ) → List ℕ
name_after_number None = []
name_after_number (Some name) = codes " " ++ compact_text (string name)

unfoldable pub label_text : (ℕ → Option (List ℕ)) → ℕ → List ℕ
label_text names n = decimal n ++ name_after_number (names n)

abbrev pub entry_text : (ℕ → Option (List ℕ)) → ℕ → List ℕ
entry_text names n = codes " " ++ label_text names n

-- what the numbers are of, and each number with its name after a space
unfoldable pub named_line : (ℕ → Option (List ℕ)) → List ℕ → List ℕ → List ℕ
named_line names word numbers = word ++ codes ":" ++ flat_map (entry_text names) numbers ++ codes "\n"

unfoldable pub named_verdict : (ℕ → Option (List ℕ)) → Verdict → List ℕ
named_verdict names (Lawful live held waiting) =
    codes "lawful\n" ++ named_line names (codes "live") live.items ++ named_line names (codes "held") held.items
    ++ named_line names (codes "waiting") waiting.items
named_verdict names (Unlawful place) = codes "unlawful " ++ decimal place ++ codes "\n"
named_verdict names Unsettled = codes "unsettled\n"
