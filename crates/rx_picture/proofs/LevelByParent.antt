-- How deep a node stands, by that of the node above it.
use Rattle.rx_picture.proofs.Common.{◌≡◌, ℕ, ◌+◌, List, [], ◌∷◌, length, Option, Some, None, ap, ◌∙◌, option_map_or, Event, parent}
use Rattle.rx_event.specs.Tree.{ancestors}
use Rattle.rx_event.proofs.Laws.Parents.{ancestors_step}
use Rattle.rx_picture.specs.Levels.{level}
use Rattle.std.proofs.Common.{rules}

pub level_top : (h : List Event) (n : ℕ) → parent h n ≡ None → level h n ≡ 1
level_top h n none = ap length (ancestors_step h n) ∙ ap (λ (o : Option ℕ). length (n ∷ option_map_or (ancestors h) o [])) none

pub level_below : (h : List Event) (n p : ℕ) → parent h n ≡ Some p → level h n ≡ level h p + 1
level_below h n p below = search (rules, length, ancestors_step, Option, ℕ, option_map_or)
