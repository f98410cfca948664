use Rattle.std.proofs.Common.{◌≡◌, ℕ, ◌+◌, ◌-◌, ◌<◌, ◌≤◌, nat_lt, sym, ◌∙◌, arith, rules}
use Rattle.std.proofs.lemmas.Bool.{lt-ltb, ltb-true, ltb_from_iff}
use Rattle.rx_event.specs.Allowed.{most_nodes}
use Rattle.rx_register.proofs.register.Register.is_crowded.Goals as goal

-- more alone is too many
more_alone : (most alive more : ℕ) → most < more → nat_lt most more ≡ nat_lt most (alive + more)
more_alone most alive more over = lt-ltb most more over ∙ sym (lt-ltb most (alive + more) (omega arith))

more_with : (most alive more : ℕ) → more ≤ most → nat_lt (most - more) alive ≡ nat_lt most (alive + more)
more_with most alive more few =
    search (rules, ltb_from_iff, ltb-true, lt-ltb)

pub returns-then-more-gt-MOST_NODES : goal.returns-then-more-gt-MOST_NODES
unfolding most_nodes
returns-then-more-gt-MOST_NODES c =
    search (rules, more_alone, ℕ, nat_lt)

pub returns-else-more-gt-MOST_NODES : goal.returns-else-more-gt-MOST_NODES
unfolding most_nodes
returns-else-more-gt-MOST_NODES c =
    search (rules, more_with, ℕ, nat_lt)
