use Rattle.std.proofs.Common.{◌≤◌, ℕ, ◌≡◌, true, refl, ap}
use Rattle.std.proofs.Math.Bool.{not}
use Rattle.std.proofs.lemmas.Bool.{le-ltb}
use Rattle.rx_cellar.specs.Words.{is_inside}
use Rattle.rx_turns.specs.Ending.{stays_in_hand, lets_inner_go}
use Rattle.rx_turns.proofs.turns.Turns.put_down.Goals as goal

inside : (word : ℕ) → 9223372036854775808 ≤ word → is_inside word ≡ true
inside word far = ap not (le-ltb word 9223372036854775808 far)

pub returns-then-handed : goal.returns-then-handed
returns-then-handed c =
    lets_inner_go c.args.handed c.requires.hand (inside c.args.handed.word c.if-handed-lt-INSIDE.false) c.if-handed.true
    (record { holds = c.drop_hand.ensures.holds; only = refl })

pub returns : goal.returns
returns c = stays_in_hand c.args.handed c.requires.hand (inside c.args.handed.word c.if-handed-lt-INSIDE.false) c.if-handed.false refl
