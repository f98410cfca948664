-- A list that is short enough is its own front.
use Rattle.rx_svg.proofs.Common.{◌≡◌, List, length, take, sym}
use Rattle.std.proofs.Common.{◌≤◌, take_all}

pub front_whole : {A : Type 0} (xs : List A) → length xs ≤ 200 → xs ≡ take 200 xs
front_whole xs short = sym (take_all 200 xs short)
