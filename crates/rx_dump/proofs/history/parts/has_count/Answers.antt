use Rattle.rx_dump.proofs.Common.{◌≡◌, ◌∙◌, sym, ap, length, arith, ◌==◌, has_count}
use Rattle.rx_dump.proofs.Counts.{count-items_view}
use Rattle.rx_dump.proofs.history.parts.has_count.Goals as goal

pub returns-in-Some : goal.returns-in-Some
unfolding has_count
returns-in-Some c =
    let parts = c.in-Some.parts.now in
    let many : c.len.result ≡ length parts.items = omega (arith, c.len.ensures, parts.ok.0) in
    rw (← c.in-Some.ensures) (ap (λ n. n == c.args.count) (many ∙ sym (count-items_view parts.items)))
