use Rattle.rx_listing.proofs.Common.{Some, unwrap_or, sym, ap, nat_eq, get}
use Rattle.rx_listing.proofs.Keeping.{kept_put, kept_all}
use Rattle.rx_listing.proofs.past.uses_of.Goals as goal

pub numbers-preserved : goal.numbers-preserved
numbers-preserved c =
    kept_put (λ n. Some (unwrap_or (get nat_eq c.args.seen.now.uses n) 0)) _ _ c.args.numbers.now c.numbers.number-index _ c.numbers-test.true
    (ap Some (sym c.count_of.ensures)) c.in_ok-keep.ensures c.numbers.invariant

pub returns : goal.returns
returns c =
    kept_all (λ n. Some (unwrap_or (get nat_eq c.args.seen.now.uses n) 0)) _ c.args.numbers.now c.numbers.number-index c.numbers-test.false
    c.numbers.invariant
