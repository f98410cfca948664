use Rattle.rx_listing.proofs.Common.{◌≡◌, option_map, string_bytes, IfOk, subst, sym, Part, counted_of, part_object}
use Rattle.rx_listing.proofs.list.object_at.Goals as goal

pub returns-in-Resources : goal.returns-in-Resources
returns-in-Resources g c =
    subst (λ (part : Part). IfOk c.resource_at.result (λ o. option_map string_bytes o
    ≡ part_object c.args.book.now c.args.known.now (counted_of c.args.sight.now) part c.args.number))
    (sym c.in-Resources.is) c.resource_at.ensures
