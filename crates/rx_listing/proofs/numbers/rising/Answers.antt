use Rattle.rx_listing.proofs.Common.{ap, ◌∙◌, is_some, nat_eq, name_of_number}
use Rattle.std.proofs.lemmas.List.Filters.{dedup_is}
use Rattle.rx_listing.proofs.Rises.{sorted_once}
use Rattle.rx_listing.proofs.numbers.rising.Goals as goal

pub returns : goal.returns
returns c = λ len placed.
    dedup_is nat_eq c.sort.new.self.items c.dedup.new.self.items c.dedup.ensures.filtered
    ∙ sorted_once (λ n. is_some (name_of_number c.args.names.now n)) c.in_ok-numbers.numbers.items c.sort.new.self.items len
    c.in_ok-numbers.ensures c.in_ok-sort.ensures.permutation c.in_ok-sort.ensures.sorted (λ k past. ap is_some (placed k past))
