use Rattle.rx_listing.proofs.Common.{◌<◌, ap, ◌∙◌, is_some, nat_eq, list_any, name_of_number}
use Rattle.rx_listing.proofs.Keeping.{any_in_first, any_in_second, any_in_third}
use Rattle.rx_listing.proofs.Knowing.{within_of}
use Rattle.rx_listing.proofs.Rises.{listed}
use Rattle.rx_listing.proofs.past.made_numbers.Goals as goal

pub returns-clause-nodes : goal.returns-clause-nodes
returns-clause-nodes c = λ len n placed named.
    let p = nat_eq n in
    let names = c.args.known.now.nodes.now in
    let within : n < len = within_of names len placed n named in
    let there = listed (λ m. is_some (name_of_number names m)) len n within named in
    any_in_first p c.in_ok-numbers.numbers.items c.as_slice.result.now c.as_slice-2.result.now
    c.extend_from_slice.new.self.items c.extend_from_slice-2.new.self.items c.in_ok-extend_from_slice.ensures.items c.in_ok-extend_from_slice-2.ensures.items
    (ap (list_any p) (c.in_ok-numbers.ensures len placed) ∙ there)

pub returns-clause-hubs : goal.returns-clause-hubs
returns-clause-hubs c = λ len n placed named.
    let p = nat_eq n in
    let names = c.args.known.now.hubs.now in
    let within : n < len = within_of names len placed n named in
    let there = listed (λ m. is_some (name_of_number names m)) len n within named in
    any_in_second p c.in_ok-numbers.numbers.items c.as_slice.result.now c.as_slice-2.result.now
    c.extend_from_slice.new.self.items c.extend_from_slice-2.new.self.items c.in_ok-extend_from_slice.ensures.items c.in_ok-extend_from_slice-2.ensures.items
    (ap (list_any p) (c.as_slice.ensures.value ∙ c.in_ok-hubs.ensures len placed) ∙ there)

pub returns-clause-leases : goal.returns-clause-leases
returns-clause-leases c = λ len n placed named.
    let p = nat_eq n in
    let names = c.args.known.now.leases.now in
    let within : n < len = within_of names len placed n named in
    let there = listed (λ m. is_some (name_of_number names m)) len n within named in
    any_in_third p c.in_ok-numbers.numbers.items c.as_slice.result.now c.as_slice-2.result.now
    c.extend_from_slice.new.self.items c.extend_from_slice-2.new.self.items c.in_ok-extend_from_slice.ensures.items c.in_ok-extend_from_slice-2.ensures.items
    (ap (list_any p) (c.as_slice-2.ensures.value ∙ c.in_ok-leases.ensures len placed) ∙ there)
