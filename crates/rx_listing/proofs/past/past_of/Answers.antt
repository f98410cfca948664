use Rattle.rx_listing.proofs.Common.{◌<◌, ℕ, Option, Some, ap, ◌∙◌, length, is_some, unwrap_or, nat_eq, get, list_any, name_of_number, made_by, holder_by}
use Rattle.rx_listing.proofs.Knowing.{within_of}
use Rattle.rx_listing.proofs.Recalling.{kept_at}
use Rattle.rx_listing.proofs.Rises.{listed}
use Rattle.rx_listing.proofs.past.past_of.Goals as goal

pub returns : goal.returns
returns g c = λ placed.
    let known = c.args.known.now in
    let len = length c.args.book.now.history in
    let made = made_by c.args.book.now known.past.now in
    let made_at = kept_at made (get nat_eq c.in_ok-made.made) c.as_slice.result.now in
    let uses : ℕ → Option ℕ = λ r. Some (unwrap_or (get nat_eq c.in_ok-seen.seen.uses r) 0) in
    record {
      nodes = λ n named. made_at n c.in_ok-made.ensures
          (ap (list_any (nat_eq n)) c.as_slice.ensures.value ∙ c.in_ok-numbers.ensures.nodes len n placed.nodes named);
      hubs = λ n named. made_at n c.in_ok-made.ensures
          (ap (list_any (nat_eq n)) c.as_slice.ensures.value ∙ c.in_ok-numbers.ensures.hubs len n placed.hubs named);
      leases = λ n named. made_at n c.in_ok-made.ensures
          (ap (list_any (nat_eq n)) c.as_slice.ensures.value ∙ c.in_ok-numbers.ensures.leases len n placed.leases named);
      holders = λ r named.
          let within : r < len = within_of known.resources.now len placed.resources r named in
          kept_at (holder_by c.args.book.now known.past.now) (get nat_eq c.in_ok-holders.holders) c.as_slice-2.result.now r c.in_ok-holders.ensures
          (ap (list_any (nat_eq r)) (c.as_slice-2.ensures.value ∙ c.in_ok-resources.ensures len placed.resources)
          ∙ listed (λ m. is_some (name_of_number known.resources.now m)) len r within named);
      uses = λ r named countable.
          let within : r < len = within_of known.resources.now len placed.resources r named in
          ap (λ o. unwrap_or o 0) (kept_at uses (get nat_eq c.in_ok-uses.uses) c.as_slice-3.result.now r c.in_ok-uses.ensures
          (ap (list_any (nat_eq r)) (c.as_slice-3.ensures.value ∙ c.in_ok-resources.ensures len placed.resources)
          ∙ listed (λ m. is_some (name_of_number known.resources.now m)) len r within named))
          ∙ c.in_ok-seen.ensures.uses r countable;
      connections = λ n. ap (λ held. get nat_eq held n) c.into_connections.ensures ∙ c.in_ok-seen.ensures.connections n;
    }
