use Rattle.rx_live.proofs.Common.{◌≡◌, false, Some, sym, ap, ◌∙◌, refl, option_map, give_back_request, name_of_number, session_of, lease_by_name, FreesLease}
use Rattle.rx_book.specs.State.{has_lease_key}
use Rattle.rx_live.proofs.AcceptedBindsNames.{given_accepted, lease_named, forgot, returned_sound}
use Rattle.rx_live.proofs.holding.give_back.Goals as goal

pub returns-in-Ok-clause-ok : goal.returns-in-Ok-clause-ok
returns-in-Ok-clause-ok c =
    let s = session_of c.args.engine.now in
    let name = c.args.lease.now in
    let key = c.in-Some.key in
    let book = c.give_back.new.self in
    let new = c.forget-name.new.self in
    let found : lease_by_name s name ≡ Some key = sym c.lease_by_name.ensures ∙ c.in-Some.is in
    let known : name_of_number s.leases key.number ≡ Some name = lease_named s name key c.requires found in
    let forgets = forgot s.leases new key.number name c.forget-name.result known c.forget-name.ensures.value c.forget-name.ensures.some in
    given_accepted (option_map (give_back_request s.book) (lease_by_name s name)) false (FreesLease s name)
    (ap (option_map (give_back_request s.book)) found) refl c.in-Ok.ensures.accepted
    (record { number = key.number; known = known; forgets = forgets; rest = refl })
    (returned_sound (has_lease_key s.book.lease_keys key) name new c.requires c.promise.ensures c.forget-name.ensures.paired forgets c.in-Ok.ensures.accepted)
