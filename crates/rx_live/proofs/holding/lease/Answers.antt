use Rattle.rx_live.proofs.Common.{◌≡◌, false, Some, length, sym, ap, ◌∙◌, subst, option_map, string_bytes, is_some, Name, has_res_key, lease_request, Accepts}
use Rattle.rx_live.proofs.Common.{Spot, name_of_number, Binds, Session, session_of, resource_by_name, lease_by_name, BindsLease}
use Rattle.rx_live.proofs.AcceptedBindsNames.{unnamed_lease, given_accepted, leased_bound, leased_sound}
use Rattle.rx_live.proofs.holding.lease.Goals as goal

pub bind-requires-clause-unnamed : goal.bind-requires-clause-unnamed
bind-requires-clause-unnamed c =
    let s = session_of c.args.engine.now in
    c.make_room.ensures.same.names c.in-Ok.lease.number ∙ ap (name_of_number s.leases) c.in-Ok.ensures.ok.number ∙ unnamed_lease s c.requires

pub returns-in-Ok-clause-ok : goal.returns-in-Ok-clause-ok
returns-in-Ok-clause-ok c =
    let s = session_of c.args.engine.now in
    let key = c.in-Some.key in
    let name : Name = string_bytes c.args.name in
    let mid = c.make_room.new.self in
    let new = c.bind.new.self in
    let book = c.lease.new.self in
    let spot : Spot = record { slot = c.in-Ok.lease.slot; number = c.in-Ok.lease.number } in
    let t : Session = record s { book = book; leases = new } in
    let number : spot.number ≡ length s.book.history = c.in-Ok.ensures.ok.number in
    let found : resource_by_name s c.args.res.now ≡ Some key = sym c.resource.ensures ∙ c.in-Some.is in
    let free : is_some (lease_by_name s name) ≡ false =
    ap is_some (ap (lease_by_name s) (sym c.as_str.ensures.value) ∙ sym c.lease_by_name.ensures) ∙ sym c.is_some.ensures ∙ c.if-is_some.false in
    let binds : Binds mid name spot new = subst (λ (n : Name). Binds mid n spot new) c.in_ok-name.ensures c.bind.ensures.binds in
    let accepts : Accepts s.book (lease_request s.book key) book = c.in-Ok.ensures.accepted in
    let paired = c.bind.ensures.paired (c.make_room.ensures.paired c.requires.lease_pairs) in
    given_accepted (option_map (lease_request s.book) (resource_by_name s c.args.res.now)) (is_some (lease_by_name s name)) (BindsLease s name)
    (ap (option_map (lease_request s.book)) found) free accepts
    (leased_bound s book name spot mid new c.requires c.promise.ensures paired c.make_room.ensures.same binds number)
    (leased_sound s book name spot mid new c.requires c.promise.ensures paired key.number (has_res_key s.book.res_keys key) c.make_room.ensures.same binds
    number accepts)
