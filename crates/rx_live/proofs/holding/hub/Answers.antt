use Rattle.rx_live.proofs.Common.{◌≡◌, ◌<◌, false, Some, length, sym, ap, ◌∙◌, subst, refl, arith, string_bytes, is_some, Name, hub_request, Accepts, Spot}
use Rattle.rx_live.proofs.Common.{step_longer, Binds, Session, session_of, hub_by_name, BindsHub}
use Rattle.rx_live.proofs.AcceptedBindsNames.{given_accepted, hub_bound, hub_sound}
use Rattle.rx_live.proofs.holding.hub.Goals as goal

pub returns-in-Ok-clause-ok : goal.returns-in-Ok-clause-ok
returns-in-Ok-clause-ok c =
    let s = session_of c.args.engine.now in
    let asked = hub_request c.args.mode in
    let name : Name = string_bytes c.args.name in
    let mid = c.make_room.new.self in
    let new = c.bind.new.self in
    let book = c.hub.new.self in
    let spot : Spot = record { slot = 0; number = c.in-Ok.number } in
    let t : Session = record s { book = book; hubs = new } in
    let number : spot.number ≡ length s.book.history = c.in-Ok.ensures.ok in
    let free : is_some (hub_by_name s name) ≡ false =
    ap is_some (ap (hub_by_name s) (sym c.as_str.ensures.value) ∙ sym c.hub_by_name.ensures) ∙ sym c.is_some.ensures ∙ c.if-is_some.false in
    let binds : Binds mid name spot new = subst (λ (n : Name). Binds mid n spot new) c.in_ok-name.ensures c.bind.ensures.binds in
    let accepts : Accepts s.book asked book = c.in-Ok.ensures.accepted in
    let paired = c.bind.ensures.paired (c.make_room.ensures.paired c.requires.hub_pairs) in
    let steps = step_longer s.book.base s.book.history book.history asked.call accepts.step in
    let longer : length s.book.history < length book.history = omega arith in
    given_accepted (Some asked) (is_some (hub_by_name s name)) (BindsHub s name) refl free accepts
    (hub_bound s book name spot mid new c.requires c.promise.ensures paired c.make_room.ensures.same binds number)
    (hub_sound s book name spot mid new c.requires c.promise.ensures paired asked c.make_room.ensures.same binds number accepts refl refl longer)
