use Rattle.rx_live.proofs.Common.{◌≡◌, ℕ, false, Option, Some, length, sym, ap, ◌∙◌, subst, option_map, string_bytes, option_map_or, Name, connect_request}
use Rattle.rx_live.proofs.Common.{Accepts, session_of, hub_by_name, is_node, BindsMade, BindsConnection}
use Rattle.rx_live.proofs.AcceptedBindsNames.{given_accepted, given_refused}
use Rattle.rx_live.proofs.OpenedNodesGetNames.{unchanged_nodes, unchanged_room, on_err, with_book, connected_bound, connected_sound}
use Rattle.rx_live.proofs.opening.connect.Goals as goal

pub returns-in_err-name-clause-err : goal.returns-in_err-name-clause-err
returns-in_err-name-clause-err c =
    on_err c.from_residual.result _
    (unchanged_nodes (session_of c.args.engine.now) c.is_other_taken.new.nodes c.requires c.is_other_taken.ensures.same c.is_other_taken.ensures.paired)

pub returns-in_err-make_room-clause-err : goal.returns-in_err-make_room-clause-err
returns-in_err-make_room-clause-err c =
    let s = session_of c.args.engine.now in
    on_err c.from_residual-in_err-make_room.result _
    (unchanged_room s c.is_other_taken.new.nodes c.make_room.new.self c.requires c.is_other_taken.ensures.same c.make_room.ensures.same
    (c.make_room.ensures.paired c.is_other_taken.ensures.paired))

pub returns-in-Err-clause-err : goal.returns-in-Err-clause-err
returns-in-Err-clause-err c =
    let s = session_of c.args.engine.now in
    let t = c.make_room.new.self in
    on_err c.answered.result _ (with_book s c.connect.new.self t s.resources c.in-Err.ensures.kept
    (unchanged_room s c.is_other_taken.new.nodes t c.requires c.is_other_taken.ensures.same c.make_room.ensures.same
    (c.make_room.ensures.paired c.is_other_taken.ensures.paired)))

pub returns-in-Err-clause-ok : goal.returns-in-Err-clause-ok
returns-in-Err-clause-ok c =
    let s = session_of c.args.engine.now in
    let t = c.make_room.new.self in
    let name : Option Name = option_map string_bytes c.args.name in
    let found : hub_by_name s c.args.hub.now ≡ Some c.in-Some.number = sym c.hub_by_name.ensures ∙ c.in-Some.is in
    let free : option_map_or (is_node s) name false ≡ false = sym c.is_other_taken.ensures.answer ∙ c.if-is_other_taken.false in
    given_refused (BindsConnection s name) c.in-Err.why c.answered.result (ap (option_map connect_request) found) free c.in-Err.ensures.refused
    (with_book s c.connect.new.self t s.resources c.in-Err.ensures.kept
    (unchanged_room s c.is_other_taken.new.nodes t c.requires c.is_other_taken.ensures.same c.make_room.ensures.same
    (c.make_room.ensures.paired c.is_other_taken.ensures.paired))) c.answered.ensures.ok

pub returns-in-Ok-clause-ok : goal.returns-in-Ok-clause-ok
returns-in-Ok-clause-ok c =
    let s = session_of c.args.engine.now in
    let t = c.make_room.new.self in
    let new = c.bind_made.new.nodes in
    let book = c.connect.new.self in
    let name : Option Name = option_map string_bytes c.args.name in
    let found : hub_by_name s c.args.hub.now ≡ Some c.in-Some.number = sym c.hub_by_name.ensures ∙ c.in-Some.is in
    let free : option_map_or (is_node s) name false ≡ false = sym c.is_other_taken.ensures.answer ∙ c.if-is_other_taken.false in
    let named : BindsMade t name (Some c.in-Ok.connection.number) new =
    subst (λ (n : Option Name). BindsMade t n (Some c.in-Ok.connection.number) new) c.in_ok-name.ensures c.bind_made.ensures.binds in
    let made : BindsMade t name (Some (length s.book.history)) new = subst (λ (k : ℕ). BindsMade t name (Some k) new) c.in-Ok.ensures.ok.number named in
    let paired = c.bind_made.ensures.paired (c.make_room.ensures.paired c.is_other_taken.ensures.paired) in
    let accepts : Accepts s.book (connect_request c.in-Some.number) book = c.in-Ok.ensures.accepted in
    given_accepted (option_map connect_request (hub_by_name s c.args.hub.now))
    (option_map_or (is_node s) name false) (BindsConnection s name) (ap (option_map connect_request) found) free accepts
    (connected_bound c.requires c.is_other_taken.ensures.same c.make_room.ensures.same name made)
    (connected_sound c.requires c.is_other_taken.ensures.same c.make_room.ensures.same name made c.in-Some.number c.promise.ensures paired accepts)
