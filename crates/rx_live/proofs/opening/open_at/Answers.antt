use Rattle.rx_live.proofs.Common.{◌≡◌, false, Option, Some, length, refl, sym, ap, ◌∙◌, subst, option_map, string_bytes, Name, Key, Accepts}
use Rattle.rx_live.proofs.Common.{open_request, Spot, Binds, session_of, NamesOne, is_open_taken, BindsMade, BindsNode}
use Rattle.rx_live.proofs.AcceptedBindsNames.{given_accepted, given_refused}
use Rattle.rx_live.proofs.OpenedNodesGetNames.{unchanged_nodes, unchanged_room, connection_free, on_err, with_book, opened_bound, opened_sound}
use Rattle.rx_live.proofs.opening.open_at.Goals as goal
use Rattle.std.proofs.Common.{rules}

pub returns-in_err-name-clause-err : goal.returns-in_err-name-clause-err
returns-in_err-name-clause-err c =
    on_err c.from_residual.result _
    (unchanged_nodes (session_of c.args.engine.now) c.are_taken.new.nodes c.requires c.are_taken.ensures.same c.are_taken.ensures.paired)

pub returns-in_err-connection-clause-err : goal.returns-in_err-connection-clause-err
returns-in_err-connection-clause-err c =
    on_err c.from_residual-in_err-connection.result _
    (unchanged_nodes (session_of c.args.engine.now) c.are_taken.new.nodes c.requires c.are_taken.ensures.same c.are_taken.ensures.paired)

pub returns-in_err-make_room-clause-err : goal.returns-in_err-make_room-clause-err
returns-in_err-make_room-clause-err c =
    let s = session_of c.args.engine.now in
    on_err c.from_residual-in_err-make_room.result _
    (unchanged_room s c.are_taken.new.nodes c.make_room.new.self c.requires c.are_taken.ensures.same c.make_room.ensures.same
    (c.make_room.ensures.paired c.are_taken.ensures.paired))

pub returns-in-Err-clause-err : goal.returns-in-Err-clause-err
returns-in-Err-clause-err c =
    let s = session_of c.args.engine.now in
    let t = c.make_room.new.self in
    on_err c.answered.result _ (with_book s c.open.new.self t s.resources c.in-Err.ensures.kept
    (unchanged_room s c.are_taken.new.nodes t c.requires c.are_taken.ensures.same c.make_room.ensures.same
    (c.make_room.ensures.paired c.are_taken.ensures.paired)))

pub returns-in-Err-clause-ok : goal.returns-in-Err-clause-ok
returns-in-Err-clause-ok c =
    let s = session_of c.args.engine.now in
    let t = c.make_room.new.self in
    let name : Name = string_bytes c.args.name in
    let connection : Option Name = option_map string_bytes c.args.connection in
    let call = open_request s.book c.args.place c.args.kind in
    let free : is_open_taken s name connection ≡ false =
    ap (λ (n : Name). is_open_taken s n connection) (sym c.as_str.ensures.value) ∙ sym c.are_taken.ensures.answer ∙ c.if-are_taken.false in
    given_refused (BindsNode s name connection) c.in-Err.why c.answered.result refl free c.in-Err.ensures.refused
    (with_book s c.open.new.self t s.resources c.in-Err.ensures.kept
    (unchanged_room s c.are_taken.new.nodes t c.requires c.are_taken.ensures.same c.make_room.ensures.same
    (c.make_room.ensures.paired c.are_taken.ensures.paired))) c.answered.ensures.ok

pub returns-in-Ok-clause-ok : goal.returns-in-Ok-clause-ok
returns-in-Ok-clause-ok c =
    let s = session_of c.args.engine.now in
    let t = c.make_room.new.self in
    let with_node = c.bind.new.self in
    let new = c.bind_made.new.nodes in
    let book = c.open.new.self in
    let name : Name = string_bytes c.args.name in
    let connection : Option Name = option_map string_bytes c.args.connection in
    let call = open_request s.book c.args.place c.args.kind in
    let opened = c.in-Ok.opened in
    let spot = c.spot_of.result in
    let free : is_open_taken s name connection ≡ false =
    ap (λ (n : Name). is_open_taken s n connection) (sym c.as_str.ensures.value) ∙ sym c.are_taken.ensures.answer ∙ c.if-are_taken.false in
    let number : spot.number ≡ length s.book.history = ap (λ (p : Spot). p.number) c.spot_of.ensures ∙ c.in-Ok.ensures.ok.key.number in
    let binds : Binds t name spot with_node = subst (λ (n : Name). Binds t n spot with_node) c.in_ok-name.ensures c.bind.ensures.binds in
    let node : NamesOne t name (length s.book.history) with_node = record { spot = spot; is = number; binds = binds } in
    let made : BindsMade with_node connection (option_map (λ (k : Key). k.number) opened.connected) new =
    subst (λ (n : Option Name). BindsMade with_node n (option_map (λ (k : Key). k.number) opened.connected) new) c.in_ok-connection.ensures
    c.bind_made.ensures.binds in
    let paired = c.bind_made.ensures.paired (c.bind.ensures.paired (c.make_room.ensures.paired c.are_taken.ensures.paired)) in
    let accepts : Accepts s.book call book = c.in-Ok.ensures.accepted in
    given_accepted (Some call) (is_open_taken s name connection) (BindsNode s name connection) refl free accepts
    (opened_bound c.requires c.are_taken.ensures.same c.make_room.ensures.same node c.in-Ok.ensures.ok connection made)
    (opened_sound c.requires c.are_taken.ensures.same c.make_room.ensures.same node c.in-Ok.ensures.ok connection made
    c.args.place c.args.kind c.promise.ensures paired accepts)

pub bind_made-requires-clause-free : goal.bind_made-requires-clause-free
bind_made-requires-clause-free c = search (rules, string_bytes, option_map, connection_free)
