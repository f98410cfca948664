use Rattle.rx_live.proofs.Common.{◌≡◌, ℕ, ◌++◌, [], ◌∷◌, Bool, false, Option, Some, None, length, refl, sym, ap, ◌∙◌, subst, option_map, string_bytes, ◌||◌}
use Rattle.rx_live.proofs.Common.{IfSome, bytes_eq, option_map_or, Accept, Refusal, Holding, first_cause, IsRefusal, Name, Key, has_key, Request, Accepts}
use Rattle.rx_live.proofs.Common.{open_request, Spot, spot_of, name_of_number, Binds, session_of, has_resource, NamesOne, holder_at, holder_causes}
use Rattle.rx_live.proofs.Common.{is_open_taken}
use Rattle.rx_live.proofs.Common.{is_holder_taken, OpensHolder, BindsMade, BindsHolder}
use Rattle.rx_live.proofs.Soundness.{accepted_longer}
use Rattle.rx_live.proofs.AcceptedBindsNames.{none_of, or_false, is_new, tag_of_new, accepted_by, refused_by}
use Rattle.rx_live.proofs.OpenedNodesGetNames.{unchanged_nodes, placed, unchanged_room, unchanged_rooms, connection_free, made_unnamed, unnamed_past, on_err, with_book}
use Rattle.rx_live.proofs.OpenedNodesHold.{causes_of, holder_bound, holder_sound}
use Rattle.rx_live.proofs.holder.open_holding_at.Goals as goal
use Rattle.std.proofs.Common.{rules}

pub returns-in_err-name-clause-err : goal.returns-in_err-name-clause-err
returns-in_err-name-clause-err c =
    on_err c.from_residual.result _
    (unchanged_nodes (session_of c.args.engine.now) c.are_taken.new.nodes c.requires c.are_taken.ensures.same c.are_taken.ensures.paired)

pub returns-in_err-connection-clause-err : goal.returns-in_err-connection-clause-err
returns-in_err-connection-clause-err c =
    on_err c.from_residual-in_err-connection.result _
    (unchanged_nodes (session_of c.args.engine.now) c.are_taken.new.nodes c.requires c.are_taken.ensures.same c.are_taken.ensures.paired)

pub returns-in_err-res-clause-err : goal.returns-in_err-res-clause-err
returns-in_err-res-clause-err c =
    on_err c.from_residual-in_err-res.result _
    (unchanged_nodes (session_of c.args.engine.now) c.are_taken.new.nodes c.requires c.are_taken.ensures.same c.are_taken.ensures.paired)

pub returns-in_err-make_room-clause-err : goal.returns-in_err-make_room-clause-err
returns-in_err-make_room-clause-err c =
    let s = session_of c.args.engine.now in
    on_err c.from_residual-in_err-make_room.result _
    (unchanged_room s c.are_taken.new.nodes c.make_room.new.self c.requires c.are_taken.ensures.same c.make_room.ensures.same
    (c.make_room.ensures.paired c.are_taken.ensures.paired))

pub returns-in_err-make_room-2-clause-err : goal.returns-in_err-make_room-2-clause-err
returns-in_err-make_room-2-clause-err c = on_err c.from_residual-in_err-make_room-2.result _
    (unchanged_rooms c.make_room.new.self c.make_room-2.new.self c.requires c.are_taken.ensures.same c.make_room.ensures.same c.make_room-2.ensures.same
    (c.make_room.ensures.paired c.are_taken.ensures.paired) (c.make_room-2.ensures.paired c.requires.resource_pairs))

pub returns-in-Err-clause-err : goal.returns-in-Err-clause-err
returns-in-Err-clause-err c =
    let s = session_of c.args.engine.now in
    on_err c.answered.result _ (with_book s c.open_holding.new.self c.make_room.new.self c.make_room-2.new.self c.in-Err.ensures.kept
    (unchanged_rooms c.make_room.new.self c.make_room-2.new.self c.requires c.are_taken.ensures.same c.make_room.ensures.same c.make_room-2.ensures.same
    (c.make_room.ensures.paired c.are_taken.ensures.paired) (c.make_room-2.ensures.paired c.requires.resource_pairs)))

pub returns-in-Err-clause-ok : goal.returns-in-Err-clause-ok
returns-in-Err-clause-ok c =
    let s = session_of c.args.engine.now in
    let place = c.args.place in
    let kind = c.args.kind in
    let name : Name = string_bytes c.args.name in
    let connection : Option Name = option_map string_bytes c.args.connection in
    let res : Name = string_bytes c.args.res in
    let no_node : is_open_taken s name connection ≡ false =
    ap (λ (n : Name). is_open_taken s n connection) (sym c.as_str-2.ensures.value) ∙ sym c.are_taken.ensures.answer ∙ c.if-are_taken.false in
    let free : has_resource s res ≡ false = ap (has_resource s) (sym c.as_str.ensures.value) ∙ sym c.has_resource.ensures ∙ c.if-has_resource.false in
    let fresh = is_new c.new-token.ensures in
    let cause : IsRefusal (holder_causes s.book (holder_at place kind)) c.in-Err.unheld.why =
    subst (λ (stand : Refusal → Bool). IsRefusal stand c.in-Err.unheld.why) (causes_of s.book place kind fresh) c.in-Err.ensures.refused in
    refused_by holder_causes OpensHolder (BindsHolder s name connection res) c.in-Err.unheld.why c.answered.result refl (λ i. no_node i || free i) cause
    (with_book s c.open_holding.new.self c.make_room.new.self c.make_room-2.new.self c.in-Err.ensures.kept
    (unchanged_rooms c.make_room.new.self c.make_room-2.new.self c.requires c.are_taken.ensures.same c.make_room.ensures.same c.make_room-2.ensures.same
    (c.make_room.ensures.paired c.are_taken.ensures.paired) (c.make_room-2.ensures.paired c.requires.resource_pairs))) c.answered.ensures.ok

pub returns-in-Ok-clause-ok : goal.returns-in-Ok-clause-ok
returns-in-Ok-clause-ok c =
    let s = session_of c.args.engine.now in
    let place = c.args.place in
    let kind = c.args.kind in
    let name : Name = string_bytes c.args.name in
    let connection : Option Name = option_map string_bytes c.args.connection in
    let res : Name = string_bytes c.args.res in
    let t = c.make_room.new.self in
    let more = c.make_room-2.new.self in
    let with_node = c.bind.new.self in
    let nodes = c.bind_made.new.nodes in
    let resources = c.bind-in-Ok.new.self in
    let book = c.open_holding.new.self in
    let opened = c.in-Ok.held.opened in
    let key = opened.key in
    let spot = c.spot_of.result in
    let held : Spot = record { slot = c.in-Ok.held.res.slot; number = c.in-Ok.held.res.number } in
    let no_node : is_open_taken s name connection ≡ false =
    ap (λ (n : Name). is_open_taken s n connection) (sym c.as_str-2.ensures.value) ∙ sym c.are_taken.ensures.answer ∙ c.if-are_taken.false in
    let free : has_resource s res ≡ false = ap (has_resource s) (sym c.as_str.ensures.value) ∙ sym c.has_resource.ensures ∙ c.if-has_resource.false in
    let fresh = is_new c.new-token.ensures in
    let did = c.in-Ok.ensures.ok in
    let middle = did.middle in
    let tag : c.new-token.result.tag ≡ key.number = tag_of_new c.new-token.ensures ∙ c.len.ensures ∙ sym did.opened.key.number in
    let asked : ℕ → Bool → Request = λ n b. record { call = Holding key.number n; is_known = has_key middle.keys key; is_fresh = b } in
    let o : OpensHolder s.book (holder_at place kind) book = record {
      none = subst (λ (stand : Refusal → Bool). first_cause stand ≡ None) (causes_of s.book place kind fresh) c.in-Ok.ensures.no_cause;
      middle = middle;
      opens = did.opens;
      key = key;
      is = did.opened.key.number;
      holds = subst (λ (r : Request). Accepts middle r (record book { closed = [] })) (λ i. asked (tag i) (fresh i)) did.holds;
      closed = did.closed;
      last = did.last ∙ ap (λ (n : ℕ). middle.history ++ Accept key.number n ∷ []) tag;
    } in
    let number : spot.number ≡ length s.book.history = ap (λ (p : Spot). p.number) c.spot_of.ensures ∙ did.opened.key.number in
    let binds : Binds t name spot with_node = subst (λ (n : Name). Binds t n spot with_node) c.in_ok-name.ensures c.bind.ensures.binds in
    let node : NamesOne t name (length s.book.history) with_node = record { spot = spot; is = number; binds = binds } in
    let made : BindsMade with_node connection (option_map (λ (k : Key). k.number) opened.connected) nodes =
    subst (λ (n : Option Name). BindsMade with_node n (option_map (λ (k : Key). k.number) opened.connected) nodes) c.in_ok-connection.ensures
    c.bind_made.ensures.binds in
    let binds_res : Binds more res held resources = subst (λ (n : Name). Binds more n held resources) c.in_ok-res.ensures c.bind-in-Ok.ensures.binds in
    let resource : NamesOne more res (length middle.history) resources = record { spot = held; is = did.res.number; binds = binds_res } in
    let pairs = c.bind_made.ensures.paired (c.bind.ensures.paired (c.make_room.ensures.paired c.are_taken.ensures.paired)) in
    let paired = c.bind-in-Ok.ensures.paired (c.make_room-2.ensures.paired c.requires.resource_pairs) in
    accepted_by holder_causes OpensHolder (Some (holder_at place kind)) (is_holder_taken s name connection res) (BindsHolder s name connection res)
    refl (λ i. no_node i || free i) o
    (holder_bound c.requires c.are_taken.ensures.same c.make_room.ensures.same o node did.opened connection made c.make_room-2.ensures.same resource)
    (holder_sound c.requires c.are_taken.ensures.same c.make_room.ensures.same o node did.opened connection made c.make_room-2.ensures.same resource
    c.promise.ensures pairs paired free)

pub bind_made-requires-clause-free : goal.bind_made-requires-clause-free
bind_made-requires-clause-free c =
    let s = session_of c.args.engine.now in
    let t = c.make_room.new.self in
    let spot = c.spot_of.result in
    let with_node = c.bind.new.self in
    let name : Name = string_bytes c.args.name in
    let connection : Option Name = option_map string_bytes c.args.connection in
    let free : is_open_taken s name connection ≡ false =
    ap (λ (n : Name). is_open_taken s n connection) (sym c.as_str-2.ensures.value) ∙ sym c.are_taken.ensures.answer ∙ c.if-are_taken.false in
    let binds : Binds t name spot with_node = subst (λ (n : Name). Binds t n spot with_node) c.in_ok-name.ensures c.bind.ensures.binds in
    subst (λ (o : Option Name). IfSome o (λ n. spot_of with_node n ≡ None)) (sym c.in_ok-connection.ensures)
    (connection_free s t with_node connection free c.make_room.ensures.same binds (c.are_taken.ensures.other_free c.if-are_taken.false))

pub bind_made-requires-clause-unnamed : goal.bind_made-requires-clause-unnamed
bind_made-requires-clause-unnamed c =
    let s = session_of c.args.engine.now in
    let t = c.make_room.new.self in
    let spot = c.spot_of.result in
    let with_node = c.bind.new.self in
    let name : Name = string_bytes c.args.name in
    let opened = c.in-Ok.ensures.ok.opened in
    let number : spot.number ≡ length s.book.history = ap (λ (p : Spot). p.number) c.spot_of.ensures ∙ opened.key.number in
    let binds : Binds t name spot with_node = subst (λ (n : Name). Binds t n spot with_node) c.in_ok-name.ensures c.bind.ensures.binds in
    made_unnamed s.book.history c.open_holding.new.self.history (placed c.requires c.are_taken.ensures.same c.make_room.ensures.same) binds number
    c.in-Ok.held.opened.connected opened.connection

pub bind-requires-in-Ok-clause-free : goal.bind-requires-in-Ok-clause-free
bind-requires-in-Ok-clause-free c = search (rules, string_bytes, none_of, or_false, option_map_or, bytes_eq)

pub bind-requires-in-Ok-clause-unnamed : goal.bind-requires-in-Ok-clause-unnamed
bind-requires-in-Ok-clause-unnamed c =
    let s = session_of c.args.engine.now in
    let more = c.make_room-2.new.self in
    let middle = c.in-Ok.ensures.ok.middle in
    ap (name_of_number more) c.in-Ok.ensures.ok.res.number ∙ unnamed_past s more (length middle.history) c.requires c.make_room-2.ensures.same
    (accepted_longer s.book middle (open_request s.book c.args.place c.args.kind) c.in-Ok.ensures.ok.opens)
