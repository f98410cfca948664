use Rattle.rx_live.proofs.Common.{◌≡◌, ℕ, Bool, false, Some, length, sym, ap, ◌∙◌, subst, option_map, string_bytes, Holding, Request, Name, has_key, Accepts}
use Rattle.rx_live.proofs.Common.{Spot, name_of_number, Binds, Session, session_of, node_by_name, has_resource, hold_asked, BindsResource}
use Rattle.rx_live.proofs.AcceptedBindsNames.{unnamed_resource, is_new, tag_of_new, given_accepted, held_bound, held_sound}
use Rattle.rx_live.proofs.holding.hold.Goals as goal

pub bind-requires-clause-unnamed : goal.bind-requires-clause-unnamed
bind-requires-clause-unnamed c =
    let s = session_of c.args.engine.now in
    c.make_room.ensures.same.names c.in-Ok.held.number ∙ ap (name_of_number s.resources) c.in-Ok.ensures.ok.number ∙ unnamed_resource s c.requires

pub returns-in-Ok-clause-ok : goal.returns-in-Ok-clause-ok
returns-in-Ok-clause-ok c =
    let s = session_of c.args.engine.now in
    let key = c.in-Some.key in
    let name : Name = string_bytes c.args.res in
    let mid = c.make_room.new.self in
    let new = c.bind.new.self in
    let book = c.hold.new.self in
    let spot : Spot = record { slot = c.in-Ok.held.slot; number = c.in-Ok.held.number } in
    let t : Session = record s { book = book; resources = new } in
    let number : spot.number ≡ length s.book.history = c.in-Ok.ensures.ok.number in
    let found : node_by_name s c.args.node.now ≡ Some key = sym c.node.ensures ∙ c.in-Some.is in
    let free : has_resource s name ≡ false = ap (has_resource s) (sym c.as_str.ensures.value) ∙ sym c.has_resource.ensures ∙ c.if-has_resource.false in
    let binds : Binds mid name spot new = subst (λ (n : Name). Binds mid n spot new) c.in_ok-res.ensures c.bind.ensures.binds in
    let fresh = is_new c.new-token.ensures in
    let tag : c.new-token.result.tag ≡ length s.book.history = tag_of_new c.new-token.ensures ∙ c.len.ensures in
    let asked : ℕ → Bool → Request = λ n b. record { call = Holding key.number n; is_known = has_key s.book.keys key; is_fresh = b } in
    let accepts : Accepts s.book (hold_asked s.book key) book =
    subst (λ (r : Request). Accepts s.book r book) (λ i. asked (tag i) (fresh i)) c.in-Ok.ensures.accepted in
    let paired = c.bind.ensures.paired (c.make_room.ensures.paired c.requires.resource_pairs) in
    given_accepted (option_map (hold_asked s.book) (node_by_name s c.args.node.now)) (has_resource s name) (BindsResource s name)
    (ap (option_map (hold_asked s.book)) found) free accepts
    (held_bound s book name spot mid new c.requires c.promise.ensures paired c.make_room.ensures.same binds number)
    (held_sound s book name spot mid new c.requires c.promise.ensures paired key.number (length s.book.history)
    (has_key s.book.keys key) c.make_room.ensures.same binds number free accepts)
