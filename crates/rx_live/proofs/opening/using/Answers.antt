use Rattle.rx_live.proofs.Common.{arith, ◌≡◌, ℕ, ◌+◌, Bool, false, Some, length, sym, ap, ◌∙◌, subst, option_map, string_bytes, ◌||◌, OpeningUsing, Name, At}
use Rattle.rx_live.proofs.Common.{site_of, State, Request, place_of, is_known_place, Accepts, IsCauseOrWant, Spot, name_of_number, Binds, session_of}
use Rattle.rx_live.proofs.Common.{has_resource}
use Rattle.rx_live.proofs.Common.{NamesOne, place_at, using_asked, using_at, is_node, is_using_taken, BindsUsing}
use Rattle.rx_live.proofs.AcceptedBindsNames.{is_new, tag_of_new, given_accepted, given_refused}
use Rattle.rx_live.proofs.OpenedNodesGetNames.{unchanged_nodes, unchanged_room, unchanged_rooms, unnamed_past, on_err, with_book, used_bound, used_sound}
use Rattle.rx_live.proofs.opening.using.Goals as goal

abbrev asked : State → At → (tag : ℕ) → (fresh : Bool) → Request
asked book at tag fresh = record { call = OpeningUsing (place_of at) tag; is_known = is_known_place book.keys at; is_fresh = fresh }

pub returns-in_err-name-clause-err : goal.returns-in_err-name-clause-err
returns-in_err-name-clause-err c =
    on_err c.from_residual.result _
    (unchanged_nodes (session_of c.args.engine.now) c.is_taken.new.nodes c.requires c.is_taken.ensures.same c.is_taken.ensures.paired)

pub returns-in_err-res-clause-err : goal.returns-in_err-res-clause-err
returns-in_err-res-clause-err c =
    on_err c.from_residual-in_err-res.result _
    (unchanged_nodes (session_of c.args.engine.now) c.is_taken.new.nodes c.requires c.is_taken.ensures.same c.is_taken.ensures.paired)

pub returns-in_err-make_room-clause-err : goal.returns-in_err-make_room-clause-err
returns-in_err-make_room-clause-err c =
    let s = session_of c.args.engine.now in
    on_err c.from_residual-in_err-make_room.result _
    (unchanged_room s c.is_taken.new.nodes c.make_room.new.self c.requires c.is_taken.ensures.same c.make_room.ensures.same
    (c.make_room.ensures.paired c.is_taken.ensures.paired))

pub returns-in_err-make_room-2-clause-err : goal.returns-in_err-make_room-2-clause-err
returns-in_err-make_room-2-clause-err c =
    let s = session_of c.args.engine.now in
    on_err c.from_residual-in_err-make_room-2.result _
    (unchanged_rooms c.make_room.new.self c.make_room-2.new.self c.requires c.is_taken.ensures.same c.make_room.ensures.same c.make_room-2.ensures.same
    (c.make_room.ensures.paired c.is_taken.ensures.paired) (c.make_room-2.ensures.paired c.requires.resource_pairs))

pub bind-requires-in-Ok-clause-unnamed : goal.bind-requires-in-Ok-clause-unnamed
bind-requires-in-Ok-clause-unnamed c =
    let s = session_of c.args.engine.now in
    ap (name_of_number c.make_room-2.new.self) c.in-Ok.ensures.ok.res.number
    ∙ unnamed_past s c.make_room-2.new.self (length s.book.history + 1) c.requires c.make_room-2.ensures.same (omega arith)

pub returns-in-Err-clause-err : goal.returns-in-Err-clause-err
returns-in-Err-clause-err c =
    let s = session_of c.args.engine.now in
    on_err c.answered.result _ (with_book s c.open_using.new.self c.make_room.new.self c.make_room-2.new.self c.in-Err.ensures.kept
    (unchanged_rooms c.make_room.new.self c.make_room-2.new.self c.requires c.is_taken.ensures.same c.make_room.ensures.same c.make_room-2.ensures.same
    (c.make_room.ensures.paired c.is_taken.ensures.paired) (c.make_room-2.ensures.paired c.requires.resource_pairs)))

pub returns-in-Err-clause-ok : goal.returns-in-Err-clause-ok
returns-in-Err-clause-ok c =
    let s = session_of c.args.engine.now in
    let site = site_of c.args.site.now in
    let place = c.in-Some.place in
    let name : Name = string_bytes c.args.name in
    let res : Name = string_bytes c.args.res in
    let found : place_at s site ≡ Some place = sym c.place_at.ensures ∙ c.in-Some.is in
    let no_node : is_node s name ≡ false = ap (is_node s) (sym c.as_str-2.ensures.value) ∙ sym c.is_taken.ensures.answer ∙ c.if-is_taken.false in
    let free : has_resource s res ≡ false = ap (has_resource s) (sym c.as_str.ensures.value) ∙ sym c.has_resource.ensures ∙ c.if-has_resource.false in
    let fresh = is_new c.new-token.ensures in
    let tag : c.new-token.result.tag ≡ length s.book.history + 1 = tag_of_new c.new-token.ensures ∙ c.place_behind.ensures in
    let cause : IsCauseOrWant s.book (using_at s.book place) c.in-Err.unheld.why =
    subst (λ (r : Request). IsCauseOrWant s.book r c.in-Err.unheld.why) (λ i. asked s.book place (tag i) (fresh i)) c.in-Err.ensures.refused.why in
    given_refused (BindsUsing s name res) c.in-Err.unheld.why c.answered.result (ap (option_map (using_at s.book)) found) (λ i. no_node i || free i) cause
    (with_book s c.open_using.new.self c.make_room.new.self c.make_room-2.new.self c.in-Err.ensures.kept
    (unchanged_rooms c.make_room.new.self c.make_room-2.new.self c.requires c.is_taken.ensures.same c.make_room.ensures.same c.make_room-2.ensures.same
    (c.make_room.ensures.paired c.is_taken.ensures.paired) (c.make_room-2.ensures.paired c.requires.resource_pairs))) c.answered.ensures.ok

pub returns-in-Ok-clause-ok : goal.returns-in-Ok-clause-ok
returns-in-Ok-clause-ok c =
    let s = session_of c.args.engine.now in
    let site = site_of c.args.site.now in
    let place = c.in-Some.place in
    let name : Name = string_bytes c.args.name in
    let res : Name = string_bytes c.args.res in
    let t = c.make_room.new.self in
    let more = c.make_room-2.new.self in
    let nodes = c.bind.new.self in
    let resources = c.bind-in-Ok.new.self in
    let book = c.open_using.new.self in
    let spot = c.spot_of.result in
    let held : Spot = record { slot = c.in-Ok.opened.res.slot; number = c.in-Ok.opened.res.number } in
    let found : place_at s site ≡ Some place = sym c.place_at.ensures ∙ c.in-Some.is in
    let no_node : is_node s name ≡ false = ap (is_node s) (sym c.as_str-2.ensures.value) ∙ sym c.is_taken.ensures.answer ∙ c.if-is_taken.false in
    let free : has_resource s res ≡ false = ap (has_resource s) (sym c.as_str.ensures.value) ∙ sym c.has_resource.ensures ∙ c.if-has_resource.false in
    let fresh = is_new c.new-token.ensures in
    let tag : c.new-token.result.tag ≡ length s.book.history + 1 = tag_of_new c.new-token.ensures ∙ c.place_behind.ensures in
    let accepts : Accepts s.book (using_at s.book place) book =
    subst (λ (r : Request). Accepts s.book r book) (λ i. asked s.book place (tag i) (fresh i)) c.in-Ok.ensures.accepted in
    let number : spot.number ≡ length s.book.history = ap (λ (p : Spot). p.number) c.spot_of.ensures ∙ c.in-Ok.ensures.ok.key.number in
    let binds : Binds t name spot nodes = subst (λ (n : Name). Binds t n spot nodes) c.in_ok-name.ensures c.bind.ensures.binds in
    let binds_res : Binds more res held resources = subst (λ (n : Name). Binds more n held resources) c.in_ok-res.ensures c.bind-in-Ok.ensures.binds in
    let node : NamesOne t name (length s.book.history) nodes = record { spot = spot; is = number; binds = binds } in
    let resource : NamesOne more res (length s.book.history + 1) resources = record { spot = held; is = c.in-Ok.ensures.ok.res.number; binds = binds_res } in
    let pairs = c.bind.ensures.paired (c.make_room.ensures.paired c.is_taken.ensures.paired) in
    let paired = c.bind-in-Ok.ensures.paired (c.make_room-2.ensures.paired c.requires.resource_pairs) in
    given_accepted (using_asked s site) (is_using_taken s name res) (BindsUsing s name res)
    (ap (option_map (using_at s.book)) found) (λ i. no_node i || free i) accepts
    (used_bound c.requires c.is_taken.ensures.same c.make_room.ensures.same node c.make_room-2.ensures.same resource)
    (used_sound c.requires c.is_taken.ensures.same c.make_room.ensures.same node c.make_room-2.ensures.same resource
    place c.promise.ensures pairs paired free accepts)
