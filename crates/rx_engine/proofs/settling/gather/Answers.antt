use Rattle.std.proofs.Common.{List, length, ap, ◌∙◌, sym, arith, subst}
use Rattle.rx_book.specs.State.{State as BookState}
use Rattle.rx_resource.specs.contracts.token.TokenResource.TheImpl.{ghosts}
use Rattle.rx_pool.specs.Moves.{MayLeaveAll}
use Rattle.rx_pool.specs.Places.{places_left}
use Rattle.rx_roles.specs.declared.roles.Role.{Role}
use Rattle.rx_roles.specs.Roles.{Table, without_all}
use Rattle.rx_roles.specs.Effects.{names_of}
use Rattle.rx_engine.specs.Settlements.{closed_of, KeepsKeys, Releases}
use Rattle.rx_engine.specs.Gatherings.{EndsClosed}
use Rattle.rx_engine.specs.Closings.{Closes}
use Rattle.rx_engine.proofs.NamedLanes.{Told, told_all, all_named, all_length, all_at}
use Rattle.rx_engine.proofs.HomesLeft.{left_ready}
use Rattle.rx_engine.proofs.settling.gather.Goals as goal

pub close_nodes-requires : goal.close_nodes-requires
close_nodes-requires c = record {
  hubs = subst (λ (b : BookState). MayLeaveAll (places_left c.args.parts.now.shares.list (closed_of b)) c.args.parts.now.shares.hubs)
      (sym c.tell.ensures.book) c.requires.hubs;
  named = λ name. (let many = c.requires.ready.many name in omega (arith, many));
  room = let had = c.requires.ready.room in let told = c.tell.ensures.room in omega (arith, had, told);
}

-- what was told, closed and set free, beside the lanes that what was closed has left
all_told : (c : goal.After-set_free) → Told ghosts c.args.by c.args.value c.args.book.now
    (record c.args.parts.now { homes = c.close_nodes.new.parts.homes; lanes = c.close_nodes.new.parts.lanes }) c.set_free.new.book c.set_free.new.holds.list
    c.set_free.new.effects.list
all_told c =
    let ends = c.close_nodes.ensures.ends in
    told_all ghosts c.args.by c.args.value c.args.book.now
    (record c.args.parts.now { homes = c.close_nodes.new.parts.homes; lanes = c.close_nodes.new.parts.lanes }) c.tell.new.book c.tell.new.hears.list
    c.tell.new.effects.list c.close_nodes.new.parts.effects.list c.set_free.new.book c.set_free.new.holds.list c.set_free.new.effects.list c.requires.ready.empty
    (left_ready c.args.parts.now c.close_nodes.new.parts.homes c.close_nodes.new.parts.lanes c.requires.ready.many ends.many) c.tell.ensures.book
    c.tell.ensures.hears c.tell.ensures.effects ends.effects
    (subst (λ (h : Table). Releases ghosts c.args.by c.tell.new.book h.list c.close_nodes.new.parts.effects.list c.set_free.new.book c.set_free.new.holds.list
    c.set_free.new.effects.list) ends.holds c.set_free.ensures.releases)

pub returns-clause-gathers : goal.returns-clause-gathers
returns-clause-gathers c =
    let p = record c.args.parts.now { hears = c.tell.new.hears; effects = c.tell.new.effects } in
    let ends = subst (λ (b : BookState). EndsClosed c.args.by (closed_of b) p c.close_nodes.new.parts) c.tell.ensures.book c.close_nodes.ensures.ends in
    let freed = c.set_free.ensures in
    record {
      homes = ends.homes;
      leaves = ends.leaves;
      shares = ends.shares;
      hubs = ends.hubs;
      hears = ends.hears ∙ ap (λ (rs : List Role). without_all rs (closed_of c.args.book.now)) c.tell.ensures.hears;
      merges = ends.merges;
      releases = (all_told c).releases;
      none_waits = freed.none_waits;
      base = freed.base ∙ ap (λ (b : BookState). b.base) c.tell.ensures.book;
      limit = freed.limit ∙ ap (λ (b : BookState). b.limit) c.tell.ensures.book;
    }

pub returns-clause-closes : goal.returns-clause-closes
returns-clause-closes c =
    let closes = subst (λ (b : BookState). Closes b c.args.wishes.now.roles.list c.close_nodes.new.wishes) c.tell.ensures.book c.close_nodes.ensures.closes in
    record { roles_are = closes.roles_are; closings_are = closes.closings_are }

pub returns-clause-loaded : goal.returns-clause-loaded
returns-clause-loaded c =
    let told = all_told c in
    let gathers = returns-clause-gathers c in
    let ends = c.close_nodes.ensures.ends in
    let length_is = all_length told in
    let h = ap (length {A = Role}) gathers.hears in let m = ap (length {A = Role}) gathers.merges in
    record {
      are_named = all_named told;
      many = λ name.
          (let all = all_at told name in
          let f = ap (names_of name) gathers.hears in let g = ap (names_of name) gathers.merges in
          let had = left_ready c.args.parts.now c.close_nodes.new.parts.homes c.close_nodes.new.parts.lanes c.requires.ready.many ends.many name in
          omega (arith, all, f, g, had));
      room =
          let had = c.requires.ready.room in
          let t = c.tell.ensures.room in let e = ends.room in let r = c.set_free.ensures.room in
          let o = ap (λ (x : Table). length x.list) ends.holds in
          omega (arith, had, t, e, r, o);
      spare = let had = c.requires.ready.spare in let kept = ends.spare in omega (arith, length_is, h, m, had, kept);
    }

pub returns-clause-keys : goal.returns-clause-keys
returns-clause-keys c =
    let freed = subst (λ (b : BookState). KeepsKeys b c.set_free.new.book) c.tell.ensures.book c.set_free.ensures.keys in
    record { keys = freed.keys; res_keys = freed.res_keys; lease_keys = freed.lease_keys }
