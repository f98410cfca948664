use Rattle.std.proofs.Common.{◌+◌, List, ℕ, length, drop, refl, sym, ap, arith, subst}
use Rattle.std.proofs.lemmas.List.{length-map}
use Rattle.rx_slots.specs.declared.Key.{Key}
use Rattle.rx_roles.specs.declared.roles.Role.{Role}
use Rattle.rx_roles.specs.Roles.{role_of, without}
use Rattle.rx_roles.specs.Effects.{names_of}
use Rattle.rx_roles.proofs.Laws.RolesTaken.{fewer}
use Rattle.rx_pool.specs.declared.search.PooledHub.{PooledHub}
use Rattle.rx_pool.specs.Moves.{MayLeaveAll}
use Rattle.rx_pool.specs.Places.{place_in, places_left}
use Rattle.rx_engine.specs.Settlements.{closed_of}
use Rattle.rx_engine.specs.Gatherings.{EndsClosed}
use Rattle.rx_engine.proofs.MailLeft.{closed_more, closed_none, get_within}
use Rattle.rx_engine.proofs.HomesLeft.{left_many}
use Rattle.rx_engine.proofs.HubsLeft.{first_used, rest_may}
use Rattle.rx_engine.proofs.NothingToDo.{none_end}
use Rattle.rx_engine.proofs.NodesEnded.{EndsOne, ends_on}
use Rattle.rx_engine.proofs.leaving.end_nodes.Goals as goal

pub loop-key-init : goal.loop-key-init
loop-key-init c = record { within = omega arith; ends = λ u d. d; may = c.requires.hubs; named = c.requires.named; room = c.requires.room }

pub leave-requires : goal.leave-requires
leave-requires c =
    let k = c.in-Some.key in
    let list = c.loop-key.parts.shares.list in
    let hubs = c.loop-key.parts.shares.hubs in
    let rest = drop (c.loop-key.at + 1) (closed_of c.args.book.now) in
    let more = closed_more c.args.book.now.closed c.loop-key.at k (sym c.in-Some.ensures) in
    first_used (role_of list k.number) (places_left (without list k.number) rest) hubs
    (subst (λ (ns : List ℕ). MayLeaveAll (places_left list ns) hubs) more c.loop-key.invariant.may)

pub leave_one-requires : goal.leave_one-requires
leave_one-requires c = record { named = c.loop-key.invariant.named }

pub end_one-requires : goal.end_one-requires
end_one-requires c =
    let h = fewer c.loop-key.parts.hears.list c.in-Some.key.number in
    let m = fewer c.loop-key.parts.merges.list c.in-Some.key.number in
    let room = c.loop-key.invariant.room in
    omega (arith, h, m, room)

pub loop-key-preserved : goal.loop-key-preserved
loop-key-preserved c =
    let i = c.loop-key.invariant in
    let k = c.in-Some.key in
    let ks = c.args.book.now.closed in
    let at = c.loop-key.at in
    let p = c.loop-key.parts in
    let rest = drop (at + 1) (closed_of c.args.book.now) in
    let more = closed_more ks at k (sym c.in-Some.ensures) in
    let e = c.end_one.ensures in
    let q = record p {
      homes = c.leave_one.new.homes;
      hears = c.end_one.new.hears;
      merges = c.end_one.new.merges;
      shares = c.leave.new.self;
      effects = c.end_one.new.effects;
      lanes = c.leave_one.new.lanes;
    } in
    let h = fewer p.hears.list k.number in let m = fewer p.merges.list k.number in
    let a = ap (length {A = Role}) e.hears in let b = ap (length {A = Role}) e.merges in
    let spent = e.room in
    let one : EndsOne c.args.by k.number p q = record {
      left = record { named_is = i.named; leaves = c.leave_one.ensures.leaves; stays = c.leave_one.ensures.stays };
      homes = c.leave_one.ensures.homes;
      spare = c.leave_one.ensures.spare;
      shares = c.leave.ensures.list;
      hubs = c.leave.ensures.hubs;
      hears = e.hears;
      merges = e.merges;
      effects = e.effects;
      room = omega (arith, h, m, a, b, spent);
      holds = refl;
    } in
    let may = subst (λ (ns : List ℕ). MayLeaveAll (places_left p.shares.list ns) p.shares.hubs) more i.may in
    record {
      within = let w = get_within ks at k (sym c.in-Some.ensures) in let l = length-map ks (λ (j : Key). j.number) in omega (arith, w, l);
      ends = λ u d. i.ends u (subst (λ (ns : List ℕ). EndsClosed c.args.by ns p u) (sym more) (ends_on rest u one d));
      may = subst (λ (rs : List Role). MayLeaveAll (places_left rs rest) c.leave.new.self.hubs) (sym one.shares)
          (subst (λ (hs : List PooledHub). MayLeaveAll (places_left (without p.shares.list k.number) rest) hs) (sym one.hubs)
          (rest_may (place_in p.shares.list k.number) (places_left (without p.shares.list k.number) rest) p.shares.hubs may));
      named = λ name.
          (let step = left_many one.left name in let had = i.named name in let same = ap (names_of name) one.homes in
          omega (arith, step, had, same));
      room = let had = i.room in omega (arith, h, m, a, b, had, spent);
    }

pub returns : goal.returns
returns c =
    let none = closed_none c.args.book.now.closed c.loop-key.at (sym c.in_default.ensures) in
    c.loop-key.invariant.ends c.loop-key.parts
    (subst (λ (ns : List ℕ). EndsClosed c.args.by ns c.loop-key.parts c.loop-key.parts) (sym none) (none_end c.args.by c.loop-key.parts))

pub loop-key-smaller : goal.loop-key-smaller
loop-key-smaller c =
    let ks = c.args.book.now.closed in
    let w = get_within ks c.loop-key.at c.in-Some.key (sym c.in-Some.ensures) in let l = length-map ks (λ (j : Key). j.number) in
    omega (arith, w, l)
