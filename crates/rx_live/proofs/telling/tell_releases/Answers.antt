use Rattle.rx_live.proofs.Common.{ℕ, ◌+◌, List, sym, subst, arith, string_bytes, session_of, WritesNames, HasRoom}
use Rattle.rx_live.proofs.Drops.{names_begun, names_more, names_ended, names_none}
use Rattle.rx_live.proofs.telling.tell_releases.Goals as goal
use Rattle.std.proofs.Common.{rules}

pub names-init : goal.names-init
names-init c = record {
  written = names_begun (session_of c.args.engine.now) (session_of c.push_name.new.engine) (string_bytes c.args.text.now) (string_bytes c.push_name.new.text)
      c.if-not-push_name.ensures.told;
  sound = c.push_name.ensures.sound;
  room = c.push_name.ensures.room (c.args.rest + 14) (omega arith) c.requires.room;
  capacity = c.push_name.ensures.capacity;
}

pub names-preserved : goal.names-preserved
names-preserved c = record {
  written = names_more (session_of c.args.engine.now) (session_of c.names.engine) (session_of c.push_name-in-names.new.engine) (string_bytes c.args.text.now)
      (string_bytes c.names.text) (string_bytes c.push_name-in-names.new.text) c.names.invariant.written c.names-test.ensures.told;
  sound = c.push_name-in-names.ensures.sound;
  room = c.push_name-in-names.ensures.room (c.args.rest + 14) (omega arith) c.names.invariant.room;
  capacity = (let was = c.names.invariant.capacity in let more = c.push_name-in-names.ensures.capacity in omega (arith, was, more));
}

pub returns-clause-told : goal.returns-clause-told
returns-clause-told c =
    let old = session_of c.args.engine.now in
    let now = session_of c.push_name-in-names.new.engine in
    let begun : List ℕ = string_bytes c.args.text.now in
    subst (λ (t : List ℕ). WritesNames old begun now t) (sym c.put.ensures.bytes)
    (names_ended old (session_of c.names.engine) now begun (string_bytes c.names.text) (string_bytes c.push_name-in-names.new.text) c.names.invariant.written
    c.names-test.ensures.told)

pub returns-then-not-push_name-clause-room : goal.returns-then-not-push_name-clause-room
returns-then-not-push_name-clause-room c = let r : HasRoom (c.args.rest + 14) c.args.text.now = c.requires.room in c.push_name.ensures.room (c.args.rest
    + 13) (omega arith) (omega (arith, r))

pub put-requires : goal.put-requires
put-requires c =
    let r : HasRoom (c.args.rest + 14) c.push_name-in-names.new.text = c.push_name-in-names.ensures.room (c.args.rest + 14) (omega arith)
    c.names.invariant.room in record { room = omega (arith, r) }

pub returns-clause-room : goal.returns-clause-room
returns-clause-room c =
    let r : HasRoom (c.args.rest + 14) c.push_name-in-names.new.text = c.push_name-in-names.ensures.room (c.args.rest + 14) (omega arith)
    c.names.invariant.room in omega (arith, r, c.put.ensures.len, c.put.ensures.capacity)

pub returns-then-not-push_name-clause-told : goal.returns-then-not-push_name-clause-told
returns-then-not-push_name-clause-told c = search (rules, names_none, string_bytes)

pub returns-clause-capacity : goal.returns-clause-capacity
returns-clause-capacity c =
    let was = c.names.invariant.capacity in
    let more = c.push_name-in-names.ensures.capacity in
    omega (arith, was, more, c.put.ensures.capacity)
