use Rattle.rx_live.proofs.Common.{ℕ, ◌+◌, List, sym, subst, arith, string_bytes, session_of, WritesNotes, HasRoom}
use Rattle.rx_live.proofs.Tellings.{notes_begun, notes_more, notes_ended}
use Rattle.rx_live.proofs.telling.tell_notes.Goals as goal

pub notes-init : goal.notes-init
notes-init c = record {
  written = notes_begun (session_of c.args.engine.now) (session_of c.push_next.new.engine) (string_bytes c.args.text.now) (string_bytes c.push_next.new.text)
      c.if-not-push_next.ensures.told;
  sound = c.push_next.ensures.sound;
  room = c.push_next.ensures.room (c.args.rest + 15) (omega arith) c.requires.room;
  capacity = c.push_next.ensures.capacity;
}

pub notes-preserved : goal.notes-preserved
notes-preserved c = record {
  written = notes_more (session_of c.args.engine.now) (session_of c.notes.engine) (session_of c.push_next-in-notes.new.engine) (string_bytes c.args.text.now)
      (string_bytes c.notes.text) (string_bytes c.push_next-in-notes.new.text) c.notes.invariant.written c.notes-test.ensures.told;
  sound = c.push_next-in-notes.ensures.sound;
  room = c.push_next-in-notes.ensures.room (c.args.rest + 15) (omega arith) c.notes.invariant.room;
  capacity = (let was = c.notes.invariant.capacity in let more = c.push_next-in-notes.ensures.capacity in omega (arith, was, more));
}

pub returns-clause-told : goal.returns-clause-told
returns-clause-told c =
    let old = session_of c.args.engine.now in
    let now = session_of c.push_next-in-notes.new.engine in
    let begun : List ℕ = string_bytes c.args.text.now in
    subst (λ (t : List ℕ). WritesNotes old begun now t) (sym c.put.ensures.bytes)
    (notes_ended old (session_of c.notes.engine) now begun (string_bytes c.notes.text) (string_bytes c.push_next-in-notes.new.text) c.notes.invariant.written
    c.notes-test.ensures.told)

pub returns-then-not-push_next-clause-room : goal.returns-then-not-push_next-clause-room
returns-then-not-push_next-clause-room c = let r : HasRoom (c.args.rest + 15) c.args.text.now = c.requires.room in c.push_next.ensures.room (c.args.rest
    + 14) (omega arith) (omega (arith, r))

pub put-requires : goal.put-requires
put-requires c =
    let r : HasRoom (c.args.rest + 15) c.push_next-in-notes.new.text = c.push_next-in-notes.ensures.room (c.args.rest + 15) (omega arith)
    c.notes.invariant.room in record { room = omega (arith, r) }

pub returns-clause-room : goal.returns-clause-room
returns-clause-room c =
    let r : HasRoom (c.args.rest + 15) c.push_next-in-notes.new.text = c.push_next-in-notes.ensures.room (c.args.rest + 15) (omega arith)
    c.notes.invariant.room in omega (arith, r, c.put.ensures.len, c.put.ensures.capacity)

pub returns-clause-capacity : goal.returns-clause-capacity
returns-clause-capacity c =
    let was = c.notes.invariant.capacity in
    let more = c.push_next-in-notes.ensures.capacity in
    omega (arith, was, more, c.put.ensures.capacity)
