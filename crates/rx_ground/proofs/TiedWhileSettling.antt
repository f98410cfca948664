-- What the loop that settles leaves of the tie.
use Rattle.rx_ground.proofs.Common.{◌≡◌, ℕ, ◌<◌, Bool, true, List, [], ◌∷◌, ◌++◌, length, Option, Some, None, is_some, IsSome, IfSome, option_map, sym}
use Rattle.rx_ground.proofs.Common.{slice_get, refl, ap, subst, ◌∙◌, ◌≤◌, ◌+◌, arith, length-append, AllByRecursion, option_and_then, false≢true, Kept}
use Rattle.rx_ground.proofs.Common.{none-some, same_Some, Ghosts, Terminal, Marks, Event, Connect, End, is_merging, is_open, after_child}
use Rattle.rx_ground.proofs.Common.{IsConnectDue, IsForced, IsSettled, IsLawful, IsForcedOn, forced, stays, more, is_open_within, Key, Slots}
use Rattle.rx_ground.proofs.Common.{stays_closed, forced_connected, find, Node, Tree, Rewrites, is_on, with_marks, with_due, key_is, some_of}
use Rattle.rx_ground.proofs.Common.{IsPaid, told_by_end, Due, IsChained, AreRecordsOf, due_at_in, due_forced, AreLeased, AreRecords, AreTied, IsReady, IsNext}
use Rattle.rx_ground.proofs.Common.{WithChain, KeepsOlder, Remarks, HasRoomToConnect, is_there, key_due, TakesNoMemory, Settles, Closes, Ground, list_room}
use Rattle.rx_ground.proofs.Common.{HubDue, event_of, IsDueIn, IsQuiet, ConcernsHub, Hub, Hubs, find_hub, hubs_forced, found_hub}
use Rattle.rx_register.specs.State.{State as Register}
use Rattle.rx_register.proofs.Laws.Paid.{forced_room, end_room, forced_pays}
use Rattle.rx_hub.specs.Operators.{IsDueAt, IsQuiet as IsQuietTree}
use Rattle.rx_ground.specs.Wrote.{IsBetween, Wrote, ChangesForced}
use Rattle.rx_ground.proofs.EventWritten.{seen}
use Rattle.rx_ground.proofs.Memory.{no_memory, memory_on}
use Rattle.rx_ground.proofs.Laws.GoneStaysGone.{gone_forced, gathers_nothing, gathers_on, closes_none, closes_on}
use Rattle.rx_ground.proofs.Records.{as_records, rechained}
use Rattle.rx_hub.specs.declared.hub.HubDue.TheVariants.{Connect as ConnectDue, End as EndDue, Close as CloseDue}
use Rattle.rx_hub.proofs.Laws.Dues.{none_waits, quiet_settles}
use Rattle.std.proofs.Common.{rules}

-- settling ------------------------------------------------------------------------------------------

-- a Connect is forced where its hub waits for it
connect_due : (base : Kept) → {h : List Event} {n : ℕ} → IsForced base h (Connect n) → IsConnectDue h n
connect_due base x1 = search rules

-- a key that is among those that are found is found
found_on : (nodes : Slots Node) (key : Key) (keys : List Key) → AllByRecursion (λ k. IsSome (find nodes k)) keys → is_on key keys ≡ true →
    IsSome (find nodes key)
found_on nodes key [] all on = absurd (false≢true on)
found_on nodes key (k ∷ keys) all on = search (rules, find, is_some, key_is, found_on nodes key keys all.1)

-- where no hub has anything to do
module _ (base : Kept) {T : Type 0} (g : Ghosts T) (h : List Event) (tree : Tree T) (hubs : Hubs)
    (tied : AreTied base g h tree hubs) (quiet : IsQuiet hubs.hubs) where
  records : AreRecordsOf base h tree.nodes
  records = as_records base h tree.nodes tree.chain tied.of_tree.records

  -- what is due by a record is forced
  pub node_forced : (next : Due) → IsDueAt tree.nodes next → IsForced base h (End next.node.number next.terminal)
  node_forced next is = due_forced base h tree.nodes _ records (none_waits h hubs.hubs tied.published quiet.connected) (due_at_in tree.nodes next is)

  -- and where nothing is either, nothing is forced
  pub quiet_settled : IsQuietTree tree.nodes → IsSettled base h
  quiet_settled all = quiet_settles base h tree.nodes hubs.hubs records tied.published all quiet

-- where nothing stands on the chain nothing is due at any record
pub quiet_chain : {base : Kept} {h : List Event} {nodes : Slots Node} {chain : List Key} → AreRecords base h nodes chain → chain ≡ [] → IsQuietTree nodes
quiet_chain {nodes} {chain} records none key = search (rules, find, option_and_then)

module _ {T : Type 0} (g : Ghosts T) (b : Ground T) (tied : AreTied b.register.base g b.register.history b.tree b.hubs) where
  -- what is due at a hub comes next
  pub hub_next : (d : HubDue) → IsDueIn b.hubs.hubs d → ConcernsHub b.hubs.hubs d → IsNext b d
  hub_next d is concerns = record { forced = hubs_forced b.register.base b.register.history b.hubs.hubs d tied.published is; there = by_due d concerns } where
    at_hub : (hub : Hub) → find_hub b.hubs.hubs hub.number ≡ Some hub → (i : ℕ) × (slice_get b.hubs.hubs i ≡ Some hub)
    at_hub hub found = let f = found_hub b.hubs.hubs hub.number hub found in (f.0, f.1.0)

    by_due : (d : HubDue) → ConcernsHub b.hubs.hubs d → is_there b.tree.nodes (key_due d) ≡ true
    by_due (ConnectDue n) c = refl
    by_due (EndDue key t) c = let at_i = at_hub c.hub c.there in found_on b.tree.nodes key c.hub.subscribers (tied.joined.subscribers at_i.0 c.hub at_i.1) c.own
    by_due (CloseDue key) c =
        let at_i = at_hub c.hub c.there in
        subst (λ (o : Option Key). IfSome o (λ k. IsSome (find b.tree.nodes k))) c.own (tied.joined.connection at_i.0 c.hub at_i.1)

  -- what comes next may be written
  pub next_ready : (d : HubDue) → IsLawful b.register.base b.register.history → IsNext b d → IsPaid b.register → IsReady b.register (event_of d)
  next_ready d law next paid = search (rules, next, forced, forced_room, law, paid, length, told_by_end, end_room)

-- nodes that stay, change after change ---------------------------------------------------------------

-- what is open after one event more was open before
open_before : (h : List Event) (e : Event) (n : ℕ) → n < length h → is_open (h ++ e ∷ []) n ≡ true → is_open h n ≡ true
open_before h e n l alive = search (rules, false≢true, stays_closed)

older_on : {h : List Event} (e : Event) {number : ℕ} (old mid new : Slots Node) → number ≤ length h →
    ((key : Key) → IsSome (find old key) → key.number < length h) →
    KeepsOlder h number old mid → KeepsOlder (h ++ e ∷ []) (length h) mid new → KeepsOlder (h ++ e ∷ []) number old new
older_on {h} e {number} old mid new le within first then = search (rules, open_before)

-- the loop that settles -----------------------------------------------------------------------------

-- what was forced so far was written
pub record IsOnTheWay {T : Type 0} (g : Ghosts T) (start now : Ground T) : Type 0 where
  pub between : IsBetween g now
  pub paid : IsPaid now.register
  pub room : HasRoomToConnect now.register.history now.tree.nodes.room (list_room now)
  pub base : now.register.base ≡ start.register.base
  pub forced : IsForcedOn start.register.base start.register.history now.register.history
  pub grown : length start.register.history ≤ length now.register.history
  pub within : (key : Key) → IsSome (find start.tree.nodes key) → key.number < length now.register.history
  pub nodes : KeepsOlder now.register.history (length start.register.history) start.tree.nodes now.tree.nodes
  pub resources : now.tree.resources ≡ start.tree.resources
  pub same_leases : now.leases ≡ start.leases
  pub hubs : length now.hubs.hubs ≡ length start.hubs.hubs
  pub limit : now.register.limit ≡ start.register.limit
  pub given : now.register.given ≡ start.register.given
  pub memory : TakesNoMemory start now
  pub closed : Closes start now

pub way_starts : {T : Type 0} (g : Ghosts T) (b : Ground T) → IsBetween g b → IsPaid b.register →
    HasRoomToConnect b.register.history b.tree.nodes.room (list_room b) → IsOnTheWay g b b
way_starts g b between paid room = record {
  between = between;
  paid = paid;
  room = room;
  base = refl;
  forced = stays;
  grown = omega arith;
  within =
      λ key some. let x = some_of (find b.tree.nodes key) some in is_open_within b.register.history key.number (between.tied.of_tree.records.each key x.0 x.1).alive;
  nodes = record { from = λ key some l. some; still = λ key some alive. some };
  resources = refl;
  same_leases = refl;
  hubs = refl;
  limit = refl;
  given = refl;
  memory = no_memory b;
  closed = closes_none refl (gathers_nothing b.register.history b.closed);
}

-- where nothing is forced any more the way is at its end
pub settled : {T : Type 0} {g : Ghosts T} {start now : Ground T} → IsSettled now.register.base now.register.history → IsOnTheWay g start now →
    Settles g start now
settled none w = record {
  standing = record { tied = w.between.tied; leased = w.between.leased; settled = none; paid = w.paid };
  base = w.base;
  forced = w.forced;
  nodes = w.nodes;
  resources = w.resources;
  limit = w.limit;
  given = w.given;
  hubs = w.hubs;
  leases = w.same_leases;
  closed = w.closed;
  memory = w.memory;
}

-- another chain is no other way
pub way_rechained : {T : Type 0} (g : Ghosts T) (start old new : Ground T) → IsOnTheWay g start old → WithChain old new →
    IsBetween g new → IsOnTheWay g start new
way_rechained {T = T} g start old new w kept between = record {
  between = between;
  paid = subst IsPaid (sym register) w.paid;
  room = subst (λ (b : Ground T). HasRoomToConnect b.register.history b.tree.nodes.room (list_room b)) (sym kept.same) w.room;
  base = ap (λ (s : Register). s.base) register ∙ w.base;
  forced = subst (λ (s : Register). IsForcedOn start.register.base start.register.history s.history) (sym register) w.forced;
  grown = let l = ap (λ (s : Register). length s.history) register in let n = w.grown in omega arith;
  within = λ key some. let l = ap (λ (s : Register). length s.history) register in let n = w.within key some in omega arith;
  nodes = subst (λ (b : Ground T). KeepsOlder b.register.history (length start.register.history) start.tree.nodes b.tree.nodes) (sym kept.same) w.nodes;
  resources = ap (λ (b : Ground T). b.tree.resources) kept.same ∙ w.resources;
  same_leases = ap (λ (b : Ground T). b.leases) kept.same ∙ w.same_leases;
  hubs = ap (λ (b : Ground T). length b.hubs.hubs) kept.same ∙ w.hubs;
  limit = ap (λ (s : Register). s.limit) register ∙ w.limit;
  given = ap (λ (s : Register). s.given) register ∙ w.given;
  memory = subst (TakesNoMemory start) (sym kept.same) (record {
    events = w.memory.events;
    notes = w.memory.notes;
    nodes = w.memory.nodes;
    resources = w.memory.resources;
    hubs = w.memory.hubs;
    slots = w.memory.slots;
    closing = w.memory.closing;
  });
  closed = subst (λ (b : Ground T). Closes start b) (sym kept.same) (record { gathers = w.closed.gathers; found = w.closed.found });
}
  where
    register : new.register ≡ old.register
    register = ap (λ (b : Ground T). b.register) kept.same

-- what comes next, if it is a Connect, has room
pub next_room : {T : Type 0} (b : Ground T) (d : HubDue) → IsNext b d → HasRoomToConnect b.register.history b.tree.nodes.room (list_room b) →
    (n : ℕ) → d ≡ ConnectDue n → (0 < b.tree.nodes.room) × (0 < list_room b)
next_room b d next room n is =
    room n (connect_due b.register.base (subst (λ (x : HubDue). IsForced b.register.base b.register.history (event_of x)) is next.forced))

-- what comes next was written
pub record WritesNext {T : Type 0} (g : Ghosts T) (old new : Ground T) (d : HubDue) : Type 0 where
  pub law : IsLawful old.register.base old.register.history
  pub next : IsNext old d
  pub wrote : Wrote g old (event_of d ∷ []) new
  pub frame : ChangesForced old new

-- one event more
pub way_on : {T : Type 0} {g : Ghosts T} {start old new : Ground T} {d : HubDue} → IsOnTheWay g start old → WritesNext g old new d → IsOnTheWay g start new
way_on {start} {old} {new} {d} w one = record {
  between = one.wrote.between;
  paid = forced_pays old.register new.register (event_of d) one.law one.next.forced w.paid one.wrote.written;
  room = λ n waits. absurd (forced_connected old.register.base old.register.history (event_of d) w.paid.waits w.paid.may_wait one.next.forced n
      (subst (λ (k : List Event). IsConnectDue k n) one.wrote.written.history waits));
  base = one.wrote.written.base ∙ w.base;
  forced = subst (IsForcedOn start.register.base start.register.history) (sym one.wrote.written.history)
      (more w.forced (subst (λ (b : Kept). IsForced b old.register.history (event_of d)) w.base one.next.forced));
  grown = let n = w.grown in let l = longer in omega arith;
  within = λ key some. let n = w.within key some in let l = longer in omega arith;
  nodes = subst (λ (k : List Event). KeepsOlder k (length start.register.history) start.tree.nodes new.tree.nodes) (sym one.wrote.written.history)
      (older_on (event_of d) start.tree.nodes old.tree.nodes new.tree.nodes w.grown w.within w.nodes
      (subst (λ (k : List Event). KeepsOlder k (length old.register.history) old.tree.nodes new.tree.nodes) one.wrote.written.history one.frame.nodes));
  resources = one.frame.resources ∙ w.resources;
  same_leases = one.frame.leases ∙ w.same_leases;
  hubs = one.frame.hubs ∙ w.hubs;
  limit = one.wrote.written.limit ∙ w.limit;
  given = one.wrote.written.given ∙ w.given;
  memory = memory_on start old new w.memory one.wrote.memory;
  closed = closes_on w.grown w.nodes.from w.closed one.wrote.closed (gathers_on (gone_forced start.register.base w.forced) (event_of d ∷ [])
      one.wrote.written.history w.closed.gathers one.wrote.closed.gathers);
}
  where
    longer : length new.register.history ≡ length old.register.history + 1
    longer = ap (λ (k : List Event). length k) one.wrote.written.history ∙ length-append old.register.history (event_of d ∷ [])

-- the chain -----------------------------------------------------------------------------------------

-- another chain off which nothing is due leaves all of one history
pub between_rechained : {T : Type 0} {g : Ghosts T} {now given new : Ground T} (chain : List Key) → now ≡ given → IsBetween g given →
    new.register ≡ now.register → new.leases ≡ now.leases → new.hubs ≡ now.hubs → new.tree ≡ record now.tree { chain = chain } →
    IsChained new.tree.nodes new.tree.chain → IsBetween g new
between_rechained {T = T} {g} {now} {new = new} chain same given_is register leases hubs tree off = record {
  tied = subst (λ (r : Register). AreTied r.base g r.history new.tree new.hubs) (sym register)
      (subst (AreTied now.register.base g now.register.history new.tree) (sym hubs)
      (subst (λ (t : Tree T). AreTied now.register.base g now.register.history t now.hubs) (sym tree) tied));
  leased = subst (λ (r : Register). AreLeased r.history new.tree.resources new.leases) (sym register)
      (subst (AreLeased now.register.history new.tree.resources) (sym leases)
      (subst (λ (t : Tree T). AreLeased now.register.history t.resources now.leases) (sym tree) was.leased));
}
  where
    was : IsBetween g now
    was = seen (IsBetween g) same given_is

    old : Tree T
    old = now.tree

    tied : AreTied now.register.base g now.register.history (record now.tree { chain = chain }) now.hubs
    tied = record {
      of_tree = record {
        records = rechained now.register.base now.register.history old.nodes old.chain chain was.tied.of_tree.records
            (subst (λ (t : Tree T). IsChained t.nodes t.chain) tree off);
        stored = record { each = was.tied.of_tree.stored.each; every = was.tied.of_tree.stored.every };
      };
      published = was.tied.published;
      joined = was.tied.joined;
    }

-- the marks of this key's record are these, and its key goes on the chain where its node has to end by them
pub record SetsMarks {T : Type 0} (old new : Tree T) (key : Key) (marks : Marks) : Type 0 where
  pub nodes : Rewrites old.nodes new.nodes key (with_marks marks)
  pub chain : new.chain ≡ with_due new.nodes key old.chain
  pub stored : new.resources ≡ old.resources

-- marks that were read and set anew change so
pub set_remarks : {T : Type 0} {old new : Tree T} {key : Key} {marks after : Marks} (change : Marks → Marks) →
    option_map (λ (node : Node). node.marks) (find old.nodes key) ≡ Some marks → after ≡ change marks → SetsMarks old new key after →
    Remarks old new key change
set_remarks {T = T} {old} {new} {key} {marks} {after} change at_marks changes sets = by_value (find old.nodes key) refl where
  by_value : (o : Option Node) → find old.nodes key ≡ o → Remarks old new key change
  by_value None e = absurd (none-some marks (sym (ap (option_map (λ (node : Node). node.marks)) e) ∙ at_marks))
  by_value (Some x) e =
      let is_marks : marks ≡ x.marks = same_Some marks x.marks (sym at_marks ∙ ap (option_map (λ (node : Node). node.marks)) e) in
      let now : with_marks after x ≡ with_marks (change x.marks) x = ap (λ (m : Marks). with_marks m x) (changes ∙ ap change is_marks) in
      record {
        nodes = record {
          changed = sets.nodes.changed ∙ ap (option_map (with_marks after)) e ∙ ap (λ (y : Node). Some y) now ∙
              sym (ap (option_map (λ (node : Node). with_marks (change node.marks) node)) e);
          others = sets.nodes.others;
          rest = sets.nodes.rest;
        };
        chain = sets.chain;
        resources = sets.stored;
      }

-- the marks of a record that is found are set so by the end of a child, and it stays in its place
pub end_marked : {T : Type 0} (old new : Tree T) (key : Key) (source : Bool) (t : Terminal) → ((node : Node) → find old.nodes key ≡ Some node →
    Rewrites old.nodes new.nodes key (with_marks (after_child source (is_merging node.made) t node.marks))) →
    new.chain ≡ with_due new.nodes key old.chain → new.resources ≡ old.resources →
    IfSome (find old.nodes key) (λ node. Remarks old new key (after_child source (is_merging node.made) t))
end_marked {T = T} old new key source t nodes chain stored = search (rules, find, option_map, chain, set_remarks)

pub end_rest : {T : Type 0} (old new : Tree T) (key : Key) (source : Bool) (t : Terminal) → IsSome (find old.nodes key) → ((node : Node) →
    find old.nodes key ≡ Some node → Rewrites old.nodes new.nodes key (with_marks (after_child source (is_merging node.made) t node.marks))) →
    new.nodes ≡ record old.nodes { entries = new.nodes.entries }
end_rest {T = T} old new key source t there nodes = let x = some_of (find old.nodes key) there in (nodes x.0 x.1).rest

-- the marks of a record that is found change so
pub found_marked : {T : Type 0} {old new : Tree T} {key : Key} (change : Marks → Marks) → IsSome (find old.nodes key) → ((node : Node) →
    find old.nodes key ≡ Some node → Rewrites old.nodes new.nodes key (with_marks (change node.marks))) → new.chain ≡ with_due new.nodes key old.chain →
    new.resources ≡ old.resources → Remarks old new key change
found_marked {T = T} {old} {new} {key} change there nodes chain stored =
    let x = some_of (find old.nodes key) there in
    let at_marks : option_map (λ (node : Node). node.marks) (find old.nodes key) ≡ Some x.0.marks = ap (option_map (λ (node : Node). node.marks)) x.1 in
    let sets : SetsMarks old new key (change x.0.marks) = record { nodes = nodes x.0 x.1; chain = chain; stored = stored } in
    set_remarks change at_marks refl sets
