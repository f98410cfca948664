-- A ground that has just been made stands, and one that stands does so with more room.
use Rattle.rx_ground.proofs.Common.{◌≡◌, ℕ, ◌+◌, ◌≤◌, List, [], get_or, slice_get, Option, None, sym, ap, subst, ◌∙◌, arith, is_some, Result}
use Rattle.rx_ground.proofs.Common.{OnOk, OnErr, both_ways, false≢true, none-some, Kept, Ghosts, Event, debt, open_count, Connect, IsSettled, Entry}
use Rattle.rx_ground.proofs.Common.{MayWait, none_waits, connecting, Key, Slots, find, with_number, Node, ResKey, Stowed, store_key, Tree, is_on, Ground}
use Rattle.rx_ground.proofs.Common.{Hubs, HasKey, AreRecords, IsStored, IsTied, AreTied, AreLeased, IsStanding, IsRoomier, SetsAside, HasRoom, HasRoomBeside, HasRoomToTell}
use Rattle.rx_event.proofs.Laws.Openness.{is_open_past}
use Rattle.rx_register.specs.State.{State as Register}
use Rattle.rx_register.proofs.Laws.Empty.{settled_empty, paid_empty}
use Rattle.rx_ground.specs.declared.base.Wanted.{Wanted}
use Rattle.rx_ground.proofs.LeasesAfterEvent.{leased_empty, leased_same}
use Rattle.rx_ground.proofs.HubsAfterEvent.{tied_beside}
use Rattle.std.proofs.Common.{rules}

-- slots of the same entries find the same
same_finds : {X : Type 0} (old new : Slots X) → new.entries ≡ old.entries → (key : Key) → find new key ≡ find old key
same_finds {X = X} old new same key = ap (λ (es : List (Option (Entry X))). with_number key.number (get_or es key.slot None)) same

has_still : {X : Type 0} (old new : Slots X) → new.entries ≡ old.entries → (n : ℕ) → HasKey old n → HasKey new n
has_still old new same n has = search (rules, same_finds)

-- and those of none find nothing
none_found : {X : Type 0} (slots : Slots X) → slots.entries ≡ [] → (key : Key) → find slots key ≡ None
none_found {X = X} slots empty key = ap (λ (es : List (Option (Entry X))). with_number key.number (get_or es key.slot None)) empty

module _ {T : Type 0} (g : Ghosts T) where
  tied_empty : (base : Kept) → (tree : Tree T) → tree.nodes.entries ≡ [] → tree.resources.entries ≡ [] → IsTied base g [] tree
  tied_empty base tree nodes resources = search (rules, none-some, none_found, both_ways, is_open_past, false≢true)

  hubs_empty : (base : Kept) → (tree : Tree T) (hubs : Hubs) → hubs.hubs ≡ [] → IsTied base g [] tree → AreTied base g [] tree hubs
  hubs_empty base tree hubs none tied = search (rules, none-some, slice_get, false≢true)

  -- a ground with no events, nodes, resources and hubs
  pub standing_empty : (b : Ground T) → b.register.history ≡ [] → b.register.pending ≡ [] → b.tree.nodes.entries ≡ [] →
      b.tree.resources.entries ≡ [] → b.hubs.hubs ≡ [] → b.leases.entries ≡ [] → IsStanding g b
  standing_empty b empty told nodes resources none no_leases = search (rules, AreTied, hubs_empty, tied_empty, leased_empty, none_found, settled_empty, paid_empty)

  -- a tree of the same entries and chain
  tied_same_entries : (base : Kept) → (h : List Event) (old new : Tree T) → new.nodes.entries ≡ old.nodes.entries →
      new.resources.entries ≡ old.resources.entries → new.chain ≡ old.chain → IsTied base g h old → IsTied base g h new
  tied_same_entries base h old new nodes resources chain tied = record {
    records = record {
      each = λ key node found. r.each key node (sym (at_node key) ∙ found);
      every = λ n alive. has_still old.nodes new.nodes nodes n (r.every n alive);
      quiet = λ key node found off. r.quiet key node (sym (at_node key) ∙ found) (ap (is_on key) (sym chain) ∙ off);
    };
    stored = record {
      each = λ key s found. of key.number s (tied.stored.each key s (sym (at_resource key) ∙ found));
      every = λ n made untaken. has_still old.resources new.resources resources n (tied.stored.every n made untaken);
    };
  }
    where
      r : AreRecords base h old.nodes old.chain
      r = tied.records

      at_node : (key : Key) → find new.nodes key ≡ find old.nodes key
      at_node = same_finds old.nodes new.nodes nodes

      at_resource : (key : Key) → find new.resources key ≡ find old.resources key
      at_resource = same_finds old.resources new.resources resources

      of : (n : ℕ) (s : Stowed T) → IsStored base g h old.nodes n s → IsStored base g h new.nodes n s
      of n s is = record {
        made = is.made;
        accepted = is.accepted;
        older = is.older;
        owned = is.owned;
        lent = is.lent;
        untaken = is.untaken;
        home = λ alive. ap is_some (at_node s.node) ∙ is.home alive;
        live = is.live;
        few = is.few;
        uses = is.uses;
      }

  -- a ground with more room, of which enough is set aside for closing everything
  pub standing_roomier : (old new : Ground T) → IsRoomier old new → debt old.register.base old.register.history ≤ new.register.room →
      IsStanding g old → IsStanding g new
  standing_roomier old new more enough s = record {
    tied = subst (λ (r : Register). AreTied r.base g r.history new.tree new.hubs) (sym more.register) tied;
    leased = subst (λ (h : List Event). AreLeased h new.tree.resources new.leases) (sym history) leased;
    settled = subst (λ (r : Register). IsSettled r.base r.history) (sym more.register) s.settled;
    paid = record {
      waits = 0;
      may_wait = subst (λ (h : List Event). MayWait h 0) (sym history) (none_waits (λ k due. s.settled.none (Connect k) (connecting due)));
      events = let d = ap (λ (r : Register). debt r.base r.history) more.register in omega arith;
      notes = let o = ap (λ (h : List Event). open_count h) history in let n = s.paid.notes in let m = more.mail_room in omega arith;
      pending = ap (λ (r : Register). r.pending) more.register ∙ s.paid.pending;
    };
  }
    where
      history : new.register.history ≡ old.register.history
      history = ap (λ (r : Register). r.history) more.register

      nodes : new.tree.nodes.entries ≡ old.tree.nodes.entries
      nodes = ap (λ (slots : Slots Node). slots.entries) more.nodes

      resources : new.tree.resources.entries ≡ old.tree.resources.entries
      resources = ap (λ (slots : Slots (Stowed T)). slots.entries) more.resources

      leases : new.leases.entries ≡ old.leases.entries
      leases = ap (λ (slots : Slots ResKey). slots.entries) more.leases

      leased : AreLeased old.register.history new.tree.resources new.leases
      leased = leased_same old.register.history old.tree.resources old.leases s.leased new.tree.resources new.leases
          (λ l res is. ap is_some (same_finds old.tree.resources new.tree.resources resources (store_key res)) ∙ is.stored)
          (same_finds old.leases new.leases leases)

      tied : AreTied old.register.base g old.register.history new.tree new.hubs
      tied = tied_beside g old.register.base (ap (λ (hubs : Hubs). hubs.hubs) more.hubs)
          (λ key some. ap is_some (same_finds old.tree.nodes new.tree.nodes nodes key) ∙ some) s.tied
          (tied_same_entries old.register.base old.register.history old.tree new.tree nodes resources more.chain s.tied.of_tree)

-- other room set aside ------------------------------------------------------------------------------

-- by what the register answers that sets it aside
on_ok : {A E : Type 0} {P Q : Type 0} (answer : Result A E) → (P → Q) → OnOk answer P → OnOk answer Q
on_ok x0 f p = search rules

pub aside_wanted : {A E : Type 0} (answer : Result A E) (room owing load events : ℕ) → load ≡ owing → OnOk answer (room ≡ load + events) →
    OnOk answer (owing + events ≤ room)
aside_wanted answer room owing load events same = on_ok answer (λ is. omega arith)

pub aside_enough : {A E : Type 0} (answer : Result A E) (old new : Register) (owing load events : ℕ) → load ≡ owing → owing ≤ old.room →
    OnOk answer (new.room ≡ load + events) → OnErr answer (new ≡ old) → owing ≤ new.room
aside_enough x0 old new owing load events same paid is kept = search rules

module _ {T : Type 0} where
  -- another register, in which no more than the room changed
  pub sets_aside : (old : Ground T) (register : Register) → register ≡ record old.register { room = register.room } →
      debt old.register.base old.register.history ≤ register.room → SetsAside old (record old { register = register })
  sets_aside old register kept enough = record { kept = ap (λ (r : Register). record old { register = r }) kept; enough = enough }

  -- where the register stayed so did all
  pub same_register : (old seen : Ground T) (register : Register) → register ≡ old.register → old ≡ seen → record old { register = register } ≡ seen
  same_register old seen register same is = ap (λ (r : Register). record old { register = r }) same ∙ is

  aside_roomier : {old new : Ground T} → SetsAside old new → IsRoomier old new
  aside_roomier {old} {new} aside = search rules

  pub standing_aside : (g : Ghosts T) (old new : Ground T) → SetsAside old new → IsStanding g old → IsStanding g new
  standing_aside g old new aside = standing_roomier g old new (aside_roomier aside) aside.enough

  pub roomier_aside : (old new : Ground T) → SetsAside old new → IsRoomier old new
  roomier_aside old new aside = aside_roomier aside

  -- and then more room
  pub roomier_after_aside : (old mid new : Ground T) → SetsAside old mid → IsRoomier mid new → IsRoomier old new
  roomier_after_aside old mid new aside more = search rules

  -- and then room for more notes
  pub roomier_mail : (old : Ground T) (register : Register) → register ≡ record old.register { mail_room = register.mail_room } →
      old.register.mail_room ≤ register.mail_room → IsRoomier old (record old { register = register })
  roomier_mail old register kept more = search rules

  pub standing_mail : (g : Ghosts T) (old : Ground T) (register : Register) → register ≡ record old.register { mail_room = register.mail_room } →
      old.register.mail_room ≤ register.mail_room → IsStanding g old → IsStanding g (record old { register = register })
  standing_mail g old register kept more s =
      let paid = s.paid.events in
      let room = ap (λ (r : Register). r.room) kept in
      standing_roomier g old (record old { register = register }) (roomier_mail old register kept more) (omega arith) s

  -- and then more room of any kind
  pub roomier_on : (old mid new : Ground T) → IsRoomier old mid → IsRoomier mid new → IsRoomier old new
  roomier_on old mid new first then = record {
    register = then.register ∙ ap (λ (r : Register). record r { room = new.register.room; mail_room = new.register.mail_room }) first.register;
    mail_room = let a = first.mail_room in let b = then.mail_room in omega arith;
    nodes = then.nodes ∙ ap (λ (s : Slots Node). record s { room = new.tree.nodes.room }) first.nodes;
    resources = then.resources ∙ ap (λ (s : Slots (Stowed T)). record s { room = new.tree.resources.room }) first.resources;
    chain = then.chain ∙ first.chain;
    hubs = then.hubs ∙ ap (λ (hs : Hubs). record hs { room = new.hubs.room; slots = new.hubs.slots }) first.hubs;
    leases = then.leases ∙ ap (λ (s : Slots ResKey). record s { room = new.leases.room }) first.leases;
    closed = then.closed ∙ first.closed;
  }

  -- room beside what closing everything needs, of which that for the events and the notes was gotten before
  pub has_beside : (old new : Ground T) (wanted : Wanted) → IsRoomier old new → old.register.room ≤ new.register.room →
      HasRoomToTell old wanted.events wanted.notes → HasRoom new (record wanted { events = 0; notes = 0 }) → HasRoomBeside new wanted
  has_beside old new wanted more room tells has =
      let events = tells.events in
      let notes = tells.notes in
      let mail = more.mail_room in
      let owing = ap (λ (r : Register). debt r.base r.history) more.register in
      let alive = ap (λ (r : Register). open_count r.history) more.register in
      record {
        events = omega arith;
        notes = omega arith;
        nodes = has.nodes;
        space = has.space;
        resources = has.resources;
        hubs = has.hubs;
        slots = has.slots;
        leases = has.leases;
      }
