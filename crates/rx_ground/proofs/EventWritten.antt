-- What a write leaves of a ground, by what it changed.
use Rattle.rx_ground.proofs.Common.{◌≡◌, ℕ, ◌+◌, ◌-◌, ◌∷◌, [], ◌++◌, List, length, false, true, refl, sym, ap, subst, ◌∙◌, not, ◌&&◌, map, Option}
use Rattle.rx_ground.proofs.Common.{IsSome, Ghosts, Event, makes_node, makes_lease, is_return, joins_hubs, shuts_none, touches, is_open, is_within}
use Rattle.rx_ground.proofs.Common.{IsLawful, MayFollow, IsReady, Writes, Key, Slots, find, Node, ResKey, Stowed, store_key, Tree, LastEnd, Hubs, hubs_after}
use Rattle.rx_ground.proofs.Common.{without_gone, is_inside, Ground, AreStored, IsTied, AreTied, AreLeased, IsLeaseOf, KeepsHeld, KeepsLeases, KeepsNodes}
use Rattle.rx_ground.proofs.Common.{Closes, TakesNoMemory, IsSound, IsNewNode, Moves, is_some, Closed, closed_keys}
use Rattle.rx_register.specs.State.{State as Register}
use Rattle.rx_ground.specs.Wrote.{IsBetween, Wrote, ChangesMarks, ClosesNodes, OpensNode, IsCut}
use Rattle.rx_ground.proofs.Memory.{no_memory, written_memory, memory_beside}
use Rattle.rx_ground.proofs.StaysTied.{tied_still}
use Rattle.rx_ground.proofs.HubsAfterEvent.{tied_written, tied_on_same, tied_closed}
use Rattle.rx_ground.proofs.LeasesAfterEvent.{leased_on, leased_same}
use Rattle.rx_ground.proofs.MovedHaveGone.{gathers_closed}
use Rattle.rx_ground.proofs.Laws.GoneStaysGone.{closes_quiet, closes_moved}
use Rattle.rx_ground.proofs.Laws.KeysKept.{KeepsKeys, keeps_closed, keeps_held, keeps_opened, leases_stay}

-- the event opens and closes no node, marks none, and changes no hub
pub record IsOfResources (e : Event) : Type 0 where
  pub shuts : shuts_none e ≡ true
  pub makes : makes_node e ≡ false
  pub joins : joins_hubs e ≡ false
  pub untouched : (h : List Event) (n : ℕ) → touches h n e ≡ false

-- a ground of these parts, whose list has room for so many
abbrev pub ground_of : {T : Type 0} → Register → Tree T → Hubs → Slots ResKey → List Closed → ℕ → Ground T
ground_of register tree hubs leases list most =
    record { register = register; tree = tree; hubs = hubs; leases = leases; closed = closed_keys list; space = most - tree.nodes.count }

module _ {T : Type 0} where
  -- what is told of the ground that a call is given holds of what it sees
  pub seen : {now given : Ground T} (P : Ground T → Type 0) → now ≡ given → P given → P now
  seen P same holds = subst P (sym same) holds

  -- and so of a cut, as the call finds it
  pub cut_seen : {now given mid left : Ground T} {top : ℕ} {ended : Option LastEnd} → now ≡ given → mid ≡ left → IsCut given left top ended →
      IsCut now mid top ended
  cut_seen {now = now} {left = left} {top = top} {ended = ended} same is cut =
      subst (λ (b : Ground T). IsCut now b top ended) (sym is) (subst (λ (b : Ground T). IsCut b left top ended) (sym same) cut)

  -- the nodes, the hubs, the list of what is closed and its room are as before
  pub record HasSameNodes (old new : Ground T) : Type 0 where
    pub nodes : new.tree.nodes ≡ old.tree.nodes
    pub chain : new.tree.chain ≡ old.tree.chain
    pub hubs : new.hubs ≡ old.hubs
    pub closed : new.closed ≡ old.closed
    pub space : new.space ≡ old.space

  -- room is kept where the nodes are, and where the list has room for as many
  pub same_nodes : {old new : Ground T} → new.tree.nodes ≡ old.tree.nodes → new.tree.chain ≡ old.tree.chain → new.hubs ≡ old.hubs →
      new.closed ≡ old.closed → (most : ℕ) → old.space ≡ most - old.tree.nodes.count → new.space ≡ most - new.tree.nodes.count → HasSameNodes old new
  same_nodes nodes chain hubs closed most was is = record {
    nodes = nodes;
    chain = chain;
    hubs = hubs;
    closed = closed;
    space = is ∙ ap (λ (s : Slots Node). most - s.count) nodes ∙ sym was;
  }

module _ {T : Type 0} (g : Ghosts T) where
  -- an event that may come next is on the register
  pub record IsStep (old : Ground T) (e : Event) (register : Register) : Type 0 where
    pub law : IsLawful old.register.base old.register.history
    pub between : IsBetween g old
    pub next : MayFollow old.register.base old.register.history e
    pub written : Writes old.register (e ∷ []) register

  pub step : {now given : Ground T} {e : Event} {register : Register} → now ≡ given → IsLawful now.register.base now.register.history → IsBetween g given →
      IsReady given.register e → Writes now.register (e ∷ []) register → IsStep now e register
  step {e = e} same law between ready written = record {
    law = law;
    between = seen (IsBetween g) same between;
    next = (seen (λ b. IsReady b.register e) same ready).next;
    written = written;
  }

  -- what an event about resources leaves of them and of the leases
  pub record HasResources (old new : Ground T) (e : Event) : Type 0 where
    pub places : new.tree.resources.count + new.tree.resources.room ≡ old.tree.resources.count + old.tree.resources.room
    pub stored : AreStored old.register.base g (old.register.history ++ e ∷ []) new.tree
    pub leased : AreLeased (old.register.history ++ e ∷ []) new.tree.resources new.leases
    pub held : KeepsHeld old.tree new.tree (length old.register.history)
    pub leases : KeepsLeases old.leases new.leases (length old.register.history)

  -- the leases are those before, where the event is about none and where the resource of each is there still
  pub leased_still : {old : Ground T} {e : Event} {register : Register} → IsStep old e register → makes_lease e ≡ false → is_return e ≡ false →
      {leases : Slots ResKey} {resources : Slots (Stowed T)} → leases ≡ old.leases →
      ((l : ℕ) (res : ResKey) → IsLeaseOf old.register.history old.tree.resources l res → IsSome (find resources (store_key res))) →
      AreLeased (old.register.history ++ e ∷ []) resources leases
  leased_still {old} {e} s none quiet {leases} {resources} same still = subst (AreLeased (old.register.history ++ e ∷ []) resources) (sym same)
      (leased_on old.register.history resources old.leases (leased_same old.register.history old.tree.resources old.leases s.between.leased resources
      old.leases still (λ key. refl)) old.register.base e s.law none quiet)

  module _ {old new : Ground T} {e : Event} (s : IsStep old e new.register) where
    -- what is so of the longer history is so of the register
    pub wrote_one : AreTied old.register.base g (old.register.history ++ e ∷ []) new.tree new.hubs → AreLeased (old.register.history ++ e ∷ []) new.tree.resources new.leases →
        KeepsKeys old.tree new.tree (length old.register.history) → KeepsLeases old.leases new.leases (length old.register.history) →
        Closes old new → TakesNoMemory old new → Wrote g old (e ∷ []) new
    wrote_one tied leased keys leases closed memory = record {
      written = s.written;
      between = record {
        tied = tied_written g s.written tied;
        leased = subst (λ (k : List Event). AreLeased k new.tree.resources new.leases) (sym s.written.history) leased;
      };
      nodes = keys.nodes;
      held = record { from = keys.held };
      leases = leases;
      closed = closed;
      memory = memory;
    }

    -- an event about no lease, beside the same resources and leases
    pub wrote_beside : makes_lease e ≡ false → is_return e ≡ false → new.leases ≡ old.leases → new.tree.resources ≡ old.tree.resources →
        AreTied old.register.base g (old.register.history ++ e ∷ []) new.tree new.hubs → KeepsKeys old.tree new.tree (length old.register.history) →
        Closes old new → TakesNoMemory old new → Wrote g old (e ∷ []) new
    wrote_beside none quiet leases resources tied keys closed memory = wrote_one tied
        (leased_still s none quiet leases (λ l res is. ap (λ (r : Slots (Stowed T)). is_some (find r (store_key res))) resources ∙ is.stored)) keys
        (leases_stay old.leases new.leases (length old.register.history) leases) closed memory

    -- an event about resources
    pub wrote_resources : IsOfResources e → HasSameNodes old new → HasResources old new e → Wrote g old (e ∷ []) new
    wrote_resources is frame has = wrote_one tied has.leased (keeps_held old.tree new.tree (length old.register.history) frame.nodes has.held) has.leases
        (closes_quiet e s.next is.shuts s.written frame.closed) memory
      where
        still : IsTied old.register.base g (old.register.history ++ e ∷ []) new.tree
        still = tied_still old.register.base g old.register.history e s.law s.next old.tree s.between.tied.of_tree new.tree is.shuts is.makes (is.untouched old.register.history)
            frame.nodes frame.chain has.stored

        tied : AreTied old.register.base g (old.register.history ++ e ∷ []) new.tree new.hubs
        tied = subst (AreTied old.register.base g (old.register.history ++ e ∷ []) new.tree) (sym frame.hubs)
            (tied_on_same g s.law s.next s.between.tied is.joins is.shuts frame.nodes still)

        memory : TakesNoMemory old new
        memory =
            let nodes = ap (λ (n : Slots Node). n.count + n.room) frame.nodes in
            let count = ap (λ (n : Slots Node). n.count) frame.nodes in
            written_memory (e ∷ []) s.written nodes has.places (ap (λ (n : ℕ). n + new.space) count ∙ ap (λ (n : ℕ). old.tree.nodes.count + n) frame.space)
            (ap (λ (hs : Hubs). length hs.hubs + hs.room) frame.hubs) (ap (λ (hs : Hubs). hs.slots) frame.hubs)

  -- marks of nodes changed, or none, and nothing else
  pub record HasMarks (old new : Ground T) (e : Event) : Type 0 where
    pub s : IsStep old e new.register
    pub tied : AreTied old.register.base g (old.register.history ++ e ∷ []) new.tree new.hubs
    pub kept : KeepsNodes (old.register.history ++ e ∷ []) old.tree.nodes new.tree.nodes
    pub places : new.tree.nodes ≡ record old.tree.nodes { entries = new.tree.nodes.entries }
    pub resources : new.tree.resources ≡ old.tree.resources
    pub rest : new ≡ record old { register = new.register; tree = new.tree; space = new.space }
    pub space : new.space ≡ old.space

  module _ {old new : Ground T} {e : Event} (x : HasMarks old new e) where
    pub changes_marks : ChangesMarks old new
    changes_marks = record {
      kept = subst (λ (k : List Event). KeepsNodes k old.tree.nodes new.tree.nodes) (sym x.s.written.history) x.kept;
      resources = x.resources;
      hubs = ap (λ (b : Ground T). b.hubs) x.rest;
      leases = ap (λ (b : Ground T). b.leases) x.rest;
      closed = ap (λ (b : Ground T). b.closed) x.rest;
    }

    pub wrote_marks : shuts_none e ≡ true → makes_lease e ≡ false → is_return e ≡ false → Wrote g old (e ∷ []) new
    wrote_marks shuts none quiet = wrote_beside x.s none quiet changes_marks.leases x.resources x.tied
        (keeps_closed new.register.history old.tree new.tree (length old.register.history) changes_marks.kept x.resources)
        (closes_quiet e x.s.next shuts x.s.written changes_marks.closed)
        (memory_beside (no_memory old) (e ∷ []) x.s.written x.places x.resources x.space changes_marks.hubs)

  -- a node came
  pub record HasOpened (old new : Ground T) (e : Event) (key : Key) : Type 0 where
    pub s : IsStep old e new.register
    pub tied : AreTied old.register.base g (old.register.history ++ e ∷ []) new.tree new.hubs
    pub is_new : IsNewNode old.tree.nodes new.tree.nodes (length old.register.history) key
    pub resources : new.tree.resources ≡ old.tree.resources
    pub hubs : new.hubs ≡ record old.hubs { hubs = hubs_after old.register.history e key.slot old.hubs.hubs }
    pub leases : new.leases ≡ old.leases
    pub closed : Closes old new
    pub memory : TakesNoMemory old new

  module _ {old new : Ground T} {e : Event} {key : Key} (x : HasOpened old new e key) where
    pub opens_node : OpensNode old new e key
    opens_node = record { is_new = x.is_new; resources = x.resources; hubs = x.hubs; leases = x.leases }

    pub wrote_opening : makes_lease e ≡ false → is_return e ≡ false → Wrote g old (e ∷ []) new
    wrote_opening none quiet = wrote_beside x.s none quiet x.leases x.resources x.tied
        (keeps_opened old.register.history old.tree new.tree key x.s.law x.s.between.tied.of_tree x.is_new x.resources) x.closed x.memory

  -- a node was cut with all below it, and one above it may have been marked
  pub record IsClosing (old mid new : Ground T) (e : Event) (top : ℕ) (ended : Option LastEnd) : Type 0 where
    pub s : IsStep old e new.register
    pub sound : IsSound old.tree.nodes
    pub cut : IsCut old mid top ended
    pub after : hubs_after old.register.history e 0 old.hubs.hubs ≡ map (without_gone (is_inside old.register.history top) ended) old.hubs.hubs
    pub outside : (m : ℕ) → is_open (old.register.history ++ e ∷ []) m ≡ (is_open old.register.history m && not (is_within old.register.history top m))
    pub tied : IsTied old.register.base g (old.register.history ++ e ∷ []) new.tree
    pub kept : KeepsNodes (old.register.history ++ e ∷ []) old.tree.nodes new.tree.nodes
    pub places : new.tree.nodes ≡ record mid.tree.nodes { entries = new.tree.nodes.entries }
    pub resources : new.tree.resources ≡ mid.tree.resources
    pub rest : new ≡ record mid { register = new.register; tree = new.tree; space = new.space }
    pub space : new.space ≡ mid.space

  module _ {old mid new : Ground T} {e : Event} {top : ℕ} {ended : Option LastEnd} (x : IsClosing old mid new e top ended) where
    -- it left the hubs, and the resources and leases are those before
    pub closes : ClosesNodes old new top ended
    closes = record {
      kept = subst (λ (k : List Event). KeepsNodes k old.tree.nodes new.tree.nodes) (sym x.s.written.history) x.kept;
      resources = x.resources ∙ x.cut.cuts.resources;
      hubs = ap (λ (b : Ground T). b.hubs) x.rest ∙ x.cut.hubs;
      leases = ap (λ (b : Ground T). b.leases) x.rest ∙ x.cut.leases;
    }

    pub wrote_closing : makes_lease e ≡ false → is_return e ≡ false → Wrote g old (e ∷ []) new
    wrote_closing none quiet = wrote_beside x.s none quiet closes.leases closes.resources tied
        (keeps_closed new.register.history old.tree new.tree (length old.register.history) closes.kept closes.resources)
        (closes_moved moves (gathers_closed x.s.law x.s.next x.s.between.tied.of_tree x.sound x.cut.cuts x.outside moves x.s.written.history))
        (memory_beside x.cut.memory (e ∷ []) x.s.written x.places x.resources x.space (ap (λ (b : Ground T). b.hubs) x.rest))
      where
        moves : Moves old.tree.nodes top old.closed new.closed
        moves = subst (Moves old.tree.nodes top old.closed) (sym (ap (λ (b : Ground T). b.closed) x.rest)) x.cut.moves

        tied : AreTied old.register.base g (old.register.history ++ e ∷ []) new.tree new.hubs
        tied = tied_closed g x.s.law x.s.next x.s.between.tied (is_inside old.register.history top) ended x.after (ap (λ (hs : Hubs). hs.hubs) closes.hubs) x.kept x.tied
