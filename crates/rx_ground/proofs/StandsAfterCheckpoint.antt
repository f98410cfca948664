-- A ground stands after a checkpoint as it did before.
use Rattle.rx_ground.proofs.Common.{◌≡◌, ℕ, Bool, true, false, List, map, slice_get, Option, Some, None, count_by, refl, sym, ap, subst, ◌∙◌}
use Rattle.rx_ground.proofs.Common.{arith, not, ◌&&◌, ◌||◌, AllByRecursion, list_any, range_with_len, false≢true, Terminal, Ghosts, Event, End, is_take_of}
use Rattle.rx_ground.proofs.Common.{makes_resource, shown, at, debt, open_count, base_of, is_untaken, Agree, Started, IsLawful, IsSettled, none_waits, Alike}
use Rattle.rx_ground.proofs.Common.{length_base, made_untaken, held_resource, held_not_taken, waiting_parts, alike_of, sound_of, settled_connected, same_debt}
use Rattle.rx_ground.proofs.Common.{s_leases_of, s_resource_at, base_started, kept_agrees, base_settled, base_marks, Slots, find, Node, ResKey, Stowed, Tree}
use Rattle.rx_ground.proofs.Common.{HubDue, IsQuiet, NoneWaits, connects, acts, connect_of, due_of, event_of, Hub, Hubs, without_end, AreHubsOf, hubs_forced}
use Rattle.rx_ground.proofs.Common.{forgot_get, forgotten_hubs, Ground, IsCheckpoint, IsRecordOf, IsStored, AreJoined, AreLeased, IsTied, AreTied, IsStanding}
use Rattle.rx_event.specs.Kept.{Kept as Base}
use Rattle.rx_event.specs.Resources.{is_held, is_waiting, is_taken}
use Rattle.rx_register.specs.State.{Rebases, IsPromised as IsRegisterPromised}
use Rattle.std.proofs.Common.{rules}

-- in a settled history nothing is due at any hub
pub settled_quiet_hubs : (base : Base) (h : List Event) (hubs : List Hub) → AreHubsOf h hubs → IsSettled base h → IsQuiet hubs
settled_quiet_hubs base h hubs are settled = record { connected = connected; quiet = quiet } where
  connected : NoneWaits hubs
  connected i hub at_i = by_due (connect_of hub) refl where
    by_due : (o : Option HubDue) → connect_of hub ≡ o → o ≡ None
    by_due None none = refl
    by_due (Some d) gives = absurd (settled.none (event_of d) (hubs_forced base h hubs d are (connects i hub at_i gives)))

  quiet : (i : ℕ) (hub : Hub) → slice_get hubs i ≡ Some hub → due_of hub ≡ None
  quiet i hub at_i = by_due (due_of hub) refl where
    by_due : (o : Option HubDue) → due_of hub ≡ o → o ≡ None
    by_due None none = refl
    by_due (Some d) gives = absurd (settled.none (event_of d) (hubs_forced base h hubs d are (acts i hub connected at_i gives)))

-- what was not taken was accepted, and what was accepted and not taken is held or waits
untaken_parts : (base : Base) (h : List Event) → IsLawful base h → (r : ℕ) → is_untaken h r ≡ true →
    (at makes_resource h r ≡ true) × (list_any (is_take_of r) h ≡ false)
unfolding is_taken
untaken_parts base h law r u = by_state (is_held h r) refl u where
  untaken : at makes_resource h r ≡ true → (at makes_resource h r && list_any (is_take_of r) h) ≡ false → list_any (is_take_of r) h ≡ false
  untaken made none = sym (ap (λ b. b && list_any (is_take_of r) h) made) ∙ none

  by_state : (b : Bool) → is_held h r ≡ b → (b || is_waiting h r) ≡ true → (at makes_resource h r ≡ true) × (list_any (is_take_of r) h ≡ false)
  by_state true held passes = let made = held_resource h r held in (made, untaken made (held_not_taken base h law r held))
  by_state false free waits = let parts = waiting_parts h r waits in (parts.0, untaken parts.0 parts.2)

accepted_untaken : (h : List Event) (r : ℕ) → at makes_resource h r ≡ true → list_any (is_take_of r) h ≡ false → is_untaken h r ≡ true
unfolding is_waiting is_taken
accepted_untaken h r made none = search (rules, list_any, not, false≢true)

-- what stands inside hubs that forgot their ends stands there as before
joined_still : (nodes : Slots Node) (hubs : List Hub) → AreJoined nodes hubs → AreJoined nodes (map without_end hubs)
joined_still nodes hubs joined = search (rules, forgot_get, AllByRecursion, find)

module _ (b : Base) (h : List Event) (law : IsLawful b h) (settled : IsSettled b h) where
  abbrev c : Base
  c = base_of b h

  abbrev k : List Event
  k = shown (base_of b h)

  agree : Agree b h c k
  agree = kept_agrees b h law settled

  alike : Alike h k
  alike = alike_of agree

  started : Started c
  started = base_started b h law settled

  resource_at : (r : ℕ) → at makes_resource k r ≡ is_untaken h r
  resource_at r = s_resource_at b h (sound_of b h law) r

  endless : (i n : ℕ) (t : Terminal) → slice_get k i ≡ Some (End n t) → ⊥
  endless i n t at_i = false≢true (started.making i (End n t) at_i)

  hubs_still : (hubs : List Hub) → AreHubsOf h hubs → AreHubsOf k (map without_end hubs)
  hubs_still hubs are = forgotten_hubs h k hubs alike started.alive endless are

  same_open_count : open_count h ≡ open_count k
  same_open_count = λ i. count_by (λ n. alike.same_open n i) (range_with_len 0 (agree.same_length i))

  same_debts : debt b h ≡ debt c k
  same_debts = same_debt b h c k agree

  record_still : (n : ℕ) (node : Node) → IsRecordOf b h n node → IsRecordOf c k n node
  record_still n node is = record {
    made = sym (alike.same_made n is.alive) ∙ is.made;
    alive = sym (alike.same_open n) ∙ is.alive;
    marks = is.marks ∙ base_marks b h law settled n is.alive;
  }

  leased_still : {T : Type 0} (tree : Tree T) (leases : Slots ResKey) → AreLeased h tree.resources leases → AreLeased k tree.resources leases
  leased_still tree leases leased = record {
    each = λ key res found. let is = leased.each key res found in record {
      out = sym (agree.out key.number) ∙ is.out;
      made = sym (agree.leased key.number is.out) ∙ is.made;
      stored = is.stored;
    };
    every = λ l out. leased.every l (agree.out l ∙ out);
  }

  module _ {T : Type 0} (g : Ghosts T) (tree : Tree T) where
    stored_still : (r : ℕ) (s : Stowed T) → IsStored b g h tree.nodes r s → IsStored c g k tree.nodes r s
    stored_still r s is =
        let u : is_untaken h r ≡ true = accepted_untaken h r is.made is.untaken in
        record {
          made = resource_at r ∙ u;
          accepted = sym (agree.accepts r u) ∙ is.accepted;
          older = is.older;
          owned = sym (agree.owned r) ∙ is.owned ∙ ap (λ o. o && not s.removed) (alike.same_open s.node.number);
          lent = is.lent ∙ s_leases_of b h r;
          untaken = made_untaken k started.making r;
          home = λ alive. is.home (alike.same_open s.node.number ∙ alive);
          live = is.live;
          few = let few = is.few in let same = agree.used r u in let long = length_base b h in omega arith;
          uses = is.uses ∙ agree.used r u;
        }

    tied_still : IsTied b g h tree → IsTied c g k tree
    tied_still tied = record {
      records = record {
        each = λ key node found. record_still key.number node (tied.records.each key node found);
        every = λ n alive. tied.records.every n (alike.same_open n ∙ alive);
        quiet = tied.records.quiet;
      };
      stored = record {
        each = λ key s found. stored_still key.number s (tied.stored.each key s found);
        every = λ r made none. let parts = untaken_parts b h law r (sym (resource_at r) ∙ made) in tied.stored.every r parts.0 parts.1;
      };
    }

    all_still : (hubs new : Hubs) → new.hubs ≡ map without_end hubs.hubs → AreTied b g h tree hubs → AreTied c g k tree new
    all_still hubs new same tied = record {
      of_tree = tied_still tied.of_tree;
      published = subst (AreHubsOf k) (sym same) (hubs_still hubs.hubs tied.published);
      joined = subst (AreJoined tree.nodes) (sym same) (joined_still tree.nodes hubs.hubs tied.joined);
    }

pub standing_still : {T : Type 0} (g : Ghosts T) (old new : Ground T) → IsRegisterPromised old.register → IsCheckpoint old new → IsStanding g old →
    IsStanding g new
standing_still {T = T} g old new promised checkpoint standing = record {
  tied = subst (λ (t : Tree T). AreTied new.register.base g new.register.history t new.hubs) (sym checkpoint.tree) (rw (is.history, is.base) tied);
  leased = subst (λ (t : Tree T). AreLeased new.register.history t.resources new.leases) (sym checkpoint.tree)
      (subst (λ (ls : Slots ResKey). AreLeased new.register.history old.tree.resources ls) (sym checkpoint.leases) (rw (is.history, is.base) leased));
  settled = rw (is.history, is.base) settled;
  paid = record {
    waits = 0;
    may_wait = rw (is.history, is.base) (none_waits (settled_connected (base_of b h) (shown (base_of b h)) settled));
    events = rw (is.history, is.base) (let room = is.room in let same = same_debts b h promised.lawful standing.settled in omega arith);
    notes = rw (is.history, is.base)
        (let same = same_open_count b h promised.lawful standing.settled in let room = is.mail_room in let paid = standing.paid.notes in omega arith);
    pending = is.pending;
  };
}
  where
    b : Base
    b = old.register.base

    h : List Event
    h = old.register.history

    is : Rebases old.register new.register (debt b h)
    is = checkpoint.register

    settled : IsSettled (base_of b h) (shown (base_of b h))
    settled = base_settled b h promised.lawful standing.settled

    tied : AreTied (base_of b h) g (shown (base_of b h)) old.tree new.hubs
    tied = all_still b h promised.lawful standing.settled g old.tree old.hubs new.hubs (ap (λ (hs : Hubs). hs.hubs) checkpoint.hubs) standing.tied

    leased : AreLeased (shown (base_of b h)) old.tree.resources old.leases
    leased = leased_still b h promised.lawful standing.settled old.tree old.leases standing.leased
