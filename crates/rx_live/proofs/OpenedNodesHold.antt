-- A node that holds a resource from its opening on, and the names that both get.
use Rattle.rx_live.proofs.Common.{◌≡◌, ℕ, ◌+◌, ◌==◌, ◌<◌, Bool, true, false, cond, length, length-append, Option, Some, option_map, refl, sym, ap}
use Rattle.rx_live.proofs.Common.{◌∙◌, arith, subst, is_some, Accept, Kept, IsLawful, Call, Place, Kind, Refusal, At, Name, Opened}
use Rattle.rx_live.proofs.Common.{State, is_kept, IsPromised, open_request, IsOpened, connection_made, step_longer, kept_same}
use Rattle.rx_live.proofs.Common.{out_same, kept_held, Names, spot_of, name_of_number, IsPaired, AreSameNames, Binds, Session, IsSound, AreNamesPlaced}
use Rattle.rx_live.proofs.Common.{has_resource, NamesOne}
use Rattle.rx_live.proofs.Common.{AreOpenSame, hold_tagged, holder_at, holder_causes, OpensHolder, BindsMade, BindsHolder}
use Rattle.rx_ground.specs.OpeningHolding.{opening_holding_causes}
use Rattle.rx_book.specs.OpensHolding.{stands_holding}
use Rattle.rx_live.specs.Openings.{Holder, opening_with_causes}
use Rattle.rx_live.proofs.AcceptedBindsNames.{bound_after, some_cond, not_unnamed, placed_longer, placed_bound}
use Rattle.rx_live.proofs.NamesOfOpenNodes.{made_placed, made_within}
use Rattle.rx_live.proofs.OpenedNodesGetNames.{placed, opened_bound}
use Rattle.std.proofs.Common.{rules}

-- what stands against it ----------------------------------------------------------------------------

same_causes : (s : State) (place : Place) (kind : Kind) (why : Refusal) →
    opening_holding_causes s.base s.history s.limit true place kind why ≡ opening_with_causes s place kind why
same_causes s place kind x3 = search rules

-- as the book says it of a resource that is fresh
pub causes_of : (s : State) (at : At) (kind : Kind) {fresh : Bool} → fresh ≡ true → stands_holding s at kind fresh ≡ holder_causes s (holder_at at kind)
causes_of s at kind fresh = search (rules, same_causes)

-- the two steps ---------------------------------------------------------------------------------------

module _ {old new : State} {asked : Holder} (o : OpensHolder old asked new) where
  abbrev pub opening : Call
  opening = (open_request old asked.place asked.kind).call

  abbrev pub holding : Call
  holding = (hold_tagged o.middle o.key o.key.number).call

  -- the acceptance is the last event, and stands behind the opening
  pub last_place : length new.history ≡ length o.middle.history + 1
  last_place = search (rules, length, length-append, Accept)

  pub behind_opening : length old.history < length o.middle.history
  behind_opening = let steps = step_longer old.base old.history o.middle.history opening o.opens.step in omega arith

  pub longer : length old.history < length new.history
  longer = let l = last_place in let b = behind_opening in omega arith

  -- what is accepted is kept, and all that was
  kept_after : (r : ℕ) → is_kept new.history r ≡ cond (length o.middle.history == r) true (is_kept old.history r)
  kept_after r =
      let law : IsLawful o.middle.base o.middle.history = subst (λ (b : Kept). IsLawful b o.middle.history) (sym o.opens.base) o.opens.step.lawful in
      kept_held law o.holds.step r ∙ ap (λ (b : Bool). cond (length o.middle.history == r) true b) (kept_same opening o.opens.step refl r)

-- the names -------------------------------------------------------------------------------------------

-- as some of closed nodes are forgotten, and as room is made
module _ {s : Session} {mid t : Names} (sound : IsSound s) (same : AreOpenSame s.untold s.book s.nodes mid) (room : AreSameNames mid t)
    {book : State} {asked : Holder} (o : OpensHolder s.book asked book)
    {name res : Name} {with_node new more resources : Names} (node : NamesOne t name (length s.book.history) with_node)
    {opened : Opened} (is_opened : IsOpened s.book book opened) (connection : Option Name)
    (made : BindsMade with_node connection (option_map (λ k. k.number) opened.connected) new)
    (grown : AreSameNames s.resources more) (held : NamesOne more res (length o.middle.history) resources) where
  pub holder_bound : BindsHolder s name connection res (record s { book = book; nodes = new; resources = resources })
  holder_bound = record {
    opened = opened_bound sound same room node is_opened connection made;
    resource = record {
      spot = held.spot;
      is = held.is ∙ (let l = last_place o in omega arith);
      binds = bound_after s.resources more resources res held.spot grown held.binds;
    };
  }

  pub holder_sound : IsPromised book → IsPaired new → IsPaired resources → has_resource s res ≡ false →
      IsSound (record s { book = book; nodes = new; resources = resources })
  holder_sound kept pairs paired free =
      let binds : Binds s.resources res held.spot resources = bound_after s.resources more resources res held.spot grown held.binds in
      let more_events : length s.book.history < length book.history = longer o in
      let one : AreNamesPlaced book.history with_node =
      placed_bound book.history (placed_longer s.book.history book.history t (placed sound same room) (omega arith)) node.binds
      (let n : node.spot.number ≡ length s.book.history = node.is in omega arith) in
      let two : AreNamesPlaced book.history new = made_placed book.history with_node new connection (connection_made s.book.history book.history)
      (subst (λ (m : Option ℕ). BindsMade with_node connection m new) is_opened.connection made) one (made_within s.book.history book.history) in
      record {
        kept = kept;
        node_pairs = pairs;
        hub_pairs = sound.hub_pairs;
        resource_pairs = paired;
        lease_pairs = sound.lease_pairs;
        nodes = two;
        hubs = placed_longer s.book.history book.history s.hubs sound.hubs (omega arith);
        resources = λ r. ap is_some (binds.names r) ∙ some_cond (held.spot.number == r) res (name_of_number s.resources r)
            ∙ (λ i. cond (held.is i == r) true (sound.resources r i)) ∙ sym (kept_after o r);
        leases = λ l. sound.leases l ∙ sym (out_same (opening o) o.opens.step refl l) ∙ sym (out_same (holding o) o.holds.step refl l);
        unnamed = λ n is. binds.spots n ∙ ap (λ (b : Bool). cond b (Some held.spot) (spot_of s.resources n)) (not_unnamed s res n free is)
            ∙ sound.unnamed n is;
      }
