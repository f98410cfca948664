-- A node that ends leaves all of the longer history, with the node above marked.
use Rattle.rx_ground.proofs.Common.{◌≡◌, ◌<◌, ◌∷◌, ◌++◌, [], ℕ, Option, Some, None, IsSome, IfSome, IfNone, is_some, length, option_map, slice_get}
use Rattle.rx_ground.proofs.Common.{sym, ap, subst, ◌∙◌, Ghosts, Terminal, Event, End, source_named, is_merging, is_open, parent, after_child, MayFollow}
use Rattle.rx_ground.proofs.Common.{IsLawful, is_open_outside-end, child_counted, Key, find, Node, Tree, IsSound, AreApart, some_of, IsTied, IsReady}
use Rattle.rx_ground.proofs.Common.{true, KeepsNodes, Remarks, Writes, Ground, end_by, hubs_ended}
use Rattle.rx_ground.specs.Wrote.{IsBetween, IsCut}
use Rattle.rx_ground.proofs.EventWritten.{IsClosing, seen, cut_seen}
use Rattle.rx_ground.proofs.Records.{parent_in_tree}
use Rattle.rx_ground.proofs.InsideConnections.{parent_read}
use Rattle.rx_ground.proofs.StaysTied.{tied_end_top, tied_end_child, parent_stays, cut_keeps, keeps_marked}
use Rattle.std.proofs.Common.{rules}

module _ {T : Type 0} (g : Ghosts T) where
  -- an end that may come, of the node that this event made below this one, and the ground without what it closes
  pub record IsReadyToEnd (key : Key) (t : Terminal) (made : Event) (above : Option Key) (old mid : Ground T) : Type 0 where
    pub law : IsLawful old.register.base old.register.history
    pub between : IsBetween g old
    pub next : MayFollow old.register.base old.register.history (End key.number t)
    pub sound : IsSound old.tree.nodes
    pub cut : IsCut old mid key.number (end_by (length old.register.history) (End key.number t))
    pub alive : is_open old.register.history key.number ≡ true
    pub at_n : slice_get old.register.history key.number ≡ Some made
    pub named : option_map (λ k. k.number) above ≡ parent old.register.history key.number
    pub there : IfSome above (λ up. IsSome (find old.tree.nodes up))

  -- so it is by the record, as the call finds it and as it was cut
  pub ready_to_end : {now given mid left : Ground T} {key : Key} {t : Terminal} {node : Node} {above : Option Key} {place : ℕ} → now ≡ given → mid ≡ left →
      IsLawful now.register.base now.register.history → IsSound now.tree.nodes → IsBetween g given → IsReady given.register (End key.number t) →
      find now.tree.nodes key ≡ Some node → above ≡ node.above → IfSome node.above (λ up. IsSome (find now.tree.nodes up)) →
      place ≡ length now.register.history → IsCut given left key.number (Some (record { place = place; terminal = t })) →
      IsReadyToEnd key t node.made above now mid
  ready_to_end {now} {mid = mid} {key = key} {t} {node} same is law sound between ready found above there at_end cut =
      let b = seen (IsBetween g) same between in
      let nodes = now.tree.nodes in
      let own = b.tied.of_tree.records.each key node found in
      record {
        law = law;
        between = b;
        next = (seen (λ x. IsReady x.register (End key.number t)) same ready).next;
        sound = sound;
        cut = subst (λ (p : ℕ). IsCut now mid key.number (Some (record { place = p; terminal = t }))) at_end (cut_seen same is cut);
        alive = own.alive;
        at_n = own.made;
        named = ap (option_map (λ (k : Key). k.number)) above ∙ parent_read nodes key node found sound ∙
            parent_in_tree now.register.base now.register.history nodes now.tree.chain b.tied.of_tree.records key node found;
        there = subst (λ (o : Option Key). IfSome o (λ up. IsSome (find nodes up))) (sym above) there;
      }

  module _ {key : Key} {t : Terminal} {made : Event} {old mid : Ground T} where
    -- the node above stays as it was
    above_stays : (p : Key) → IsReadyToEnd key t made (Some p) old mid →
        (x : Node) × (find old.tree.nodes p ≡ Some x) × (find mid.tree.nodes p ≡ Some x)
    above_stays p r =
        let x = some_of (find old.tree.nodes p) r.there in (
          x.0,
          x.1,
          parent_stays old.register.base g old.register.history key.number t r.law r.next old.tree mid.tree mid.tree r.between.tied.of_tree
              r.sound r.cut.cuts p x.0 r.alive (sym r.named) x.1,
        )

    pub above_there : (above : Option Key) → IsReadyToEnd key t made above old mid → IfSome above (λ up. IsSome (find mid.tree.nodes up))
    above_there None r = tt
    above_there (Some p) r = let x = above_stays p r in ap is_some x.2

    -- and has an open child
    pub above_counted : (above : Option Key) → IsReadyToEnd key t made above old mid →
        IfSome above (λ up. IfSome (find mid.tree.nodes up) (λ node. 0 < node.marks.open_children))
    above_counted x0 r = search (rules, above_stays, child_counted)

    -- the tree is that of the longer history once the node above was marked
    ended_tree : {new : Tree T} (above : Option Key) → IsReadyToEnd key t made above old mid → AreApart mid.tree.nodes →
        IfSome above (λ up. IfSome (find mid.tree.nodes up) (λ node. Remarks mid.tree new up (after_child (is_some (source_named made)) (is_merging node.made) t))) →
        IfNone above (new ≡ mid.tree) → (let h = old.register.history ++ End key.number t ∷ [] in
        IsTied old.register.base g h new × KeepsNodes h old.tree.nodes new.nodes)
    ended_tree None r apart marked same =
        let h = old.register.history in
        let n = key.number in
        let base = old.register.base in
        let tied = r.between.tied.of_tree in
        subst (λ (tree : Tree T). IsTied base g (h ++ End n t ∷ []) tree × KeepsNodes (h ++ End n t ∷ []) old.tree.nodes tree.nodes) (sym same) (
          tied_end_top base g h n t r.law r.next old.tree mid.tree mid.tree tied r.sound r.cut.cuts (sym r.named),
          cut_keeps base h (End n t) old.tree mid.tree tied.records r.sound n (is_open_outside-end h n t) r.cut.cuts,
        )
    ended_tree {new} (Some p) r apart marked same =
        let h = old.register.history in
        let n = key.number in
        let base = old.register.base in
        let tied = r.between.tied.of_tree in
        let x = above_stays p r in
        let m : Remarks mid.tree new p (after_child (is_some (source_named made)) (is_merging x.0.made) t) =
        subst (λ o. IfSome o (λ (node : Node). Remarks mid.tree new p (after_child (is_some (source_named made)) (is_merging node.made) t))) x.2 marked in (
          tied_end_child base g h n t r.law r.next old.tree mid.tree new tied r.sound r.cut.cuts x.0 apart r.alive (sym r.named) r.at_n x.1 x.2 m,
          keeps_marked base h (End n t) old.tree mid.tree tied.records r.sound n (is_open_outside-end h n t) r.cut.cuts new p _ m,
        )

    -- and so is all, once its event is on the register
    pub ended : {new : Ground T} (above : Option Key) → IsReadyToEnd key t made above old mid → Writes old.register (End key.number t ∷ []) new.register →
        AreApart mid.tree.nodes → IfSome above (λ up. IfSome (find mid.tree.nodes up) (λ node.
        Remarks mid.tree new.tree up (after_child (is_some (source_named made)) (is_merging node.made) t))) → IfNone above (new.tree ≡ mid.tree) →
        new.tree.nodes ≡ record mid.tree.nodes { entries = new.tree.nodes.entries } → new.tree.resources ≡ mid.tree.resources →
        new ≡ record mid { register = new.register; tree = new.tree; space = new.space } → new.space ≡ mid.space →
        IsClosing g old mid new (End key.number t) key.number (end_by (length old.register.history) (End key.number t))
    ended above r written apart marked same places resources rest space =
        let left = ended_tree above r apart marked same in
        record {
          s = record { law = r.law; between = r.between; next = r.next; written = written };
          sound = r.sound;
          cut = r.cut;
          after = hubs_ended old.register.history key.number t 0 old.hubs.hubs r.between.tied.published;
          outside = is_open_outside-end old.register.history key.number t;
          tied = left.0;
          kept = left.1;
          places = places;
          resources = resources;
          rest = rest;
          space = space;
        }
