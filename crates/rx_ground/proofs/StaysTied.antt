-- A tree that is tied to a history is tied to the longer one, after an event is written on both.
use Rattle.rx_ground.proofs.Common.{◌≡◌, ◌≢◌, ℕ, ◌==◌, true, false, cond, List, [], ◌∷◌, ◌++◌, length, Option, Some, None, is_some, IsSome, option_map}
use Rattle.rx_ground.proofs.Common.{slice_get, refl, sym, ap, subst, ◌∙◌, arith, not, ◌&&◌, list_any, false≢true, and_parts, eq-eqb, ne_eqb}
use Rattle.rx_ground.proofs.Common.{not-true, false_from_ne_true, none-some, same_Some, Kept, Ghosts, Terminal, Marks, Place, Root, Kind, Event, Open}
use Rattle.rx_ground.proofs.Common.{Decline, End, Close, makes_node, makes_resource, parent_named, source_named, is_source_of, is_merging, is_open, parent}
use Rattle.rx_ground.proofs.Common.{ancestors, is_within, marks_of, touches, is_child_of, after_child, after_decline, MayFollow, IsLawful, is_within-le, Key}
use Rattle.rx_ground.proofs.Common.{parent-lt, parent_name, shuts_none, is_open_outside-end, is_open_outside-close, is_child_parent, marks_closed, Slots}
use Rattle.rx_ground.proofs.Common.{marks-end_other, marks-decline_at, marks-end_at, find, entry_at, with_number, KeepsOthers, Node, Tree, IsSound, AreApart}
use Rattle.rx_ground.proofs.Common.{Rewrites, blank_node, with_due, cases_key, some_of, AreRecords, AreStored, IsTied, KeepsNodes, Remarks, Cuts}
use Rattle.rx_ground.proofs.Records.{AreNearly, AreLeft, all_fresh, remarked, records_still, records_touched, records_opened, records_cut, below_is_within}
use Rattle.rx_ground.proofs.ResourcesAfterEvent.{IsApart, all_stored}
use Rattle.std.proofs.Common.{rules}

-- nodes that are kept -----------------------------------------------------------------------------

-- a value that is written over is there before and after
pub rewritten_there : {X : Type 0} {old new : Slots X} {change : X → X} (k : Key) → Rewrites old new k change → (key : Key) → IsSome (find new key) →
    IsSome (find old key)
rewritten_there {X = X} {old = old} {new = new} {change = change} k w key some = search (rules, cases_key, option_map, false≢true, find, is_some)

pub still_there : {X : Type 0} {old new : Slots X} {change : X → X} (k : Key) → Rewrites old new k change → (key : Key) → IsSome (find old key) →
    IsSome (find new key)
still_there {X = X} {old = old} {new = new} {change = change} k w key some = search (rules, cases_key, option_map, false≢true, find, is_some)

-- what writes the marks of one record over keeps the nodes
pub remarked_keeps : {T : Type 0} (h : List Event) (old new : Tree T) (u : Key) (change : Marks → Marks) → Remarks old new u change →
    KeepsNodes h old.nodes new.nodes
remarked_keeps h old new u change marked = search (rules, rewritten_there, still_there)

-- the source of a node -----------------------------------------------------------------------------

pub source_at : (made : Event) (p : ℕ) → parent_named made ≡ Some p → is_some (source_named made) ≡ is_source_of p made
source_at x0 p named = search (rules, same_Some, eq-eqb)

module _ (base : Kept) {T : Type 0} (g : Ghosts T) (h : List Event) (e : Event) (law : IsLawful base h) (next : MayFollow base h e) (old : Tree T)
    (tied : IsTied base g h old) where
  -- an event that leaves the records as they are
  pub tied_still : (new : Tree T) → shuts_none e ≡ true → makes_node e ≡ false → ((n : ℕ) → touches h n e ≡ false) → new.nodes ≡ old.nodes →
      new.chain ≡ old.chain → AreStored base g (h ++ e ∷ []) new → IsTied base g (h ++ e ∷ []) new
  tied_still new shuts makes untouched nodes chain stored = search (rules, chain, records_still, makes, untouched)

  -- one that is about no resource either
  pub tied_same : shuts_none e ≡ true → makes_node e ≡ false → makes_resource e ≡ false → ((n : ℕ) → touches h n e ≡ false) → ((r : ℕ) → IsApart r e) →
      IsTied base g (h ++ e ∷ []) old
  tied_same shuts makes none untouched apart = search (rules, tied_still, makes, untouched, all_stored, none, apart)

-- an opening ----------------------------------------------------------------------------------------

-- the event makes a node that stands below none, and is about nothing else
pub record OpensTop (h : List Event) (e : Event) : Type 0 where
  pub makes : makes_node e ≡ true
  pub none : makes_resource e ≡ false
  pub top : parent_named e ≡ None
  pub untouched : (n : ℕ) → touches h n e ≡ false
  pub apart : (r : ℕ) → IsApart r e

-- the tree after an opening, before the node above is marked
pub record IsOpenedIn {T : Type 0} (h : List Event) (made : Event) (above : Option Key) (old mid : Tree T) (key : Key) : Type 0 where
  pub numbered : key.number ≡ length h
  pub free : entry_at old.nodes key.slot ≡ None
  pub found : find mid.nodes key ≡ Some (blank_node made above)
  pub others : KeepsOthers old.nodes mid.nodes key
  pub resources : mid.resources ≡ old.resources
  pub chain : mid.chain ≡ old.chain

module _ (base : Kept) {T : Type 0} (g : Ghosts T) (h : List Event) (law : IsLawful base h) (old left mid : Tree T)
    (tied : IsTied base g h old) (key : Key) where
  -- what was found is found in the tree with the new node
  pub found_still : (e : Event) (above : Option Key) → IsOpenedIn h e above left mid key → (k : Key) → IsSome (find left.nodes k) →
      find mid.nodes k ≡ find left.nodes k
  found_still e above opened k some = search (rules, is_some, find, with_number, false≢true)

  -- what stays open stands in the tree with the new node
  pub opened_there : (e : Event) (above : Option Key) → AreLeft h e old.nodes left.nodes old.chain left.chain → IsOpenedIn h e above left mid key →
      (k : Key) → IsSome (find old.nodes k) → is_open (h ++ e ∷ []) k.number ≡ true → IsSome (find mid.nodes k)
  opened_there e above stays opened k some alive = search (rules, some_of, find, is_some, found_still)

  -- a node that stands below none
  pub tied_top : {e : Event} → MayFollow base h e → OpensTop h e → AreLeft h e old.nodes left.nodes old.chain left.chain → left.resources ≡ old.resources →
      IsOpenedIn h e None left mid key → IsTied base g (h ++ e ∷ []) mid
  tied_top {e} next opens stays same opened = record {
    records = subst (AreRecords base (h ++ e ∷ []) mid.nodes) (sym opened.chain) (all_fresh _ _ mid.nodes left.chain
        (subst (λ (o : Option ℕ). AreNearly base (h ++ e ∷ []) o mid.nodes left.chain) opens.top
        (records_opened base h e law next old.nodes old.chain tied.records stays None opens.makes (λ n differs. opens.untouched n)
        opened.numbered opened.free opened.found opened.others)));
    stored = all_stored base g h law e old mid tied.stored (opened.resources ∙ same) opens.none opens.apart (opened_there e None stays opened);
  }

module _ (base : Kept) {T : Type 0} (g : Ghosts T) (h : List Event) (kind : Kind) (law : IsLawful base h) (old left mid new : Tree T)
    (tied : IsTied base g h old) (key : Key) where
  apart_all : (place : Place) (r : ℕ) → IsApart r (Open place kind)
  apart_all place r = record { removes = refl; takes = refl; uses = refl; leases = refl; returns = refl }

  pub tied_root : MayFollow base h (Open Root kind) → AreLeft h (Open Root kind) old.nodes left.nodes old.chain left.chain → left.resources ≡ old.resources →
      IsOpenedIn h (Open Root kind) None left mid key → IsTied base g (h ++ Open Root kind ∷ []) mid
  tied_root next stays same opened = tied_top base g h law old left mid tied key next
      (record { makes = refl; none = refl; top = refl; untouched = λ n. refl; apart = apart_all Root }) stays same opened

  -- one below another, which is marked
  pub tied_below : (place : Place) (p : Key) (change : Marks → Marks) →
      (let e : Event = Open place kind in MayFollow base h e → AreLeft h e old.nodes left.nodes old.chain left.chain → left.resources ≡ old.resources
      → parent_named e ≡ Some p.number → ((n : ℕ) → p.number ≢ n → touches h n e ≡ false) →
      marks_of base (h ++ e ∷ []) p.number ≡ change (marks_of base h p.number)
      → AreApart mid.nodes → IsSome (find left.nodes p) → IsOpenedIn h e (Some p) left mid key → Remarks mid new p change → IsTied base g (h ++ e ∷ []) new)
  tied_below place p change next stays same named apart_marks changed apart there opened marked = record {
    records = subst (AreRecords base (h ++ e ∷ []) new.nodes) (ap (with_due new.nodes p) (sym opened.chain) ∙ sym marked.chain)
        (remarked p before.0 change near apart at_p marks marked.nodes);
    stored = all_stored base g h law e old new tied.stored (marked.resources ∙ opened.resources ∙
        same) refl (apart_all place) (λ k some alive. still_there p marked.nodes k
        (opened_there base g h law old left mid tied key e (Some p) stays opened k some alive));
  }
    where
      e : Event
      e = Open place kind

      near : AreNearly base (h ++ e ∷ []) (Some p.number) mid.nodes left.chain
      near = subst (λ (o : Option ℕ). AreNearly base (h ++ e ∷ []) o mid.nodes left.chain) named
          (records_opened base h e law next old.nodes old.chain tied.records stays (Some p) refl
          (λ n differs. apart_marks n (λ same. differs (named ∙ ap (λ (m : ℕ). Some m) same))) opened.numbered opened.free opened.found opened.others)

      before : (x : Node) × (find left.nodes p ≡ Some x)
      before = some_of (find left.nodes p) there

      at_p : find mid.nodes p ≡ Some before.0
      at_p = found_still base g h law old left mid tied key e (Some p) opened p there ∙ before.1

      marks : marks_of base (h ++ e ∷ []) p.number ≡ change before.0.marks
      marks = changed ∙ ap change (sym (tied.records.each p before.0 (stays.was p before.0 before.1)).marks)

-- an item that is declined ------------------------------------------------------------------------

module _ (base : Kept) {T : Type 0} (g : Ghosts T) (h : List Event) (law : IsLawful base h) (old new : Tree T) (tied : IsTied base g h old)
    (sound : IsSound old.nodes) (u : Key)
    (there : IsSome (find old.nodes u)) where
  -- a FlatMap or Switch owes it no more
  pub tied_decline : MayFollow base h (Decline u.number) → Remarks old new u after_decline → IsTied base g (h ++ Decline u.number ∷ []) new
  tied_decline next marked = record {
    records = subst (AreRecords base (h ++ e ∷ []) new.nodes) (sym marked.chain)
        (remarked u before.0 after_decline near sound.apart before.1 marks marked.nodes);
    stored = all_stored base g h law e old new tied.stored marked.resources refl
        (λ r. record { removes = refl; takes = refl; uses = refl; leases = refl; returns = refl }) (λ k some alive. still_there u marked.nodes k some);
  }
    where
      e : Event
      e = Decline u.number

      near : AreNearly base (h ++ e ∷ []) (Some u.number) old.nodes old.chain
      near = records_touched base h e law next old.nodes old.chain tied.records u.number refl refl (λ n differs. ne_eqb u.number n differs)

      before : (x : Node) × (find old.nodes u ≡ Some x)
      before = some_of (find old.nodes u) there

      marks : marks_of base (h ++ e ∷ []) u.number ≡ after_decline before.0.marks
      marks = marks-decline_at base h u.number law next ∙ ap after_decline (sym (tied.records.each u before.0 before.1).marks)

-- closings ----------------------------------------------------------------------------------------

module _ (base : Kept) {T : Type 0} (h : List Event) (e : Event) (old mid : Tree T) (r : AreRecords base h old.nodes old.chain)
    (sound : IsSound old.nodes) (top : ℕ) (opens : (n : ℕ) → is_open (h ++ e ∷ []) n ≡
    (is_open h n && not (list_any (λ a. top == a) (ancestors h n)))) (cuts : Cuts old mid top) where
  -- a closing keeps what stays open
  pub cut_keeps : KeepsNodes (h ++ e ∷ []) old.nodes mid.nodes
  cut_keeps = search (rules, top, is_some, cond, find, false≢true, some_of, and_parts, not, list_any, below_is_within, not-true)

  -- so does the marking of the one above
  pub keeps_marked : (new : Tree T) (p : Key) (change : Marks → Marks) → Remarks mid new p change → KeepsNodes (h ++ e ∷ []) old.nodes new.nodes
  keeps_marked new p change marked = search (rules, cut_keeps, rewritten_there, still_there)

module _ (base : Kept) {T : Type 0} (g : Ghosts T) (h : List Event) (c : ℕ) (t : Terminal) (law : IsLawful base h) (next : MayFollow base h (End c t))
    (old mid new : Tree T) (tied : IsTied base g h old) (sound : IsSound old.nodes) (cuts : Cuts old mid c) where
  near_end : (stale : Option ℕ) →
      ((n : ℕ) → stale ≢ Some n → is_open (h ++ End c t ∷ []) n ≡ true → marks_of base (h ++ End c t ∷ []) n ≡ marks_of base h n) →
      AreNearly base (h ++ End c t ∷ []) stale mid.nodes mid.chain
  near_end stale kept = search (rules, records_cut, is_open_outside-end)

  no_child : (o : Option ℕ) → parent h c ≡ o → (n : ℕ) → o ≢ Some n → is_child_of h n c ≡ false
  no_child o above n differs = false_from_ne_true (is_child_of h n c) (λ child. differs (sym above ∙ is_child_parent h n c child))

  apart_end : (r : ℕ) → IsApart r (End c t)
  apart_end r = record { removes = refl; takes = refl; uses = refl; leases = refl; returns = refl }

  -- the end of a node that stands below none
  pub tied_end_top : parent h c ≡ None → IsTied base g (h ++ End c t ∷ []) mid
  tied_end_top above = record {
    records = all_fresh _ _ mid.nodes mid.chain
        (near_end None (λ n fresh alive. marks-end_other h c t law next n alive (no_child None above n (λ e. none-some n e))));
    stored = all_stored base g h law (End c t) old mid tied.stored cuts.resources refl apart_end
        (cut_keeps base h (End c t) old mid tied.records sound c (is_open_outside-end h c t) cuts).still;
  }

  -- and that of one that stands below another, which remembers it
  pub tied_end_child : {p : Key} {made : Event} (above : Node) → AreApart mid.nodes → is_open h c ≡ true → parent h c ≡ Some p.number →
      slice_get h c ≡ Some made → find old.nodes p ≡ Some above → find mid.nodes p ≡ Some above →
      Remarks mid new p (after_child (is_some (source_named made)) (is_merging above.made) t) → IsTied base g (h ++ End c t ∷ []) new
  tied_end_child {p} {made} above apart alive below at_c found at_p marked = record {
    records = subst (AreRecords base (h ++ End c t ∷ []) new.nodes) (sym marked.chain)
        (remarked p above (after_child (is_some (source_named made)) (is_merging above.made) t)
        (near_end (Some p.number) (λ n fresh alive. marks-end_other h c t law next n alive (no_child (Some p.number) below n fresh)))
        apart at_p marks marked.nodes);
    stored = all_stored base g h law (End c t) old new tied.stored (marked.resources ∙ cuts.resources) refl apart_end
        (keeps_marked base h (End c t) old mid tied.records sound c (is_open_outside-end h c t) cuts new p _ marked).still;
  }
    where
      is : slice_get h p.number ≡ Some above.made
      is = (tied.records.each p above found).made

      marks : marks_of base (h ++ End c t ∷ []) p.number ≡ after_child (is_some (source_named made)) (is_merging above.made) t above.marks
      marks = marks-end_at law next below at_c is ∙ ap (λ b. after_child b (is_merging above.made) t (marks_of base h p.number))
          (sym (source_at made p.number (parent_name h c p.number made below at_c))) ∙
          ap (after_child (is_some (source_named made)) (is_merging above.made) t) (sym (tied.records.each p above found).marks)

  -- the parent stays where it was
  pub parent_stays : (p : Key) (above : Node) → is_open h c ≡ true → parent h c ≡ Some p.number → find old.nodes p ≡ Some above → find mid.nodes p ≡ Some above
  parent_stays p above alive below found =
      cuts.nodes p ∙ ap (λ b. cond b None (find old.nodes p)) (below_is_within base h old.nodes old.chain tied.records sound p above found c ∙
      false_from_ne_true (is_within h c p.number) (λ within. let l = is_within-le h c p.number within in let s = parent-lt h c p.number below in
      absurd (omega arith))) ∙ found

-- the closing of a root
pub tied_close : {base : Kept} → {T : Type 0} {g : Ghosts T} {h : List Event} (c : ℕ) → IsLawful base h → MayFollow base h (Close c) →
    (old mid : Tree T) → IsTied base g h old → IsSound old.nodes → Cuts old mid c → IsTied base g (h ++ Close c ∷ []) mid
tied_close {base} {g} {h} c law next old mid tied sound cuts = record {
  records = all_fresh _ _ mid.nodes mid.chain (records_cut base h (Close c) law next old.nodes old.chain tied.records mid.chain c None sound
      (λ n fresh alive. marks_closed base h c law next n alive) (is_open_outside-close h c) cuts.nodes cuts.chain);
  stored = all_stored base g h law (Close c) old mid tied.stored cuts.resources refl
      (λ r. record { removes = refl; takes = refl; uses = refl; leases = refl; returns = refl })
      (cut_keeps base h (Close c) old mid tied.records sound c (is_open_outside-close h c) cuts).still;
}
