-- What an opening leaves of the tie, where it takes the place of an open inner and where it does not.
use Rattle.rx_ground.proofs.Common.{◌≡◌, ◌≢◌, ℕ, suc, ◌+◌, ◌<◌, Bool, true, false, List, [], ◌∷◌, ◌++◌, length, Option, Some, None, is_some, IsSome, IfSome}
use Rattle.rx_ground.proofs.Common.{option_map, refl, sym, ap, subst, ◌∙◌, arith, inl, inr, ◌⊎◌, IfNone, not, ◌&&◌, ne_eqb, cases_Bool, none-some, same_Some}
use Rattle.rx_ground.proofs.Common.{count_by-le-length, length-range_with_len, Kept, Ghosts, Marks, Place, Root, Source, Inner, Notifier, Kind, Event, Open}
use Rattle.rx_ground.proofs.Common.{named_by, is_open, places, is_open_child_of, is_within, owed, terminal_due, marks_of, touches}
use Rattle.rx_ground.proofs.Common.{open_children, after_source, after_notifier, after_inner, MayFollow, IsLawful, is_open_kept, is_open_cut}
use Rattle.rx_ground.proofs.Common.{is_cut_inner, is_open_within, may_open, may_name, marks-source_at, marks-notifier_at, marks-inner_at_flat, Key, find}
use Rattle.rx_ground.proofs.Common.{marks-inner_at_first, marks-inner_at_next, entry_at, KeepsOthers, Node, Tree, IsSound, AreApart, IsNewest, IsPlaced, Hubs}
use Rattle.rx_ground.proofs.Common.{is_on, blank_node, some_of, newest_fewer, IsRecordOf, IsTied, AreTied, IsUndue, Remarks, IsNewNode, opened_marks}
use Rattle.rx_ground.proofs.Common.{ReplacesNone, Exchanges, MakesWay, ClearsHubs}
use Rattle.rx_event.proofs.Laws.Switches.{is_open-inner_switch, is_open-inner_first, is_open-inner_flat}
use Rattle.rx_ground.proofs.MarksMakeNothingDue.{no_terminal}
use Rattle.rx_ground.proofs.Newest.{newest}
use Rattle.rx_ground.proofs.Records.{AreLeft, all_left, cut_left}
use Rattle.rx_ground.proofs.StaysTied.{IsOpenedIn, found_still, still_there, rewritten_there, tied_root, tied_below}
use Rattle.std.proofs.Common.{rules}

-- what an opening closes --------------------------------------------------------------------------

-- where it takes the place of none it closes none
pub none_closed : (h : List Event) (place : Place) (kind : Kind) → ReplacesNone h place → (n : ℕ) → n < length h →
    is_open (h ++ Open place kind ∷ []) n ≡ is_open h n
none_closed h x1 kind none n l = search (rules, is_open_kept, cases_Bool, is_open-inner_first, is_open-inner_flat)

-- the node above stays open
above_open : (base : Kept) → (h : List Event) (place : Place) (kind : Kind) (p : ℕ) → MayFollow base h (Open place kind) → named_by place ≡ Some p →
    is_open (h ++ Open place kind ∷ []) p ≡ true
above_open base h x2 kind p next named = search (rules, none-some, may_name, is_open_kept, is_open_within, same_Some, is_open_cut, is_cut_inner)

same_inner : (f q : ℕ) → Inner f ≡ Inner q → f ≡ q
same_inner f q same = same_Some f q (ap named_by same)

-- what is ready for an opening -----------------------------------------------------------------------

-- an opening that may come, and the tree and the hubs that are ready for it
pub record IsReadyToOpen (base : Kept) {T : Type 0} (g : Ghosts T) (h : List Event) (place : Place) (kind : Kind) (old left : Tree T)
    (hubs later : Hubs) (replaces : Bool) : Type 0 where
  pub law : IsLawful base h
  pub next : MayFollow base h (Open place kind)
  pub tied : AreTied base g h old hubs
  pub sound : IsSound old.nodes
  pub way : MakesWay h place old left replaces
  pub clears : ClearsHubs h place old left hubs later replaces

-- the node that is opened then, below the one that its place names
pub record IsOpenedBelow {T : Type 0} (h : List Event) (place : Place) (kind : Kind) (above : Option Key) (old left mid : Tree T) (key : Key) : Type 0 where
  pub named : named_by place ≡ option_map (λ k. k.number) above
  pub there : IfSome above (λ k. IsSome (find old.nodes k))
  pub opened : IsOpenedIn h (Open place kind) above left mid key

pub stands_below : {T : Type 0} {h : List Event} {place : Place} {kind : Kind} {above : Option Key} {old left mid : Tree T} {key : Key} →
    named_by place ≡ option_map (λ k. k.number) above → IfSome above (λ k. IsSome (find old.nodes k)) → key.number ≡ length h →
    entry_at left.nodes key.slot ≡ None → find mid.nodes key ≡ Some (blank_node (Open place kind) above) → KeepsOthers left.nodes mid.nodes key →
    mid.resources ≡ left.resources → mid.chain ≡ left.chain → IsOpenedBelow h place kind above old left mid key
stands_below named there numbered free found others resources chain = record {
  named = named;
  there = there;
  opened = record { numbered = numbered; free = free; found = found; others = others; resources = resources; chain = chain };
}

-- the tree before the node ----------------------------------------------------------------------------

module _ {base : Kept} {T : Type 0} {g : Ghosts T} {h : List Event} {place : Place} {kind : Kind} {old left : Tree T} {hubs later : Hubs} {replaces : Bool}
    (ready : IsReadyToOpen base g h place kind old left hubs later replaces) where
  -- it has the records of the nodes that stay open
  pub way_left : AreLeft h (Open place kind) old.nodes left.nodes old.chain left.chain
  way_left = by_test (cases_Bool replaces) where
    exchanged : Exchanges h place old left → AreLeft h (Open place kind) old.nodes left.nodes old.chain left.chain
    exchanged x =
        let r = x.replaced in
        let c = x.inner.number in
        let records = ready.tied.of_tree.records in
        let found = some_of (find old.nodes x.inner) r.inner.found in
        let alive : is_open h c ≡ true = (records.each x.inner found.0 found.1).alive in
        let opens : (n : ℕ) → n < length h → is_open (h ++ Open place kind ∷ []) n ≡ (is_open h n && not (is_within h c n)) =
        λ n l. ap (λ (q : Place). is_open (h ++ Open q kind ∷ []) n) r.named ∙
        is_open-inner_switch ready.law (record { switch = r.switches; inner = r.inner.stands; alive = alive }) kind n l in
        cut_left base h (Open place kind) ready.law ready.next old.nodes old.chain records left.nodes left.chain c ready.sound opens x.cuts.nodes x.cuts.chain

    by_test : (replaces ≡ true) ⊎ (replaces ≡ false) → AreLeft h (Open place kind) old.nodes left.nodes old.chain left.chain
    by_test (inl takes) = exchanged (ready.way.exchanged takes)
    by_test (inr leaves) = subst (λ (t : Tree T). AreLeft h (Open place kind) old.nodes t.nodes old.chain t.chain) (sym (ready.way.same leaves))
        (all_left base h (Open place kind) ready.law ready.next old.nodes old.chain ready.tied.of_tree.records
        (none_closed h place kind (ready.way.none leaves)))

  pub way_resources : left.resources ≡ old.resources
  way_resources = search (rules, cases_Bool)

  -- an inner changes the marks of the node above as it takes the place of another or not
  way_marks : (f : ℕ) → place ≡ Inner f → marks_of base (h ++ Open (Inner f) kind ∷ []) f ≡ after_inner replaces (marks_of base h f)
  way_marks f named = search (rules, cases_Bool, named, same_inner, some_of, find, marks-inner_at_next, marks-inner_at_first, marks-inner_at_flat)

  -- the node above is there, as it was
  pub above_found : (p : Key) (x : Node) → named_by place ≡ Some p.number → find old.nodes p ≡ Some x → find left.nodes p ≡ Some x
  above_found p x named found = way_left.still p x found (above_open base h place kind p.number ready.next named)

  pub above_there : (above : Option Key) → named_by place ≡ option_map (λ k. k.number) above → IfSome above (λ k. IsSome (find old.nodes k)) →
      IfSome above (λ k. IsSome (find left.nodes k))
  above_there None named there = tt
  above_there (Some p) named there = let x = some_of (find old.nodes p) there in ap is_some (above_found p x.0 named x.1)

  -- so the new node may stand where it is to stand
  pub placed_left : (n : ℕ) (above : Option Key) → n ≡ length h → IsPlaced old.nodes (length h) (Open place kind) above →
      IsPlaced left.nodes n (Open place kind) above
  placed_left n above is placed = subst (λ (m : ℕ). IsPlaced left.nodes m (Open place kind) above) (sym is)
      (record { makes = placed.makes; named = placed.named; lower = placed.lower; there = above_there above placed.named placed.there })

  pub newest_left : (n : ℕ) → n ≡ length h → IsNewest left n
  newest_left n is = newest_fewer old left n (λ k some. let x = some_of (find left.nodes k) some in ap is_some (way_left.was k x.0 x.1)) way_resources
      (newest base g h old ready.tied.of_tree ready.law n is)

  -- the tree with the new node ------------------------------------------------------------------------

  -- what is left stays as it was
  left_still : {mid : Tree T} {key : Key} {above : Option Key} → IsOpenedBelow h place kind above old left mid key →
      (k : Key) → IsSome (find left.nodes k) → find mid.nodes k ≡ find left.nodes k
  left_still {mid = mid} {key = key} {above = above} b = found_still base g h ready.law old left mid ready.tied.of_tree key (Open place kind) above b.opened

  -- so the node above is there, with the marks that the history gives
  pub above_marks : {mid : Tree T} {key : Key} (above : Option Key) → IsOpenedBelow h place kind above old left mid key → (P : Node → Type 0) →
      ((p : Key) (x : Node) → named_by place ≡ Some p.number → IsRecordOf base h p.number x → P x) → IfSome above (λ k. IfSome (find mid.nodes k) P)
  above_marks None b P holds = tt
  above_marks (Some p) b P holds =
      let x = some_of (find old.nodes p) b.there in
      let here = above_found p x.0 b.named x.1 in
      subst (λ o. IfSome o P) (sym (left_still b p (ap is_some here) ∙ here)) (holds p x.0 b.named (ready.tied.of_tree.records.each p x.0 x.1))

  pub above_there_still : {mid : Tree T} {key : Key} (above : Option Key) → IsOpenedBelow h place kind above old left mid key →
      IfSome above (λ k. IsSome (find mid.nodes k))
  above_there_still None b = tt
  above_there_still (Some p) b = let here = above_there (Some p) b.named b.there in ap is_some (left_still b p here) ∙ here

  -- and off the chain it has not to end
  pub quiet_above : {mid : Tree T} {key : Key} (above : Option Key) → IsOpenedBelow h place kind above old left mid key →
      IfSome above (λ k. is_on k mid.chain ≡ false → IsUndue mid.nodes k)
  quiet_above None b = tt
  quiet_above (Some p) b = λ off.
      let x = some_of (find old.nodes p) b.there in
      let here = above_found p x.0 b.named x.1 in
      let quiet = ready.tied.of_tree.records.quiet p x.0 x.1 (way_left.off p x.0 here (ap (is_on p) (sym b.opened.chain) ∙ off)) in
      subst (λ (o : Option Node). IfSome o (λ n. terminal_due n.made n.marks ≡ None)) (sym (left_still b p (ap is_some here) ∙ here))
      (no_terminal p.number (terminal_due x.0.made x.0.marks) quiet)

  module _ {mid : Tree T} {key : Key} {above : Option Key} (below : IsOpenedBelow h place kind above old left mid key) where
    -- it has few children
    pub few_above : (most : ℕ) → length h < most → IfSome above (λ k. IfSome (find mid.nodes k) (λ node. node.marks.open_children + 1 < suc most))
    unfolding open_children
    few_above most less = above_marks above below (λ node. node.marks.open_children + 1 < suc most) (λ p x named is.
        let count = count_by-le-length (λ m. is_open_child_of h p.number m) (places h) in
        let all = length-range_with_len 0 (length h) in
        let children : x.marks.open_children ≡ open_children h p.number = ap (λ (m : Marks). m.open_children) is.marks in omega arith)

    -- and where an inner is opened it owes something
    pub owes_above : (f : ℕ) → place ≡ Inner f → IfSome above (λ k. IfSome (find mid.nodes k) (λ node. 0 < node.marks.owed))
    owes_above f inner = above_marks above below (λ node. 0 < node.marks.owed) (λ p x named is.
        let free = may_open base (subst (λ (q : Place). MayFollow base h (Open q kind)) inner ready.next) in
        let same : f ≡ p.number = same_Some f p.number (sym (ap named_by inner) ∙ named) in
        let owes : 0 < owed base h p.number = subst (λ n. 0 < owed base h n) same free.2 in
        let owing : x.marks.owed ≡ owed base h p.number = ap (λ (m : Marks). m.owed) is.marks in omega arith)

    -- a node that is older was there
    opened_before : (k : Key) → IsSome (find mid.nodes k) → k.number < length h → IsSome (find old.nodes k)
    opened_before k some less =
        let other : k ≢ key = λ same. absurd (let n = ap (λ (j : Key). j.number) same in let m = below.opened.numbered in omega arith) in
        let here = ap is_some (sym (below.opened.others k other)) ∙ some in
        let x = some_of (find left.nodes k) here in ap is_some (way_left.was k x.0 x.1)

  -- no other node came
  pub opened_new : {mid : Tree T} {key : Key} (new : Tree T) (above : Option Key) → IsOpenedBelow h place kind above old left mid key →
      IfSome above (λ k. Remarks mid new k (opened_marks replaces place)) → IfNone above (new ≡ mid) → IsNewNode old.nodes new.nodes (length h) key
  opened_new {key = key} new None below marked same = subst (λ (t : Tree T). IsNewNode old.nodes t.nodes (length h) key) (sym same)
      (record { numbered = below.opened.numbered; found = ap is_some below.opened.found; from = opened_before below })
  opened_new {key = key} new (Some p) below marked same = record {
    numbered = below.opened.numbered;
    found = still_there p marked.nodes key (ap is_some below.opened.found);
    from = λ k some less. opened_before below k (rewritten_there p marked.nodes k some) less;
  }

  -- what is left is there
  pub opened_found : {mid : Tree T} {key : Key} (new : Tree T) (above : Option Key) → IsOpenedBelow h place kind above old left mid key →
      IfSome above (λ k. Remarks mid new k (opened_marks replaces place)) → IfNone above (new ≡ mid) →
      (k : Key) → IsSome (find left.nodes k) → IsSome (find new.nodes k)
  opened_found new x1 below marked same k some = search (rules, is_some, find, left_still, still_there)

-- the tie after an opening ----------------------------------------------------------------------------

module _ {base : Kept} {T : Type 0} {g : Ghosts T} {h : List Event} {kind : Kind} {old left mid new : Tree T} {hubs later : Hubs} {replaces : Bool}
    {key : Key} where
  -- a node below another, which is marked
  opened_below : {place : Place} (p : Key) (change : Marks → Marks) → IsReadyToOpen base g h place kind old left hubs later replaces →
      IsOpenedBelow h place kind (Some p) old left mid key → AreApart mid.nodes → ((n : ℕ) → p.number ≢ n → touches h n (Open place kind) ≡ false) →
      marks_of base (h ++ Open place kind ∷ []) p.number ≡ change (marks_of base h p.number) → Remarks mid new p change →
      IsTied base g (h ++ Open place kind ∷ []) new
  opened_below {place} p change ready below apart others changed marked =
      tied_below base g h kind ready.law old left mid new ready.tied.of_tree key place p change ready.next (way_left ready) (way_resources ready)
      below.named others changed apart (above_there ready (Some p) below.named below.there) below.opened marked

  pub opened_tied : (place : Place) (above : Option Key) → IsReadyToOpen base g h place kind old left hubs later replaces →
      IsOpenedBelow h place kind above old left mid key → AreApart mid.nodes → IfSome above (λ k. Remarks mid new k (opened_marks replaces place)) →
      IfNone above (new ≡ mid) → IsTied base g (h ++ Open place kind ∷ []) new
  opened_tied Root None ready below apart marked same = subst (IsTied base g (h ++ Open Root kind ∷ [])) (sym same)
      (tied_root base g h kind ready.law old left mid new ready.tied.of_tree key ready.next (way_left ready) (way_resources ready) below.opened)
  opened_tied Root (Some p) ready below apart marked same = absurd (none-some p.number below.named)
  opened_tied (Source f) None ready below apart marked same = absurd (none-some f (sym below.named))
  opened_tied (Source f) (Some p) ready below apart marked same =
      let at : p.number ≡ f = sym (same_Some f p.number below.named) in
      opened_below p after_source ready below apart (λ n differs. ne_eqb f n (λ same. differs (at ∙ same)))
      (subst (λ (n : ℕ). marks_of base (h ++ Open (Source f) kind ∷ []) n ≡ after_source (marks_of base h n)) (sym at)
      (marks-source_at base h f kind ready.law ready.next)) marked
  opened_tied (Notifier u) None ready below apart marked same = absurd (none-some u (sym below.named))
  opened_tied (Notifier u) (Some p) ready below apart marked same =
      let at : p.number ≡ u = sym (same_Some u p.number below.named) in
      opened_below p after_notifier ready below apart (λ n differs. ne_eqb u n (λ same. differs (at ∙ same)))
      (subst (λ (n : ℕ). marks_of base (h ++ Open (Notifier u) kind ∷ []) n ≡ after_notifier (marks_of base h n)) (sym at)
      (marks-notifier_at base h u kind ready.law ready.next)) marked
  opened_tied (Inner f) None ready below apart marked same = absurd (none-some f (sym below.named))
  opened_tied (Inner f) (Some p) ready below apart marked same =
      let at : p.number ≡ f = sym (same_Some f p.number below.named) in
      opened_below p (after_inner replaces) ready below apart (λ n differs. ne_eqb f n (λ same. differs (at ∙ same)))
      (subst (λ (n : ℕ). marks_of base (h ++ Open (Inner f) kind ∷ []) n ≡ after_inner replaces (marks_of base h n)) (sym at) (way_marks ready f refl)) marked
