-- What a closing moves out of the tree has gone, and nothing else went.
use Rattle.rx_ground.proofs.Common.{◌≡◌, ◌≢◌, ℕ, ◌-◌, true, false, cond, List, [], ◌∷◌, ◌++◌, length, take, drop, Some, None, is_some, IsSome, IsTrue, sym}
use Rattle.rx_ground.proofs.Common.{ap, subst, ◌∙◌, inl, inr, ◌⊎◌, not, ◌&&◌, Contains, and_parts, and_from, both_ways, cases_Bool, not-true, Kept}
use Rattle.rx_ground.proofs.Common.{false_from_ne_true, not_from_false, none-some, map-append, take-append-drop, length-drop, take-length, at}
use Rattle.rx_ground.proofs.Common.{Ghosts, Event, makes_node, is_open, is_within, MayFollow, IsLawful, at-append, is_open_within, open_node, is_open_new}
use Rattle.rx_ground.proofs.Common.{Key, Slots, find, Node, Closed, is_below, IsInside, IsSubtree, Tree, IsSound, some_of, has_gone, goes, Gathers}
use Rattle.rx_ground.proofs.Common.{GoesFirst}
use Rattle.rx_ground.proofs.Common.{numbers_of, closed_key, closed_keys, AreRecords, IsTied, Cuts, Moves}
use Rattle.rx_ground.proofs.Records.{AreLeft, cut_left}
use Rattle.rx_ground.proofs.Laws.GoneStaysGone.{went, together}
use Rattle.rx_ground.proofs.Laws.Members.{All-members, Contains-map, AllPairs-map, AllPairs-by, Contains-from_map}

-- what stands behind the first so many
pub behind : {X : Type 0} (n from : ℕ) (xs list : List X) → from ≡ n → list ≡ xs → take (length list - from) (drop from list) ≡ drop n xs
behind n from xs list same is = rw (same, is) (ap (λ (m : ℕ). take m (drop n xs)) (sym (length-drop n xs)) ∙ take-length (drop n xs))

-- the list of closed nodes goes on with the subtree
pub moves_subtree : (nodes : Slots Node) (top : ℕ) (before after : List Closed) → take (length before) after ≡ before →
    IsSubtree nodes top (drop (length before) after) → Moves nodes top (closed_keys before) (closed_keys after)
moves_subtree nodes top before after begins subtree = record {
  moved = closed_keys moved;
  listed = ap closed_keys (sym (take-append-drop (length before) after)) ∙ map-append closed_key (take (length before) after) moved ∙
      ap (λ (xs : List Closed). closed_keys xs ++ closed_keys moved) begins;
  each = λ key c.
      let m = Contains-from_map closed_key moved key c in
      let is : IsInside nodes top m.0 = (subtree.exactly m.0).0 m.1 in
      subst (λ (k : Key). IsSome (find nodes k) × IsTrue (is_below nodes top k.number)) m.2 (ap is_some is.found, is.below);
  every = λ key some below.
      let x = some_of (find nodes key) some in
      let one : Closed = record { key = key; node = x.0 } in
      Contains-map closed_key moved one ((subtree.exactly one).1 (record { found = x.1; below = below }));
  once = AllPairs-map closed_key (λ a b. a ≢ b) moved subtree.once;
}
  where
    moved : List Closed
    moved = drop (length before) after

module _ {base : Kept} {h : List Event} {e : Event} {nodes left : Slots Node} {chain rest : List Key} {top : ℕ} {list longer : List Key}
    (next : MayFollow base h e) (records : AreRecords base h nodes chain) (stays : AreLeft h e nodes left chain rest)
    (cuts : (key : Key) → find left key ≡ cond (is_below nodes top key.number) None (find nodes key)) (sound : IsSound nodes)
    (moves : Moves nodes top list longer) where
  -- what was moved out went
  moved_goes : (key : Key) → Contains moves.moved key → goes h (h ++ e ∷ []) key.number ≡ true
  moved_goes key c =
      let is = moves.each key c in
      let x = some_of (find nodes key) is.0 in
      let alive = (records.each key x.0 x.1).alive in
      let out : find left key ≡ None = cuts key ∙ ap (λ b. cond b None (find nodes key)) is.1 in
      let shut = false_from_ne_true (is_open (h ++ e ∷ []) key.number) (λ o. none-some x.0 (sym out ∙ stays.still key x.0 x.1 o)) in
      let made = at-append makes_node h (e ∷ []) key.number (is_open_within h key.number alive) ∙ open_node h key.number alive in
      let stayed = false_from_ne_true (has_gone h key.number) (λ gone. both_ways (is_open h key.number) (not_open gone) alive) in
      and_from (has_gone (h ++ e ∷ []) key.number) (not (has_gone h key.number))
      (and_from (at makes_node (h ++ e ∷ []) key.number) (not (is_open (h ++ e ∷ []) key.number)) made (not_from_false _ shut)) (not_from_false _ stayed)
    where
      not_open : has_gone h key.number ≡ true → is_open h key.number ≡ false
      not_open gone = not-true (is_open h key.number) (and_parts (at makes_node h key.number) (not (is_open h key.number)) gone).1

  -- and what went was moved out
  goes_moved : (n : ℕ) → goes h (h ++ e ∷ []) n ≡ true → Contains (numbers_of moves.moved) n
  goes_moved n now =
      let w = went h e (is_open_new base h e next) n now in
      let has = records.every n w.1 in
      subst (Contains (numbers_of moves.moved)) has.numbered
      (Contains-map (λ (key : Key). key.number) moves.moved has.key (moves.every has.key (ap is_some has.found)
      (inside has.key has.value has.found (ap (is_open (h ++ e ∷ [])) has.numbered ∙ w.2) (cases_Bool (is_below nodes top has.key.number)))))
    where
      inside : (key : Key) (node : Node) → find nodes key ≡ Some node → is_open (h ++ e ∷ []) key.number ≡ false →
          (is_below nodes top key.number ≡ true) ⊎ (is_below nodes top key.number ≡ false) → is_below nodes top key.number ≡ true
      inside key node found shut (inl below) = below
      inside key node found shut (inr beside) =
          absurd (both_ways (is_open (h ++ e ∷ []) key.number) shut (stays.alive key node (cuts key ∙ ap (λ b. cond b None (find nodes key)) beside ∙ found)))

  -- so the list goes on with just what went
  pub gathers_cut : Gathers h list (h ++ e ∷ []) longer
  gathers_cut = record {
    gone = moves.moved;
    listed = moves.listed;
    each = All-members (λ n. IsTrue (goes h (h ++ e ∷ []) n)) (numbers_of moves.moved) each;
    every = goes_moved;
    once = AllPairs-map (λ (key : Key). key.number) (λ m n. m ≢ n) moves.moved (AllPairs-by (λ a b. a ≢ b) (λ a b. a.number ≢ b.number) moves.moved
        (λ a b c d differ same. differ (sound.apart a b (moves.each a c).0 (moves.each b d).0 same)) moves.once);
    order = AllPairs-map (λ (key : Key). key.number) (GoesFirst (h ++ e ∷ [])) moves.moved
        (AllPairs-by (λ a b. a ≢ b) (λ a b. GoesFirst (h ++ e ∷ []) a.number b.number) moves.moved
        (λ a b c d differ. together h e a.number b.number (moved_goes a c) (moved_goes b d)) moves.once);
  }
    where
      each : (n : ℕ) → Contains (numbers_of moves.moved) n → goes h (h ++ e ∷ []) n ≡ true
      each n c = let m = Contains-from_map (λ (key : Key). key.number) moves.moved n c in ap (goes h (h ++ e ∷ [])) (sym m.2) ∙ moved_goes m.0 m.1

-- it is so where the event closes a node and all below it
pub gathers_closed : {base : Kept} {T : Type 0} {g : Ghosts T} {h k : List Event} {e : Event} {old mid : Tree T} {n : ℕ} {list longer : List Key} →
    IsLawful base h → MayFollow base h e → IsTied base g h old → IsSound old.nodes → Cuts old mid n →
    ((m : ℕ) → is_open (h ++ e ∷ []) m ≡ (is_open h m && not (is_within h n m))) → Moves old.nodes n list longer → k ≡ h ++ e ∷ [] → Gathers h list k longer
gathers_closed {base} {h = h} {e = e} {old = old} {mid = mid} {n = n} {list = list} {longer = longer} law next tied sound cuts outside moves grown =
    subst (λ (k : List Event). Gathers h list k longer) (sym grown) (gathers_cut next tied.records
    (cut_left base h e law next old.nodes old.chain tied.records mid.nodes mid.chain n sound (λ m l. outside m) cuts.nodes cuts.chain)
    cuts.nodes sound moves)
