-- What one event leaves of the records of open nodes.
use Rattle.rx_ground.proofs.Common.{◌≡◌, ◌≢◌, ℕ, zero, suc, ◌<◌, ◌==◌, Bool, true, false, cond, List, [], ◌∷◌, ◌++◌, length, Option, Some, None, is_some, sym}
use Rattle.rx_ground.proofs.Common.{option_map, slice_get, refl, ap, subst, ◌∙◌, inl, inr, ◌⊎◌, arith, length-append, not, ◌&&◌, ◌||◌, list_any, false≢true}
use Rattle.rx_ground.proofs.Common.{option_and_then, option_map_or, cases_order, and_parts, and_from, or_parts, both_ways, eq-eqb, not-true, not_from_false}
use Rattle.rx_ground.proofs.Common.{none-some, same_Some, Kept, Marks, Event, makes_node, parent_named, is_open, parent, if_less, ancestors}
use Rattle.rx_ground.proofs.Common.{shuts, marks_of, due_at, touches, MayFollow, IsLawful, slice_get-append, slice_get_last, ancestors_step}
use Rattle.rx_ground.proofs.Common.{parent-lt, option_map_or-same, shuts_none, is_open_within, is_open_cut, is_open_unchanged, parent_open, is_open_new, Key}
use Rattle.rx_ground.proofs.Common.{marks-new, marks_untouched, blank_quiet, Slots, find, entry_at, with_number, KeepsOthers, Node, IsSound, AreApart, is_key}
use Rattle.rx_ground.proofs.Common.{Rewrites, blank_node, named_above, parent_number, with_marks, with_last, with_due, is_on, is_below, outside}
use Rattle.rx_ground.proofs.Common.{key_is, cases_key, IsChained, IsRecordOf, AreRecordsOf, HasKey, AreRecords}
use Rattle.rx_tree.specs.Below.{up, ancestors as tree_ancestors}
use Rattle.rx_tree.proofs.Laws.Below.{climb_step, up-lt, record_found}
use Rattle.std.proofs.Common.{rules}

-- the chain ---------------------------------------------------------------------------------------

key_itself : (a : Key) → is_key a a ≡ true
key_itself a = and_from _ _ (eq-eqb a.slot a.slot refl) (eq-eqb a.number a.number refl)

on_append : (k : Key) (xs ys : List Key) → is_on k (xs ++ ys) ≡ (is_on k xs || is_on k ys)
on_append k [] ys = refl
on_append k (x ∷ xs) ys = search (rules, on_append k xs ys)

-- a key that is put on the chain is there
on_last : (p : Key) (chain : List Key) → is_on p (with_last p chain) ≡ true
on_last p chain = search (rules, cond, on_append, key_itself)

-- and what is not there then was not there before
off_last : (k p : Key) (chain : List Key) → is_on k (with_last p chain) ≡ false → is_on k chain ≡ false
off_last k p chain off = search (rules, off, cond, or_parts, on_append)

-- a node that has to end is put there
pub off_due : (nodes : Slots Node) (k p : Key) (chain : List Key) → is_on k (with_due nodes p chain) ≡ false → is_on k chain ≡ false
off_due nodes k p chain off = search (rules, off, cond, off_last)

-- and one that is not there then has not to end
pub undue : (nodes : Slots Node) (p : Key) (node : Node) (chain : List Key) → find nodes p ≡ Some node → is_on p (with_due nodes p chain) ≡ false →
    due_at node.made node.marks p.number ≡ None
undue nodes p node chain found off = search (rules, option_map, off, is_some, option_map_or, false≢true, cond, both_ways, on_last)

-- what stays open and is not on the chain that stays was not on it
pub off_outside : (nodes : Slots Node) (top : ℕ) (k : Key) (chain : List Key) → is_below nodes top k.number ≡ false →
    is_on k (outside nodes top chain) ≡ false → is_on k chain ≡ false
off_outside nodes top k [] apart off = refl
off_outside nodes top k (x ∷ chain) apart off = search (rules, off, false≢true, key_is, cond, not, or_parts, off_outside nodes top k chain apart)

-- a step of the records ---------------------------------------------------------------------------

-- the records are those of the open nodes, but that the marks of this one, if it is one, are not yet those of the history
pub record AreNearly (base : Kept) (h : List Event) (stale : Option ℕ) (nodes : Slots Node) (chain : List Key) : Type 0 where
  pub made : (key : Key) (node : Node) → find nodes key ≡ Some node → slice_get h key.number ≡ Some node.made
  pub alive : (key : Key) (node : Node) → find nodes key ≡ Some node → is_open h key.number ≡ true
  pub marks : (key : Key) (node : Node) → find nodes key ≡ Some node → stale ≢ Some key.number → node.marks ≡ marks_of base h key.number
  pub every : (n : ℕ) → is_open h n ≡ true → HasKey nodes n
  pub quiet : (key : Key) (node : Node) → find nodes key ≡ Some node → stale ≢ Some key.number → is_on key chain ≡ false →
      due_at node.made node.marks key.number ≡ None

pub all_fresh : (base : Kept) → (h : List Event) (nodes : Slots Node) (chain : List Key) → AreNearly base h None nodes chain → AreRecords base h nodes chain
all_fresh base h nodes chain near = record {
  each = λ key node found. record {
    made = near.made key node found;
    alive = near.alive key node found;
    marks = near.marks key node found (λ e. none-some key.number e);
  };
  every = near.every;
  quiet = λ key node found off. near.quiet key node found (λ e. none-some key.number e) off;
}

-- the marks of that record are set
pub remarked : {base : Kept} → {h : List Event} {nodes new : Slots Node} {chain : List Key} (p : Key) (before : Node) (change : Marks → Marks) →
    AreNearly base h (Some p.number) nodes chain → AreApart nodes → find nodes p ≡ Some before → marks_of base h p.number ≡ change before.marks →
    Rewrites nodes new p (λ node. with_marks (change node.marks) node) → AreRecords base h new (with_due new p chain)
remarked {base} {h} {nodes} {new} {chain} p before change near apart at_p marked rewrites = record { each = each; every = every; quiet = quiet } where
  here : find new p ≡ Some (with_marks (change before.marks) before)
  here = rewrites.changed ∙ ap (option_map (λ (node : Node). with_marks (change node.marks) node)) at_p

  other : (key : Key) (node : Node) → key ≢ p → find new key ≡ Some node → find nodes key ≡ Some node
  other key node differs found = sym (rewrites.others key differs) ∙ found

  fresh : (key : Key) (node : Node) → key ≢ p → find nodes key ≡ Some node → ◌≢◌ {A = Option ℕ} (Some p.number) (Some key.number)
  fresh key node differs found same = differs (apart key p (ap is_some found) (ap is_some at_p) (sym (same_Some p.number key.number same)))

  each : (key : Key) (node : Node) → find new key ≡ Some node → IsRecordOf base h key.number node
  each key node found = by_key (cases_key key p) where
    by_key : (key ≡ p) ⊎ (key ≢ p) → IsRecordOf base h key.number node
    by_key (inl same) =
        let is : with_marks (change before.marks) before ≡ node = same_Some _ _ (sym here ∙ sym (ap (find new) same) ∙ found) in
        let n : key.number ≡ p.number = ap (λ (k : Key). k.number) same in
        record {
          made = ap (slice_get h) n ∙ near.made p before at_p ∙ ap (λ (x : Node). Some x.made) is;
          alive = ap (is_open h) n ∙ near.alive p before at_p;
          marks = sym (ap (λ (x : Node). x.marks) is) ∙ sym marked ∙ ap (marks_of base h) (sym n);
        }
    by_key (inr differs) =
        let was = other key node differs found in
        record { made = near.made key node was; alive = near.alive key node was; marks = near.marks key node was (fresh key node differs was) }

  every : (n : ℕ) → is_open h n ≡ true → HasKey new n
  every n alive = by_key (near.every n alive) where
    by_key : HasKey nodes n → HasKey new n
    by_key has = by_cases (cases_key has.key p) where
      by_cases : (has.key ≡ p) ⊎ (has.key ≢ p) → HasKey new n
      by_cases (inl same) =
          record { key = p; value = with_marks (change before.marks) before; found = here; numbered = ap (λ (k : Key). k.number) (sym same) ∙ has.numbered }
      by_cases (inr differs) = record { key = has.key; value = has.value; found = rewrites.others has.key differs ∙ has.found; numbered = has.numbered }

  quiet : (key : Key) (node : Node) → find new key ≡ Some node → is_on key (with_due new p chain) ≡ false → due_at node.made node.marks key.number ≡ None
  quiet key node found off = by_key (cases_key key p) where
    by_key : (key ≡ p) ⊎ (key ≢ p) → due_at node.made node.marks key.number ≡ None
    by_key (inl same) = ap (λ (k : Key). due_at node.made node.marks k.number) same ∙
        undue new p node chain (sym (ap (find new) same) ∙ found) (sym (ap (λ (k : Key). is_on k (with_due new p chain)) same) ∙ off)
    by_key (inr differs) = let was = other key node differs found in near.quiet key node was (fresh key node differs was) (off_due new key p chain off)

-- the records are those of the history, whatever is due
pub as_records : (base : Kept) → (h : List Event) (nodes : Slots Node) (chain : List Key) → AreRecords base h nodes chain → AreRecordsOf base h nodes
as_records base h nodes chain r = record {
  each = r.each;
  every = λ n alive. let has = r.every n alive in record { key = has.key; node = has.value; numbered = has.numbered; found = has.found };
}

-- nothing is due off their chain
pub chained : (base : Kept) → (h : List Event) (nodes : Slots Node) (chain : List Key) → AreRecords base h nodes chain → IsChained nodes chain
chained base h nodes chain r key off = search (rules, find, option_and_then, off)

-- another chain, off which nothing is due
pub rechained : (base : Kept) → (h : List Event) (nodes : Slots Node) (chain other : List Key) → AreRecords base h nodes chain → IsChained nodes other →
    AreRecords base h nodes other
rechained base h nodes chain other r off_it = record {
  each = r.each;
  every = r.every;
  quiet = λ key node found off. sym (ap (option_and_then (λ (n : Node). due_at n.made n.marks key.number)) found) ∙ off_it key off;
}

-- the way up --------------------------------------------------------------------------------------

tree_ancestors_step : (nodes : Slots Node) (n : ℕ) → tree_ancestors nodes n ≡ n ∷ option_map_or (tree_ancestors nodes) (up nodes n) []
unfolding tree_ancestors
tree_ancestors_step nodes n = climb_step (up nodes) (up-lt nodes) n

named_parent : (h : List Event) (n : ℕ) (node : Node) → slice_get h n ≡ Some node.made → named_above n node ≡ parent h n
unfolding parent
named_parent h n node made = ap (λ o. option_and_then (if_less n) (option_and_then parent_named o)) (sym made)

module _ (base : Kept) (h : List Event) (nodes : Slots Node) (chain : List Key) (r : AreRecords base h nodes chain) where
  -- the parent of a node of the tree is that of the history
  pub parent_in_tree : (key : Key) (node : Node) → find nodes key ≡ Some node → parent_number nodes key ≡ parent h key.number
  parent_in_tree key node found = ap (option_and_then (named_above key.number)) found ∙ named_parent h key.number node (r.each key node found).made

  module _ (sound : IsSound nodes) where
    up_is_parent : (has_key : Key) (node : Node) → find nodes has_key ≡ Some node → up nodes has_key.number ≡ parent h has_key.number
    up_is_parent key node found =
        ap (option_and_then (named_above key.number)) (record_found nodes sound key node found) ∙ named_parent h key.number node (r.each key node found).made

    climbs_agree : (k n : ℕ) → n < k → is_open h n ≡ true → tree_ancestors nodes n ≡ ancestors h n
    climbs_agree zero n l alive = absurd (omega arith)
    climbs_agree (suc k) n l alive =
        let has = r.every n alive in
        let at : up nodes n ≡ parent h n = subst (λ (m : ℕ). up nodes m ≡ parent h m) has.numbered (up_is_parent has.key has.value has.found) in
        tree_ancestors_step nodes n ∙ ap (λ o. n ∷ option_map_or (tree_ancestors nodes) o []) at ∙
        ap (λ (xs : List ℕ). n ∷ xs) (option_map_or-same (tree_ancestors nodes) (ancestors h) (parent h n) []
        (λ p below. let s : p < n = parent-lt h n p below in climbs_agree k p (omega arith) (parent_open h n p alive below))) ∙ sym (ancestors_step h n)

    -- what is below a node of the tree is within it in the history
    pub below_is_within : (key : Key) (node : Node) → find nodes key ≡ Some node → (top : ℕ) →
        is_below nodes top key.number ≡ list_any (λ a. top == a) (ancestors h key.number)
    below_is_within key node found top = ap (list_any (λ a. top == a)) (climbs_agree (suc key.number) key.number (omega arith) (r.each key node found).alive)

-- what stays ------------------------------------------------------------------------------------------

-- of the records those of the nodes that are open after the event still, and of the chain their keys
pub record AreLeft (h : List Event) (e : Event) (nodes left : Slots Node) (chain rest : List Key) : Type 0 where
  pub was : (key : Key) (node : Node) → find left key ≡ Some node → find nodes key ≡ Some node
  pub alive : (key : Key) (node : Node) → find left key ≡ Some node → is_open (h ++ e ∷ []) key.number ≡ true
  pub still : (key : Key) (node : Node) → find nodes key ≡ Some node → is_open (h ++ e ∷ []) key.number ≡ true → find left key ≡ Some node
  pub off : (key : Key) (node : Node) → find left key ≡ Some node → is_on key rest ≡ false → is_on key chain ≡ false

-- events ------------------------------------------------------------------------------------------

module _ (base : Kept) (h : List Event) (e : Event) (law : IsLawful base h) (next : MayFollow base h e) (nodes : Slots Node) (chain : List Key)
    (r : AreRecords base h nodes chain) where
  -- what was made is still made
  made_still : (key : Key) (node : Node) → find nodes key ≡ Some node → slice_get (h ++ e ∷ []) key.number ≡ Some node.made
  made_still key node found = search (rules, slice_get-append, is_open_within)

  -- an event that touches no node
  pub records_still : shuts_none e ≡ true → makes_node e ≡ false → ((n : ℕ) → touches h n e ≡ false) → AreRecords base (h ++ e ∷ []) nodes chain
  records_still shuts makes untouched = record {
    each = λ key node found. let is = r.each key node found in
        record {
          made = made_still key node found;
          alive = is_open_unchanged h e shuts makes key.number ∙ is.alive;
          marks =
              is.marks ∙
              sym (marks_untouched h e law next key.number (is_open_within h key.number is.alive)
              (is_open_unchanged h e shuts makes key.number ∙ is.alive) (untouched key.number));
        };
    every = λ n alive. r.every n (sym (is_open_unchanged h e shuts makes n) ∙ alive);
    quiet = r.quiet;
  }

  -- one that touches the marks of one node alone
  pub records_touched : (p : ℕ) → shuts_none e ≡ true → makes_node e ≡ false → ((n : ℕ) → p ≢ n → touches h n e ≡ false) →
      AreNearly base (h ++ e ∷ []) (Some p) nodes chain
  records_touched p shuts makes untouched = record {
    made = made_still;
    alive = alive;
    marks = λ key node found fresh. let is = r.each key node found in
        is.marks ∙
        sym (marks_untouched h e law next key.number (is_open_within h key.number is.alive) (alive key node found)
        (untouched key.number (λ same. fresh (ap (λ (n : ℕ). Some n) same))));
    every = λ n open_now. r.every n (sym (is_open_unchanged h e shuts makes n) ∙ open_now);
    quiet = λ key node found fresh off. r.quiet key node found off;
  }
    where
      alive : (key : Key) (node : Node) → find nodes key ≡ Some node → is_open (h ++ e ∷ []) key.number ≡ true
      alive key node found = is_open_unchanged h e shuts makes key.number ∙ (r.each key node found).alive

  -- where the event closes none of those before it, all stay
  pub all_left : ((n : ℕ) → n < length h → is_open (h ++ e ∷ []) n ≡ is_open h n) → AreLeft h e nodes nodes chain chain
  all_left opens = record {
    was = λ key node found. found;
    alive = λ key node found. let is = r.each key node found in opens key.number (is_open_within h key.number is.alive) ∙ is.alive;
    still = λ key node found alive. found;
    off = λ key node found off. off;
  }

  -- where it closes a node and all below it, the others stay
  pub cut_left : (left : Slots Node) (rest : List Key) (top : ℕ) → IsSound nodes →
      ((n : ℕ) → n < length h → is_open (h ++ e ∷ []) n ≡ (is_open h n && not (list_any (λ a. top == a) (ancestors h n)))) →
      ((key : Key) → find left key ≡ cond (is_below nodes top key.number) None (find nodes key)) → rest ≡ outside nodes top chain →
      AreLeft h e nodes left chain rest
  cut_left left rest top sound opens cuts chained = record {
    was = λ k node f. (was k node f).1;
    alive = λ k node f. let o = was k node f in let is = r.each k node o.1 in opens k.number (is_open_within h k.number is.alive) ∙
        and_from _ _ is.alive (not_from_false _ (sym (below_is_within base h nodes chain r sound k node o.1 top) ∙ o.0));
    still = still;
    off = λ k node f off. off_outside nodes top k chain (was k node f).0 (sym (ap (is_on k) chained) ∙ off);
  }
    where
      was : (k : Key) (node : Node) → find left k ≡ Some node → (is_below nodes top k.number ≡ false) × (find nodes k ≡ Some node)
      was k node f = by_test (is_below nodes top k.number) refl (sym (cuts k) ∙ f) where
        by_test : (b : Bool) → is_below nodes top k.number ≡ b → cond b None (find nodes k) ≡ Some node →
            (is_below nodes top k.number ≡ false) × (find nodes k ≡ Some node)
        by_test true e f = absurd (none-some node f)
        by_test false e f = (e, f)

      still : (k : Key) (node : Node) → find nodes k ≡ Some node → is_open (h ++ e ∷ []) k.number ≡ true → find left k ≡ Some node
      still k node f alive =
          let parts = and_parts (is_open h k.number) (not (list_any (λ a. top == a) (ancestors h k.number)))
          (sym (opens k.number (is_open_within h k.number (r.each k node f).alive)) ∙ alive) in
          cuts k ∙ ap (λ b. cond b None (find nodes k))
          (below_is_within base h nodes chain r sound k node f top ∙ not-true (list_any (λ a. top == a) (ancestors h k.number)) parts.1) ∙ f

  -- a new node beside those that stay
  pub records_opened : {left : Slots Node} {rest : List Key} → AreLeft h e nodes left chain rest →
      {new : Slots Node} {key : Key} (above : Option Key) → makes_node e ≡ true → ((n : ℕ) → parent_named e ≢ Some n → touches h n e ≡ false) →
      key.number ≡ length h → entry_at left key.slot ≡ None → find new key ≡ Some (blank_node e above) → KeepsOthers left new key →
      AreNearly base (h ++ e ∷ []) (parent_named e) new rest
  records_opened {left} {rest} stays {new} {key} above makes untouched numbered free found others = record {
    made = made;
    alive = alive;
    marks = marks;
    every = every;
    quiet = quiet;
  }
    where
      old : (k : Key) (node : Node) → k ≢ key → find new k ≡ Some node → find left k ≡ Some node
      old k node differs f = sym (others k differs) ∙ f

      is_blank : (k : Key) (node : Node) → k ≡ key → find new k ≡ Some node → blank_node e above ≡ node
      is_blank k node same f = same_Some _ _ (sym found ∙ sym (ap (find new) same) ∙ f)

      at_end : (k : Key) → k ≡ key → k.number ≡ length h
      at_end k same = ap (λ (j : Key). j.number) same ∙ numbered

      made : (k : Key) (node : Node) → find new k ≡ Some node → slice_get (h ++ e ∷ []) k.number ≡ Some node.made
      made k node f = by_key (cases_key k key) where
        by_key : (k ≡ key) ⊎ (k ≢ key) → slice_get (h ++ e ∷ []) k.number ≡ Some node.made
        by_key (inl same) = ap (slice_get (h ++ e ∷ [])) (at_end k same) ∙ slice_get_last h e ∙ ap (λ (x : Node). Some x.made) (is_blank k node same f)
        by_key (inr differs) = made_still k node (stays.was k node (old k node differs f))

      alive : (k : Key) (node : Node) → find new k ≡ Some node → is_open (h ++ e ∷ []) k.number ≡ true
      alive k node f = by_key (cases_key k key) where
        by_key : (k ≡ key) ⊎ (k ≢ key) → is_open (h ++ e ∷ []) k.number ≡ true
        by_key (inl same) = ap (is_open (h ++ e ∷ [])) (at_end k same) ∙ is_open_new base h e next ∙ makes
        by_key (inr differs) = stays.alive k node (old k node differs f)

      marks : (k : Key) (node : Node) → find new k ≡ Some node → parent_named e ≢ Some k.number → node.marks ≡ marks_of base (h ++ e ∷ []) k.number
      marks k node f fresh = by_key (cases_key k key) where
        by_key : (k ≡ key) ⊎ (k ≢ key) → node.marks ≡ marks_of base (h ++ e ∷ []) k.number
        by_key (inl same) =
            sym (ap (λ (x : Node). x.marks) (is_blank k node same f)) ∙
            sym (marks-new base h e law next) ∙
            ap (marks_of base (h ++ e ∷ [])) (sym (at_end k same))
        by_key (inr differs) =
            let here = old k node differs f in
            let is = r.each k node (stays.was k node here) in
            is.marks ∙
            sym (marks_untouched h e law next k.number (is_open_within h k.number is.alive) (stays.alive k node here) (untouched k.number fresh))

      every : (n : ℕ) → is_open (h ++ e ∷ []) n ≡ true → HasKey new n
      every n open_now = by_place (cases_order n (length h)) where
        by_place : (n ≡ length h) ⊎ ((n < length h) ⊎ (length h < n)) → HasKey new n
        by_place (inl same) = record { key = key; value = blank_node e above; found = found; numbered = numbered ∙ sym same }
        by_place (inr (inl l)) =
            let has = r.every n (and_parts (is_open h n) _ (sym (is_open_cut h e n l) ∙ open_now)).0 in
            let here = stays.still has.key has.value has.found (ap (is_open (h ++ e ∷ [])) has.numbered ∙ open_now) in
            record {
              key = has.key;
              value = has.value;
              found =
                  others has.key (λ same. none-some has.value (sym (ap (λ (k : Key). find left k) same ∙ ap (with_number key.number) free) ∙ here)) ∙ here;
              numbered = has.numbered;
            }
        by_place (inr (inr g)) = absurd (let w = is_open_within (h ++ e ∷ []) n open_now in omega (arith, length-append h (e ∷ [])))

      quiet : (k : Key) (node : Node) → find new k ≡ Some node → parent_named e ≢ Some k.number → is_on k rest ≡ false →
          due_at node.made node.marks k.number ≡ None
      quiet k node f fresh off = by_key (cases_key k key) where
        by_key : (k ≡ key) ⊎ (k ≢ key) → due_at node.made node.marks k.number ≡ None
        by_key (inl same) = ap (λ (x : Node). due_at x.made x.marks k.number) (sym (is_blank k node same f)) ∙ blank_quiet e k.number
        by_key (inr differs) = let here = old k node differs f in r.quiet k node (stays.was k node here) (stays.off k node here off)

  -- what a closing leaves
  pub records_cut : {new : Slots Node} (rest : List Key) (top : ℕ) (stale : Option ℕ) → IsSound nodes →
      ((n : ℕ) → stale ≢ Some n → is_open (h ++ e ∷ []) n ≡ true → marks_of base (h ++ e ∷ []) n ≡ marks_of base h n) →
      ((n : ℕ) → is_open (h ++ e ∷ []) n ≡ (is_open h n && not (list_any (λ a. top == a) (ancestors h n)))) →
      ((key : Key) → find new key ≡ cond (is_below nodes top key.number) None (find nodes key)) → rest ≡ outside nodes top chain →
      AreNearly base (h ++ e ∷ []) stale new rest
  records_cut {new} rest top stale sound kept opens cuts chained = record {
    made = λ k node f. let o = was k node f in made_still k node o.1;
    alive = λ k node f. let o = was k node f in alive k node o.1 o.0;
    marks = λ k node f fresh. let o = was k node f in (r.each k node o.1).marks ∙ sym (kept k.number fresh (alive k node o.1 o.0));
    every = every;
    quiet = λ k node f fresh off. let o = was k node f in r.quiet k node o.1 (off_outside nodes top k chain o.0 (sym (ap (is_on k) chained) ∙ off));
  }
    where
      was : (k : Key) (node : Node) → find new k ≡ Some node → (is_below nodes top k.number ≡ false) × (find nodes k ≡ Some node)
      was k node f = by_test (is_below nodes top k.number) refl (sym (cuts k) ∙ f) where
        by_test : (b : Bool) → is_below nodes top k.number ≡ b → cond b None (find nodes k) ≡ Some node →
            (is_below nodes top k.number ≡ false) × (find nodes k ≡ Some node)
        by_test true e f = absurd (none-some node f)
        by_test false e f = (e, f)

      alive : (k : Key) (node : Node) → find nodes k ≡ Some node → is_below nodes top k.number ≡ false → is_open (h ++ e ∷ []) k.number ≡ true
      alive k node f apart =
          opens k.number ∙ and_from _ _ (r.each k node f).alive (not_from_false _ (sym (below_is_within base h nodes chain r sound k node f top) ∙ apart))

      every : (n : ℕ) → is_open (h ++ e ∷ []) n ≡ true → HasKey new n
      every n open_now =
          let parts = and_parts _ _ (sym (opens n) ∙ open_now) in
          let has = r.every n parts.0 in
          let apart : is_below nodes top has.key.number ≡ false =
          below_is_within base h nodes chain r sound has.key has.value has.found top ∙
          ap (λ m. list_any (λ a. top == a) (ancestors h m)) has.numbered ∙
          not-true _ parts.1 in
          record {
            key = has.key;
            value = has.value;
            found = cuts has.key ∙ ap (λ b. cond b None (find nodes has.key)) apart ∙ has.found;
            numbered = has.numbered;
          }
