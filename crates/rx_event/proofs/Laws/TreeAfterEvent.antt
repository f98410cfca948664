-- Two lists of events whose open nodes and hubs are the same but for their numbers: an event takes away the same from both, and leaves them the same.
use Rattle.rx_event.proofs.Laws.Common.{◌≡◌, ℕ, zero, suc, ◌<◌, true, false, List, [], ◌∷◌, ◌++◌, length, Option, Some, nat_lt, slice_get, refl, sym}
use Rattle.rx_event.proofs.Laws.Common.{ap, subst, ◌∙◌, inl, inr, ◌⊎◌, arith, length-append, not, ◌&&◌, list_any, option_map_or, false≢true, both_ways}
use Rattle.rx_event.proofs.Laws.Common.{cases_order, and_parts, and_from, eq-eqb, eqb-true, false_from_ne_true, or_cases, lt-ltb, slice_get_within, same_Some}
use Rattle.rx_event.proofs.Laws.Common.{Root, Source, Inner, Notifier, Mode, Event, Open, Hub, End, Close, makes_node, parent_named, is_switch, is_inner_of}
use Rattle.rx_event.proofs.Laws.Common.{at, parent, is_open, shuts, event_by, is_named, or_right, ltb-true, not-true as not_false}
use Rattle.rx_event.proofs.Laws.Places.{slice_get-append, slice_get_last}
use Rattle.rx_event.proofs.Laws.Parents.{parent-lt, ancestors_step}
use Rattle.rx_event.proofs.Laws.Openness.{is_open_within, is_open_cut, is_cut, self_cut, parent_open, open_old}
use Rattle.rx_event.proofs.Laws.Stands.{open_node}
use Rattle.rx_event.proofs.Laws.Totals.{is_open_named}
use Rattle.rx_event.proofs.Laws.TreeRead.{IsTreeRead, AreTreesRead, StandsBelow, trees_back, same_at, test_there, parent_there, switch_by, inner_by, makes_by}
use Rattle.rx_event.proofs.Laws.TreeRead.{node_named, event_by_itself}
use Rattle.std.proofs.Common.{rules}

-- what an event takes away ------------------------------------------------------------------------------------------------

-- what an event cuts, it shuts, or it cuts its parent
cut_cases : (h : List Event) (e : Event) (n : ℕ) → is_cut h e n ≡ true → (shuts h n e ≡ true) ⊎ ((p : ℕ) × (parent h n ≡ Some p) × (is_cut h e p ≡ true))
cut_cases h e n cuts = search (rules, or_cases, list_any, option_map_or, ancestors_step, false≢true)

cut_above : (h : List Event) (e : Event) (n p : ℕ) → parent h n ≡ Some p → is_cut h e p ≡ true → is_cut h e n ≡ true
cut_above h e n p below cuts = search (rules, list_any, ancestors_step, or_right)

-- the event names an open node as parent, or none
abbrev pub NamesOpen : List Event → Event → Type 0
NamesOpen h e = (m : ℕ) → parent_named e ≡ Some m → is_open h m ≡ true

shuts_by : {r s : ℕ → ℕ} {p q : List Event} → AreTreesRead r s p q → (e : Event) → NamesOpen p e → (n : ℕ) → is_open p n ≡ true →
    shuts p n e ≡ true → shuts q (r n) (event_by r e) ≡ true
shuts_by {r} a (End m t) names n o here = eq-eqb (r m) (r n) (ap r (eqb-true m n here))
shuts_by {r} a (Close m) names n o here = eq-eqb (r m) (r n) (ap r (eqb-true m n here))
shuts_by {r} {s} {p} {q} a (Open (Inner f) kind) names n o here =
    let both = and_parts (nat_lt f n && at is_switch p f) (at (is_inner_of f) p n) here in
    let first = and_parts (nat_lt f n) (at is_switch p f) both.0 in
    let up : is_open p f ≡ true = names f refl in
    and_from _ _
    (and_from _ _ (lt-ltb (r f) (r n) (a.there.order f n up o (ltb-true f n first.0))) (same_at r s p q a is_switch (switch_by r) f up ∙ first.1))
    (test_there r s p q a (is_inner_of f) (is_inner_of (r f)) (inner_by r f) n o both.1)
shuts_by a (Open Root kind) names n o here = absurd (false≢true here)
shuts_by a (Open (Source p) kind) names n o here = absurd (false≢true here)
shuts_by a (Open (Notifier p) kind) names n o here = absurd (false≢true here)
shuts_by a _ names n o here = absurd (false≢true here)

cut_by : {r s : ℕ → ℕ} {p q : List Event} → AreTreesRead r s p q → (e : Event) → NamesOpen p e → (steps n : ℕ) → n < steps → is_open p n ≡ true →
    is_cut p e n ≡ true → is_cut q (event_by r e) (r n) ≡ true
cut_by a e names zero n l o cuts = absurd (omega arith)
cut_by {r} {s} {p} {q} a e names (suc steps) n l o cuts =
    by_case (cut_cases p e n cuts) (λ k less up above. cut_by a e names steps k (let j = l in let i = less in omega arith) up above)
  where
    by_case : (shuts p n e ≡ true) ⊎ ((k : ℕ) × (parent p n ≡ Some k) × (is_cut p e k ≡ true)) →
        ((k : ℕ) → k < n → is_open p k ≡ true → is_cut p e k ≡ true → is_cut q (event_by r e) (r k) ≡ true) → is_cut q (event_by r e) (r n) ≡ true
    by_case (inl here) rest = self_cut q (event_by r e) (r n) (shuts_by a e names n o here)
    by_case (inr (k, below, above)) rest =
        cut_above q (event_by r e) (r n) (r k) (parent_there r s p q a n k o below) (rest k (parent-lt p n k below) (parent_open p n k o below) above)

-- one more event ----------------------------------------------------------------------------------------------------------

-- what renumberings have to do with one event more: nothing to older numbers, and to the new one, where it is named, they give each other
pub record GoesOn (r s i j : ℕ → ℕ) (p q : List Event) (e : Event) : Type 0 where
  pub same : event_by s (event_by r e) ≡ e
  pub older : (k : ℕ) → k < length p → i k ≡ r k
  pub older_back : (k : ℕ) → k < length q → j k ≡ s k
  pub newest : is_named e ≡ true → (i (length p) ≡ length q) × (j (length q) ≡ length p)
  -- what is open, and the event, name older numbers
  pub names : NamesOpen p e
  pub names_there : NamesOpen q (event_by r e)
  pub near : makes_node e ≡ true → event_by i e ≡ event_by r e
  pub all_near : (n : ℕ) (x : Event) → slice_get p n ≡ Some x → makes_node x ≡ true → event_by i x ≡ event_by r x

module _ (r s i j : ℕ → ℕ) (p q : List Event) (e : Event) (a : AreTreesRead r s p q) (g : GoesOn r s i j p q e) where
  abbrev H : List Event
  H = p ++ e ∷ []

  abbrev C : List Event
  C = q ++ event_by r e ∷ []

  -- where an open node stands: it is the new one, or an older one
  pub data WhereOpen (m : ℕ) : Type 0 where
    is_new : m ≡ length p → makes_node e ≡ true → i m ≡ length q → j (length q) ≡ length p → WhereOpen m
    is_old : m < length p → is_open p m ≡ true → i m ≡ r m → r m < length q → WhereOpen m

  pub where_open : (m : ℕ) → is_open (p ++ e ∷ []) m ≡ true → WhereOpen m
  where_open m o = by_place (cases_order m (length p)) where
    by_place : (m ≡ length p) ⊎ ((m < length p) ⊎ (length p < m)) → WhereOpen m
    by_place (inl last) = search (rules, is_open_named, node_named)
    by_place (inr (inl l)) = let was = open_old p e m l o in is_old l was (g.older m l) (is_open_within q (r m) (a.there.alive m was))
    by_place (inr (inr past)) = absurd (let w = is_open_within H m o in omega (arith, length-append p (e ∷ [])))

  alive_on : (m : ℕ) → is_open (p ++ e ∷ []) m ≡ true → is_open (q ++ event_by r e ∷ []) (i m) ≡ true
  alive_on m o = by_where (where_open m o) where
    by_where : WhereOpen m → is_open C (i m) ≡ true
    by_where (is_new last node new back) = ap (is_open C) new ∙ is_open_named q (event_by r e) g.names_there ∙ makes_by r e ∙ node
    by_where (is_old l was number near) =
        let uncut : not (is_cut p e m) ≡ true = (and_parts (is_open p m) (not (is_cut p e m)) (sym (is_open_cut p e m l) ∙ o)).1 in
        ap (is_open C) number ∙ is_open_cut q (event_by r e) (r m) near ∙ and_from _ _ (a.there.alive m was)
        (ap not (false_from_ne_true (is_cut q (event_by r e) (r m)) (λ cuts.
        let back : is_cut p (event_by s (event_by r e)) (s (r m)) ≡ true =
        cut_by (trees_back a) (event_by r e) g.names_there (suc (r m)) (r m) (omega arith) (a.there.alive m was) cuts in
        both_ways (is_cut p e m) (not_false (is_cut p e m) uncut) ((λ x. is_cut p (sym g.same x) (sym (a.there.undone m was) x)) ∙ back))))

  undone_on : (m : ℕ) → is_open (p ++ e ∷ []) m ≡ true → j (i m) ≡ m
  undone_on m o = by_where (where_open m o) where
    by_where : WhereOpen m → j (i m) ≡ m
    by_where (is_new last node new back) = ap j new ∙ back ∙ sym last
    by_where (is_old l was number near) = ap j number ∙ g.older_back (r m) near ∙ a.there.undone m was

  order_on : (m n : ℕ) → is_open (p ++ e ∷ []) m ≡ true → is_open (p ++ e ∷ []) n ≡ true → m < n → i m < i n
  order_on m n o also l = by_where (where_open m o) (where_open n also) where
    by_where : WhereOpen m → WhereOpen n → i m < i n
    by_where (is_new last node new back) (is_new too be one two) = absurd (omega arith)
    by_where (is_new last node new back) (is_old k was number near) = absurd (omega arith)
    by_where (is_old k was number near) (is_new last node new back) = rw (number, new) near
    by_where (is_old k was number near) (is_old h were others nearer) = rw (number, others) (a.there.order m n was were l)

  made_on : (m : ℕ) (y : Event) → is_open (p ++ e ∷ []) m ≡ true → slice_get (p ++ e ∷ []) m ≡ Some y →
      slice_get (q ++ event_by r e ∷ []) (i m) ≡ Some (event_by i y)
  made_on m y o at_m = by_where (where_open m o) where
    by_where : WhereOpen m → slice_get C (i m) ≡ Some (event_by i y)
    by_where (is_new last node new back) = search (rules, same_Some, slice_get_last)
    by_where (is_old l was number near) =
        let old : slice_get p m ≡ Some y = sym (slice_get-append p (e ∷ []) m l) ∙ at_m in
        let node : makes_node y ≡ true = sym (ap (λ (x : Option Event). option_map_or makes_node x false) old) ∙ open_node p m was in
        ap (slice_get C) number ∙ slice_get-append q (event_by r e ∷ []) (r m) near ∙ a.there.made m y was old ∙
        ap (λ (z : Event). Some z) (sym (g.all_near m y old node))

  hub_on : (k : ℕ) (mode : Mode) → slice_get (p ++ e ∷ []) k ≡ Some (Hub mode) → (slice_get (q ++ event_by r e ∷ []) (i k) ≡ Some (Hub mode)) × (j (i k) ≡ k)
  hub_on k mode at_k = by_place (cases_order k (length p)) where
    by_place : (k ≡ length p) ⊎ ((k < length p) ⊎ (length p < k)) → (slice_get C (i k) ≡ Some (Hub mode)) × (j (i k) ≡ k)
    by_place (inl last) = search (rules, same_Some, slice_get_last)
    by_place (inr (inl l)) =
        let old : slice_get p k ≡ Some (Hub mode) = sym (slice_get-append p (e ∷ []) k l) ∙ at_k in
        let was : slice_get q (r k) ≡ Some (Hub mode) = a.there.hub k mode old in
        let near : r k < length q = slice_get_within q (r k) _ was in (
          ap (slice_get C) (g.older k l) ∙ slice_get-append q (event_by r e ∷ []) (r k) near ∙ was,
          ap j (g.older k l) ∙ g.older_back (r k) near ∙ a.there.hub_undone k mode old,
        )
    by_place (inr (inr past)) = absurd (let w = slice_get_within H k (Hub mode) at_k in omega (arith, length-append p (e ∷ [])))

  pub tree_on : IsTreeRead i j (p ++ e ∷ []) (q ++ event_by r e ∷ [])
  tree_on = record {
    alive = alive_on;
    undone = undone_on;
    order = order_on;
    made = made_on;
    hub = λ k mode at_k. (hub_on k mode at_k).0;
    hub_undone = λ k mode at_k. (hub_on k mode at_k).1;
  }

  -- and the older nodes stand below older ones
  pub below_on : StandsBelow (p ++ e ∷ [])
  below_on n m x o at_n named = by_where (where_open n o) where
    by_where : WhereOpen n → m < n
    by_where (is_new last node new back) =
        let is : e ≡ x = same_Some e x (sym (slice_get_last p e) ∙ ap (slice_get H) (sym last) ∙ at_n) in
        let l : m < length p = is_open_within p m (g.names m (ap parent_named is ∙ named)) in omega arith
    by_where (is_old l was number near) = a.below n m x was (sym (slice_get-append p (e ∷ []) n l) ∙ at_n) named

-- with the same numbers
pub id_goes_on : (p q : List Event) (e : Event) → length p ≡ length q → NamesOpen p e → NamesOpen q e → GoesOn (λ n. n) (λ n. n) (λ n. n) (λ n. n) p q e
id_goes_on p q e long names names_there = record {
  same = ap (event_by (λ n. n)) (event_by_itself e) ∙ event_by_itself e;
  older = λ k l. refl;
  older_back = λ k l. refl;
  newest = λ named. (long, sym long);
  names = names;
  names_there = subst (λ (x : Event). NamesOpen q x) (sym (event_by_itself e)) names_there;
  near = λ made. refl;
  all_near = λ n x at_n made. refl;
}
