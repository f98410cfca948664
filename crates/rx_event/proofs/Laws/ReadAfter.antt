-- Two histories that are the same but for their numbers stay so when each goes on by one event, whatever it is.
use Rattle.rx_event.proofs.Laws.Common.{◌≡◌, ℕ, ◌+◌, ◌<◌, true, List, [], ◌∷◌, ◌++◌, length, Some, None, cond, slice_get, map, refl, sym, ap, subst, ◌∙◌, inl}
use Rattle.rx_event.proofs.Laws.Common.{inr, ◌⊎◌, ◌==◌, arith, ◌&&◌, ◌||◌, list_any, AllByRecursion, count_by, option_or, false≢true, both_ways, eq-eqb}
use Rattle.rx_event.proofs.Laws.Common.{eqb-true, sum_by-cons, slice_get_within, Terminal, Completed, Kept, Inner, Event, Open, Connect}
use Rattle.rx_event.proofs.Laws.Common.{Decline, End, makes_node, is_merging, is_source_of, is_subscriber_of, pays, at, is_open, Stop, Delivery}
use Rattle.rx_event.proofs.Laws.Common.{Projection, Firing, source_opened, is_projection_to, is_firing_of, stops_of, is_fired, owed, SourceEnded}
use Rattle.rx_event.proofs.Laws.Common.{marks_of, completes_source, source_completed, passes_on, child_terminal, MayFollow, IsLawful, StopsAtOpen, event_by}
use Rattle.rx_event.proofs.Laws.Common.{is_named, AreRead, is_notifier_of, notifier_opened, ends_by, IsRead}
use Rattle.std.specs.Cmp.{both_ways as same_test}
use Rattle.rx_event.proofs.Laws.Places.{slice_get-append, slice_get_last, at-append, cases_push}
use Rattle.rx_event.proofs.Laws.Openness.{is_open_within}
use Rattle.rx_event.proofs.Laws.Lawful.{IsLawful-push, may_end, ended_after}
use Rattle.rx_event.proofs.Laws.Steps.{may_name, may_emit, may_decline}
use Rattle.rx_event.proofs.Laws.Waits.{source_ended-push}
use Rattle.rx_event.proofs.Laws.Projections.{stops_open, owed-push}
use Rattle.rx_event.proofs.Laws.MarksAfter.{same_marks, source_opened-push, notifier_opened-push, is_fired-push, source_completed-push, child_terminal-push}
use Rattle.rx_event.proofs.Laws.MarksNew.{marks-new}
use Rattle.rx_event.proofs.Laws.TreeRead.{IsTreeRead, AreTreesRead, trees_back, number_by, child_by, same_at, test_there, merging_by, subscriber_by, stop_by}
use Rattle.rx_event.proofs.Laws.TreeRead.{stops_by, children_by}
use Rattle.rx_event.proofs.Laws.TreeAfterEvent.{GoesOn, WhereOpen, is_new, is_old, where_open, tree_on, below_on}
use Rattle.rx_event.proofs.Laws.ReadMade.{event_by_below, names_below}
use Rattle.rx_event.proofs.Laws.ReadDue.{trees_of, read_back}
use Rattle.std.proofs.Common.{rules}

-- what an event does at an open node it does there ----------------------------------------------------------------

source_by : (r : ℕ → ℕ) (f k : ℕ) → r f ≡ k → (e : Event) → is_source_of f e ≡ true → is_source_of k (event_by r e) ≡ true
source_by r f k leads x4 holds = search (rules, eq-eqb, eqb-true, false≢true)

module _ (b d : Kept) (r s : ℕ → ℕ) (h c : List Event) (a : AreRead b d r s h c) (m : ℕ) (o : is_open h m ≡ true) where
  is_number : (n : ℕ) → is_open h n ≡ true → (r n == r m) ≡ (n == m)
  is_number n also = number_by r s h c (trees_of a) n m also o

  source_same : (e : Event) → MayFollow b h e → is_source_of (r m) (event_by r e) ≡ is_source_of m e
  source_same x0 next = search (rules, is_number, may_name)

  notifier_same : (e : Event) → MayFollow b h e → is_notifier_of (r m) (event_by r e) ≡ is_notifier_of m e
  notifier_same x0 next = search (rules, is_number, may_name)

  pays_same : (e : Event) → MayFollow b h e → pays (r m) (event_by r e) ≡ pays m e
  pays_same (Open (Inner p) kind) next = is_number p (may_name b next refl)
  pays_same (Decline f) next = is_number f (may_decline b next).0
  pays_same _ next = refl

  ends_same : (e : Event) → MayFollow b h e → ends_by c (r m) (event_by r e) ≡ ends_by h m e
  ends_same (End n t) next = λ i. cond (child_by r s h c (trees_of a) m n o (may_end b next) i && passes_on
      (same_at r s h c (trees_of a) is_merging (merging_by r) m o i) t) (Some t) None
  ends_same _ next = refl

  completes_same : (e : Event) → MayFollow b h e → completes_source c (r m) (event_by r e) ≡ completes_source h m e
  completes_same (End n Completed) next = same_test (at (is_source_of (r m)) c (r n)) (at (is_source_of m) h n)
      (λ there. ap (at (is_source_of m) h) (sym (a.there.undone n (may_end b next))) ∙
      test_there s r c h (trees_back (trees_of a)) (is_source_of (r m)) (is_source_of m) (source_by s (r m) m (a.there.undone m o)) (r n)
      (a.there.alive n (may_end b next)) there)
      (test_there r s h c (trees_of a) (is_source_of m) (is_source_of (r m)) (source_by r m (r m) refl) n (may_end b next))
  completes_same _ next = refl

  firing_same : (ss : List Stop) → AllByRecursion (StopsAtOpen h) ss → list_any (is_firing_of (r m)) (map (stop_by r) ss) ≡ list_any (is_firing_of m) ss
  firing_same [] all = refl
  firing_same (Delivery n ∷ ss) all = firing_same ss all.1
  firing_same (Projection f ∷ ss) all = firing_same ss all.1
  firing_same (Firing u ∷ ss) all = λ i. is_number u all.0.0 i || firing_same ss all.1 i

  projection_same : (ss : List Stop) → AllByRecursion (StopsAtOpen h) ss →
      count_by (is_projection_to (r m)) (map (stop_by r) ss) ≡ count_by (is_projection_to m) ss
  projection_same [] all = refl
  projection_same (t ∷ ss) all = sum_by-cons (λ (x : Stop). cond (is_projection_to (r m) x) 1 0) (stop_by r t) (map (stop_by r) ss) ∙
      (λ i. cond (one t all.0 i) 1 0 + projection_same ss all.1 i) ∙ sym (sum_by-cons (λ (x : Stop). cond (is_projection_to m x) 1 0) t ss)
    where
      one : (t : Stop) → StopsAtOpen h t → is_projection_to (r m) (stop_by r t) ≡ is_projection_to m t
      one (Projection f) stands = is_number f stands.0
      one _ stands = refl

  fires_same : (e : Event) → MayFollow b h e → list_any (is_firing_of (r m)) (stops_of c (event_by r e)) ≡ list_any (is_firing_of m) (stops_of h e)
  fires_same x0 next = search (rules, list_any, stops_by, trees_of, may_emit, firing_same, stops_open)

  projects_same : (e : Event) → MayFollow b h e → count_by (is_projection_to (r m)) (stops_of c (event_by r e)) ≡ count_by (is_projection_to m) (stops_of h e)
  projects_same x0 next = search (rules, count_by, stops_by, trees_of, may_emit, projection_same, stops_open)

-- an end that stands in the older history ended the source there
source_older : {base : Kept} → (h : List Event) (e : Event) → IsLawful base h → (m : ℕ) (u : Terminal) → m < length h → (x : SourceEnded (h ++ e ∷ []) m u) →
    slice_get h x.place ≡ Some (End x.connection u) → SourceEnded h m u
source_older {base} h e law m u l x found =
    let before : x.connection < x.place = ended_after base h law x.place x.connection u found in
    let within : x.place < length h = slice_get_within h x.place _ found in
    record {
      hub = x.hub;
      connection = x.connection;
      place = x.place;
      subscribes = sym (at-append (is_subscriber_of x.hub) h (e ∷ []) m l) ∙ x.subscribes;
      connects = sym (slice_get-append h (e ∷ []) x.connection (omega arith)) ∙ x.connects;
      later = x.later;
      ended = found;
    }

-- one more event ----------------------------------------------------------------------------------------------------

-- which sources have ended, where the law holds here and the event ends an open node
pub ended_on : {base : Kept} {r s q t : ℕ → ℕ} {h c : List Event} {e : Event} → IsLawful base h → (a : AreTreesRead r s h c) → GoesOn r s q t h c e →
    ((n : ℕ) (u : Terminal) → e ≡ End n u → is_open h n ≡ true) → ((m : ℕ) (u : Terminal) → is_open h m ≡ true → SourceEnded h m u → SourceEnded c (r m) u) →
    (m : ℕ) (u : Terminal) → is_open (h ++ e ∷ []) m ≡ true → SourceEnded (h ++ e ∷ []) m u → SourceEnded (c ++ event_by r e ∷ []) (q m) u
ended_on {base} {r} {s} {q} {t} {h} {c} {e} law a goes ends ended m u o x =
    by_where (where_open r s q t h c e a goes m o) (cases_push h e (End x.connection u) x.place x.ended)
  where
    now : (n : ℕ) → n ≡ x.connection → e ≡ End n u → is_open h n ≡ true → m < length h → is_open h m ≡ true → r m < length c →
        SourceEnded (c ++ event_by r e ∷ []) (r m) u
    now n at_n is alive l was near = record {
      hub = r x.hub;
      connection = r n;
      place = length c;
      subscribes = at-append (is_subscriber_of (r x.hub)) c (event_by r e ∷ []) (r m) near ∙
          test_there r s h c a (is_subscriber_of x.hub) (is_subscriber_of (r x.hub)) (subscriber_by r x.hub (r x.hub) refl) m was
          (sym (at-append (is_subscriber_of x.hub) h (e ∷ []) m l) ∙ x.subscribes);
      connects = slice_get-append c (event_by r e ∷ []) (r n) (is_open_within c (r n) (a.there.alive n alive)) ∙ a.there.made n (Connect x.hub) alive
          (sym (slice_get-append h (e ∷ []) n (is_open_within h n alive)) ∙ ap (slice_get (h ++ e ∷ [])) at_n ∙ x.connects);
      later = near;
      ended = slice_get_last c (event_by r e) ∙ ap (λ (z : Event). Some (event_by r z)) is;
    }

    by_where : WhereOpen r s q t h c e a goes m → (slice_get h x.place ≡ Some (End x.connection u)) ⊎ (e ≡ End x.connection u) →
        SourceEnded (c ++ event_by r e ∷ []) (q m) u
    by_where (is_new last node new back) (inl found) = absurd (let w = slice_get_within h x.place _ found in let l = x.later in omega arith)
    by_where (is_new last node new back) (inr is) = absurd (both_ways (makes_node e) (ap makes_node is) node)
    by_where (is_old l was number near) (inl found) = subst (λ (n : ℕ). SourceEnded (c ++ event_by r e ∷ []) n u) (sym number)
        (source_ended-push base c (event_by r e) (r m) u (ended m u was (source_older h e law m u l x found)))
    by_where (is_old l was number near) (inr is) =
        subst (λ (n : ℕ). SourceEnded (c ++ event_by r e ∷ []) n u) (sym number) (now x.connection refl is (ends x.connection u is) l was near)

module _ (b d : Kept) (r s q t : ℕ → ℕ) (h c : List Event) (e : Event) (a : AreRead b d r s h c) (next : MayFollow b h e)
    (other : MayFollow d c (event_by r e)) (goes : GoesOn r s q t h c e) where
  abbrev H : List Event
  H = h ++ e ∷ []

  abbrev C : List Event
  C = c ++ event_by r e ∷ []

  -- what it remembers
  marks_on : AreTreesRead q t H C → (m : ℕ) → is_open H m ≡ true → marks_of d C (q m) ≡ marks_of b H m
  marks_on trees m o = by_where (where_open r s q t h c e (trees_of a) goes m o) where
    by_where : WhereOpen r s q t h c e (trees_of a) goes m → marks_of d C (q m) ≡ marks_of b H m
    by_where (is_new last node new back) =
        ap (marks_of d C) new ∙ marks-new d c (event_by r e) a.other_law other ∙ sym (marks-new b h e a.law next) ∙ ap (marks_of b H) (sym last)
    by_where (is_old l was number near) =
        let marks = a.there.marks m was in
        let one = owed-push b h e a.law next m in
        let two = owed-push d c (event_by r e) a.other_law other (r m) in
        let owes : owed d c (r m) ≡ owed b h m = (λ i. (marks i).owed) in
        let projects = projects_same b d r s h c a m was e next in
        let paid : cond {A = ℕ} (pays (r m) (event_by r e)) 1 0 ≡ cond (pays m e) 1 0 = ap (λ x. cond {A = ℕ} x 1 0) (pays_same b d r s h c a m was e next) in
        same_marks b (ap (source_opened d C) number ∙ source_opened-push d c (event_by r e) (r m) ∙
        (λ i. (marks i).source_opened || source_same b d r s h c a m was e next i) ∙ sym (source_opened-push b h e m))
        (ap (notifier_opened d C) number ∙ notifier_opened-push d c (event_by r e) (r m) ∙
        (λ i. (marks i).notifier_opened || notifier_same b d r s h c a m was e next i) ∙ sym (notifier_opened-push b h e m))
        (ap (is_fired C) number ∙ is_fired-push c (event_by r e) (r m) ∙
        (λ i. (marks i).fired || fires_same b d r s h c a m was e next i) ∙ sym (is_fired-push h e m))
        (ap (source_completed d C) number ∙ source_completed-push d c (event_by r e) a.other_law other (r m) ∙
        (λ i. (marks i).source_completed || completes_same b d r s h c a m was e next i) ∙ sym (source_completed-push b h e a.law next m))
        (ap (child_terminal C) number ∙ child_terminal-push d c (event_by r e) a.other_law other (r m) near ∙
        (λ i. option_or (marks i).child_terminal (ends_same b d r s h c a m was e next i)) ∙ sym (child_terminal-push b h e a.law next m l))
        (ap (owed d C) number ∙ (omega arith)) (children_by q t H C trees m o)

  read_on : AreTreesRead q t H C → IsRead b d q t H C
  read_on trees = record {
    alive = trees.there.alive;
    undone = trees.there.undone;
    order = trees.there.order;
    made = trees.there.made;
    marks = marks_on trees;
    hub = trees.there.hub;
    hub_undone = trees.there.hub_undone;
    ended = ended_on a.law (trees_of a) goes (λ n u is. may_end b (subst (λ (y : Event). MayFollow b h y) is next)) a.there.ended;
  }

-- both ways
pub trees_on : {r s q t : ℕ → ℕ} {h c : List Event} {e : Event} → AreTreesRead r s h c → GoesOn r s q t h c e → GoesOn s r t q c h (event_by r e) →
    AreTreesRead q t (h ++ e ∷ []) (c ++ event_by r e ∷ [])
trees_on {r} {s} {q} {t} {h} {c} {e} a goes back = record {
  there = tree_on r s q t h c e a goes;
  back = subst (λ (y : Event). IsTreeRead t q (c ++ event_by r e ∷ []) (h ++ y ∷ [])) goes.same (tree_on s r t q c h (event_by r e) (trees_back a) back);
  below = below_on r s q t h c e a goes;
}

pub read_after : {b d : Kept} {r s q t : ℕ → ℕ} {h c : List Event} {e : Event} → AreRead b d r s h c → MayFollow b h e → MayFollow d c (event_by r e) →
    GoesOn r s q t h c e → GoesOn s r t q c h (event_by r e) → AreRead b d q t (h ++ e ∷ []) (c ++ event_by r e ∷ [])
read_after {b} {d} {r} {s} {q} {t} {h} {c} {e} a next other goes back = record {
  law = IsLawful-push b h e a.law next;
  other_law = IsLawful-push d c (event_by r e) a.other_law other;
  there = read_on b d r s q t h c e a next other goes trees;
  back = subst (λ (y : Event). IsRead d b t q (c ++ event_by r e ∷ []) (h ++ y ∷ [])) goes.same
      (read_on d b s r t q c h (event_by r e) (read_back a) other (subst (λ (y : Event). MayFollow b h y) (sym goes.same) next) back
      (subst (λ (y : Event). AreTreesRead t q (c ++ event_by r e ∷ []) (h ++ y ∷ [])) (sym goes.same) (trees_back trees)));
} where
  trees : AreTreesRead q t (h ++ e ∷ []) (c ++ event_by r e ∷ [])
  trees = trees_on (trees_of a) goes back

-- as it is of numbers that name what was made before
goes_on : {b d : Kept} {r s q t : ℕ → ℕ} {h c : List Event} {e : Event} → AreRead b d r s h c → MayFollow b h e → MayFollow d c (event_by r e) →
    event_by s (event_by r e) ≡ e → ((k : ℕ) → k < length h → q k ≡ r k) → ((k : ℕ) → k < length c → t k ≡ s k) →
    (is_named e ≡ true → (q (length h) ≡ length c) × (t (length c) ≡ length h)) → GoesOn r s q t h c e
goes_on {b} {d} {r} {s} {q} {t} {h} {c} {e} a next other same older older_back newest = record {
  same = same;
  older = older;
  older_back = older_back;
  newest = newest;
  names = λ m named. may_name b next named;
  names_there = λ m named. may_name d other named;
  near = λ made. event_by_below b r q h e older next made;
  all_near = λ n x at_n made. names_below r q n x a.law older at_n made;
}

pub renumbered_on : {b d : Kept} {r s q t : ℕ → ℕ} {h c : List Event} {e : Event} → AreRead b d r s h c → MayFollow b h e →
    MayFollow d c (event_by r e) → event_by s (event_by r e) ≡ e → ((k : ℕ) → k < length h → q k ≡ r k) → ((k : ℕ) → k < length c → t k ≡ s k) →
    (is_named e ≡ true → (q (length h) ≡ length c) × (t (length c) ≡ length h)) →
    (is_named (event_by r e) ≡ true → (t (length c) ≡ length h) × (q (length h) ≡ length c)) → AreRead b d q t (h ++ e ∷ []) (c ++ event_by r e ∷ [])
renumbered_on {b} {d} {r} {s} {q} {t} {h} {c} {e} a next other same older older_back newest newest_back =
    read_after a next other (goes_on a next other same older older_back newest)
    (goes_on (read_back a) other (subst (λ (y : Event). MayFollow b h y) (sym same) next) (ap (event_by r) same) older_back older newest_back)
