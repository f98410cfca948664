-- Histories that are the same but for their numbers stay so through each event that may come next in both, and through whole courses
-- of what is forced, in whatever order it comes in each.
use Rattle.rx_event.proofs.Laws.Common.{◌≡◌, ℕ, ◌+◌, ◌-◌, ◌<◌, ◌≤◌, Bool, true, false, List, [], ◌∷◌, ◌++◌, length, Option, Some, slice_get, refl, sym, ap}
use Rattle.rx_event.proofs.Laws.Common.{subst, ◌∙◌, inl, inr, ◌⊎◌, arith, length-append, append_assoc, append-nil, option_map_or, false≢true, cases_lt}
use Rattle.rx_event.proofs.Laws.Common.{Terminal, Kept, shown, Event, Open, Hub, Connect, Accept, Use, Remove, Lease, Return, Item, Decline, End, Close, Take}
use Rattle.rx_event.proofs.Laws.Common.{makes_node, makes_resource, makes_lease, at, is_open, cut, due, SourceEnded, IsSettled, forced, stays, more}
use Rattle.rx_event.proofs.Laws.Common.{MayFollow, IsLawful, IsForcedOn, Started, event_by, is_named, IsRead, AreRenumbered, AreSameBy}
use Rattle.rx_event.specs.Renumbered.{IsShown, AreSame, AreSameSince}
use Rattle.rx_event.specs.Claims.Determined.{is_closing, AreAlike}
use Rattle.rx_event.proofs.Laws.Places.{slice_get_last, at-append, at_within}
use Rattle.rx_event.proofs.Laws.Lawful.{may_end, IsLawful_empty}
use Rattle.rx_event.proofs.Laws.Steps.{may_name, may_accept, may_close, may_emit, may_decline, may_use, may_remove, may_take, may_lease, may_return}
use Rattle.rx_event.proofs.Laws.Hubs.{may_connect_hub}
use Rattle.rx_event.proofs.Laws.Stands.{open_node}
use Rattle.rx_event.proofs.Laws.Resources.{held_resource, waiting_parts}
use Rattle.rx_event.proofs.Laws.Leases.{owned_resource, out_lease}
use Rattle.rx_event.proofs.Laws.Waits.{settled_connected}
use Rattle.rx_event.proofs.Laws.Alike.{courses_alike}
use Rattle.rx_event.proofs.Laws.ReadDue.{trees_of, renumbered_back, forced_read, settled_read}
use Rattle.rx_event.proofs.Laws.ReadAfter.{renumbered_on}
use Rattle.rx_event.proofs.Laws.ReadMade.{with_number, number_new, number_old, open_undone, may_hub}
use Rattle.rx_event.proofs.Laws.TreeRead.{hub_made, node_named, event_by_itself}
use Rattle.rx_event.proofs.Laws.ReadShown.{is_shown_on, made_at, resource_named, lease_named}

-- one event -----------------------------------------------------------------------------------------------------------------------

undone : (base : Kept) → {r s : ℕ → ℕ} {h c : List Event} → AreSameBy base r s h c → (e : Event) → MayFollow base h e → event_by s (event_by r e) ≡ e
undone base a (Open place kind) next = open_undone (trees_of a.numbers).there place kind (λ p named. may_name base next named) (may_hub base next)
undone base a (Hub mode) next = refl
undone base {h = h} a (Connect g) next = let hub = hub_made h g (may_connect_hub base next) in ap Connect (a.numbers.there.hub_undone g hub.0 hub.1)
undone base a (Accept n tag) next = ap (λ m. Accept m tag) (a.numbers.there.undone n (may_accept base next))
undone base {h = h} a (Use q) next = ap Use (a.shown.apart q (made_at makes_resource is_named resource_named h q (held_resource h q (may_use base next))))
undone base {h = h} a (Remove q) next = ap Remove (a.shown.apart q (made_at makes_resource is_named resource_named h q
    (owned_resource h q (may_remove base next))))
undone base {h = h} a (Lease q) next = ap Lease (a.shown.apart q (made_at makes_resource is_named resource_named h q
    (owned_resource h q (may_lease base next))))
undone base {h = h} a (Return l) next = ap Return (a.shown.apart l (made_at makes_lease is_named lease_named h l (out_lease h l (may_return base next))))
undone base {h = h} a (Take q) next = ap Take (a.shown.apart q (made_at makes_resource is_named resource_named h q (waiting_parts h q (may_take base next)).0))
undone base a (Item l v) next = ap (λ k. Item k v) (a.numbers.there.undone l (may_emit base next))
undone base a (Decline f) next = ap Decline (a.numbers.there.undone f (may_decline base next).0)
undone base a (End n t) next = ap (λ k. End k t) (a.numbers.there.undone n (may_end base next))
undone base a (Close n) next = ap Close (a.numbers.there.undone n (may_close base next))

module _ (base : Kept) (r s q t : ℕ → ℕ) (h c : List Event) (e : Event) (a : AreSameBy base r s h c) (next : MayFollow base h e)
    (other : MayFollow base c (event_by r e))
    (older : (k : ℕ) → k < length h → q k ≡ r k)
    (older_back : (k : ℕ) → k < length c → t k ≡ s k)
    (newest : is_named e ≡ true → (q (length h) ≡ length c) × (t (length c) ≡ length h))
    (newest_back : is_named (event_by r e) ≡ true → (t (length c) ≡ length h) × (q (length h) ≡ length c)) where
  same_on : AreSameBy base q t (h ++ e ∷ []) (c ++ event_by r e ∷ [])
  same_on =
      let is : event_by s (event_by r e) ≡ e = undone base a e next in
      let after : AreRenumbered base q t (h ++ e ∷ []) (c ++ event_by r e ∷ []) = renumbered_on a.numbers next other is older older_back newest newest_back in
      record {
        numbers = after;
        shown = is_shown_on base r s q t h c e a.numbers after a.shown next other older older_back newest;
        shown_back = subst (λ (x : Event). IsShown base t q (c ++ event_by r e ∷ []) (h ++ x ∷ [])) is
            (is_shown_on base s r t q c h (event_by r e) (renumbered_back base a.numbers)
            (subst (λ (x : Event). AreRenumbered base t q (c ++ event_by r e ∷ []) (h ++ x ∷ [])) (sym is) (renumbered_back base after)) a.shown_back other
            (subst (λ (x : Event). MayFollow base h x) (sym is) next) older_back older newest_back);
      }

-- what is named in the longer history, no nearer than its beginning, is the last event
named_last : (h : List Event) (e : Event) (i : ℕ) → at is_named (h ++ e ∷ []) (length h + i) ≡ true → (i ≡ 0) × (is_named e ≡ true)
named_last h e i named =
    let l : length h + i < length (h ++ e ∷ []) = at_within is_named (h ++ e ∷ []) (length h + i) named in
    let zero_is : i ≡ 0 = omega (arith, length-append h (e ∷ [])) in
    let place : length h + i ≡ length h = omega arith in
    (zero_is, sym (ap (λ (x : Option Event). option_map_or is_named x false) (ap (slice_get (h ++ e ∷ [])) place ∙ slice_get_last h e)) ∙ named)

-- what makes something
same_made : (base : Kept) → {r s : ℕ → ℕ} {h c : List Event} → AreSameBy base r s h c → (e : Event) → MayFollow base h e → MayFollow base c (event_by r e) →
    AreSameSince base r h c (h ++ e ∷ []) (c ++ event_by r e ∷ [])
same_made base {r = r} {s = s} {h = h} {c = c} a e next other = record {
  reads = with_number (length h) (length c) r;
  reads_back = with_number (length c) (length h) s;
  same = same_on base r s (with_number (length h) (length c) r) (with_number (length c) (length h) s) h c e a next other
      (number_old (length h) (length c) r) (number_old (length c) (length h) s)
      (λ named. (number_new (length h) (length c) r, number_new (length c) (length h) s))
      (λ named. (number_new (length c) (length h) s, number_new (length h) (length c) r));
  older = number_old (length h) (length c) r;
  newest = λ i named.
      let last = named_last h e i named in
      let place : length h + i ≡ length h = (let z = last.0 in omega arith) in
      let there : length c ≡ length c + i = (let z = last.0 in omega arith) in
      ap (with_number (length h) (length c) r) place ∙ number_new (length h) (length c) r ∙ there;
}

-- what makes nothing
same_kept : (base : Kept) → {r s : ℕ → ℕ} {h c : List Event} → AreSameBy base r s h c → (e : Event) → is_named e ≡ false → is_named (event_by r e) ≡ false →
    MayFollow base h e → MayFollow base c (event_by r e) → AreSameSince base r h c (h ++ e ∷ []) (c ++ event_by r e ∷ [])
same_kept base {r = r} {s = s} {h = h} {c = c} a e nameless also next other = record {
  reads = r;
  reads_back = s;
  same = same_on base r s r s h c e a next other (λ k l. refl) (λ k l. refl) (λ named. absurd (false≢true (sym nameless ∙ named)))
      (λ named. absurd (false≢true (sym also ∙ named)));
  older = λ n l. refl;
  newest = λ i named. absurd (false≢true (sym nameless ∙ (named_last h e i named).1));
}

-- An event that may come next in both leaves both the same
pub same_event_on : (base : Kept) → {r s : ℕ → ℕ} {h c : List Event} → AreSameBy base r s h c → (e : Event) → MayFollow base h e →
    MayFollow base c (event_by r e) → AreSameSince base r h c (h ++ e ∷ []) (c ++ event_by r e ∷ [])
same_event_on base {r = r} {s = s} {h = h} {c = c} a e next other = by_name (is_named e) refl where
  named_by : (x : Event) → is_named (event_by r x) ≡ is_named x
  named_by (Open place kind) = refl
  named_by _ = refl

  by_name : (b : Bool) → is_named e ≡ b → AreSameSince base r h c (h ++ e ∷ []) (c ++ event_by r e ∷ [])
  by_name true is = same_made base a e next other
  by_name false nameless = same_kept base a e nameless (named_by e ∙ nameless) next other

-- courses ---------------------------------------------------------------------------------------------------------------------------

-- c goes on to last as h does to k, event by event
pub record GoesAlike (base : Kept) (r : ℕ → ℕ) (h c k last : List Event) : Type 0 where
  pub added : List Event
  pub grown : k ≡ h ++ added
  pub in_step : length last + length h ≡ length k + length c
  pub since : AreSameSince base r h c k last

abbrev pub goes_nowhere : (base : Kept) → {r s : ℕ → ℕ} {h c : List Event} → AreSameBy base r s h c → GoesAlike base r h c h c
goes_nowhere base {r = r} {s = s} {h = h} {c = c} a = record {
  added = [];
  grown = sym (append-nil h);
  in_step = omega arith;
  since = record {
    reads = r;
    reads_back = s;
    same = a;
    older = λ n l. refl;
    newest = λ i named. absurd (let l = at_within is_named h (length h + i) named in omega arith);
  };
}

pub goes_one_on : (base : Kept) → {r : ℕ → ℕ} {h c k last : List Event} (g : GoesAlike base r h c k last) (e : Event) → MayFollow base k e →
    MayFollow base last (event_by g.since.reads e) → GoesAlike base r h c (k ++ e ∷ []) (last ++ event_by g.since.reads e ∷ [])
goes_one_on base {r = r} {h = h} {c = c} {k = k} {last = last} g e next other = record {
  added = g.added ++ e ∷ [];
  grown = ap (λ (q : List Event). q ++ e ∷ []) g.grown ∙ append_assoc h g.added (e ∷ []);
  in_step = let one = g.in_step in omega (arith, length-append {A = Event});
  since = record {
    reads = on.reads;
    reads_back = on.reads_back;
    same = on.same;
    older = λ n l. on.older n (let longer = long in omega arith) ∙ g.since.older n l;
    newest = newest;
  };
} where
  on : AreSameSince base g.since.reads k last (k ++ e ∷ []) (last ++ event_by g.since.reads e ∷ [])
  on = same_event_on base g.since.same e next other

  long : length h ≤ length k
  long = let same : length k ≡ length (h ++ g.added) = ap length g.grown in omega (arith, length-append h g.added)

  newest : (i : ℕ) → at is_named (k ++ e ∷ []) (length h + i) ≡ true → on.reads (length h + i) ≡ length c + i
  newest i named = by_place (cases_lt (length h + i) (length k)) where
    by_place : (length h + i < length k) ⊎ (length k ≤ length h + i) → on.reads (length h + i) ≡ length c + i
    by_place (inl l) = on.older (length h + i) l ∙ g.since.newest i (sym (at-append is_named k (e ∷ []) (length h + i) l) ∙ named)
    by_place (inr le) =
        let longer = long in
        let d : ℕ = (length h + i) - length k in
        let place : length k + d ≡ length h + i = omega arith in
        let there : length last + d ≡ length c + i = (let one = g.in_step in omega arith) in
        let is : at is_named (k ++ e ∷ []) (length k + d) ≡ true = ap (at is_named (k ++ e ∷ [])) place ∙ named in
        ap on.reads (sym place) ∙ on.newest d is ∙ there

record CourseRead (base : Kept) (r : ℕ → ℕ) (h c k d : List Event) : Type 0 where
  pub last : List Event
  pub course : IsForcedOn base d last
  pub goes : GoesAlike base r h c k last

-- a course of what is forced goes on alike
course_read : (base : Kept) → {b k : List Event} → IsForcedOn base b k → (r : ℕ → ℕ) (h c d : List Event) → GoesAlike base r h c b d → CourseRead base r h c k d
course_read base stays r h c d g = record { last = d; course = stays; goes = g }
course_read base (more {k = k} {e = e} on f) r h c d g = by_rest (course_read base on r h c d g) where
  by_rest : CourseRead base r h c k d → CourseRead base r h c (k ++ e ∷ []) d
  by_rest w = record {
    last = w.last ++ event_by w.goes.since.reads e ∷ [];
    course = more w.course (forced_read w.goes.since.same.numbers f);
    goes = goes_one_on base w.goes e (forced f) (forced (forced_read w.goes.since.same.numbers f));
  }

-- in a settled history no source of an open subscriber has ended
no_source_ended : (base : Kept) → (h : List Event) → IsSettled base h → (n : ℕ) (t : Terminal) → is_open h n ≡ true → SourceEnded h n t → ⊥
no_source_ended base h settled n t o x = settled.none (End n t) (due (settled_connected base h settled) (cut o x))

named_plain : (r : ℕ → ℕ) (e : Event) → is_named e ≡ true → is_closing (event_by r e) ≡ false
named_plain r e named = grind arith

made_event : (h : List Event) (n : ℕ) (e : Event) → is_open h n ≡ true → slice_get h n ≡ Some e → is_named e ≡ true
made_event h n e o at_n = node_named e (sym (ap (λ (x : Option Event). option_map_or makes_node x false) at_n) ∙ open_node h n o)

named_closing : (e : Event) → is_named e ≡ true → is_closing e ≡ false
named_closing e named = grind arith

-- what differs in the places of ends and closings alone may stand in the other's place
alike_read : (base : Kept) → {r s : ℕ → ℕ} {h k j : List Event} → IsRead base base r s h k → IsSettled base h → AreAlike base k j → IsRead base base r s h j
alike_read base {r = r} {h = h} there settled alike = record {
  alive = λ n o. sym (alike.same_open (r n)) ∙ there.alive n o;
  undone = there.undone;
  order = there.order;
  made = λ n e o at_n. alike.stands (r n) (event_by r e) (named_plain r e (made_event h n e o at_n)) (there.made n e o at_n);
  marks = λ n o. sym (alike.marks (r n) (there.alive n o)) ∙ there.marks n o;
  hub = λ g mode at_g. alike.stands (r g) _ refl (there.hub g mode at_g);
  hub_undone = there.hub_undone;
  ended = λ n t o x. absurd (no_source_ended base h settled n t o x);
}

read_alike : (base : Kept) → {r s : ℕ → ℕ} {h k j : List Event} → IsRead base base s r k h → IsSettled base j → AreAlike base j k → IsRead base base s r j h
read_alike base {r = r} {s = s} {h = h} {k = k} {j = j} back settled alike = record {
  alive = λ n o. back.alive n (open_there n o);
  undone = λ n o. back.undone n (open_there n o);
  order = λ m n o p l. back.order m n (open_there m o) (open_there n p) l;
  made = λ n e o at_n. back.made n e (open_there n o) (alike.stands n e (named_closing e (made_event j n e o at_n)) at_n);
  marks = λ n o. back.marks n (open_there n o) ∙ sym (alike.marks n o);
  hub = λ g mode at_g. back.hub g mode (alike.stands g _ refl at_g);
  hub_undone = λ g mode at_g. back.hub_undone g mode (alike.stands g _ refl at_g);
  ended = λ n t o x. absurd (no_source_ended base j settled n t o x);
} where
  open_there : (n : ℕ) → is_open j n ≡ true → is_open k n ≡ true
  open_there n o = sym (alike.same_open n) ∙ o

alike_shown : (base : Kept) → {r s : ℕ → ℕ} {h k j : List Event} → IsShown base r s h k → AreAlike base k j → IsShown base r s h j
alike_shown base {r = r} shown alike = record {
  kept = λ n e named at_n. alike.stands (r n) (event_by r e) (named_plain r e named) (shown.kept n e named at_n);
  apart = shown.apart;
  in_order = shown.in_order;
  told = λ n node. sym (alike.told (r n)) ∙ shown.told n node;
  owned = λ q made. sym (alike.same_owned (r q)) ∙ shown.owned q made;
  leases = λ q made. sym (alike.same_leases (r q)) ∙ shown.leases q made;
  held = λ q made. sym (alike.same_held (r q)) ∙ shown.held q made;
  out = λ l made. sym (alike.same_out (r l)) ∙ shown.out l made;
  taken = λ q made. sym (alike.same_taken (r q)) ∙ shown.taken q made;
  used = λ q made. sym (alike.used (r q)) ∙ shown.used q made;
  node_total = sym alike.nodes_total ∙ shown.node_total;
  accepted_total = sym alike.accepted ∙ shown.accepted_total;
  taken_total = sym alike.taken ∙ shown.taken_total;
}

-- a test that fails on ends and closings
at_alike : (base : Kept) → {j k : List Event} → AreAlike base j k → (q : Event → Bool) → ((e : Event) → q e ≡ true → is_closing e ≡ false) → (n : ℕ) →
    at q j n ≡ true → at q k n ≡ true
at_alike base {j = j} {k = k} alike q plain n holds = by_event (slice_get j n) refl holds where
  by_event : (o : Option Event) → slice_get j n ≡ o → option_map_or q o false ≡ true → at q k n ≡ true
  by_event (Some e) at_n is = ap (λ (x : Option Event). option_map_or q x false) (alike.stands n e (plain e is) at_n) ∙ is
  by_event _ at_n fails = absurd (false≢true fails)

node_plain : (e : Event) → makes_node e ≡ true → is_closing e ≡ false
node_plain e made = named_closing e (node_named e made)

resource_plain : (e : Event) → makes_resource e ≡ true → is_closing e ≡ false
resource_plain e made = named_closing e (resource_named e made)

lease_plain : (e : Event) → makes_lease e ≡ true → is_closing e ≡ false
lease_plain e made = named_closing e (lease_named e made)

shown_alike : (base : Kept) → {r s : ℕ → ℕ} {h k j : List Event} → IsShown base s r k h → AreAlike base j k → IsShown base s r j h
shown_alike base {r = r} {s = s} shown alike = record {
  kept = λ n e named at_n. shown.kept n e named (alike.stands n e (named_closing e named) at_n);
  apart = λ n named. shown.apart n (at_alike base alike is_named named_closing n named);
  in_order = λ m n named also l. shown.in_order m n (at_alike base alike is_named named_closing m named) (at_alike base alike is_named named_closing n also) l;
  told = λ n node. shown.told n (at_alike base alike makes_node node_plain n node) ∙ sym (alike.told n);
  owned = λ q made. shown.owned q (at_alike base alike makes_resource resource_plain q made) ∙ sym (alike.same_owned q);
  leases = λ q made. shown.leases q (at_alike base alike makes_resource resource_plain q made) ∙ sym (alike.same_leases q);
  held = λ q made. shown.held q (at_alike base alike makes_resource resource_plain q made) ∙ sym (alike.same_held q);
  out = λ l made. shown.out l (at_alike base alike makes_lease lease_plain l made) ∙ sym (alike.same_out l);
  taken = λ q made. shown.taken q (at_alike base alike makes_resource resource_plain q made) ∙ sym (alike.same_taken q);
  used = λ q made. shown.used q (at_alike base alike makes_resource resource_plain q made) ∙ sym (alike.used q);
  node_total = shown.node_total ∙ sym alike.nodes_total;
  accepted_total = shown.accepted_total ∙ sym alike.accepted;
  taken_total = shown.taken_total ∙ sym alike.taken;
}

-- Two courses of what is forced, after two histories that are the same but for numbers, come to the same but for numbers
pub courses_since : {base : Kept} → {r : ℕ → ℕ} {h c b d : List Event} (k j : List Event) → GoesAlike base r h c b d → IsForcedOn base b k → IsSettled base k →
    IsForcedOn base d j → IsSettled base j → IsLawful base j → AreSameSince base r h c k j
courses_since {base} {r} {h} {c} {d} k j start on_k settled_k on_j settled_j law =
    let w : CourseRead base r h c k d = course_read base on_k r h c d start in
    let since : AreSameSince base r h c k w.last = w.goes.since in
    let settled_last : IsSettled base w.last = settled_read since.same.numbers settled_k in
    let one : AreAlike base w.last j = courses_alike start.since.same.numbers.other_law w.course settled_last on_j settled_j in
    let other : AreAlike base j w.last = courses_alike start.since.same.numbers.other_law on_j settled_j w.course settled_last in
    record {
      reads = since.reads;
      reads_back = since.reads_back;
      same = record {
        numbers = record {
          law = since.same.numbers.law;
          other_law = law;
          there = alike_read base since.same.numbers.there settled_k one;
          back = read_alike base since.same.numbers.back settled_j other;
        };
        shown = alike_shown base since.same.shown one;
        shown_back = shown_alike base since.same.shown_back other;
      };
      older = since.older;
      newest = since.newest;
    }

pub courses_same : {base : Kept} {r s : ℕ → ℕ} {h c k j : List Event} → AreSameBy base r s h c → IsForcedOn base h k → IsSettled base k →
    IsForcedOn base c j → IsSettled base j → IsLawful base j → AreSameSince base r h c k j
courses_same {base} {k = k} {j = j} a on_k settled_k on_j settled_j law = courses_since k j (goes_nowhere base a) on_k settled_k on_j settled_j law

-- the beginning ------------------------------------------------------------------------------------------------------------------------

start_read : (base : Kept) → IsRead base base (λ n. n) (λ n. n) (shown base) (shown base)
start_read base = record {
  alive = λ n o. o;
  undone = λ n o. refl;
  order = λ m n o p l. l;
  made = λ n e o at_n. at_n ∙ ap (λ (x : Event). Some x) (sym (event_by_itself e));
  marks = λ n o. refl;
  hub = λ g mode at_g. at_g;
  hub_undone = λ g mode at_g. refl;
  ended = λ n t o x. x;
}

start_shown : (base : Kept) → IsShown base (λ n. n) (λ n. n) (shown base) (shown base)
start_shown base = record {
  kept = λ n e named at_n. at_n ∙ ap (λ (x : Event). Some x) (sym (event_by_itself e));
  apart = λ n named. refl;
  in_order = λ m n named also l. l;
  told = λ n node. refl;
  owned = λ q made. refl;
  leases = λ q made. refl;
  held = λ q made. refl;
  out = λ l made. refl;
  taken = λ q made. refl;
  used = λ q made. refl;
  node_total = refl;
  accepted_total = refl;
  taken_total = refl;
}

pub same_start : (base : Kept) → Started base → AreSame base (shown base) (shown base)
same_start base started = record {
  reads = λ n. n;
  reads_back = λ n. n;
  same = record {
    numbers = record { law = IsLawful_empty base started; other_law = IsLawful_empty base started; there = start_read base; back = start_read base };
    shown = start_shown base;
    shown_back = start_shown base;
  };
}
