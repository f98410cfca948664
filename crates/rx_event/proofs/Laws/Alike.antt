-- Two courses of what is forced after one history come to the same, but for the places of ends and closings.
use Rattle.rx_event.proofs.Laws.Common.{◌≡◌, ℕ, ◌<◌, ◌≤◌, Bool, true, false, List, [], ◌∷◌, ◌++◌, length, Option, Some, None, cond, slice_get, refl, sym, ap}
use Rattle.rx_event.proofs.Laws.Common.{subst, ◌∙◌, inl, inr, ◌⊎◌, ◌==◌, nat_lt, arith, filter, append-nil, length-append, ◌+◌, ◌-◌, not, ◌&&◌}
use Rattle.rx_event.proofs.Laws.Common.{list_any, count_by, option_and_then, option_map_or, both_ways, false≢true, eqb-true, false_from_ne_true}
use Rattle.rx_event.proofs.Laws.Common.{slice_get_within, same_Some, none-some, Terminal, Kept, shown, resource_kept, Event, Connect, End, Close}
use Rattle.rx_event.proofs.Laws.Common.{makes_node, makes_resource, node_of_accept, is_root, is_remove_of, is_use_of}
use Rattle.rx_event.proofs.Laws.Common.{is_connect_of, is_subscriber_of, at, places, parent, ancestors, is_open, open_nodes, is_owned, is_out}
use Rattle.rx_event.proofs.Laws.Common.{leases_of, is_held, is_taken, is_waiting, waiting_resources, uses, mail_of, IsDue, IsConnected, IsSettled, stays}
use Rattle.rx_event.proofs.Laws.Common.{more, IsLawful, IsForcedOn, and_false, and_true, length-filter, is_lease_of, is_take, held_resources, notes_to}
use Rattle.rx_note.specs.declared.note.Note.{Note}
use Rattle.rx_note.specs.declared.note.Note.TheVariants.{End as EndNote}
use Rattle.rx_event.specs.Events.{is_item}
use Rattle.rx_event.specs.Resources.{is_out_of, leases_out}
use Rattle.rx_event.specs.Lawful.{IsStep}
use Rattle.rx_event.specs.Claims.Determined.{is_closing, AreAlike, EndsSince}
use Rattle.rx_event.proofs.Laws.Lists.{same_filter}
use Rattle.rx_event.proofs.Laws.Places.{slice_get_last}
use Rattle.rx_event.proofs.Laws.Parents.{ancestors_step}
use Rattle.rx_event.proofs.Laws.Openness.{stays_closed, is_open_past, is_open_outside-end, is_open_outside-close}
use Rattle.rx_event.proofs.Laws.Leases.{is_out_past}
use Rattle.rx_event.proofs.Laws.Resources.{node_of, is_owned_past, is_held_past, is_waiting_past}
use Rattle.rx_event.proofs.Laws.Notes.{notes_in, notes_to-push, noted_to}
use Rattle.rx_event.proofs.Laws.Dues.{IsDueOn, none_more, one_more, IsClosing, by_end, by_close, closing_of, Fails, SeesNone, seen_on, connect_on, at_on}
use Rattle.rx_event.proofs.Laws.Dues.{any_on, count_on, owed_on, stays_closed_on, EndsSo, ends_one, EndStands, stood_before, came_after, end_stands, begun_on}
use Rattle.rx_event.proofs.Laws.ClosedInEveryCourse.{same_open, spared}
use Rattle.rx_event.proofs.Laws.SameMarks.{marks_both}
use Rattle.rx_event.proofs.Laws.Starts.{StartAlike, BeginsWith, begins_with, starts_with, start_alike, lawful_begun}
use Rattle.rx_event.proofs.Laws.Lawful.{shown_within}
use Rattle.std.proofs.Common.{rules}

-- notes ------------------------------------------------------------------------------------------------------

root_fails : Fails is_root
root_fails = record { at_end = λ c t. refl; at_close = λ c. refl }

-- a root stands below nothing
root_alone : (h : List Event) (n : ℕ) → at is_root h n ≡ true → ancestors h n ≡ n ∷ []
unfolding parent
root_alone h n root = search (rules, slice_get, option_map_or, false≢true, ancestors_step)

-- what n was told since b: nothing, or as a root its end
data Tells (base : Kept) (b k : List Event) (n : ℕ) : Type 0 where
  tells_none : notes_to k n ≡ notes_to b n → (at is_root b n ≡ true → is_open k n ≡ is_open b n) → Tells base b k n
  tells_end : {t : Terminal} → notes_to k n ≡ notes_to b n ++ EndNote t ∷ [] → EndsSo base b t → at is_root b n ≡ true → is_open b n ≡ true →
      is_open k n ≡ false →
      Tells base b k n

tells_more : (base : Kept) → {b k : List Event} → IsDueOn base b k → {e : Event} → IsDue base k e → (n : ℕ) → notes_in n (mail_of k e) ≡ [] →
    (at is_root b n ≡ true → is_open (k ++ e ∷ []) n ≡ is_open k n) → Tells base b k n → Tells base b (k ++ e ∷ []) n
tells_more base {b = b} {k = k} on {e = e} d n silent still before = by_before before where
  same : notes_to (k ++ e ∷ []) n ≡ notes_to k n
  same = notes_to-push k e n ∙ ap (λ (ns : List Note). notes_to k n ++ ns) silent ∙ append-nil (notes_to k n)

  by_before : Tells base b k n → Tells base b (k ++ e ∷ []) n
  by_before (tells_none told open_still) = tells_none (same ∙ told) (λ root. still root ∙ open_still root)
  by_before (tells_end told so root was gone) = tells_end (same ∙ told) so root was (stays_closed_on base on d n gone)

tells_closing : (base : Kept) → {b k : List Event} → IsDueOn base b k → IsLawful base b → IsConnected b → {e : Event} → IsDue base k e → IsClosing base k e →
    (n : ℕ) → Tells base b k n → Tells base b (k ++ e ∷ []) n
tells_closing base {b = b} {k = k} on law whole d (by_close c g at_c none o) n before = tells_more base on d n refl still before where
  apart : at is_root k n ≡ true → (a : Bool) → (c == n) ≡ a → a ≡ false
  apart root x1 x2 = search (rules, false≢true, eqb-true)

  still : at is_root b n ≡ true → is_open (k ++ Close c ∷ []) n ≡ is_open k n
  still root =
      let now : at is_root k n ≡ true = at_on base is_root root_fails on n ∙ root in
      is_open_outside-close k c n ∙ rw (root_alone k n now, apart now (c == n) refl) (and_true (is_open k n))
tells_closing base {b = b} {k = k} on law whole d (by_end c {t = t} x o) n before = by_root (at is_root k c) refl (c == n) refl where
  still : (c == n) ≡ false → at is_root b n ≡ true → is_open (k ++ End c t ∷ []) n ≡ is_open k n
  still other root =
      let now : at is_root k n ≡ true = at_on base is_root root_fails on n ∙ root in
      is_open_outside-end k c t n ∙ rw (root_alone k n now, other) (and_true (is_open k n))

  silent : (r a : Bool) → at is_root k c ≡ r → (c == n) ≡ a → (r && a) ≡ false → notes_in n (mail_of k (End c t)) ≡ []
  silent x0 x1 root x3 both = search (rules, false≢true, noted_to)

  ended : at is_root k c ≡ true → (c == n) ≡ true → Tells base b k n → Tells base b (k ++ End c t ∷ []) n
  ended root same (tells_end told so is_root_n was gone) = absurd (both_ways (is_open k n) gone (ap (is_open k) (sym (eqb-true c n same)) ∙ o))
  ended root same (tells_none told open_still) =
      let number : c ≡ n = eqb-true c n same in
      let here : at is_root b n ≡ true = sym (at_on base is_root root_fails on n) ∙ ap (at is_root k) (sym number) ∙ root in
      tells_end (notes_to-push k (End c t) n ∙ (λ i. told i ++ end_told root same i)) (begun_on base on law whole c t x) here
      (sym (open_still here) ∙ ap (is_open k) (sym number) ∙ o) (is_open_outside-end k c t n ∙ (rw (ancestors_step k n, same) (and_false (is_open k n))))
    where
      end_told : at is_root k c ≡ true → (c == n) ≡ true → notes_in n (mail_of k (End c t)) ≡ EndNote t ∷ []
      end_told root same = rw (root, noted_to n c (length k) (EndNote t) [], same) refl

  by_root : (r : Bool) → at is_root k c ≡ r → (a : Bool) → (c == n) ≡ a → Tells base b (k ++ End c t ∷ []) n
  by_root true root true same = ended root same before
  by_root true root false other = tells_more base on d n (silent true false root other refl) (still other) before
  by_root false root false other = tells_more base on d n (silent false false root other refl) (still other) before
  by_root false root true same = tells_more base on d n (silent false true root same refl) (λ here. absurd (no_root root same here)) before where
    no_root : at is_root k c ≡ false → (c == n) ≡ true → at is_root b n ≡ true → ⊥
    no_root root same here = both_ways (at is_root k c) root (ap (at is_root k) (eqb-true c n same) ∙ at_on base is_root root_fails on n ∙ here)

tells_on : (base : Kept) → {b k : List Event} → IsDueOn base b k → IsLawful base b → IsConnected b → (n : ℕ) → Tells base b k n
tells_on base none_more law whole n = tells_none refl (λ root. refl)
tells_on base (one_more on d) law whole n = tells_closing base on law whole d (closing_of base d) n (tells_on base on law whole n)

-- two courses that leave the same open tell the same
same_notes : (base : Kept) → {b k j : List Event} → IsLawful base b → (n : ℕ) → is_open k n ≡ is_open j n → Tells base b k n → Tells base b j n →
    notes_to k n ≡ notes_to j n
same_notes base law n same (tells_none told still) (tells_none other also) = told ∙ sym other
same_notes base {b = b} law n same (tells_end {t = t} told so root was gone) (tells_end {t = u} other too also was_too gone_too) =
    told ∙ ap (λ v. notes_to b n ++ EndNote v ∷ []) (ends_one base b law t u so too) ∙ sym other
same_notes base law n same (tells_none told still) (tells_end other so root was gone) = absurd (both_ways _ (same ∙ gone) (still root ∙ was))
same_notes base law n same (tells_end told so root was gone) (tells_none other still) = absurd (both_ways _ (sym same ∙ gone) (still root ∙ was))

-- all the rest ------------------------------------------------------------------------------------------------

-- an event that is neither an end nor a closing
abbrev plain : Option Event → Option Event
plain (Some e) = cond (is_closing e) None (Some e)
plain None = None

plain_back : (o : Option Event) (e : Event) → plain o ≡ Some e → o ≡ Some e
plain_back x0 e same = search (rules, none-some, cond)

module _ (base : Kept) (b k j : List Event) (law : IsLawful base b) (whole : IsConnected b) (on_k : IsDueOn base b k) (settled_k : IsSettled base k)
    (on_j : IsDueOn base b j)
    (settled_j : IsSettled base j) where
  opens : (n : ℕ) → is_open k n ≡ is_open j n
  opens n = same_open base law whole on_k settled_k on_j settled_j n

  at_both : (q : Event → Bool) → Fails q → (n : ℕ) → at q k n ≡ at q j n
  at_both q fails n = at_on base q fails on_k n ∙ sym (at_on base q fails on_j n)

  any_both : (q : Event → Bool) → Fails q → list_any q k ≡ list_any q j
  any_both q fails = any_on base q fails on_k ∙ sym (any_on base q fails on_j)

  count_both : (q : Event → Bool) → Fails q → count_by q k ≡ count_by q j
  count_both q fails = count_on base q fails on_k ∙ sym (count_on base q fails on_j)

  node_both : (r : ℕ) → node_of k r ≡ node_of j r
  node_both r = seen_on base (option_and_then node_of_accept) sees on_k r ∙ sym (seen_on base (option_and_then node_of_accept) sees on_j r) where
    sees : SeesNone (option_and_then node_of_accept)
    sees = record { no_end = λ c t. refl; no_close = λ c. refl }

  stands_both : (n : ℕ) (e : Event) → is_closing e ≡ false → slice_get k n ≡ Some e → slice_get j n ≡ Some e
  stands_both n e other at_n =
      let sees : SeesNone plain = record { no_end = λ c t. refl; no_close = λ c. refl } in
      plain_back (slice_get j n) e (sym (seen_on base plain sees on_k n ∙ sym (seen_on base plain sees on_j n)) ∙ ap plain at_n ∙ rw other refl)

  owned_both : (r : ℕ) → is_owned k r ≡ is_owned j r
  unfolding is_owned
  owned_both r = λ i. option_map_or (λ n. opens n i) (node_both r i) false && not (any_both (is_remove_of r)
      (record { at_end = λ c t. refl; at_close = λ c. refl }) i)

  -- leases are neither ended nor closed
  out_both : (l : ℕ) → is_out k l ≡ is_out j l
  unfolding is_out
  out_both l = search (rules, at_both, not, any_both)

  leases_both : (r : ℕ) → leases_of k r ≡ leases_of j r
  unfolding leases_of
  leases_both r = sym (length-filter (is_out_of k r) (places k)) ∙
      ap length (same_filter (is_out_of k r) (is_out_of j r) (length k) (length j) (λ l i. at_both (is_lease_of r)
      (record { at_end = λ c t. refl; at_close = λ c. refl }) l i && out_both l i)
      (λ l past. ap (λ b. at (is_lease_of r) k l && b) (is_out_past k l past) ∙ and_false (at (is_lease_of r) k l))
      (λ l past. ap (λ b. at (is_lease_of r) j l && b) (is_out_past j l past) ∙ and_false (at (is_lease_of r) j l))) ∙
      length-filter (is_out_of j r) (places j)

  held_both : (r : ℕ) → is_held k r ≡ is_held j r
  unfolding is_held
  held_both r = search (rules, owned_both, at_both, nat_lt, leases_both)

  taken_both : (r : ℕ) → is_taken k r ≡ is_taken j r
  unfolding is_taken
  taken_both r = search (rules, at_both, any_both)

  waiting_both : (r : ℕ) → is_waiting k r ≡ is_waiting j r
  unfolding is_waiting
  waiting_both r = search (rules, at_both, not, held_both, taken_both)

  uses_both : (r : ℕ) → uses base k r ≡ uses base j r
  unfolding uses
  uses_both r =
      ap (λ x. option_map_or (λ k. k.uses + x) (resource_kept base r) x) (count_both (is_use_of r) (record { at_end = λ c t. refl; at_close = λ c. refl }))

  -- the open nodes of one sort, in order
  sorted_both : (q : Event → Bool) → Fails q → filter (λ n. at q k n && is_open k n) (places k) ≡ filter (λ n. at q j n && is_open j n) (places j)
  sorted_both q fails = same_filter (λ n. at q k n && is_open k n) (λ n. at q j n && is_open j n) (length k) (length j)
      (λ n i. at_both q fails n i && opens n i)
      (λ n l. ap (λ c. at q k n && c) (is_open_past k n l) ∙ and_false (at q k n)) (λ n l. ap (λ c. at q j n && c) (is_open_past j n l) ∙ and_false (at q j n))

  nodes_both : open_nodes k ≡ open_nodes j
  nodes_both = same_filter (is_open k) (is_open j) (length k) (length j) opens (is_open_past k) (is_open_past j)

  all_held : held_resources k ≡ held_resources j
  all_held = search (rules, same_filter, length, held_both, is_held_past)

  all_owned : filter (is_owned k) (places k) ≡ filter (is_owned j) (places j)
  all_owned = search (rules, same_filter, length, owned_both, is_owned_past)

  all_out : leases_out k ≡ leases_out j
  all_out = same_filter (is_out k) (is_out j) (length k) (length j) out_both (is_out_past k) (is_out_past j)

  all_waiting : waiting_resources k ≡ waiting_resources j
  all_waiting = search (rules, same_filter, length, waiting_both, is_waiting_past)

  alike : AreAlike base k j
  alike = record {
    stands = stands_both;
    same_open = opens;
    same_nodes = nodes_both;
    connections = λ g. sorted_both (is_connect_of g) (record { at_end = λ c t. refl; at_close = λ c. refl });
    subscribers = λ g. sorted_both (is_subscriber_of g) (record { at_end = λ c t. refl; at_close = λ c. refl });
    same_owned = owned_both;
    same_held = held_both;
    same_waiting = waiting_both;
    same_taken = taken_both;
    held = all_held;
    waiting = all_waiting;
    used = uses_both;
    same_out = out_both;
    same_leases = leases_both;
    out = all_out;
    same_owed = λ f. owed_on base on_k f ∙ sym (owed_on base on_j f);
    marks = marks_both base b k j law whole on_k settled_k on_j settled_j;
    told = λ n. same_notes base law n (opens n) (tells_on base on_k law whole n) (tells_on base on_j law whole n);
    open_total = sym (length-filter (is_open k) (places k)) ∙ ap length nodes_both ∙ length-filter (is_open j) (places j);
    owned_total = sym (length-filter (is_owned k) (places k)) ∙ ap length all_owned ∙ length-filter (is_owned j) (places j);
    lease_total = sym (length-filter (is_out k) (places k)) ∙ ap length all_out ∙ length-filter (is_out j) (places j);
    held_total = sym (length-filter (is_held k) (places k)) ∙ ap length all_held ∙ length-filter (is_held j) (places j);
    waiting_total = sym (length-filter (is_waiting k) (places k)) ∙ ap length all_waiting ∙ length-filter (is_waiting j) (places j);
    nodes_total = count_both makes_node (record { at_end = λ c t. refl; at_close = λ c. refl });
    items = ap (λ x. base.items + x) (count_both is_item (record { at_end = λ c t. refl; at_close = λ c. refl }));
    accepted = ap (λ x. (base.accepted - count_by makes_resource (shown base)) + x)
        (count_both makes_resource (record { at_end = λ c t. refl; at_close = λ c. refl }));
    taken = ap (λ x. base.taken + x) (count_both is_take (record { at_end = λ c t. refl; at_close = λ c. refl }));
  }

-- Two courses of what is forced after one history come to the same
pub courses_alike : {base : Kept} {b k j : List Event} → IsLawful base b → IsForcedOn base b k → IsSettled base k → IsForcedOn base b j → IsSettled base j →
    AreAlike base k j
courses_alike {base} {b} {k} {j} law on_k settled_k on_j settled_j =
    let s = start_alike base law on_k settled_k on_j settled_j in
    alike base s.start k j s.law s.whole s.one settled_k s.other settled_j

-- and so do two steps
pub steps_alike : {base : Kept} {h outside k j : List Event} → IsLawful base h → IsStep base h outside k → IsStep base h outside j → AreAlike base k j
steps_alike {base} {h} {outside} law one other = courses_alike
    (lawful_begun base one.forced (let long = shown_within base h law in omega (arith, length-append h outside)) one.lawful) one.forced one.settled
    other.forced other.settled

-- on the way --------------------------------------------------------------------------------------------------

-- where a common start of two courses has an event of later than b, that is the connection
start_new : (base : Kept) → {b k j : List Event} (s : StartAlike base b k j) (i : ℕ) (x : Event) → length b ≤ i → slice_get s.start i ≡ Some x →
    (i ≡ length b) × ((g : ℕ) × (x ≡ Connect g))
start_new base {b = b} s i x l at_i = by_start s.begun where
  by_start : (s.start ≡ b) ⊎ ((g : ℕ) × (s.start ≡ b ++ Connect g ∷ [])) → (i ≡ length b) × ((g : ℕ) × (x ≡ Connect g))
  by_start (inl same) = let w : i < length b = slice_get_within b i x (ap (λ (q : List Event). slice_get q i) (sym same) ∙ at_i) in absurd (omega arith)
  by_start (inr (g, same)) =
      let here : slice_get (b ++ Connect g ∷ []) i ≡ Some x = ap (λ (q : List Event). slice_get q i) (sym same) ∙ at_i in
      let w : i < length (b ++ Connect g ∷ []) = slice_get_within (b ++ Connect g ∷ []) i x here in
      let last : i ≡ length b = omega (arith, length-append b (Connect g ∷ [])) in
      (last, (g, same_Some x (Connect g) (sym here ∙ ap (slice_get (b ++ Connect g ∷ [])) last ∙ slice_get_last b (Connect g))))

not_connect : (n g : ℕ) (t : Terminal) → End n t ≡ Connect g → ⊥
not_connect n g t same = absurd (cc)

ends_after : (base : Kept) → {b k j : List Event} (s : StartAlike base b k j) {q : List Event} → IsDueOn base s.start q → (n i : ℕ) (t : Terminal) →
    length b ≤ i → slice_get q i ≡ Some (End n t) → EndsSo base s.start t
ends_after base s {q = q} on n i t l at_i = by_place (end_stands base on s.law s.whole n t i at_i) where
  by_place : EndStands base s.start q n t i → EndsSo base s.start t
  by_place (came_after was gone so) = so
  by_place (stood_before found) = let new = start_new base s i (End n t) l found in absurd (not_connect n new.1.0 t new.1.1)

-- nothing stands past the end
nothing_past : (b k : List Event) (i : ℕ) (x : Event) → k ≡ b → length b ≤ i → slice_get k i ≡ Some x → ⊥
nothing_past b k i x same l at_i = search (rules, length, slice_get_within, slice_get)

-- all ends of two courses are alike
pub one_terminal : {base : Kept} {b k j : List Event} → IsLawful base b → IsForcedOn base b k → IsForcedOn base b j → {t u : Terminal} →
    EndsSince b k t → EndsSince b j u → t ≡ u
one_terminal {base} {b} {k} {j} law on_k on_j {t} {u} x y = by_first (begins_with base on_k) (begins_with base on_j) where
  by_first : (k ≡ b) ⊎ BeginsWith base b k → (j ≡ b) ⊎ BeginsWith base b j → t ≡ u
  by_first (inl same) other = absurd (nothing_past b k x.place (End x.node t) same x.since x.ended)
  by_first (inr one) (inl same) = absurd (nothing_past b j y.place (End y.node u) same y.since y.ended)
  by_first (inr one) (inr other) =
      let s = starts_with base law on_k on_j one.first one.rest other.first other.rest in
      ends_one base s.start s.law t u (ends_after base s s.one x.node x.place t x.since x.ended) (ends_after base s s.other y.node y.place u y.since y.ended)

-- a connection comes first
pub connects_first : {base : Kept} {b k : List Event} → IsLawful base b → IsForcedOn base b k → (c : ℕ) {g : ℕ} → length b ≤ c →
    slice_get k c ≡ Some (Connect g) → c ≡ length b
connects_first {base} {b} {k} law on c {g} l at_c = by_first (begins_with base on) where
  by_first : (k ≡ b) ⊎ BeginsWith base b k → c ≡ length b
  by_first (inl same) = absurd (nothing_past b k c (Connect g) same l at_c)
  by_first (inr one) =
      let s = starts_with base law on on one.first one.rest one.first one.rest in
      (start_new base s c (Connect g) l (connect_on base s.one c g at_c)).0

closed_forced : (base : Kept) → {b k : List Event} → IsForcedOn base b k → (n : ℕ) → n < length b → is_open b n ≡ false → (n < length k) × (is_open k n ≡ false)
closed_forced base stays n l closed = (l, closed)
closed_forced base (more {k = k} {e = e} on f) n l closed = search (rules, length, length-append, stays_closed, closed_forced base on n l closed)

-- what one course has closed so far, another has closed in the end
pub closed_in_both : {base : Kept} {b p k : List Event} → IsLawful base b → IsForcedOn base b p → IsForcedOn base b k → IsSettled base k → (n : ℕ) →
    n < length b → is_open p n ≡ false → is_open k n ≡ false
closed_in_both {base} {b} {p} {k} law on_p on_k settled n l closed = by_first (begins_with base on_p) (begins_with base on_k) where
  by_first : (p ≡ b) ⊎ BeginsWith base b p → (k ≡ b) ⊎ BeginsWith base b k → is_open k n ≡ false
  by_first (inl same) other = (closed_forced base on_k n l (ap (λ (q : List Event). is_open q n) (sym same) ∙ closed)).1
  by_first (inr one) (inl same) = absurd ((subst (λ (q : List Event). IsSettled base q) same settled).none one.event one.first)
  by_first (inr one) (inr other) =
      let s = starts_with base law on_p on_k one.first one.rest other.first other.rest in
      false_from_ne_true (is_open k n) (λ o. both_ways (is_open p n) closed (spared s.one k s.law s.whole s.other settled n o))
