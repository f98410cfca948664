-- What operators must do, by marks and by the words of hubs.
use Rattle.rx_audit.proofs.Common.{◌≡◌, ◌↔◌, ℕ, suc, ◌-◌, ◌<◌, ◌≤◌, Bool, true, false, List, length, Option, Some, None, refl, sym, ap, ◌∙◌, arith, IsTrue}
use Rattle.rx_audit.proofs.Common.{get_or, slice_get, not, cases_Bool, both_ways, false≢true, and_parts, ltb-true, none-some, same_Some, slice_get_within}
use Rattle.rx_audit.proofs.Common.{option_and_then, option_map, option_map_or, nothing_kept, Terminal, Event, Connect, Decline, End, Close, Marks, is_open}
use Rattle.rx_audit.proofs.Common.{marks_of, due_at, same_terminal, connecting, due, cut, IsDue, IsForced, IsConnectDue, SourceEnded, IsLawful, is_open_within}
use Rattle.rx_audit.proofs.Common.{event_at, subscriber_hub, Hubs, last_below, keyed, IsUntouched, leaf_of, ends_so, AreHubs, hub_subscribed_at, hub_ended}
use Rattle.rx_audit.proofs.Common.{hub_ended_at, is_disconnected, any_connect_due, close_due, connect_due, and_false, and_from, or_left, or_right, or_cases}
use Rattle.rx_audit.proofs.Common.{not-true}
use Rattle.rx_audit.proofs.Common.{false_from_ne_true, ⊎_elim, cases_lt}
use Rattle.rx_event.specs.Claims.Connections.{EndsConnection, EndsLast}
use Rattle.rx_event.proofs.Laws.Lawful.{due_open}
use Rattle.rx_event.proofs.Laws.Steps.{forced_kind}
use Rattle.rx_event.proofs.Laws.MarksDue.{due_at_due}
use Rattle.rx_event.proofs.Laws.OneEnd.{due_by_marks_alone}
use Rattle.rx_event.proofs.Laws.Connections.{cut_by_last}
use Rattle.rx_audit.specs.Marking.{forced_end}
use Rattle.rx_audit.specs.HubTables.{terminal_of_word, ends_last_so, cut_so, ends_now, forced_now}
use Rattle.rx_audit.proofs.Latest.{last_holds, last_none, key_is, is_key_of}
use Rattle.rx_audit.proofs.TestsDecideRules.{terminal_is, terminal_self, connection_at, at_connection, at_subscriber, cut_ended, is_cut_of, subscriber_at}
use Rattle.rx_audit.proofs.Due.{connect_is_due, connect_due_of, some_connect_due, any_connect_due_of, no_connect_due, close_is_due, close_due_of, unconnected}
use Rattle.rx_audit.proofs.HubWords.{cut_word}
use Rattle.std.proofs.Common.{rules}

pub other_untouched : (h : List Event) (e : Event) → leaf_of e ≡ None → IsUntouched h e
other_untouched h x1 other n item = search (rules, none-some, false≢true)

-- by marks ---------------------------------------------------------------------------------------------

due_ends : (made : Event) (m : Marks) (n : ℕ) (t : Terminal) → ends_so made m t ≡ true → due_at made m n ≡ Some (End n t)
due_ends made m n t = search (rules, option_map_or, option_map, false≢true, terminal_is)

ends_due : (made : Event) (m : Marks) (n : ℕ) (t : Terminal) → due_at made m n ≡ Some (End n t) → ends_so made m t ≡ true
ends_due made m n t = search (rules, option_map, option_map_or, none-some, same_Some, terminal_self)

pub forced_closed : (h : List Event) (n : ℕ) (t : Terminal) → is_open h n ≡ false → forced_end h n t ≡ false
unfolding forced_end
forced_closed h n t closed = rw closed refl

pub forced_nowhere : (h : List Event) (n : ℕ) (t : Terminal) → slice_get h n ≡ None → forced_end h n t ≡ false
unfolding forced_end
forced_nowhere h n t none = rw none (and_false (is_open h n))

pub forced_made : (h : List Event) (n : ℕ) (t : Terminal) (made : Event) → is_open h n ≡ true → slice_get h n ≡ Some made
    → forced_end h n t ≡ ends_so made (marks_of nothing_kept h n) t
unfolding forced_end
forced_made h n t made o is = rw (o, is) refl

forced_parts : (h : List Event) (n : ℕ) (t : Terminal) → forced_end h n t ≡ true → is_open h n ≡ true
unfolding forced_end
forced_parts h n t y = (and_parts (is_open h n) _ y).0

-- cut off -----------------------------------------------------------------------------------------------

-- the last end of a connection of g, by its word
ended_last : (h : List Event) (g place : ℕ) → last_below (keyed (hub_ended_at h) g) (length h) ≡ suc place
    → (t : Terminal) × EndsLast h g place t × (terminal_of_word h (suc place) ≡ Some t)
ended_last h g place found =
    by_event (slice_get h place) refl (is_key_of (hub_ended_at h place) g (last_holds (keyed (hub_ended_at h) g) (length h) place found)) where
      last : (i : ℕ) (u : Terminal) → EndsConnection h g i u → i ≤ place
      last i u x = ⊎_elim (λ l. absurd (both_ways (keyed (hub_ended_at h) g i)
          (last_none (keyed (hub_ended_at h) g) (length h) i (omega arith) (slice_get_within h i _ x.ended))
          (key_is (hub_ended_at h i) g (ap (option_and_then (hub_ended h)) x.ended ∙ at_connection h x.connection g x.connects)))) (λ l. l) (cases_lt place i)

      by_event : (o : Option Event) → slice_get h place ≡ o → option_and_then (hub_ended h) o ≡ Some g
          → (t : Terminal) × EndsLast h g place t × (terminal_of_word h (suc place) ≡ Some t)
      by_event None at_place named = absurd (none-some g named)
      by_event (Some (End c t)) at_place named =
          (t, record { ends = record { connection = c; connects = connection_at h c g named; ended = at_place }; last = last }, rw at_place refl)
      by_event (Some _) at_place named = absurd (none-some g named)

-- what the words say of a subscriber
module _ (h : List Event) (law : IsLawful nothing_kept h) (size : ℕ) (known : Hubs) (w : AreHubs h size known) (room : length h ≤ size) where
  cut_parts : (s : ℕ) (t : Terminal) → cut_so h known.ended.items s t ≡ true
      → (is_open h s ≡ true) × (is_disconnected h s ≡ true) × (ends_last_so h known.ended.items s t ≡ true)
  unfolding cut_so
  cut_parts s t y = search (rules, and_parts)

  by_word : (s : ℕ) → is_disconnected h s ≡ true
      → (g : ℕ) × (place : ℕ) × (hub_subscribed_at h s ≡ Some g) × (get_or known.ended.items g 0 ≡ suc place) × (s < place)
      × (last_below (keyed (hub_ended_at h) g) (length h) ≡ suc place)
  by_word s is =
      let x = (cut_ended h s is).1 in
      let hub = at_subscriber h s x.hub x.subscribes in
      let inside : x.hub < length h = subscriber_hub nothing_kept h law x.hub s x.subscribes in
      let size_is = w.ended_size in
      let word : get_or known.ended.items x.hub 0 ≡ last_below (keyed (hub_ended_at h) x.hub) (length h) = w.ended x.hub (omega arith) in
      let past = ltb-true (suc s) (get_or known.ended.items x.hub 0) (cut_word h s x.hub (get_or known.ended.items x.hub 0) hub word ∙ is) in
      let some : get_or known.ended.items x.hub 0 ≡ suc (get_or known.ended.items x.hub 0 - 1) = omega arith in
      (x.hub, get_or known.ended.items x.hub 0 - 1, hub, some, omega arith, sym word ∙ some)

  last_so : (s g place : ℕ) (t u : Terminal) → hub_subscribed_at h s ≡ Some g
      → get_or known.ended.items g 0 ≡ suc place → terminal_of_word h (suc place) ≡ Some u → ends_last_so h known.ended.items s t ≡ same_terminal u t
  last_so s g place t u hub word ends = search (rules, option_map_or, get_or)

  pub cut_due : (s : ℕ) (t : Terminal) → cut_so h known.ended.items s t ≡ true → IsDue nothing_kept h (End s t)
  cut_due s t y =
      let p = cut_parts s t y in
      let k = by_word s p.1 in
      let e = ended_last h k.0 k.1 k.5 in
      let same : e.0 ≡ t = terminal_is e.0 t (sym (last_so s k.0 k.1 t e.0 k.2 k.3 e.2) ∙ p.2) in
      cut p.0 ((cut_by_last law e.1 s t (subscriber_at h s k.0 k.2) p.0).1 (k.4, sym same))

  unfold_cut : (s : ℕ) (t : Terminal) → is_open h s ≡ true → is_disconnected h s ≡ true
      → ends_last_so h known.ended.items s t ≡ true → cut_so h known.ended.items s t ≡ true
  unfolding cut_so
  unfold_cut s t o c e = search (rules, and_from)

  pub cut_due_of : (s : ℕ) (t : Terminal) → is_open h s ≡ true → SourceEnded h s t → cut_so h known.ended.items s t ≡ true
  cut_due_of s t o x =
      let is : is_disconnected h s ≡ true = is_cut_of h s t x in
      let k = by_word s is in
      let e = ended_last h k.0 k.1 k.5 in
      let q = (cut_by_last law e.1 s t (subscriber_at h s k.0 k.2) o).0 x in
      unfold_cut s t o is (last_so s k.0 k.1 t e.0 k.2 k.3 e.2 ∙ ap (λ v. same_terminal e.0 v) q.1 ∙ terminal_self e.0)

  marks_due : (n : ℕ) (t : Terminal) → forced_end h n t ≡ true → IsDue nothing_kept h (End n t)
  marks_due n t y =
      let o = forced_parts h n t y in
      let made = event_at h n (is_open_within h n o) in
      due_at_due nothing_kept h n made.0 (End n t) o made.1 (due_ends made.0 (marks_of nothing_kept h n) n t (sym (forced_made h n t made.0 o made.1) ∙ y))

  pub ends_due_now : (n : ℕ) (t : Terminal) → ends_now h known.ended.items n t ≡ true → IsDue nothing_kept h (End n t)
  unfolding ends_now
  ends_due_now n t y = search (rules, or_cases, marks_due, cut_due)

  pub ends_due_of : (n : ℕ) (t : Terminal) → IsDue nothing_kept h (End n t) → ends_now h known.ended.items n t ≡ true
  unfolding ends_now
  ends_due_of n t d =
      let o = due_open nothing_kept d in
      let made = event_at h n (is_open_within h n o) in ⊎_elim (λ c. or_right (forced_end h n t) (cut_so h known.ended.items n t) c)
      (λ c. or_left (forced_end h n t) (cut_so h known.ended.items n t) (forced_made h n t made.0 o made.1 ∙ ends_due made.0 (marks_of nothing_kept h n) n t
      (due_by_marks_alone law o made.1 (λ x. both_ways _ c (cut_due_of n t o x)) d))) (cases_Bool (cut_so h known.ended.items n t))

  -- as one test of the event
  pub forced_is : (e : Event) → forced_now h known.ended.items e ≡ true → IsForced nothing_kept h e
  forced_is (Connect g) y = connecting (connect_is_due h g y)
  forced_is (End n t) y =
      let p = and_parts (not (any_connect_due h)) (ends_now h known.ended.items n t) y in
      due (no_connect_due h (not-true (any_connect_due h) p.0)) (ends_due_now n t p.1)
  forced_is (Close c) y =
      let p = and_parts (not (any_connect_due h)) (close_due h c) y in
      due (no_connect_due h (not-true (any_connect_due h) p.0)) (close_is_due h c p.1)
  forced_is _ y = absurd (false≢true y)

  pub forced_of : (e : Event) → IsForced nothing_kept h e → forced_now h known.ended.items e ≡ true
  forced_of (Connect g) (connecting d) = connect_due_of h g d
  forced_of (Connect g) (due n d) = elim d [ ]
  forced_of (End n t) (due none d) = and_from (not (any_connect_due h)) (ends_now h known.ended.items n t) (unconnected h none) (ends_due_of n t d)
  forced_of (Close c) (due none d) = and_from (not (any_connect_due h)) (close_due h c) (unconnected h none) (close_due_of h c d)
  forced_of (Decline f) q = absurd (false≢true (forced_kind nothing_kept q))
  forced_of _ f = absurd (false≢true (forced_kind nothing_kept f))

  pub forced_answer : (e : Event) (b : Bool) → b ≡ forced_now h known.ended.items e → (IsTrue b) ↔ IsForced nothing_kept h e
  forced_answer e b is = (λ y. forced_is e (sym is ∙ y), λ f. is ∙ forced_of e f)

-- the hub that may wait tells of all ----------------------------------------------------------------------

pub some_waits : (h : List Event) (o : Option ℕ) (g : ℕ) (b : Bool)
    → ((k : ℕ) → IsConnectDue h k → o ≡ Some k) → o ≡ Some g → b ≡ connect_due h g → b ≡ any_connect_due h
some_waits h o g b waits is same = search (rules, cases_Bool, any_connect_due_of, connect_is_due, false_from_ne_true, some_connect_due, same_Some, both_ways, connect_due_of)

pub none_waits_at : (h : List Event) (o : Option ℕ) → ((k : ℕ) → IsConnectDue h k → o ≡ Some k) → o ≡ None → false ≡ any_connect_due h
none_waits_at h o waits is = sym (false_from_ne_true (any_connect_due h) (λ y. let d = some_connect_due h y in none-some d.0 (sym is ∙ waits d.0 d.1)))
