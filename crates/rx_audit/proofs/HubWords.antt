-- What the words of a hub tell: whether it has a connection, subscribers, one that waits, and who of them is cut.
use Rattle.rx_audit.proofs.Common.{◌≡◌, ℕ, zero, suc, ◌-◌, ◌<◌, ◌≤◌, Bool, true, false, List, length, Some, None, refl, sym, ap, ◌∙◌}
use Rattle.rx_audit.proofs.Common.{arith, inl, inr, ◌⊎◌, get_or, slice_get, drop, nat_lt, not, ◌&&◌, list_any, range_with_len, option_map_or}
use Rattle.rx_audit.proofs.Common.{option_and_then, cases_Bool, cases_order, both_ways, false≢true, and_parts, lt-ltb, ltb-true, eq-eqb}
use Rattle.rx_audit.proofs.Common.{slice_get_within, nothing_kept, Event, is_subscriber_of, is_connect_of, at, is_open, IsLawful, is_open_within}
use Rattle.rx_audit.proofs.Common.{last_connection, Subscribers, IsMarked, last_below, keyed, on_list, AreLinked, AreOpenListed, names_number, joins}
use Rattle.rx_audit.proofs.Common.{hub_connected_at, hub_subscribed_at, hub_ended, hub_ended_at, open_connected, open_subscribed, open_waiting, any_has_key}
use Rattle.rx_audit.proofs.Common.{ends_source, is_disconnected, and_false, false_from_ne_true, ⊎_elim, cases_lt, option_and_then_some, list_any-same}
use Rattle.rx_audit.proofs.CountedRows.{on_open}
use Rattle.rx_audit.proofs.Due.{waiting_is, connected_is}
use Rattle.rx_audit.proofs.Latest.{last_le, last_holds, last_none, key_is, is_key_of}
use Rattle.rx_audit.proofs.KeysInRange.{any_found}
use Rattle.rx_audit.proofs.TestsDecideRules.{find_after, find_number, any_after, subscribed_key, subscriber_at, at_subscriber, connection_at}
use Rattle.std.proofs.Common.{rules}

-- some number passes where the word of the last is none
pub any_last : (p : ℕ → Bool) (k : ℕ) → list_any p (range_with_len 0 k) ≡ nat_lt 0 (last_below p k)
any_last p k = by_word (last_below p k) refl where
  by_word : (v : ℕ) → last_below p k ≡ v → list_any p (range_with_len 0 k) ≡ nat_lt 0 v
  by_word zero e = false_from_ne_true _ (λ y. let f = find_number p k y in both_ways (p f.number) (last_none p k f.number (omega arith) f.within) f.holds)
  by_word (suc j) e = any_found p k j (let l = last_le p k in omega arith) (last_holds p k j e) ∙ sym (lt-ltb 0 (suc j) (omega arith))

-- subscribers ---------------------------------------------------------------------------------------

-- the hub has an open subscriber where its word leads to one
pub subscribed_word : (h : List Event) (size : ℕ) (s : Subscribers) (g word : ℕ) → AreLinked h size s → AreOpenListed h s → word ≡ get_or s.last.items g 0
    → nat_lt 0 word ≡ any_has_key (open_subscribed h) h g
subscribed_word h size s g word w listed is = ap (nat_lt 0) (is ∙ (w.rows g).top) ∙ sym (any_last (on_list h s.listed.items g) (length h))
    ∙ list_any-same (on_list h s.listed.items g) (λ n. at (is_subscriber_of g) h n && is_open h n) (λ k. on_open h s g k listed) (range_with_len 0 (length h))
    ∙ sym (subscribed_key h g)

-- ends of connections -------------------------------------------------------------------------------

-- s is cut where the word of its hub's last end leads past it
pub cut_word : (h : List Event) (s g word : ℕ) → hub_subscribed_at h s ≡ Some g → word ≡ last_below (keyed (hub_ended_at h) g) (length h)
    → nat_lt (suc s) word ≡ is_disconnected h s
unfolding is_disconnected
cut_word h s g word hub is = by_order (cases_lt (suc s) word) where
  ended_key : (k : ℕ) (e : Event) → slice_get h k ≡ Some e → keyed (hub_ended_at h) g k ≡ ends_source h s e
  ended_key k e at_k = ap (λ o. names_number (option_and_then (hub_ended h) o) g) at_k ∙ sym (ap (λ o. joins o (hub_ended h e)) hub)

  by_order : (suc s < word) ⊎ (word ≤ suc s) → nat_lt (suc s) word ≡ list_any (ends_source h s) (drop (suc s) h)
  by_order (inr l) = false_from_ne_true (nat_lt (suc s) word) (λ y. let m = ltb-true (suc s) word y in omega arith) ∙ sym (false_from_ne_true _ (λ y.
      let f = find_after (ends_source h s) (suc s) h y in
      let after = f.after in
      let within = slice_get_within h f.place f.event f.found in
      both_ways _ (last_none (keyed (hub_ended_at h) g) (length h) f.place (omega arith) within) (ended_key f.place f.event f.found ∙ f.holds)))
  by_order (inl l) =
      let found : last_below (keyed (hub_ended_at h) g) (length h) ≡ suc (word - 1) = omega arith in
      let holds = last_holds (keyed (hub_ended_at h) g) (length h) (word - 1) found in
      option_and_then_some (hub_ended h) (slice_get h (word - 1)) g (is_key_of (hub_ended_at h (word - 1)) g holds) (λ x at_k b. lt-ltb (suc s) word l
      ∙ sym (any_after (ends_source h s) (suc s) (word - 1) h x (omega arith) at_k (sym (ended_key (word - 1) x at_k) ∙ holds)))

pub past_word : (s word : ℕ) → (nat_lt 0 word && nat_lt s (word - 1)) ≡ nat_lt (suc s) word
past_word s word = search (rules, cases_order, nat_lt, lt-ltb, false_from_ne_true, and_parts, ltb-true)

-- what subscribes to no hub is not cut
pub uncut : (h : List Event) (s : ℕ) → hub_subscribed_at h s ≡ None → false ≡ is_disconnected h s
unfolding is_disconnected
uncut h s none = sym (false_from_ne_true _
    (λ y. let f = find_after (ends_source h s) (suc s) h y in false≢true (sym (ap (λ o. joins o (hub_ended h f.event)) none) ∙ f.holds)))

-- one that waits --------------------------------------------------------------------------------------

-- the hub has an open subscriber that waits where its last one does
pub waited_word : {h : List Event} {size : ℕ} (s : Subscribers) (g last ended : ℕ) → AreLinked h size s → AreOpenListed h s → last ≡ get_or s.last.items g 0
    → ended ≡ last_below (keyed (hub_ended_at h) g) (length h) → (nat_lt 0 last && not (nat_lt last ended)) ≡ any_has_key (open_waiting h) h g
waited_word {h} s g last ended w listed is_last is_ended = by_word last refl where
  top : last ≡ last_below (on_list h s.listed.items g) (length h)
  top = is_last ∙ (w.rows g).top

  -- what waits is on the list
  waits : (k : ℕ) → names_number (open_waiting h k) g ≡ true
      → (is_disconnected h k ≡ false) × (on_list h s.listed.items g k ≡ true) × (hub_subscribed_at h k ≡ Some g)
  waits k y = let f = waiting_is h k g (is_key_of (open_waiting h k) g y) in (f.0, on_open h s g k listed ∙ rw (subscriber_at h k g f.2, f.1) refl, f.2)

  none : (nat_lt 0 last && not (nat_lt last ended)) ≡ false → ((k : ℕ) → names_number (open_waiting h k) g ≡ true → ⊥)
      → (nat_lt 0 last && not (nat_lt last ended)) ≡ any_has_key (open_waiting h) h g
  none z refute = z ∙ sym (false_from_ne_true (any_has_key (open_waiting h) h g)
      (λ y. let f = find_number (λ k. names_number (open_waiting h k) g) (length h) y in refute f.number f.holds))

  by_word : (v : ℕ) → last ≡ v → (nat_lt 0 last && not (nat_lt last ended)) ≡ any_has_key (open_waiting h) h g
  by_word zero e = none (rw e refl) (λ k y.
      let m = waits k y in
      let z : last_below (on_list h s.listed.items g) (length h) ≡ 0 = sym top ∙ e in
      let within = is_open_within h k ((and_parts (at (is_subscriber_of g) h k) (is_open h k) (sym (on_open h s g k listed) ∙ m.1)).1) in
      both_ways _ (last_none (on_list h s.listed.items g) (length h) k (omega arith) within) m.1)
  by_word (suc j) e = by_order (cases_lt last ended) where
    here : on_list h s.listed.items g j ≡ true
    here = last_holds (on_list h s.listed.items g) (length h) j (sym top ∙ e)

    parts : (at (is_subscriber_of g) h j ≡ true) × (is_open h j ≡ true)
    parts = and_parts (at (is_subscriber_of g) h j) (is_open h j) (sym (on_open h s g j listed) ∙ here)

    hub : hub_subscribed_at h j ≡ Some g
    hub = at_subscriber h j g parts.0

    over : ended ≤ last → (nat_lt 0 last && not (nat_lt last ended)) ≡ any_has_key (open_waiting h) h g
    over l =
        let some : nat_lt 0 last ≡ true = lt-ltb 0 last (omega arith) in
        let past : nat_lt last ended ≡ false = false_from_ne_true (nat_lt last ended) (λ y. let m = ltb-true last ended y in omega arith) in
        let whole : is_disconnected h j ≡ false = sym (cut_word h j g ended hub is_ended) ∙ ap (λ (v : ℕ). nat_lt v ended) (sym e) ∙ past in
        let key : names_number (open_waiting h j) g ≡ true = rw (whole, parts.1, hub) (eq-eqb g g refl) in
        rw (some, past) (sym (any_found (λ k. names_number (open_waiting h k) g) (length h) j (is_open_within h j parts.1) key))

    by_order : (last < ended) ⊎ (ended ≤ last) → (nat_lt 0 last && not (nat_lt last ended)) ≡ any_has_key (open_waiting h) h g
    by_order (inr l) = over l
    by_order (inl l) = none (rw (lt-ltb last ended l) (and_false (nat_lt 0 last))) (λ k y.
        let m = waits k y in
        let t = top in
        let within = is_open_within h k ((and_parts (at (is_subscriber_of g) h k) (is_open h k) (sym (on_open h s g k listed) ∙ m.1)).1) in
        let below : k < last = ⊎_elim (λ b. b)
        (λ o. absurd (both_ways _ (last_none (on_list h s.listed.items g) (length h) k (omega arith) within) m.1)) (cases_lt k last) in
        both_ways (is_disconnected h k) m.0 (sym (cut_word h k g ended m.2 is_ended) ∙ lt-ltb (suc k) ended (omega arith)))

-- connections -----------------------------------------------------------------------------------------

-- the hub has an open connection where its last one is open
pub connected_word : (h : List Event) (live : List Bool) (g word : ℕ) → IsLawful nothing_kept h → IsMarked live (is_open h)
    → word ≡ last_below (keyed (hub_connected_at h) g) (length h) → (nat_lt 0 word && get_or live (word - 1) false) ≡ any_has_key (open_connected h) h g
connected_word h live g word law tied is = by_word word refl where
  connects : (k : ℕ) → hub_connected_at h k ≡ Some g → at (is_connect_of g) h k ≡ true
  connects k e = ap (λ o. option_map_or (is_connect_of g) o false) (connection_at h k g e) ∙ eq-eqb g g refl

  -- an open connection
  open_one : (k : ℕ) → names_number (open_connected h k) g ≡ true → (is_open h k ≡ true) × (hub_connected_at h k ≡ Some g)
  open_one k y = connected_is h k g (is_key_of (open_connected h k) g y)

  none : ((k : ℕ) → names_number (open_connected h k) g ≡ true → ⊥) → any_has_key (open_connected h) h g ≡ false
  none refute = false_from_ne_true (any_has_key (open_connected h) h g)
      (λ y. let f = find_number (λ k. names_number (open_connected h k) g) (length h) y in refute f.number f.holds)

  by_word : (v : ℕ) → word ≡ v → (nat_lt 0 word && get_or live (word - 1) false) ≡ any_has_key (open_connected h) h g
  by_word zero e = rw e (sym (none (λ k y.
      let m = open_one k y in
      both_ways _ (last_none (keyed (hub_connected_at h) g) (length h) k (omega arith) (is_open_within h k m.0)) (key_is (hub_connected_at h k) g m.1))))
  by_word (suc j) e = let place : word - 1 ≡ j = omega arith in rw (lt-ltb 0 word (omega arith), place, tied j) (by_open (cases_Bool (is_open h j))) where
    holds : hub_connected_at h j ≡ Some g
    holds = is_key_of (hub_connected_at h j) g (last_holds (keyed (hub_connected_at h) g) (length h) j (sym is ∙ e))

    by_open : (is_open h j ≡ true) ⊎ (is_open h j ≡ false) → is_open h j ≡ any_has_key (open_connected h) h g
    by_open (inl o) =
        let key : names_number (open_connected h j) g ≡ true = rw (o, holds) (eq-eqb g g refl) in
        o ∙ sym (any_found (λ k. names_number (open_connected h k) g) (length h) j (is_open_within h j o) key)
    by_open (inr o) = o ∙ sym (none (λ k y.
        let m = open_one k y in
        let le = last_connection h law g k j (connects k m.1) m.0 (connects j holds) in
        ⊎_elim (λ l. both_ways _ (last_none (keyed (hub_connected_at h) g) (length h) k (omega arith) (is_open_within h k m.0))
        (key_is (hub_connected_at h k) g m.1)) (λ l. both_ways (is_open h k) (let same : j ≡ k = omega arith in ap (is_open h) (sym same) ∙ o) m.0)
        (cases_lt j k)))
