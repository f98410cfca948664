-- The tests that compute decide what is due, what is forced, and what is settled.
use Rattle.rx_audit.proofs.Common.{◌≡◌, ℕ, true, false, List, [], length, Some, sym, ◌∙◌, cond, slice_get, not, ◌&&◌}
use Rattle.rx_audit.proofs.Common.{option_map_or, and_parts, both_ways, false≢true, none-some, nothing_kept, Event, Connect, Close, is_subscriber_of}
use Rattle.rx_audit.proofs.Common.{is_connect_of, is_auto_hub, at, places, is_open, open_subscribers, IsConnectDue}
use Rattle.rx_audit.proofs.Common.{IsDue, left, at_within, names_number, hub_subscribed_at, hub_connected_at, is_disconnected, open_subscribed, open_connected}
use Rattle.rx_audit.proofs.Common.{open_waiting, any_has_key, connect_due, any_connect_due, close_due, and_from, not-true, not_from_false, false_from_ne_true}
use Rattle.rx_audit.specs.Rules.{has_lost_subscribers}
use Rattle.rx_audit.proofs.KeysInRange.{any_found}
use Rattle.rx_audit.proofs.TestsDecideRules.{find_number, subscriber_at, at_subscriber, connection_at, at_connection, cut_ended, is_cut_of}
use Rattle.rx_audit.proofs.TestsDecideRules.{filter_none, none_filtered, subscribed_key, connected_key}
use Rattle.rx_audit.proofs.Latest.{is_key_of, key_is}
use Rattle.std.proofs.Common.{rules}

-- connections ------------------------------------------------------------------------------------------

pub waiting_is : (h : List Event) (s g : ℕ) → open_waiting h s ≡ Some g
    → (is_disconnected h s ≡ false) × (is_open h s ≡ true) × (hub_subscribed_at h s ≡ Some g)
waiting_is h s g e = search (rules, cond, none-some)

pub connected_is : (h : List Event) (k g : ℕ) → open_connected h k ≡ Some g → (is_open h k ≡ true) × (hub_connected_at h k ≡ Some g)
connected_is h k g e = search (rules, cond, none-some)

is_waiting : (h : List Event) (s g : ℕ) → is_disconnected h s ≡ false → is_open h s ≡ true → hub_subscribed_at h s ≡ Some g → open_waiting h s ≡ Some g
is_waiting h s g c o e = rw (c, o) e

pub connect_is_due : (h : List Event) (g : ℕ) → connect_due h g ≡ true → IsConnectDue h g
unfolding connect_due
connect_is_due h g e =
    let w = and_parts (at is_auto_hub h g && any_has_key (open_waiting h) h g) (not (any_has_key (open_connected h) h g)) e in
    let v = and_parts (at is_auto_hub h g) (any_has_key (open_waiting h) h g) w.0 in
    let s = find_number (λ k. names_number (open_waiting h k) g) (length h) v.1 in
    let q = waiting_is h s.number g (is_key_of (open_waiting h s.number) g s.holds) in
    record {
      auto = v.0;
      subscriber = s.number;
      subscribes = subscriber_at h s.number g q.2;
      subscribed = q.1;
      waits = λ t d. both_ways (is_disconnected h s.number) q.0 (is_cut_of h s.number t d);
      unconnected = filter_none (λ n. at (is_connect_of g) h n && is_open h n) (places h)
          (sym (connected_key h g) ∙ not-true (any_has_key (open_connected h) h g) w.1);
    }

pub connect_due_of : (h : List Event) (g : ℕ) → IsConnectDue h g → connect_due h g ≡ true
unfolding connect_due
connect_due_of h g d =
    let s = d.subscriber in
    let uncut : is_disconnected h s ≡ false = false_from_ne_true (is_disconnected h s) (λ c. let w = cut_ended h s c in d.waits w.0 w.1) in
    let waits = is_waiting h s g uncut d.subscribed (at_subscriber h s g d.subscribes) in
    let here : any_has_key (open_waiting h) h g ≡ true =
    any_found (λ k. names_number (open_waiting h k) g) (length h) s (at_within (is_subscriber_of g) h s d.subscribes) (key_is (open_waiting h s) g waits) in
    let none = none_filtered (λ n. at (is_connect_of g) h n && is_open h n) (places h) d.unconnected in
    and_from (at is_auto_hub h g && any_has_key (open_waiting h) h g) (not (any_has_key (open_connected h) h g))
    (and_from (at is_auto_hub h g) (any_has_key (open_waiting h) h g) d.auto here)
    (not_from_false (any_has_key (open_connected h) h g) (connected_key h g ∙ none))

pub some_connect_due : (h : List Event) → any_connect_due h ≡ true → (g : ℕ) × IsConnectDue h g
unfolding any_connect_due
some_connect_due h e = let f = find_number (connect_due h) (length h) e in (f.number, connect_is_due h f.number f.holds)

pub any_connect_due_of : (h : List Event) (g : ℕ) → IsConnectDue h g → any_connect_due h ≡ true
unfolding any_connect_due
any_connect_due_of h g d = any_found (connect_due h) (length h) g (at_within is_auto_hub h g d.auto) (connect_due_of h g d)

pub no_connect_due : (h : List Event) → any_connect_due h ≡ false → (g : ℕ) → ¬ IsConnectDue h g
no_connect_due h none g d = both_ways (any_connect_due h) none (any_connect_due_of h g d)

-- what the rules ask, as facts -------------------------------------------------------------------------

-- a hub has lost its subscribers
is_left_of : (h : List Event) (g : ℕ) → at is_auto_hub h g ≡ true → open_subscribers h g ≡ [] → has_lost_subscribers h g ≡ true
is_left_of h g a none = search (rules, and_from, not, not_from_false, subscribed_key, none_filtered)

leaves : (h : List Event) (c g : ℕ) → is_open h c ≡ true → slice_get h c ≡ Some (Connect g) → has_lost_subscribers h g ≡ true → IsDue nothing_kept h (Close c)
leaves h c g o at_c l =
    let w = and_parts (at is_auto_hub h g) (not (any_has_key (open_subscribed h) h g)) l in
    left o at_c w.0 (filter_none (λ n. at (is_subscriber_of g) h n && is_open h n)
    (places h) (sym (subscribed_key h g) ∙ not-true (any_has_key (open_subscribed h) h g) w.1))

leaves_at : (h : List Event) (c : ℕ) → is_open h c ≡ true → option_map_or (has_lost_subscribers h) (hub_connected_at h c) false ≡ true
    → IsDue nothing_kept h (Close c)
leaves_at h c o e = search (rules, option_map_or, false≢true, leaves, connection_at)

pub close_is_due : (h : List Event) (c : ℕ) → close_due h c ≡ true → IsDue nothing_kept h (Close c)
unfolding close_due
close_is_due h c e = search (rules, and_parts, option_map_or, leaves_at)

pub close_due_of : (h : List Event) (c : ℕ) → IsDue nothing_kept h (Close c) → close_due h c ≡ true
unfolding close_due
close_due_of h c (left {g = g} o at_c a none) = search (rules, and_from, option_map_or, at_connection, is_left_of)

pub unconnected : (h : List Event) → ((g : ℕ) → ¬ IsConnectDue h g) → not (any_connect_due h) ≡ true
unconnected h none = not_from_false (any_connect_due h) (false_from_ne_true (any_connect_due h) (λ e. let w = some_connect_due h e in none w.0 w.1))
