-- What is kept of the hubs, after one more event.
use Rattle.rx_audit.proofs.Common.{◌≡◌, ℕ, zero, suc, ◌+◌, ◌<◌, ◌≤◌, Bool, true, false, List, [], ◌∷◌, ◌++◌, length, Option, Some, None, cond, refl, ap, ◌∙◌}
use Rattle.rx_audit.proofs.Common.{arith, inl, inr, ◌⊎◌, slice_get, filter, length-append, range_with_len, option_map_or, option_and_then, option_or, none-some}
use Rattle.rx_audit.proofs.Common.{Terminal, nothing_kept, Event, Open, Connect, End, makes_hub, hub_connected, hub_subscribed, at, hubs, connecting}
use Rattle.rx_audit.proofs.Common.{IsConnectDue, IsSettled, IsLawful, MayFollow, slice_get-append, slice_get_last, at-append, is_open_within, may_end, Hubs}
use Rattle.rx_audit.proofs.Common.{table_with, AreHubs, hub_connected_at, hub_ended, hub_ended_at}
use Rattle.std.proofs.lemmas.List.Elements.{filter-append}
use Rattle.rx_event.proofs.Laws.Lawful.{ended_after}
use Rattle.rx_event.proofs.Laws.Calm.{opened_settled}
use Rattle.rx_event.proofs.Laws.Sums.{places-push}
use Rattle.rx_event.proofs.Laws.Connections.{waited_or_now}
use Rattle.rx_audit.proofs.Latest.{latest_with, length-table_with, one_longer}
use Rattle.rx_event.proofs.Laws.OpenAfter.{filter_below}
use Rattle.std.proofs.Common.{rules}

-- connections ---------------------------------------------------------------------------------------

pub connected_same : (h : List Event) (e : Event) (k : ℕ) → k < length h → hub_connected_at (h ++ e ∷ []) k ≡ hub_connected_at h k
connected_same h e k l = ap (option_and_then hub_connected) (slice_get-append h (e ∷ []) k l)

connected_last : (h : List Event) (e : Event) → hub_connected_at (h ++ e ∷ []) (length h) ≡ hub_connected e
connected_last h e = ap (option_and_then hub_connected) (slice_get_last h e)

-- ends of connections -------------------------------------------------------------------------------

-- what an event ends that may stand there
ended_same_event : (h : List Event) (e x : Event) → ((c : ℕ) (t : Terminal) → x ≡ End c t → c < length h) → hub_ended (h ++ e ∷ []) x ≡ hub_ended h x
ended_same_event h e x2 older = search (rules, connected_same)

ended_same : (h : List Event) (e : Event) → IsLawful nothing_kept h → (k : ℕ) → k < length h → hub_ended_at (h ++ e ∷ []) k ≡ hub_ended_at h k
ended_same h e law k l = ap (option_and_then (hub_ended (h ++ e ∷ []))) (slice_get-append h (e ∷ []) k l) ∙ by_event (slice_get h k) refl where
  by_event : (o : Option Event) → slice_get h k ≡ o → option_and_then (hub_ended (h ++ e ∷ [])) o ≡ option_and_then (hub_ended h) o
  by_event None at_k = refl
  by_event (Some x) at_k = ended_same_event h e x (λ c t is. let w = ended_after nothing_kept h law k c t (at_k ∙ ap (λ y. Some y) is) in omega arith)

ended_last : (h : List Event) (e : Event) → MayFollow nothing_kept h e → hub_ended_at (h ++ e ∷ []) (length h) ≡ hub_ended h e
ended_last h e next = search (rules, option_and_then, slice_get_last, ended_same_event, is_open_within, may_end)

-- how many --------------------------------------------------------------------------------------------

pub hub_count-push : (h : List Event) (e : Event) → length (hubs (h ++ e ∷ [])) ≡ length (hubs h) + cond (makes_hub e) 1 0
hub_count-push h e = search (rules, filter, filter_below, length, at-append, option_map_or, slice_get_last, cond, places-push, filter-append, length-append)

-- all together ------------------------------------------------------------------------------------------

pub hubs_more : {h : List Event} {e : Event} {size : ℕ} {old : Hubs} (new : Hubs) → IsLawful nothing_kept h → MayFollow nothing_kept h e → AreHubs h size old
    → new.connection.items ≡ table_with old.connection.items (hub_connected e) (suc (length h))
    → new.ended.items ≡ table_with old.ended.items (hub_ended h e) (suc (length h))
    → new.waiting ≡ option_or (hub_subscribed e) old.waiting → new.count ≡ old.count + cond (makes_hub e) 1 0 → AreHubs (h ++ e ∷ []) size new
hubs_more {h} {e} {old} new law next w connection ended waiting count = record {
  connection = rw (connection, one_longer h e) (latest_with old.connection.items (hub_connected_at h) (hub_connected_at (h ++ e ∷ []))
      (length h) (hub_connected e) w.connection (connected_same h e) (connected_last h e));
  connection_size = ap length connection ∙ length-table_with old.connection.items (hub_connected e) (suc (length h)) ∙ w.connection_size;
  ended = rw (ended, one_longer h e)
      (latest_with old.ended.items (hub_ended_at h) (hub_ended_at (h ++ e ∷ [])) (length h) (hub_ended h e) w.ended (ended_same h e law) (ended_last h e next));
  ended_size = ap length ended ∙ length-table_with old.ended.items (hub_ended h e) (suc (length h)) ∙ w.ended_size;
  waiting = λ g d. waiting ∙ by_reason g (waited_or_now nothing_kept h e law next g d);
  count = let c = hub_count-push h e in let b = w.count in omega arith;
} where
  by_old : (g : ℕ) → IsConnectDue h g → (o : Option ℕ) → hub_subscribed e ≡ o → option_or o old.waiting ≡ Some g
  by_old g d None is = w.waiting g d
  by_old g d (Some k) is = absurd ((settled_before e next is).none (Connect g) (connecting d)) where
    settled_before : (x : Event) → MayFollow nothing_kept h x → hub_subscribed x ≡ Some k → IsSettled nothing_kept h
    settled_before (Open place kind) may named = opened_settled nothing_kept may
    settled_before _ may named = absurd (none-some k named)

  by_reason : (g : ℕ) → IsConnectDue h g ⊎ (hub_subscribed e ≡ Some g) → option_or (hub_subscribed e) old.waiting ≡ Some g
  by_reason g (inl d) = by_old g d (hub_subscribed e) refl
  by_reason g (inr now) = ap (λ o. option_or o old.waiting) now

pub hub_count_few : (h : List Event) → length (hubs h) ≤ length h
hub_count_few h = few (at makes_hub h) 0 (length h) where
  few : (p : ℕ → Bool) (s n : ℕ) → length (filter p (range_with_len s n)) ≤ n
  few p s zero = omega arith
  few p s (suc n) = by_test (p s) (few p (s + 1) n) where
    by_test : (b : Bool) → length (filter p (range_with_len (s + 1) n)) ≤ n
        → length (cond b (s ∷ filter p (range_with_len (s + 1) n)) (filter p (range_with_len (s + 1) n))) ≤ suc n
    by_test true l = omega arith
    by_test false l = omega arith

pub one_at_most : (k : ℕ) (b : Bool) → k ≡ cond b 1 0 → k ≤ 1
one_at_most k x1 is = search rules
