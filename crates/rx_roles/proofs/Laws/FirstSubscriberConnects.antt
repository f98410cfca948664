-- A step makes a connection just where its event subscribes to a RefCount hub that has none.
use Rattle.rx_event.proofs.Laws.Common.{◌≡◌, ℕ, ◌+◌, ◌<◌, Bool, true, false, List, [], ◌∷◌, ◌++◌, length, Option, Some, None, refl}
use Rattle.rx_event.proofs.Laws.Common.{sym, ap, ◌∙◌, arith}
use Rattle.rx_event.proofs.Laws.Common.{length-append, ◌&&◌, not, option_map_or}
use Rattle.rx_event.proofs.Laws.Common.{and_parts, false≢true, none-some}
use Rattle.rx_event.proofs.Laws.Common.{Kept, at, is_open, makes_node, hub_subscribed, is_auto_hub, is_connect_of}
use Rattle.rx_event.proofs.Laws.Common.{open_connections}
use Rattle.rx_event.proofs.Laws.Common.{IsConnectDue}
use Rattle.rx_event.proofs.Laws.Common.{places, and_from, shuts, cut}
use Rattle.rx_event.specs.declared.event.Event.{Event}
use Rattle.rx_event.specs.declared.event.Event.TheVariants.{Open, Connect}
use Rattle.rx_event.specs.Events.{is_connect}
use Rattle.rx_event.specs.Canonical.{is_nil}
use Rattle.rx_event.proofs.Laws.Hubs.{at_connect}
use Rattle.rx_event.proofs.Laws.Lists.{first_passes, filter_nonempty}
use Rattle.rx_event.proofs.Laws.Openness.{is_open_within, is_open_cut, open_old}
use Rattle.rx_event.proofs.Laws.Places.{slice_get_last, at-append, at_within}
use Rattle.rx_event.proofs.Laws.Totals.{is_open_new}
use Rattle.rx_event.proofs.Laws.Waits.{closes_none, spares, cut_alone, at_before}
use Rattle.rx_roles.proofs.Laws.NodesAfterStep.{Begun, at_once, connects_first, begun}
use Rattle.rx_roles.proofs.Laws.NodesMade.{IsMaking, law_b, own_hub, ends_none, subscribes_to, second_there, none_second}

closes_none_made : (e : Event) → makes_node e ≡ true → closes_none e ≡ true
closes_none_made (Open place kind) is = refl
closes_none_made (Connect g) is = refl
closes_none_made _ is = absurd (false≢true is)

made_no_hub : (e : Event) → makes_node e ≡ true → is_auto_hub e ≡ false
made_no_hub (Open place kind) is = refl
made_no_hub (Connect g) is = refl
made_no_hub _ is = absurd (false≢true is)

subscriber_connects_none : (e : Event) (g k : ℕ) → hub_subscribed e ≡ Some g → is_connect_of k e ≡ false
subscriber_connects_none (Connect j) g k is = absurd (none-some g is)
subscriber_connects_none _ g k is = refl

nil_is : (xs : List ℕ) → is_nil xs ≡ true → xs ≡ []
nil_is [] is = refl
nil_is (x ∷ xs) is = absurd (false≢true is)

-- a RefCount hub that has no open connection
abbrev pub lacks_connection : List Event → ℕ → Bool
lacks_connection h g = at is_auto_hub h g && is_nil (open_connections h g)

module _ {base : Kept} {h : List Event} {e : Event} {k : List Event} (w : IsMaking base h e k) where
  -- the event closes no connection, and makes none of a hub that it subscribes to
  unconnected_before : (g : ℕ) → open_connections (h ++ e ∷ []) g ≡ [] → open_connections h g ≡ []
  unconnected_before g none = by_list (open_connections h g) refl where
    by_list : (cs : List ℕ) → open_connections h g ≡ cs → cs ≡ []
    by_list [] found = refl
    by_list (c ∷ cs) found = absurd (filter_nonempty (λ n. at (is_connect_of g) (h ++ e ∷ []) n && is_open (h ++ e ∷ []) n) 0 (length (h ++ e ∷ [])) c
        (omega arith) (let l = inside in let m = length-append h (e ∷ []) in omega arith) (and_from _ _ connects alive) none)
      where
        parts : (at (is_connect_of g) h c ≡ true) × (is_open h c ≡ true)
        parts = and_parts _ _ (first_passes (λ n. at (is_connect_of g) h n && is_open h n) (places h) c cs found)

        inside : c < length h
        inside = is_open_within h c parts.1

        connects : at (is_connect_of g) (h ++ e ∷ []) c ≡ true
        connects = at-append (is_connect_of g) h (e ∷ []) c inside ∙ parts.0

        unshut : (b : Bool) → shuts h c e ≡ b → b ≡ false
        unshut false is = refl
        unshut true is = absurd (spares base h e c g (closes_none_made e w.node) (at_connect h g c parts.0) is)

        alive : is_open (h ++ e ∷ []) c ≡ true
        alive = is_open_cut h e c inside ∙ (λ i. parts.1 i && not ((cut_alone h e c g (at_connect h g c parts.0) ∙ unshut (shuts h c e) refl) i))

  unconnected_after : (g : ℕ) → hub_subscribed e ≡ Some g → open_connections h g ≡ [] → open_connections (h ++ e ∷ []) g ≡ []
  unconnected_after g subscribes none = by_list (open_connections (h ++ e ∷ []) g) refl where
    by_list : (cs : List ℕ) → open_connections (h ++ e ∷ []) g ≡ cs → cs ≡ []
    by_list [] found = refl
    by_list (c ∷ cs) found = absurd (filter_nonempty (λ n. at (is_connect_of g) h n && is_open h n) 0 (length h) c (omega arith) (let l = inside in omega arith)
        (and_from _ _ connects (open_old h e c inside parts.1)) none)
      where
        parts : (at (is_connect_of g) (h ++ e ∷ []) c ≡ true) × (is_open (h ++ e ∷ []) c ≡ true)
        parts = and_parts _ _ (first_passes (λ n. at (is_connect_of g) (h ++ e ∷ []) n && is_open (h ++ e ∷ []) n) (places (h ++ e ∷ [])) c cs found)

        connects : at (is_connect_of g) h c ≡ true
        connects = at_before (is_connect_of g) h e c (subscriber_connects_none e g g subscribes) parts.0

        inside : c < length h
        inside = at_within (is_connect_of g) h c connects

  -- just where the event subscribes to a RefCount hub that has none
  pub second_just : at is_connect k (length h + 1) ≡ option_map_or (lacks_connection h) (hub_subscribed e) false
  second_just = by_begun (begun base (law_b w) w.steps w.settled) where
    by_begun : Begun base (h ++ e ∷ []) k → at is_connect k (length h + 1) ≡ option_map_or (lacks_connection h) (hub_subscribed e) false
    by_begun (connects_first {g = g} d whole on) = second_there w d on ∙ sym (rw (own_hub w d) (and_from _ _
        (at_before is_auto_hub h e g (made_no_hub e w.node) d.auto) (ap is_nil (unconnected_before g d.unconnected))))
    by_begun (at_once whole on) = none_second w on ∙ by_hub (hub_subscribed e) refl where
      by_hub : (o : Option ℕ) → hub_subscribed e ≡ o → false ≡ option_map_or (lacks_connection h) o false
      by_hub None is = refl
      by_hub (Some g) is = by_test (lacks_connection h g) refl where
        due_now : lacks_connection h g ≡ true → IsConnectDue (h ++ e ∷ []) g
        due_now lacks =
            let parts = and_parts (at is_auto_hub h g) (is_nil (open_connections h g)) lacks in
            let alive : is_open (h ++ e ∷ []) (length h) ≡ true = is_open_new base h e w.next ∙ w.node in
            record {
              auto = at-append is_auto_hub h (e ∷ []) g (at_within is_auto_hub h g parts.0) ∙ parts.0;
              subscriber = length h;
              subscribes = rw (slice_get_last h e) (subscribes_to e g is);
              subscribed = alive;
              waits = λ t ended. ends_none w (length h) t (cut alive ended);
              unconnected = unconnected_after g is (nil_is (open_connections h g) parts.1);
            }

        by_test : (b : Bool) → lacks_connection h g ≡ b → false ≡ b
        by_test false is = refl
        by_test true is = absurd (whole g (due_now is))
