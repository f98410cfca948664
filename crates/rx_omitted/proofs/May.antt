-- What may come next, without what is left out, and so a lawful history.
use Rattle.rx_event.proofs.Laws.Common.{◌≡◌, ℕ, suc, ◌+◌, ◌<◌, ◌≤◌, Bool, true, false, List, [], ◌∷◌, ◌++◌, length, cond, map}
use Rattle.rx_event.proofs.Laws.Common.{refl, sym, ap, ◌∙◌, subst, arith, filter, not, Kept, length-map}
use Rattle.rx_event.proofs.Laws.Common.{has_source, is_merging, is_until, is_root, is_manual_hub, at, is_within, open_nodes, owed}
use Rattle.rx_event.proofs.Laws.Common.{IsConnectDue, IsInOrderAt, IsHubbed, IsAllowed}
use Rattle.rx_event.proofs.Laws.Common.{IsLawful, MayFollow, forced, allowed, opened_with, event_by, place_by, connected}
use Rattle.rx_event.specs.Events.{is_leaf}
use Rattle.rx_event.specs.Tree.{hubs}
use Rattle.rx_event.specs.Allowed.{IsFree, may_abort, opened, published, accepted, used, removed, leased, returned, emitted, declined, leaf_ended}
use Rattle.rx_event.specs.Allowed.{aborted, projection_failed, root_closed, disconnected, taken}
use Rattle.rx_event.specs.Renumbered.{kind_by}
use Rattle.rx_omitted.specs.Imports.{Event, Open, Connect, Place, Kind, Sub}
use Rattle.rx_omitted.specs.Imports.{Root, Source, Inner, Notifier, Pass}
use Rattle.rx_omitted.specs.Named.{named_in, named_in_place, Stay_all}
use Rattle.rx_omitted.specs.Omitted.{number, what_stays}
use Rattle.rx_omitted.proofs.Omits.{Omits}
use Rattle.rx_event.proofs.Laws.Lawful.{IsLawful-push, IsLawful_empty}
use Rattle.rx_event.proofs.Laws.Places.{slice_get_last}
use Rattle.rx_event.proofs.Laws.ReadAllowed.{leaf_by, sourced_by, abort_by, until_by}
use Rattle.rx_event.proofs.Laws.ReadShown.{root_by}
use Rattle.rx_event.proofs.Laws.Steps.{by_events}
use Rattle.rx_event.proofs.Laws.TreeRead.{merging_by}
use Rattle.rx_omitted.proofs.Numbers.{number-lt, number_stays, length-what_stays}
use Rattle.rx_omitted.proofs.Staying.{what_stays-kept, what_stays-gone, omit_before}
use Rattle.rx_omitted.proofs.Tests.{manual_by}
use Rattle.rx_omitted.proofs.Tree.{open_by, within_by}
use Rattle.rx_omitted.proofs.Fared.{owned_by, out_by, held_by, waiting_by, hub_there, all_hubs, connections_by, all_open}
use Rattle.rx_omitted.proofs.Reached.{visits_by}
use Rattle.rx_omitted.proofs.Kept.{source_opened_by, notifier_opened_by, owed_by}
use Rattle.rx_omitted.proofs.Due.{there, there_at, connect_from, connect_due_from, childless_there, forced_there, settled_there}

few_left : (p : ℕ → Bool) (ns : List ℕ) → length (filter p ns) ≤ length ns
few_left p [] = omega arith
few_left p (n ∷ ns) = by_test (p n) (few_left p ns) where
  by_test : (b : Bool) → length (filter p ns) ≤ length ns → length (cond b (n ∷ filter p ns) (filter p ns)) ≤ suc (length ns)
  by_test true less = omega arith
  by_test false less = omega arith

module _ (base : Kept) (omit : ℕ → Bool) (h : List Event) (a : Omits base omit h) (law : IsLawful base h) where
  pub few_open : length (open_nodes (what_stays omit h)) ≤ length (open_nodes h)
  few_open =
      let less = few_left (λ n. not (omit n)) (open_nodes h) in
      let same : length (open_nodes (what_stays omit h)) ≡ length (filter (λ n. not (omit n)) (open_nodes h)) =
      ap length (all_open base omit h a) ∙ length-map (filter (λ n. not (omit n)) (open_nodes h)) (number omit) in omega arith

  pub many_hubs : length (hubs (what_stays omit h)) ≡ length (hubs h)
  many_hubs = ap length (all_hubs base omit h a) ∙ length-map (hubs h) (number omit)

  is_there : (t : Event → Bool) → ((r : ℕ → ℕ) (e : Event) → t (event_by r e) ≡ t e) → (n : ℕ) → omit n ≡ false →
      at t (what_stays omit h) (number omit n) ≡ at t h n
  is_there = there_at base omit h a law

  some_owed : (f : ℕ) → omit f ≡ false → 0 < owed base h f → 0 < owed base (what_stays omit h) (number omit f)
  some_owed f up some = rw (owed_by base omit h a law f up) some

  free_there : (place : Place) → Stay_all omit (named_in_place place) → IsFree base h place → IsFree base (what_stays omit h) (place_by (number omit) place)
  free_there Root all free = tt
  free_there (Source p) all free = (
    open_by base omit h a p all.0 ∙ free.0,
    is_there has_source sourced_by p all.0 ∙ free.1,
    source_opened_by base omit h a law p all.0 ∙ free.2,
  )
  free_there (Inner p) all free = (open_by base omit h a p all.0 ∙ free.0, is_there is_merging merging_by p all.0 ∙ free.1, some_owed p all.0 free.2)
  free_there (Notifier p) all free = (
    open_by base omit h a p all.0 ∙ free.0,
    is_there is_until until_by p all.0 ∙ free.1,
    notifier_opened_by base omit h a law p all.0 ∙ free.2,
  )

  -- no item goes round in a circle
  pub in_order_there : (g p : ℕ) → omit g ≡ false → omit p ≡ false → IsInOrderAt h g p → IsInOrderAt (what_stays omit h) (number omit g) (number omit p)
  in_order_there g p up stay ordered n k inside connects =
      let w = connect_from base omit h a n k connects in
      let here : is_within h w.0 p ≡ true =
      sym (within_by base omit h a w.0 p w.2 stay) ∙ ap (λ m. is_within (what_stays omit h) m (number omit p)) w.4 ∙ inside in
      let less : g < w.1 = ordered w.0 w.1 here w.6 in
      let grows : number omit g < number omit w.1 = number-lt omit g w.1 up less in
      let same : number omit w.1 ≡ k = w.5 in omega arith

  hubbed_there : (place : Place) (kind : Kind) → Stay_all omit (named_in (Open place kind)) → IsHubbed h place kind →
      IsHubbed (what_stays omit h) (place_by (number omit) place) (kind_by (number omit) kind)
  hubbed_there Root (Sub g) all hubbed = (hub_there base omit h a g all.0 ∙ hubbed.0, tt)
  hubbed_there (Source p) (Sub g) all hubbed = (hub_there base omit h a g all.1.0 ∙ hubbed.0, in_order_there g p all.1.0 all.0 hubbed.1)
  hubbed_there (Inner p) (Sub g) all hubbed = (hub_there base omit h a g all.1.0 ∙ hubbed.0, in_order_there g p all.1.0 all.0 hubbed.1)
  hubbed_there (Notifier p) (Sub g) all hubbed = (hub_there base omit h a g all.1.0 ∙ hubbed.0, in_order_there g p all.1.0 all.0 hubbed.1)
  hubbed_there place _ all hubbed = tt

  pub place_stays : (place : Place) (kind : Kind) → Stay_all omit (named_in (Open place kind)) → Stay_all omit (named_in_place place)
  place_stays Root kind all = tt
  place_stays (Source p) kind all = (all.0, tt)
  place_stays (Inner p) kind all = (all.0, tt)
  place_stays (Notifier p) kind all = (all.0, tt)

  -- what callers may do they may do there
  pub allowed_there : {e : Event} → Omits base omit (h ++ e ∷ []) → omit (length h) ≡ false → Stay_all omit (named_in e) → IsAllowed base h e →
      IsAllowed base (what_stays omit h) (event_by (number omit) e)
  allowed_there on stay all (opened {place = place} {kind = kind} free hubbed room more) =
      opened (free_there place (place_stays place kind all) free) (hubbed_there place kind all hubbed) (let less = few_open in omega arith)
      (λ g x. let w = connect_due_from base omit (h ++ Open place kind ∷ []) on g
      (subst (λ (k : List Event). IsConnectDue k g) (sym (what_stays-kept omit h (Open place kind) stay)) x) in
      let wide = more w.0 w.1 in let less = few_open in omega arith)
  allowed_there on stay all (published room) = published (let same = many_hubs in omega arith)
  allowed_there on stay all (connected {g = g} manual none room) = connected (is_there is_manual_hub manual_by g all.0 ∙ manual)
      (connections_by base omit h a g all.0 ∙ ap (map (number omit)) none) (let less = few_open in omega arith)
  allowed_there on stay all (accepted {n = n} o) = accepted (open_by base omit h a n all.0 ∙ o)
  allowed_there on stay all (used {r = q} held) = used (held_by base omit h a q all.0 ∙ held)
  allowed_there on stay all (removed {r = q} owned) = removed (owned_by base omit h a q all.0 ∙ owned)
  allowed_there on stay all (leased {r = q} owned) = leased (owned_by base omit h a q all.0 ∙ owned)
  allowed_there on stay all (returned {l = l} out) = returned (out_by base omit h a l all.0 ∙ out)
  allowed_there on stay all (emitted {l = l} o leaf room) = emitted (open_by base omit h a l all.0 ∙ o) (is_there is_leaf leaf_by l all.0 ∙ leaf)
      (let same = visits_by base omit h a l all.0 in omega arith)
  allowed_there on stay all (declined {f = f} o is some) =
      declined (open_by base omit h a f all.0 ∙ o) (is_there is_merging merging_by f all.0 ∙ is) (some_owed f all.0 some)
  allowed_there on stay all (leaf_ended {l = l} o leaf) = leaf_ended (open_by base omit h a l all.0 ∙ o) (is_there is_leaf leaf_by l all.0 ∙ leaf)
  allowed_there on stay all (aborted {n = n} o is none) = aborted (open_by base omit h a n all.0 ∙ o) (is_there may_abort abort_by n all.0 ∙ is)
      (childless_there base omit h a law n all.0 none)
  allowed_there on stay all (projection_failed {f = f} o is some) =
      projection_failed (open_by base omit h a f all.0 ∙ o) (is_there is_merging merging_by f all.0 ∙ is) (some_owed f all.0 some)
  allowed_there on stay all (root_closed {n = n} o root) = root_closed (open_by base omit h a n all.0 ∙ o) (is_there is_root root_by n all.0 ∙ root)
  allowed_there on stay all (disconnected {c = n} {g = g} o at_n manual) = disconnected (open_by base omit h a n all.0 ∙ o)
      (there base omit h a n (Connect g) all.0 at_n) (is_there is_manual_hub manual_by g (a.apart n (Connect g) at_n all.0).0 ∙ manual)
  allowed_there on stay all (taken {r = q} waits) = taken (waiting_by base omit h a q all.0 ∙ waits)

  pub follows_there : {e : Event} → Omits base omit (h ++ e ∷ []) → omit (length h) ≡ false → Stay_all omit (named_in e) → MayFollow base h e →
      MayFollow base (what_stays omit h) (event_by (number omit) e)
  follows_there on stay all (forced f) = forced (forced_there base omit h a law all f)
  follows_there on stay all (allowed settled may) = allowed (settled_there base omit h a law settled) (allowed_there on stay all may)
  follows_there on stay all (opened_with {n = n} {tag = tag} {place = place} at_n last o) =
      opened_with (there base omit h a n (Open place Pass) all.0 at_n)
      (let long = length-what_stays omit h in let next = number_stays omit n all.0 in let same : n + 1 ≡ suc n = omega arith in
      let e : number omit (length h) ≡ number omit (suc n) = ap (number omit) (last ∙ same) in omega arith)
      (open_by base omit h a n all.0 ∙ o)

-- what stays of a lawful history is one
pub lawful_what_stays : (base : Kept) (omit : ℕ → Bool) (h : List Event) → IsLawful base h → Omits base omit h → IsLawful base (what_stays omit h)
lawful_what_stays base omit = by_events base (λ h. Omits base omit h → IsLawful base (what_stays omit h))
    (λ started a. subst (λ (k : List Event). IsLawful base k) (sym a.front) (IsLawful_empty base started)) step
  where
    step : (h : List Event) (e : Event) → IsLawful base h → MayFollow base h e → (Omits base omit h → IsLawful base (what_stays omit h)) →
        Omits base omit (h ++ e ∷ []) → IsLawful base (what_stays omit (h ++ e ∷ []))
    step h e law next before on = by_test (omit (length h)) refl where
      a : Omits base omit h
      a = omit_before base omit h (e ∷ []) on

      by_test : (b : Bool) → omit (length h) ≡ b → IsLawful base (what_stays omit (h ++ e ∷ []))
      by_test true gone = subst (λ (k : List Event). IsLawful base k) (sym (what_stays-gone omit h e gone)) (before a)
      by_test false stay = subst (λ (k : List Event). IsLawful base k) (sym (what_stays-kept omit h e stay))
          (IsLawful-push base (what_stays omit h) (event_by (number omit) e) (before a)
          (follows_there base omit h a law on stay (on.apart (length h) e (slice_get_last h e) stay) next))
