-- What is known of a lawful stored history, in the words that its base needs.
use Rattle.rx_event.proofs.Laws.Common.{subst, ◌≡◌, ℕ, suc, ◌<◌, ◌≤◌, Bool, true, false, List, [], ◌∷◌, ◌++◌, length, cond, Option, Some, None, refl, sym, ap}
use Rattle.rx_event.proofs.Laws.Common.{◌∙◌, arith, inl, inr, ◌⊎◌, slice_get, length-append, take, drop, not, ◌&&◌, ◌||◌, list_any, option_and_then}
use Rattle.rx_event.proofs.Laws.Common.{option_map_or, cases_order, and_parts, both_ways, slice_get_within, sum_by-cons, Place, Leaf, Sub, Root, Source, Inner}
use Rattle.rx_event.proofs.Laws.Common.{Notifier, Event, Connect, Open, Accept, makes_hub, node_of_accept, is_remove_of, is_open, IsInOrderAt, is_owned}
use Rattle.rx_event.proofs.Laws.Common.{accepted_by, Kept, resource_kept, length-take-le, IsLawful, Kind, IsInOrder, IsHubbed}
use Rattle.std.proofs.Common.{count_by, rules}
use Rattle.rx_event.proofs.Laws.Parents.{ancestors-append, is_within-le}
use Rattle.rx_event.proofs.Laws.Places.{slice_get-append}
use Rattle.rx_event.proofs.Laws.SoundForm.{StandsWell, SubscribesWell, Sound}
use Rattle.rx_event.proofs.Laws.Searches.{list_any_push}
use Rattle.rx_event.proofs.Laws.Resources.{node_of, is_owned_past, node_of-lt}
use Rattle.rx_event.proofs.Laws.Openness.{open_old}
use Rattle.std.proofs.lemmas.List.{take-append-drop}
use Rattle.rx_event.proofs.Laws.Stands.{at_older, source_stands, inner_stands, notifier_stands}
use Rattle.rx_event.proofs.Laws.Steps.{by_events, named_below}
use Rattle.rx_event.proofs.Laws.Lawful.{in_base, since_base, FoundAt, found_at, shown_within}
use Rattle.rx_event.proofs.Laws.Hubs.{may_subscribe}
use Rattle.rx_event.proofs.Laws.LetGo.{connected_hub}
use Rattle.rx_event.proofs.Laws.Switches.{one_inner}

pub count_none : {X : Type 0} (p : X → Bool) (xs : List X) → ((i : ℕ) (x : X) → slice_get xs i ≡ Some x → p x ≡ false) → count_by p xs ≡ 0
count_none p [] none = refl
count_none {X = X} p (x ∷ xs) none =
    let rest = count_none p xs (λ i y at_i. none (suc i) y at_i) in
    let whole = sum_by-cons (λ (y : X). cond (p y) 1 0) x xs in
    let first : cond {A = ℕ} (p x) 1 0 ≡ 0 = ap (λ c. cond {A = ℕ} c 1 0) (none 0 x refl) in omega arith

order_over : (h t : List Event) (g p : ℕ) → p < length h → IsInOrderAt h g p → IsInOrderAt (h ++ t) g p
order_over h t g p l ordered a k within connects = search (rules, list_any, ancestors-append, is_within-le, slice_get-append)

pub order_older : (h : List Event) (n g p : ℕ) → n ≤ length h → p < n → IsInOrderAt (take n h) g p → IsInOrderAt h g p
order_older h n g p l less ordered = subst (λ (k : List Event). IsInOrderAt k g p) (take-append-drop n h)
    (order_over (take n h) (drop n h) g p (let s = length-take-le n h l in omega arith) ordered)

pub hubbed_before : (b : Kept) (h : List Event) → IsLawful b h → (n : ℕ) (place : Place) (kind : Kind) → slice_get h n ≡ Some (Open place kind) →
    IsHubbed (take n h) place kind
hubbed_before b h law n place kind at_n = by_case (found_at b h law n (Open place kind) at_n) where
  by_case : FoundAt b h n (Open place kind) → IsHubbed (take n h) place kind
  by_case (in_base found same) = subst (λ k. IsHubbed k place kind) (sym same) (law.started.hubbed n place kind found)
  by_case (since_base next) = may_subscribe b next

-- resources ---------------------------------------------------------------------------------------

-- its node is open
abbrev pub node_open : List Event → List Event → ℕ → Bool
node_open k h r = option_map_or (is_open k) (node_of h r) false

pub owned-push : (b : Kept) (h : List Event) (e : Event) → IsLawful b h → (r : ℕ) → r < length h →
    is_owned (h ++ e ∷ []) r ≡ (is_owned h r && (node_open (h ++ e ∷ []) h r && not (is_remove_of r e)))
unfolding is_owned
owned-push b h e law r l = (λ i. option_map_or (is_open (h ++ e ∷ [])) (option_and_then node_of_accept (slice_get-append h (e ∷ []) r l i)) false &&
    not (list_any_push (is_remove_of r) h e i)) ∙ by_node (node_of h r) refl
  where
    shape : (o n s c : Bool) → (n ≡ true → o ≡ true) → (n && not (s || c)) ≡ ((o && not s) && (n && not c))
    shape o n s c up = grind arith

    by_node : (o : Option ℕ) → node_of h r ≡ o → (option_map_or (is_open (h ++ e ∷ [])) o false && not (list_any (is_remove_of r) h || is_remove_of r e)) ≡
        ((option_map_or (is_open h) o false && not (list_any (is_remove_of r) h)) && (option_map_or (is_open (h ++ e ∷ [])) o false && not (is_remove_of r e)))
    by_node None at_r = refl
    by_node (Some n) at_r = shape (is_open h n) (is_open (h ++ e ∷ []) n) (list_any (is_remove_of r) h) (is_remove_of r e)
        (open_old h e n (let s = node_of-lt b h law r n at_r in omega arith))

-- an owned resource reads as what accepted it
pub reads_owned : (b : Kept) (h : List Event) → IsLawful b h → (r : ℕ) → is_owned h r ≡ true → accepted_by b h r ≡ slice_get h r
reads_owned b = by_events b (λ h. (r : ℕ) → is_owned h r ≡ true → accepted_by b h r ≡ slice_get h r) (λ started. started.reads_owned)
    (λ h e law next before r held. after h e law before r held (cases_order r (length h))) where
      after : (h : List Event) (e : Event) → IsLawful b h → ((r : ℕ) → is_owned h r ≡ true → accepted_by b h r ≡ slice_get h r) → (r : ℕ) → is_owned
          (h ++ e ∷ []) r ≡ true → (r ≡ length h) ⊎ ((r < length h) ⊎ (length h < r)) → accepted_by b (h ++ e ∷ []) r ≡ slice_get (h ++ e ∷ []) r
      after h e law before r held (inl last) = ap (λ k. option_map_or (λ x. Some (Accept x.node x.tag)) k (slice_get (h ++ e ∷ []) r))
          (law.started.unnumbered r (let w = shown_within b h law in omega arith))
      after h e law before r held (inr (inl l)) =
          let old : is_owned h r ≡ true = (and_parts (is_owned h r) _ (sym (owned-push b h e law r l) ∙ held)).0 in
          ap (λ o. option_map_or (λ x. Some (Accept x.node x.tag)) (resource_kept b r) o) (slice_get-append h (e ∷ []) r l) ∙
          before r old ∙ sym (slice_get-append h (e ∷ []) r l)
      after h e law before r held (inr (inr l)) = absurd (both_ways _ (is_owned_past (h ++ e ∷ []) r (omega (arith, length-append h (e ∷ [])))) held)

-- all of it -------------------------------------------------------------------------------------------

stands_of : (b : Kept) (h : List Event) → IsLawful b h → (n : ℕ) (e : Event) → slice_get h n ≡ Some e → StandsWell h e
stands_of b h law n (Open (Source p) kind) at_n = source_stands b h law n p kind at_n
stands_of b h law n (Open (Inner p) kind) at_n = inner_stands b h law n p kind at_n
stands_of b h law n (Open (Notifier p) kind) at_n = notifier_stands b h law n p kind at_n
stands_of b h law n (Connect g) at_n = connected_hub b h law g n at_n
stands_of b h law n _ at_n = tt

subscribes_of : (b : Kept) (h : List Event) → IsLawful b h → (n : ℕ) (e : Event) → slice_get h n ≡ Some e → SubscribesWell h e
subscribes_of b h law n (Open place (Sub g)) at_n =
    let front = hubbed_before b h law n place (Sub g) at_n in
    (at_older makes_hub h n g (slice_get_within h n _ at_n) front.0, in_order place at_n front.1)
  where
    in_order : (place : Place) → slice_get h n ≡ Some (Open place (Sub g)) → IsInOrder (take n h) g place → IsInOrder h g place
    in_order Root found order = tt
    in_order (Source p) found order = order_older h n g p (let l = slice_get_within h n _ found in omega arith) (named_below b h law n p _ found refl) order
    in_order (Inner p) found order = order_older h n g p (let l = slice_get_within h n _ found in omega arith) (named_below b h law n p _ found refl) order
    in_order (Notifier p) found order = order_older h n g p (let l = slice_get_within h n _ found in omega arith) (named_below b h law n p _ found refl) order
subscribes_of b h law n (Open place Leaf) at_n = tt
subscribes_of b h law n _ at_n = tt

pub sound_of : (b : Kept) (h : List Event) → IsLawful b h → Sound b h
sound_of b h law = search (rules, named_below, stands_of, subscribes_of, one_inner, reads_owned)
