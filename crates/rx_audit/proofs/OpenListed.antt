-- Which subscribers are on the lists of their hubs after one more event.
use Rattle.rx_audit.proofs.Common.{◌≡◌, ℕ, ◌<◌, Bool, true, false, List, [], ◌∷◌, ◌++◌, length, sym, ap, ◌∙◌, arith, inl, inr, ◌⊎◌, get_or, option_map_or}
use Rattle.rx_audit.proofs.Common.{cases_Bool, both_ways, false≢true, nothing_kept, Event, is_subscriber_of, at, is_open, same_Some, MayFollow, at-append}
use Rattle.rx_audit.proofs.Common.{at_within, slice_get_last, Subscribers, AreClosed, AreOpenListed, AreLetGo, stays_open, ⊎_elim, cases_eq, ◌&&◌, not, and_true}
use Rattle.rx_audit.proofs.Common.{false_from_ne_true, refl}
use Rattle.rx_event.specs.Events.{is_root}
use Rattle.rx_audit.specs.HubTables.{AreNestedListed}
use Rattle.rx_event.proofs.Laws.Hubs.{may_subscribe, subscriber_found}
use Rattle.rx_event.proofs.Laws.Totals.{is_open_new}
use Rattle.rx_audit.proofs.StaysOpen.{is_open_older, stays_closed}
use Rattle.rx_audit.proofs.Latest.{one_longer}
use Rattle.std.proofs.Common.{rules}

subscriber_opens : (g : ℕ) (e : Event) → is_subscriber_of g e ≡ true → (h : List Event) → MayFollow nothing_kept h e → is_open (h ++ e ∷ []) (length h) ≡ true
subscriber_opens g x1 is h next = search (rules, is_open_new, false≢true)

-- the hub of a new subscriber is older
pub hub_older : (h : List Event) (e : Event) (g : ℕ) → MayFollow nothing_kept h e → is_subscriber_of g e ≡ true → g < length h
hub_older h e g next is = search (rules, subscriber_found, same_Some, may_subscribe, at_within)

-- a test of nodes: the subscribers that are open and pass it have a mark, and no others
abbrev pub AreListed : (List Event → ℕ → Bool) → List Event → Subscribers → Type 0
AreListed t h s = (g k : ℕ) → at (is_subscriber_of g) h k ≡ true → get_or s.listed.items k false ≡ (t h k && is_open h k)

-- where the marks of the closed nodes are taken away first, and a new subscriber that passes the test gets one then
pub listed_after : (t : List Event → ℕ → Bool) {h : List Event} {e : Event} (old new : Subscribers) {marks : List Bool} {closed : List ℕ}
    → ((k : ℕ) → k < length h → t (h ++ e ∷ []) k ≡ t h k) → MayFollow nothing_kept h e
    → AreListed t h old → AreClosed h e closed → AreLetGo old.listed.items marks closed (length closed)
    → ((k : ℕ) → k < length h → get_or new.listed.items k false ≡ get_or marks k false)
    → ((g : ℕ) → is_subscriber_of g e ≡ true → get_or new.listed.items (length h) false ≡ t (h ++ e ∷ []) (length h)) → AreListed t (h ++ e ∷ []) new
listed_after t {h} {e} old new {marks} stays next listed closing let_go others last g k subscribes = by_place (cases_eq k (length h)) where
  passing : (get_or old.listed.items k false ≡ is_open h k) → get_or marks k false ≡ stays_open h e k
  passing was = ⊎_elim
      (λ y. ⊎_elim (λ s. y ∙ sym s) (λ s. let m = closing.noted k (sym was ∙ let_go.kept k y) s in
      absurd (both_ways (get_or marks k false) (ap (λ n. get_or marks n false) (sym m.is) ∙ let_go.gone m.at m.within) y)) (cases_Bool (stays_open h e k)))
      (λ z. ⊎_elim (λ o. let m = let_go.noted k (was ∙ o) z in z ∙ sym (ap (stays_open h e) (sym m.is) ∙ closing.gone m.at m.within))
      (λ o. z ∙ sym (stays_closed h e k o)) (cases_Bool (is_open h k))) (cases_Bool (get_or marks k false))

  older : (b : Bool) → get_or old.listed.items k false ≡ (b && is_open h k) → get_or marks k false ≡ (b && stays_open h e k)
  older true was = passing was
  older false was = false_from_ne_true _ (λ y. both_ways (get_or old.listed.items k false) was (let_go.kept k y))

  by_place : (k ≡ length h) ⊎ (k ≡ length h → ⊥) → get_or new.listed.items k false ≡ (t (h ++ e ∷ []) k && is_open (h ++ e ∷ []) k)
  by_place (inl same) =
      let new_one : is_subscriber_of g e ≡ true = sym (ap (λ o. option_map_or (is_subscriber_of g) o false) (slice_get_last h e))
      ∙ sym (ap (at (is_subscriber_of g) (h ++ e ∷ [])) same) ∙ subscribes in
      let opened : is_open (h ++ e ∷ []) k ≡ true = ap (is_open (h ++ e ∷ [])) same ∙ subscriber_opens g e new_one h next in
      rw opened (ap (λ n. get_or new.listed.items n false) same ∙ last g new_one ∙ sym (ap (t (h ++ e ∷ [])) same) ∙ sym (and_true (t (h ++ e ∷ []) k)))
  by_place (inr apart) = let m = at_within (is_subscriber_of g) (h ++ e ∷ []) k subscribes in let n = one_longer h e in
      let l : k < length h = omega arith in
      rw (stays k l, is_open_older h e k l)
      (others k l ∙ older (t h k) (listed g k (sym (at-append (is_subscriber_of g) h (e ∷ []) k l) ∙ subscribes)))

pub open_listed_after : {h : List Event} {e : Event} (old new : Subscribers) {marks : List Bool} {closed : List ℕ} → MayFollow nothing_kept h e
    → AreOpenListed h old → AreClosed h e closed → AreLetGo old.listed.items marks closed (length closed)
    → ((k : ℕ) → k < length h → get_or new.listed.items k false ≡ get_or marks k false)
    → ((g : ℕ) → is_subscriber_of g e ≡ true → get_or new.listed.items (length h) false ≡ true) → AreOpenListed (h ++ e ∷ []) new
open_listed_after old new = listed_after (λ h k. true) old new (λ k l. refl)

pub nested_listed_after : {h : List Event} {e : Event} (old new : Subscribers) {marks : List Bool} {closed : List ℕ} → MayFollow nothing_kept h e
    → AreNestedListed h old → AreClosed h e closed → AreLetGo old.listed.items marks closed (length closed)
    → ((k : ℕ) → k < length h → get_or new.listed.items k false ≡ get_or marks k false)
    → ((g : ℕ) → is_subscriber_of g e ≡ true → get_or new.listed.items (length h) false ≡ not (is_root e)) → AreNestedListed (h ++ e ∷ []) new
nested_listed_after {h} {e} old new next listed closing let_go others last = listed_after (λ h k. not (at is_root h k)) old new
    (λ k l. ap not (at-append is_root h (e ∷ []) k l)) next listed closing let_go others
    (λ g is. last g is ∙ ap not (sym (ap (λ o. option_map_or is_root o false) (slice_get_last h e))))
