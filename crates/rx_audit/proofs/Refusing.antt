-- The tests that compute are those of the table of refusals.
use Rattle.rx_audit.proofs.Common.{◌≡◌, ℕ, ℤ, ◌+◌, ◌-◌, ◌<◌, ◌≤◌, Bool, true, false, List, [], ◌∷◌, length, Option, Some, None, cond, slice_get, refl, sym, ap, ◌∙◌}
use Rattle.rx_audit.proofs.Common.{inl, inr, ◌⊎◌, arith, nat_lt, not, ◌&&◌, list_any, filter, option_map_or, cases_Bool, false≢true, both_ways, lt-ltb, ltb-true}
use Rattle.rx_audit.proofs.Common.{nothing_kept, Event, Place, Source, Inner, Notifier, is_connect_of, is_merging, at, places, hubs, is_open, open_nodes}
use Rattle.rx_audit.proofs.Common.{visits, most_visits, hub_connected_at, any_has_key, open_connected, MatchBool, owed, and_parts, eqb-true, ◌==◌}
use Rattle.rx_audit.proofs.Common.{false_from_ne_true, option_and_then, none-some}
use Rattle.std.proofs.lemmas.Bool.{le-ltb, ltb-false, not-false}
use Rattle.std.proofs.lemmas.List.Sums.{length-filter}
use Rattle.rx_note.specs.declared.note.Terminal.TheVariants.{Error}
use Rattle.rx_event.specs.declared.event.Event.TheVariants.{End, Close, Item}
use Rattle.rx_event.specs.declared.refusal.Refusal.{Refusal}
use Rattle.rx_event.specs.declared.refusal.Refusal.TheVariants.{Gone, WrongKind, NotRoot, NoHub, TooMany}
use Rattle.rx_event.specs.Events.{hub_connected, is_leaf, makes_hub, is_manual_hub, is_root}
use Rattle.rx_event.specs.Allowed.{most_nodes, most_hubs}
use Rattle.rx_event.specs.Totals.{open_count}
use Rattle.rx_event.specs.Calls.{Call, Emitting, Ending, Aborting, Failing, Disposing, Disconnecting}
use Rattle.rx_event.specs.Causes.{connects_up_to, is_gone, is_crowded, has_connection}
use Rattle.rx_register.specs.CallBehind.{may_fail, hub_disconnected, refusal_against, refusal_of}
use Rattle.rx_register.proofs.Laws.CallBehindAdds.{failing_leaf as ends_leaf, failing_other, connected_by}
use Rattle.rx_audit.specs.Rules.{refused_simply}
use Rattle.rx_audit.proofs.TestsDecideRules.{connected_key, connection_at}
use Rattle.std.proofs.Common.{rules}

-- hubs ---------------------------------------------------------------------------------------------------

any_filtered : (p : ℕ → Bool) (xs : List ℕ) → list_any p xs ≡ nat_lt 0 (length (filter p xs))
any_filtered p [] = refl
any_filtered p (x ∷ xs) = by_test (p x) refl (any_filtered p xs) where
  by_test : (b : Bool) → p x ≡ b → list_any p xs ≡ nat_lt 0 (length (filter p xs)) → list_any p (x ∷ xs) ≡ nat_lt 0 (length (filter p (x ∷ xs)))
  by_test true is rest = rw is (sym (lt-ltb 0 (length (x ∷ filter p xs)) (omega arith)))
  by_test false is rest = rw is rest

pub connected_listed : (h : List Event) (g : ℕ) → any_has_key (open_connected h) h g ≡ has_connection h g
connected_listed h g = connected_key h g ∙ any_filtered (λ n. at (is_connect_of g) h n && is_open h n) (places h)

connects_event : (g : ℕ) (e : Event) → option_map_or (λ k. not (nat_lt g k)) (hub_connected e) false ≡ connects_up_to g e
connects_event g x1 = search rules

pub connects_at : (h : List Event) (g a : ℕ) → option_map_or (λ k. not (nat_lt g k)) (hub_connected_at h a) false ≡ at (connects_up_to g) h a
connects_at h g a = by_event (slice_get h a) where
  by_event : (o : Option Event) → option_map_or (λ k. not (nat_lt g k)) (option_and_then hub_connected o) false ≡
      option_map_or (connects_up_to g) o false
  by_event None = refl
  by_event (Some e) = connects_event g e

-- places -------------------------------------------------------------------------------------------------

pub source_open : (h : List Event) (place : Place) (p : ℕ) → place ≡ Source p → is_gone h place ≡ false → is_open h p ≡ true
source_open h place p is here = not-false _ (ap (is_gone h) (sym is) ∙ here)

pub inner_open : (h : List Event) (place : Place) (p : ℕ) → place ≡ Inner p → is_gone h place ≡ false → is_open h p ≡ true
inner_open h place p is here = not-false _ (ap (is_gone h) (sym is) ∙ here)

pub notifier_open : (h : List Event) (place : Place) (p : ℕ) → place ≡ Notifier p → is_gone h place ≡ false → is_open h p ≡ true
notifier_open h place p is here = not-false _ (ap (is_gone h) (sym is) ∙ here)

-- limits -------------------------------------------------------------------------------------------------

same_less : (a b c d : ℕ) → (a < b → c < d) → (c < d → a < b) → nat_lt a b ≡ nat_lt c d
same_less a b c d to back = by_test (cases_Bool (nat_lt a b)) where
  by_test : (nat_lt a b ≡ true) ⊎ (nat_lt a b ≡ false) → nat_lt a b ≡ nat_lt c d
  by_test (inl less) = less ∙ sym (lt-ltb c d (to (ltb-true a b less)))
  by_test (inr more) = more ∙ sym (by_other (cases_Bool (nat_lt c d))) where
    by_other : (nat_lt c d ≡ true) ⊎ (nat_lt c d ≡ false) → nat_lt c d ≡ false
    by_other (inl less) = absurd (both_ways (nat_lt a b) more (lt-ltb a b (back (ltb-true c d less))))
    by_other (inr not_less) = not_less

pub crowded : (h : List Event) (more : ℕ) → more ≤ 2 → nat_lt (1048576 - more) (length (open_nodes h)) ≡ is_crowded h more
unfolding most_nodes
crowded h more few =
    let count : length (open_nodes h) ≡ open_count h = length-filter (is_open h) (places h) in
    same_less (1048576 - more) (length (open_nodes h)) 1048576 (open_count h + more) (λ l. omega (arith, count)) (λ l. omega (arith, count))

not_less : (n : ℕ) → not (nat_lt n 1024) ≡ nat_lt 1024 (n + 1)
not_less n = by_test (cases_Bool (nat_lt n 1024)) where
  by_test : (nat_lt n 1024 ≡ true) ⊎ (nat_lt n 1024 ≡ false) → not (nat_lt n 1024) ≡ nat_lt 1024 (n + 1)
  by_test (inl less) = let l = ltb-true n 1024 less in ap not less ∙ sym (le-ltb 1024 (n + 1) (omega arith))
  by_test (inr more) = let l = ltb-false n 1024 more in ap not more ∙ sym (lt-ltb 1024 (n + 1) (omega arith))

pub hubs_full : (h : List Event) → not (nat_lt (length (hubs h)) 1024) ≡ nat_lt most_hubs (length (hubs h) + 1)
unfolding most_hubs
hubs_full h = not_less (length (hubs h))

-- ends with an error -------------------------------------------------------------------------------------

gone_by : (h : List Event) (n code : ℕ) (a b : Bool) → is_open h n ≡ false →
    Some Gone ≡ refusal_against nothing_kept h (cond {A = Call} a (Ending n (Error code)) (cond {A = Call} b (Failing n code) (Aborting n code)))
gone_by h n code true b closed = rw closed refl
gone_by h n code false true closed = rw closed refl
gone_by h n code false false closed = rw closed refl

pub failing_gone : (h : List Event) (n code : ℕ) → is_open h n ≡ false → Some Gone ≡ refusal_of nothing_kept h (End n (Error code))
failing_gone h n code closed = gone_by h n code (at is_leaf h n) (may_fail nothing_kept h n) closed

none_ending : (h : List Event) (n code : ℕ) → is_open h n ≡ true → at is_leaf h n ≡ true → None ≡ refusal_against nothing_kept h (Ending n (Error code))
none_ending h n code o leaf = rw (o, leaf) refl

pub failing_leaf : (h : List Event) (n code : ℕ) → is_open h n ≡ true → at is_leaf h n ≡ true → None ≡ refusal_of nothing_kept h (End n (Error code))
failing_leaf h n code o leaf = none_ending h n code o leaf ∙ sym (ap (refusal_against nothing_kept h) (ends_leaf nothing_kept h n code leaf))

some_owed : (n : ℕ) → 0 < n → (n == 0) ≡ false
some_owed n l = false_from_ne_true (n == 0) (λ y. let none : n ≡ 0 = eqb-true n 0 y in omega arith)

none_failing : (h : List Event) (n code : ℕ) → is_open h n ≡ true → may_fail nothing_kept h n ≡ true →
    None ≡ refusal_against nothing_kept h (Failing n code)
none_failing h n code o may =
    let parts : (at is_merging h n ≡ true) × (nat_lt 0 (owed nothing_kept h n) ≡ true) = and_parts _ _ may in
    rw (o, parts.0, some_owed (owed nothing_kept h n) (ltb-true 0 (owed nothing_kept h n) parts.1)) refl

pub failing_owed : (h : List Event) (n code : ℕ) → is_open h n ≡ true → at is_leaf h n ≡ false → may_fail nothing_kept h n ≡ true →
    None ≡ refusal_of nothing_kept h (End n (Error code))
failing_owed h n code o leaf may =
    none_failing h n code o may ∙ sym (ap (refusal_against nothing_kept h) (failing_other nothing_kept h n code true leaf may))

pub failing_aborts : (h : List Event) (n code : ℕ) → at is_leaf h n ≡ false → may_fail nothing_kept h n ≡ false →
    refusal_against nothing_kept h (Aborting n code) ≡ refusal_of nothing_kept h (End n (Error code))
failing_aborts h n code leaf may = sym (ap (refusal_against nothing_kept h) (failing_other nothing_kept h n code false leaf may))

-- closings -----------------------------------------------------------------------------------------------

-- what is no open connection is closed as a root
closing_other : (h : List Event) (n : ℕ) → hub_disconnected h n ≡ None → refusal_against nothing_kept h (Disposing n) ≡ refusal_of nothing_kept h (Close n)
closing_other h n none = sym (ap (λ o. refusal_against nothing_kept h (option_map_or (λ g. Disconnecting g) o (Disposing n))) none)

disposing_gone : (h : List Event) (n : ℕ) → is_open h n ≡ false → Some Gone ≡ refusal_against nothing_kept h (Disposing n)
disposing_gone h n closed = rw closed refl

pub closing_gone : (h : List Event) (n : ℕ) → is_open h n ≡ false → Some Gone ≡ refusal_of nothing_kept h (Close n)
closing_gone h n closed =
    disposing_gone h n closed ∙ closing_other h n (ap (λ b. cond {A = Option ℕ} b (option_and_then hub_connected (slice_get h n)) None) closed)

disposing_root : (h : List Event) (n : ℕ) → is_open h n ≡ true →
    cond {A = Option Refusal} (not (at is_root h n)) (Some NotRoot) None ≡ refusal_against nothing_kept h (Disposing n)
disposing_root h n o = rw o refl

pub closing_root : (h : List Event) (n : ℕ) → is_open h n ≡ true → hub_connected_at h n ≡ None →
    cond {A = Option Refusal} (not (at is_root h n)) (Some NotRoot) None ≡ refusal_of nothing_kept h (Close n)
closing_root h n o none = disposing_root h n o ∙
    closing_other h n (ap (λ b. cond {A = Option ℕ} b (option_and_then hub_connected (slice_get h n)) None) o ∙ none)

pub closing_connection : (h : List Event) (n g : ℕ) → is_open h n ≡ true → hub_connected_at h n ≡ Some g →
    cond {A = Option Refusal} (not (at makes_hub h g)) (Some NoHub)
    (cond (not (at is_manual_hub h g)) (Some WrongKind) None) ≡ refusal_of nothing_kept h (Close n)
closing_connection h n g o connects = rw (o, connects, connected_by h g n o (connection_at h n g connects)) refl

-- items --------------------------------------------------------------------------------------------------

pub item_gone : (h : List Event) (l : ℕ) (v : ℤ) → is_open h l ≡ false → Some Gone ≡ refusal_against nothing_kept h (Emitting l v)
item_gone h l v closed = rw closed refl

pub item_no_leaf : (h : List Event) (l : ℕ) (v : ℤ) → is_open h l ≡ true → at is_leaf h l ≡ false →
    Some WrongKind ≡ refusal_against nothing_kept h (Emitting l v)
item_no_leaf h l v o leaf = rw (o, leaf) refl

many_visits : (h : List Event) (l : ℕ) → 1048576 < visits h l → nat_lt most_visits (visits h l) ≡ true
unfolding most_visits
many_visits h l many = lt-ltb 1048576 (visits h l) many

few_visits : (h : List Event) (l : ℕ) → visits h l ≤ 1048576 → nat_lt most_visits (visits h l) ≡ false
unfolding most_visits
few_visits h l few = le-ltb 1048576 (visits h l) few

item_many : (h : List Event) (l : ℕ) (v : ℤ) → is_open h l ≡ true → at is_leaf h l ≡ true → 1048576 < visits h l →
    Some TooMany ≡ refusal_against nothing_kept h (Emitting l v)
item_many h l v o leaf many = rw (o, leaf, many_visits h l many) refl

item_few : (h : List Event) (l : ℕ) (v : ℤ) → is_open h l ≡ true → at is_leaf h l ≡ true → visits h l ≤ 1048576 →
    None ≡ refusal_against nothing_kept h (Emitting l v)
item_few h l v o leaf few = rw (o, leaf, few_visits h l few) refl

-- by the test whether the visits of an item are few
pub many_tested : (h : List Event) (l : ℕ) (v : ℤ) (b : Bool) (P : Type 0) → MatchBool b P (1048576 < visits h l) → b ≡ false → is_open h l ≡ true →
    at is_leaf h l ≡ true → Some TooMany ≡ refusal_against nothing_kept h (Emitting l v)
many_tested h l v true P m is o leaf = absurd (false≢true (sym is))
many_tested h l v false P m is o leaf = item_many h l v o leaf m

pub few_tested : (h : List Event) (l : ℕ) (v : ℤ) (b : Bool) (P : Type 0) → (P → visits h l ≤ 1048576) → MatchBool b P (1048576 < visits h l) → b ≡ true →
    is_open h l ≡ true → at is_leaf h l ≡ true → None ≡ refusal_against nothing_kept h (Emitting l v)
few_tested h l v true P few m is o leaf = item_few h l v o leaf (few m)
few_tested h l v false P few m is o leaf = absurd (false≢true is)

-- what is refused need not be climbed for
pub refused_climbs : (why : Refusal) (P : Type 0) → Some why ≡ None → P
refused_climbs why P is = absurd (none-some why (sym is))

-- what is no item
pub simply : (h : List Event) (e : Event) → ((l : ℕ) (v : ℤ) → e ≡ Item l v → ⊥) → refused_simply h e ≡ refusal_of nothing_kept h e
simply h (Item l v) other = absurd (other l v refl)
simply h _ other = refl

pub item_refused : (h : List Event) (e : Event) (l : ℕ) (v : ℤ) (why : Option Refusal) → e ≡ Item l v →
    why ≡ refusal_against nothing_kept h (Emitting l v) → why ≡ refusal_of nothing_kept h e
item_refused h e l v why is_e is = is ∙ sym (ap (refusal_of nothing_kept h) is_e)
