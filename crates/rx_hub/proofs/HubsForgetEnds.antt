-- Hubs that forget how their connections ended, and what is kept of hubs.
use Rattle.rx_hub.proofs.Common.{◌≡◌, ℕ, zero, suc, ◌<◌, ◌+◌, ◌-◌, ◌++◌, map, take, drop, Bool, true, false, List, [], ◌∷◌, length, set, get_or}
use Rattle.rx_hub.proofs.Common.{slice_get, Option, Some, None, option_map, refl, sym, ap, ◌∙◌, arith, if◌then◌else◌, range_with_len, not}
use Rattle.rx_hub.proofs.Common.{filter_map, cons_option, option_or, length-map, same_Some, none-some, Key, HubDue, LastEnd, IsLinked, IsCalm, Hub}
use Rattle.rx_hub.proofs.Common.{IsQuiet, is_auto, is_cut, connect_of, due_of, cut_of, left_of, Hubs, hub_as_kept, without_end, Lists}
use Rattle.rx_hub.proofs.Laws.HubsWithoutEnds.{forgot_get}
use Rattle.std.proofs.Common.{rules}

-- what is kept of all -------------------------------------------------------------------------------

kept_from : (hubs all : List Hub) (k : ℕ) → ((i : ℕ) → slice_get all (k + i) ≡ slice_get hubs i) →
    filter_map (λ i. option_map hub_as_kept (slice_get all i)) (range_with_len k (length hubs)) ≡ map hub_as_kept hubs
kept_from [] all k same = refl
kept_from (hub ∷ hubs) all k same =
    let here : slice_get all k ≡ Some hub = ap (slice_get all) (let e : k ≡ k + 0 = omega arith in e) ∙ same 0 in
    ap (λ o. cons_option (option_map hub_as_kept o) (filter_map (λ i. option_map hub_as_kept (slice_get all i)) (range_with_len (k + 1) (length hubs)))) here ∙
    ap (λ ks. hub_as_kept hub ∷ ks) (kept_from hubs all (k + 1) (λ i. ap (slice_get all) (let e : k + 1 + i ≡ k + suc i = omega arith in e) ∙ same (suc i)))

pub kept_of_all : (hubs : List Hub) → filter_map (λ i. option_map hub_as_kept (slice_get hubs i)) (range_with_len 0 (length hubs)) ≡ map hub_as_kept hubs
kept_of_all hubs = kept_from hubs hubs 0 (λ i. ap (slice_get hubs) (let e : 0 + i ≡ i = omega arith in e))

-- nothing is due once ends are forgotten ----------------------------------------------------------------

or_none : {X : Type 0} (a b : Option X) → option_or a b ≡ None → (a ≡ None) × (b ≡ None)
or_none x0 b none = search (rules, none-some)

if_none : {X : Type 0} (test : Bool) (x : X) → (if test then Some x else None) ≡ None → test ≡ false
if_none x0 x none = search (rules, none-some)

-- the oldest subscriber is not cut
first_stays : (last : Option LastEnd) (k : Key) (ks : List Key) → cut_of last (k ∷ ks) ≡ None → not (is_cut last k) ≡ true
first_stays x0 k ks none = search (rules, if_none)

module _ (hub : Hub) (waits_not : connect_of hub ≡ None) (acts_not : due_of hub ≡ None) where
  parts : (cut_of hub.last_end hub.subscribers ≡ None) × (left_of (is_auto hub.mode) hub.connection hub.subscribers ≡ None)
  parts = search (rules, or_none)

  pub forgot_acts : due_of (without_end hub) ≡ None
  forgot_acts = parts.1

  pub forgot_waits : connect_of (without_end hub) ≡ None
  forgot_waits = search (rules, first_stays)

pub calm_forgot : (due : Hub → Option HubDue) (hubs : List Hub) (chain : Lists) →
    ((i : ℕ) (hub : Hub) → slice_get hubs i ≡ Some hub → due (without_end hub) ≡ None) → IsCalm due (map without_end hubs) chain
calm_forgot due hubs chain none = search (rules, forgot_get)

pub linked_forgot : (s : Hubs) (waiting due : Lists) (noted : Bool) → IsQuiet s.hubs → IsLinked s waiting due noted →
    IsLinked (record s { hubs = map without_end s.hubs }) waiting due noted
linked_forgot s waiting due noted quiet linked =
    let long = length-map s.hubs without_end in
    let fit = linked.fit in
    let room = linked.room in
    record {
      waits = calm_forgot connect_of s.hubs waiting (λ i hub at_i. forgot_waits hub (quiet.connected i hub at_i) (quiet.quiet i hub at_i));
      acts = calm_forgot due_of s.hubs due (λ i hub at_i. forgot_acts hub (quiet.connected i hub at_i) (quiet.quiet i hub at_i));
      waiting_chain = linked.waiting_chain;
      due_chain = linked.due_chain;
      fit = omega (arith, fit, long);
      both = linked.both;
      room = omega (arith, room, long);
      empty = linked.empty;
    }

-- and all that callers see of them
pub shown_forgot : (s new : Hubs) (members : ℕ) → new ≡ record s { hubs = map without_end s.hubs } →
    record new { room = members - length new.hubs } ≡ record s { hubs = map without_end s.hubs; room = members - length s.hubs }
shown_forgot s new members same = search (rules, length-map)

-- the records as they are written -----------------------------------------------------------------------

-- one more of them is changed
pub changed_more : {X : Type 0} (f : X → X) (xs : List X) (i : ℕ) (x : X) → slice_get xs i ≡ Some x →
    set (map f (take i xs) ++ drop i xs) i (f x) ≡ map f (take (suc i) xs) ++ drop (suc i) xs
changed_more f [] zero x at_i = absurd (none-some x at_i)
changed_more f [] (suc i) x at_i = absurd (none-some x at_i)
changed_more f (y ∷ ys) zero x at_i = ap (λ z. f z ∷ ys) (sym (same_Some y x at_i))
changed_more f (y ∷ ys) (suc i) x at_i = ap (λ zs. f y ∷ zs) (changed_more f ys i x at_i)

-- the next one stands where it stood
stands_at : {X : Type 0} (f : X → X) (xs : List X) (i : ℕ) (d : X) → get_or (map f (take i xs) ++ drop i xs) i d ≡ get_or xs i d
stands_at f [] zero d = refl
stands_at f [] (suc i) d = refl
stands_at f (y ∷ ys) zero d = refl
stands_at f (y ∷ ys) (suc i) d = stands_at f ys i d

is_there : {X : Type 0} (xs : List X) (i : ℕ) (d : X) → i < length xs → slice_get xs i ≡ Some (get_or xs i d)
is_there [] i d l = absurd (omega arith)
is_there (x ∷ xs) zero d l = refl
is_there (x ∷ xs) (suc i) d l = is_there xs i d (omega arith)

-- and is the next to be changed
pub next_changed : {X : Type 0} (f : X → X) (xs items : List X) (i : ℕ) (d : X) → items ≡ map f (take i xs) ++ drop i xs → i < length xs →
    set items i (f (get_or items i d)) ≡ map f (take (i + 1) xs) ++ drop (i + 1) xs
next_changed f xs items i d is l = (λ j. set (is j) i (f (get_or (is j) i d))) ∙ ap (λ x. set (map f (take i xs) ++ drop i xs) i (f x)) (stands_at f xs i d) ∙
    changed_more f xs i (get_or xs i d) (is_there xs i d l) ∙ ap (λ n. map f (take n xs) ++ drop n xs) (let e : suc i ≡ i + 1 = omega arith in e)
