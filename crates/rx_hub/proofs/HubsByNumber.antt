-- Hubs by their numbers, and what is known of those off a chain.
use Rattle.rx_hub.proofs.Common.{◌≡◌, ◌≢◌, ℕ, zero, suc, ◌<◌, ◌==◌, ◌++◌, cond, map, Bool, true, false, List, [], ◌∷◌, length, slice_get, Option, Some, None}
use Rattle.rx_hub.proofs.Common.{option_map, is_some, IsSome, IfSome, refl, sym, ap, subst, ◌∙◌, arith, true≢false, cases_lt, nat_tests, Mode}
use Rattle.rx_hub.proofs.Common.{same_Some, none-some, option_and_then, Key, first_of, HubDue, IsCalm, IsChain, Notes, IsLinked, AreEmpty, connect_of}
use Rattle.rx_hub.proofs.Common.{due_of, Hub, Hubs, IsPromised, find_hub, at_hub, new_hub, Lists, list_at, is_in}
use Rattle.rx_hub.proofs.Laws.Walks.{hub_at}
use Rattle.std.proofs.lemmas.Bool.{cases_Bool}
use Rattle.std.proofs.Common.{rules}

eq_is : (a b : ℕ) → (a == b) ≡ true → a ≡ b
eq_is a b e = grind (arith, nat_tests, e)

eq_self : (a : ℕ) → (a == a) ≡ true
eq_self a = grind (arith, nat_tests)

eq_not : (a b : ℕ) → a ≢ b → (a == b) ≡ false
eq_not a b e = grind (arith, nat_tests, e)

-- where one index alone has the number
find_one : (hubs : List Hub) (i n : ℕ) (hub : Hub) → slice_get hubs i ≡ Some hub → hub.number ≡ n →
    ((j : ℕ) (other : Hub) → slice_get hubs j ≡ Some other → other.number ≡ n → j ≡ i) → find_hub hubs n ≡ Some hub
find_one [] i n hub got named only = absurd (none-some hub got)
find_one (h ∷ hubs) zero n hub got named only = let same = same_Some h hub got in search (rules, eq_self)
find_one (h ∷ hubs) (suc i) n hub got named only =
    ap (λ b. cond b (Some h) (find_hub hubs n)) (eq_not h.number n (λ e. let z = only 0 h refl e in omega (arith, z))) ∙
    find_one hubs i n hub got named (λ j other at_j e. let z = only (suc j) other at_j e in omega (arith, z))

pub find_none : (hubs : List Hub) (n : ℕ) → ((j : ℕ) (other : Hub) → slice_get hubs j ≡ Some other → other.number ≢ n) → find_hub hubs n ≡ None
find_none [] n all = refl
find_none (h ∷ hubs) n all =
    ap (λ b. cond b (Some h) (find_hub hubs n)) (eq_not h.number n (all 0 h refl)) ∙ find_none hubs n (λ j other at_j. all (suc j) other at_j)

-- two indices of one number are one
pub one_index : {s : Hubs} → IsPromised s → (i j : ℕ) (a b : Hub) → slice_get s.hubs i ≡ Some a → slice_get s.hubs j ≡ Some b → a.number ≡ b.number → i ≡ j
one_index p i j a b at_i at_j same = search (rules, cases_lt)

pub find_at : (s : Hubs) → IsPromised s → (i : ℕ) (hub : Hub) → slice_get s.hubs i ≡ Some hub → find_hub s.hubs hub.number ≡ Some hub
find_at s p i hub got = find_one s.hubs i hub.number hub got refl (λ j other at_j e. one_index p j i other hub at_j got e)

-- the index of a number finds its hub
pub find_index : (s : Hubs) → IsPromised s → (i n : ℕ) → option_map (λ (hub : Hub). hub.number) (slice_get s.hubs i) ≡ Some n →
    find_hub s.hubs n ≡ slice_get s.hubs i
find_index s p i n named = search (rules, none-some, same_Some, find_at)

get_map : {X : Type 0} (g : X → X) (xs : List X) (i : ℕ) → slice_get (map g xs) i ≡ option_map g (slice_get xs i)
get_map g [] i = refl
get_map g (x ∷ xs) zero = refl
get_map g (x ∷ xs) (suc i) = get_map g xs i

pub count_at : (n : ℕ) (change : Hub → Hub) (hubs : List Hub) → length (at_hub n change hubs) ≡ length hubs
count_at n change [] = refl
count_at n change (h ∷ hubs) = ap suc (count_at n change hubs)

-- two changes that are the same at the hubs of the number
pub at_same : (n : ℕ) (f g : Hub → Hub) (hubs : List Hub) → ((i : ℕ) (hub : Hub) → slice_get hubs i ≡ Some hub → hub.number ≡ n → f hub ≡ g hub) →
    at_hub n f hubs ≡ at_hub n g hubs
at_same n f g [] same = refl
at_same n f g (h ∷ hubs) same = λ i. of (h.number == n) refl i ∷ at_same n f g hubs (λ j hub got. same (suc j) hub got) i where
  of : (b : Bool) → (h.number == n) ≡ b → cond b (f h) h ≡ cond b (g h) h
  of true e = same 0 h refl (eq_is h.number n e)
  of false e = refl

-- chains ------------------------------------------------------------------------------------------

-- what is due at an index
abbrev due_in : (Hub → Option HubDue) → List Hub → ℕ → Option HubDue
due_in due hubs i = option_and_then due (slice_get hubs i)

-- a change of one hub that is put on the chain where something is due there
pub calm_changed : {due : Hub → Option HubDue} {s : Hubs} {old : Lists} (new : Lists) (index n : ℕ) (change : Hub → Hub) → IsPromised s →
    option_map (λ (hub : Hub). hub.number) (slice_get s.hubs index) ≡ Some n → Notes (due_in due (at_hub n change s.hubs) index) old new index →
    IsCalm due s.hubs old → IsCalm due (at_hub n change s.hubs) new
calm_changed {due} {s} {old} new index n change p named noted calm i hub got off =
    search (rules, get_map, hub_at, one_index, eq_is, same_Some, none-some, cases_Bool)

-- the hub at an index whose number alone changed
pub at_changed : (s new : Hubs) (index : ℕ) (change : Hub → Hub) (hub : Hub) → slice_get s.hubs index ≡ Some hub →
    new ≡ record s { hubs = at_hub hub.number change s.hubs } → slice_get new.hubs index ≡ Some (change hub)
at_changed s new index change hub got is = search (rules, get_map, eq_self)

-- a change by which nothing is due that was not leaves a chain calm
pub still_none : (due : Hub → Option HubDue) (s new : Hubs) (chain : Lists) (index n : ℕ) (change : Hub → Hub) →
    option_map (λ (hub : Hub). hub.number) (slice_get s.hubs index) ≡ Some n →
    ((hub : Hub) → slice_get s.hubs index ≡ Some hub → new ≡ record s { hubs = at_hub hub.number change s.hubs }) →
    ((hub : Hub) → slice_get s.hubs index ≡ Some hub → due hub ≡ None → due (change hub) ≡ None) → IsCalm due s.hubs chain →
    is_in index (list_at chain 0) ≡ false → due_in due new.hubs index ≡ None
still_none due s new chain index n change named is quiet calm off =
    let own = hub_at s.hubs index n named in
    ap (option_and_then due) (at_changed s new index change own.0 own.1.0 (is own.0 own.1.0)) ∙ quiet own.0 own.1.0 (calm index own.0 own.1.0 off)

-- and nothing is put there
pub not_noted : (gives : Option HubDue) (chain : Lists) (index : ℕ) → IsChain chain → (is_in index (list_at chain 0) ≡ false → gives ≡ None) →
    Notes gives chain chain index
not_noted gives chain index is quiet = search rules

-- whether there is a first one tells whether there are others
pub others_there : (hubs : List Hub) (index : ℕ) (hub : Hub) (first : Option Key) (b : Bool) → slice_get hubs index ≡ Some hub →
    IfSome (slice_get hubs index) (λ h. first ≡ first_of h.subscribers) → b ≡ is_some first → b ≡ true → is_some (first_of hub.subscribers) ≡ true
others_there hubs index hub first b got is said told = search rules

-- one more hub at which nothing is due
pub calm_added : (due : Hub → Option HubDue) (hubs : List Hub) (chain : Lists) (added : Hub) → due added ≡ None → IsCalm due hubs chain →
    IsCalm due (hubs ++ added ∷ []) chain
calm_added due hubs chain added none calm i hub got off = by_place hubs i got (λ at_i. calm i hub at_i off) where
  by_place : (xs : List Hub) (j : ℕ) → slice_get (xs ++ added ∷ []) j ≡ Some hub → (slice_get xs j ≡ Some hub → due hub ≡ None) → due hub ≡ None
  by_place [] zero at_j old = ap due (sym (same_Some added hub at_j)) ∙ none
  by_place [] (suc j) at_j old = absurd (none-some hub at_j)
  by_place (x ∷ xs) zero at_j old = old at_j
  by_place (x ∷ xs) (suc j) at_j old = by_place xs j at_j old

get_within : {X : Type 0} (xs : List X) (i : ℕ) (x : X) → slice_get xs i ≡ Some x → i < length xs
get_within [] i x got = absurd (none-some x got)
get_within (y ∷ xs) zero x got = omega arith
get_within (y ∷ xs) (suc i) x got = let l = get_within xs i x got in omega (arith, l)

-- the index of a hub may stand on the chains
pub index_below : (hubs : List Hub) (i n : ℕ) → option_map (λ (hub : Hub). hub.number) (slice_get hubs i) ≡ Some n → i < length hubs
index_below hubs i n named = let own = hub_at hubs i n named in get_within hubs i own.0 own.1.0

-- no hub has a number that no hub was found by
pub not_found : (hubs : List Hub) (n : ℕ) → ((i : ℕ) (hub : Hub) → slice_get hubs i ≡ Some hub → hub.number ≢ n) → IsSome (find_hub hubs n) → ⊥
not_found hubs n none there = true≢false (sym there ∙ ap is_some (find_none hubs n none))

-- one hub changed and was put on both chains
pub linked_changed : {s new : Hubs} {w d w' d' : Lists} {index : ℕ} {b b' : Bool} (n : ℕ) (change : Hub → Hub) → IsPromised s →
    option_map (λ (hub : Hub). hub.number) (slice_get s.hubs index) ≡ Some n →
    ((hub : Hub) → slice_get s.hubs index ≡ Some hub → new ≡ record s { hubs = at_hub hub.number change s.hubs }) →
    Notes (due_in connect_of new.hubs index) w w' index → Notes (due_in due_of new.hubs index) d d' index → (b' ≡ false → AreEmpty w' d') →
    IsLinked s w d b → IsLinked new w' d' b'
linked_changed {s} {new} {w} {d} {w'} {d'} {index} {b} {b'} n change p named is notes_w notes_d empty linked =
    let own = hub_at s.hubs index n named in
    let new_is : new ≡ record s { hubs = at_hub n change s.hubs } = is own.0 own.1.0 ∙ ap (λ k. record s { hubs = at_hub k change s.hubs }) own.1.1 in
    let count = count_at n change s.hubs in
    let w_same = notes_w.members in
    let d_same = notes_d.members in
    let fit = linked.fit in
    let both = linked.both in
    let room = linked.room in
    subst (λ (t : Hubs). IsLinked t w' d' b') (sym new_is) (record {
      waits = calm_changed w' index n change p named (subst (λ (t : Hubs). Notes (due_in connect_of t.hubs index) w w' index) new_is notes_w) linked.waits;
      acts = calm_changed d' index n change p named (subst (λ (t : Hubs). Notes (due_in due_of t.hubs index) d d' index) new_is notes_d) linked.acts;
      waiting_chain = notes_w.chain;
      due_chain = notes_d.chain;
      fit = omega (arith, count, w_same, fit);
      both = omega (arith, w_same, d_same, both);
      room = omega (arith, count, w_same, room);
      empty = empty;
    })

pub nothing_new_waits : (n : ℕ) (mode : Mode) → connect_of (new_hub n mode) ≡ None
nothing_new_waits n x1 = search rules

pub nothing_new_due : (n : ℕ) (mode : Mode) → due_of (new_hub n mode) ≡ None
nothing_new_due n x1 = search rules

-- an index and a number lead to one hub
pub only_hub : {s : Hubs} → IsPromised s → (i j : ℕ) (hub other : Hub) → slice_get s.hubs i ≡ Some hub → slice_get s.hubs j ≡ Some other →
    other.number ≡ hub.number → hub ≡ other
only_hub {s} p i j hub other at_i at_j same = search (rules, same_Some, one_index)

-- the first subscriber of a hub that is found
pub first_found : (s : Hubs) → IsPromised s → (i n : ℕ) (r : Option Key) → option_map (λ (hub : Hub). hub.number) (slice_get s.hubs i) ≡ Some n →
    IfSome (slice_get s.hubs i) (λ hub. r ≡ first_of hub.subscribers) → r ≡ option_and_then (λ (h : Hub). first_of h.subscribers) (find_hub s.hubs n)
first_found s p i n r named first = let own = hub_at s.hubs i n named in search (rules, find_index)
