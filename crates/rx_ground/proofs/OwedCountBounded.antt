-- What all open FlatMaps and Switches owe together, by the history and by the records of a tree, and that it stays within 64 bits.
use Rattle.rx_ground.proofs.Common.{◌≡◌, ℕ, zero, suc, ◌+◌, ◌*◌, ◌<◌, ◌≤◌, Bool, true, false, cond, List, [], ◌∷◌, ◌++◌, length, Option, Some, None, is_some}
use Rattle.rx_ground.proofs.Common.{IsSome, IfSome, refl, sym, ap, ◌∙◌, arith, length-append, not, ◌&&◌, AllByRecursion, filter_map, cons_option, sum_by-cons}
use Rattle.rx_ground.proofs.Common.{Kept, shown, Ghosts, Event, Item, Marks, is_merging, pays, at, is_open, most_visits, owed, is_projection, stops_of, Key}
use Rattle.rx_ground.proofs.Common.{is_projection_to, owed_open, owed_count, StopsAtOpen, MayFollow, IsLawful, at-append, is_cut, is_open_cut, is_open_within}
use Rattle.rx_ground.proofs.Common.{by_events, may_emit, sum_by-places-push, sum_by-plus, sum_by_no_rise, length-shown, debt-counts, owed_plain, Slots, find}
use Rattle.rx_ground.proofs.Common.{Node, Tree, AreApart, owed_in, owed_in-numbers, IsPromised, AreRecords, IsTied}
use Rattle.std.specs.List.{count_by}
use Rattle.rx_event.specs.Climb.{Stop, stop_at, onward, visited, climb, stops}
use Rattle.rx_event.proofs.Laws.Projections.{owed-push, owed_new, projected_open, projected_count, stops_open}
use Rattle.rx_register.specs.State.{State as Register}
use Rattle.std.proofs.Common.{rules}

-- what one node owes ------------------------------------------------------------------------------

-- what an open node owes
pub owed_open-open : (base : Kept) → (h : List Event) → IsLawful base h → (n : ℕ) → is_open h n ≡ true → owed_open base h n ≡ owed base h n
owed_open-open base h law n alive = search (rules, owed_plain)

-- what all owe ------------------------------------------------------------------------------------

-- an item is projected no more often than it makes visits
projected_visits : (k : ℕ) (h : List Event) (todo : List ℕ) → count_by is_projection (filter_map (stop_at h) (visited k h todo)) ≤ k
projected_visits zero h todo = omega arith
projected_visits (suc k) h [] = omega arith
projected_visits (suc k) h (n ∷ todo) = by_stop (stop_at h n) (projected_visits k h (onward h n ++ todo)) where
  rest : List Stop
  rest = filter_map (stop_at h) (visited k h (onward h n ++ todo))

  one : (b : Bool) → cond {A = ℕ} b 1 0 ≤ 1
  one true = omega arith
  one false = omega arith

  by_stop : (o : Option Stop) → count_by is_projection rest ≤ k → count_by is_projection (cons_option o rest) ≤ suc k
  by_stop None few = omega arith
  by_stop (Some s) few = let all = sum_by-cons (λ t. cond (is_projection t) 1 0) s rest in let first = one (is_projection s) in omega arith

limit_is : suc most_visits ≡ 1048577
unfolding most_visits
limit_is = refl

projected_item : (h : List Event) (l : ℕ) → count_by is_projection (stops h l) ≤ suc most_visits
unfolding stops climb
projected_item h l = projected_visits (suc most_visits) h (l ∷ [])

few_projected : (h : List Event) (e : Event) (most : ℕ) → suc most_visits ≡ most → count_by is_projection (stops_of h e) ≤ most
few_projected h x1 most is = search (rules, projected_item)

-- an event adds what it projects at most
owed_count-rise : (base : Kept) → (h : List Event) (e : Event) → IsLawful base h → MayFollow base h e →
    owed_count base (h ++ e ∷ []) ≤ owed_count base h + count_by is_projection (stops_of h e)
owed_count-rise base h e law next =
    let last = sum_by-places-push (owed_open base (h ++ e ∷ [])) h e in
    let new =
    owes_none (is_open (h ++ e ∷ []) (length h) && at is_merging (h ++ e ∷ []) (length h)) (owed base (h ++ e ∷ []) (length h)) (owed_new base h law e) in
    let less = sum_by_no_rise (λ n. owed_open base h n + projected_open h (stops_of h e) n) (owed_open base (h ++ e ∷ [])) (length h) (λ n l.
    rw (is_open_cut h e n l, at-append is_merging h (e ∷ []) n l)
    (shape (is_open h n) (is_cut h e n) (at is_merging h n) (pays n e) (owed base (h ++ e ∷ []) n) (owed base h n)
    (count_by (is_projection_to n) (stops_of h e)) (owed-push base h e law next n))) in
    let parts = sum_by-plus (owed_open base h) (projected_open h (stops_of h e)) (length h) in
    let projected = projected_count h (stops_of h e) (well e next) in
    omega arith
  where
    owes_none : (b : Bool) (k : ℕ) → k ≡ 0 → cond b k 0 ≡ 0
    owes_none true k none = none
    owes_none false k none = refl

    shape : (o c m p : Bool) (x y k : ℕ) → x + cond p 1 0 ≡ y + k → cond ((o && not c) && m) x 0 ≤ cond (o && m) y 0 + cond (o && m) k 0
    shape true true m p x y k same = omega arith
    shape true false true p x y k same = omega arith
    shape true false false p x y k same = omega arith
    shape false c m p x y k same = omega arith

    well : (e : Event) → MayFollow base h e → AllByRecursion (StopsAtOpen h) (stops_of h e)
    well (Item l v) next = stops_open base h l law (may_emit base next)
    well _ next = tt

-- so all that is owed is bounded by what the base owes and the number of events since
owed_count-le : (base : Kept) → (h : List Event) → IsLawful base h →
    owed_count base h + 1048577 * length (shown base) ≤ owed_count base (shown base) + 1048577 * length h
owed_count-le base =
    by_events base (λ h. owed_count base h + 1048577 * length (shown base) ≤ owed_count base (shown base) + 1048577 * length h) (λ started. omega arith)
    (λ h e law next before.
    let rise = owed_count-rise base h e law next in
    let few = few_projected h e 1048577 limit_is in omega (arith, length-append h (e ∷ [])))

-- and with at most 4,294,967,295 events since, and a base whose closing fits them, it is far within 64 bits
pub owed_count-bounded : (s : Register) → IsPromised s → owed_count s.base s.history ≤ 4503608216256510
owed_count-bounded s promised = search (rules, owed_count-le, length-shown, debt-counts)

-- by the records of a tree ------------------------------------------------------------------------

-- a node's marks owe something where it does by the history
pub owes_told : {base : Kept} {h : List Event} {nodes : Slots Node} {chain : List Key} (key : Key) → AreRecords base h nodes chain →
    0 < owed base h key.number → IfSome (find nodes key) (λ (node : Node). 0 < node.marks.owed)
owes_told {base} {h} {nodes} {chain} key records some = search (rules, find)

-- what the records owe together is what the history's FlatMaps and Switches do
pub owed_in-count : (base : Kept) → (h : List Event) → IsLawful base h → (nodes : Slots Node) (chain : List Key) → AreRecords base h nodes chain →
    AreApart nodes → owed_in nodes ≡ owed_count base h
owed_in-count base h law nodes chain records apart = owed_in-numbers (owed_open base h) (length h) nodes apart each every where
  each : (key : Key) (node : Node) → find nodes key ≡ Some node → (key.number < length h) × (node.marks.owed ≡ owed_open base h key.number)
  each key node found =
      let is = records.each key node found in
      (is_open_within h key.number is.alive, ap (λ (m : Marks). m.owed) is.marks ∙ sym (owed_open-open base h law key.number is.alive))

  every : (k : ℕ) → k < length h → 0 < owed_open base h k → (key : Key) × (key.number ≡ k) × IsSome (find nodes key)
  every k l some = by_test (is_open h k) refl some where
    by_test : (b : Bool) → is_open h k ≡ b → 0 < cond (b && at is_merging h k) (owed base h k) 0 → (key : Key) × (key.number ≡ k) × IsSome (find nodes key)
    by_test true alive some = let has = records.every k alive in (has.key, has.numbered, ap is_some has.found)
    by_test false shut some = absurd (omega arith)

-- it is far within 64 bits
pub owed_in-bounded : {T : Type 0} (g : Ghosts T) (s : Register) (tree : Tree T) → IsTied s.base g s.history tree → IsPromised s → AreApart tree.nodes →
    owed_in tree.nodes ≤ 4503608216256510
owed_in-bounded g s tree tied promised apart = search (rules, owed_in-count, owed_count-bounded)
