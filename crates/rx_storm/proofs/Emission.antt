-- What a thread emits, number by number.
use Rattle.rx_storm.proofs.Common.{◌≡◌, ℕ, zero, suc, ◌+◌, ◌-◌, ◌≤◌, ◌<◌, List, [], ◌∷◌, ◌++◌, map, length, take, refl, sym, ap, ◌∙◌, arith, ◌≢◌, pos, Ok, rules}
use Rattle.rx_storm.proofs.Common.{cond, Result, Err, OnOk, OnErr, IfErr, map-append, append_assoc, append-nil, sum_by-cons, take-length, sum_by, Completed, Event}
use Rattle.rx_storm.proofs.Common.{End, Refusal, is_item, Shares, Receipt, Pull, Stop, event_of, items_in, AreOfPulls, IsFed, count_up}
use Rattle.rx_storm.proofs.Common.{items_at, events_of, HasBegun, HasEmitted, HasEmittedSome}
use Rattle.rx_event.specs.declared.event.Event.TheVariants.{Item}
use Rattle.rx_crew.specs.declared.working.Stop.TheVariants.{Done, Turns, Refused}

-- one receipt more
pub events_of-kept : (receipts receipts' : List Receipt) (receipt : Receipt) → receipts' ≡ receipts ++ receipt ∷ []
    → events_of receipts' ≡ events_of receipts ++ receipt.event ∷ []
events_of-kept receipts receipts' receipt kept = ap events_of kept ∙ map-append (λ (r : Receipt). r.event) receipts (receipt ∷ [])

items_at-add : (leaf from a b : ℕ) → items_at leaf from (a + b) ≡ items_at leaf from a ++ items_at leaf (from + a) b
items_at-add leaf from zero b =
    let none : zero + b ≡ b = omega arith in
    let here : from ≡ from + zero = omega arith in
    ap (items_at leaf from) none ∙ ap (λ (n : ℕ). items_at leaf n b) here
items_at-add leaf from (suc a) b =
    let one : suc a + b ≡ suc (a + b) = omega arith in
    let next : suc from + a ≡ from + suc a = omega arith in
    ap (items_at leaf from) one
    ∙ ap (λ (l : List Event). Item leaf (pos from) ∷ l) (items_at-add leaf (suc from) a b)
    ∙ ap (λ (n : ℕ). Item leaf (pos from) ∷ (items_at leaf (suc from) a ++ items_at leaf n b)) next

-- no number yet
pub items_at-none : (leaf first : ℕ) (before : List Event) → before ≡ before ++ items_at leaf first (first - first)
items_at-none leaf first before =
    let none : 0 ≡ first - first = omega arith in
    sym (append-nil before) ∙ ap (λ (n : ℕ). before ++ items_at leaf first n) none

pub none_counted : (seat : Shares) (none : ℕ) → none ≡ 0 → seat ≡ record seat { items = seat.items + none }
none_counted seat none is =
    let same : seat.items ≡ seat.items + none = omega (arith, is) in
    ap (λ (n : ℕ). record seat { items = n }) same

-- one number more, with its receipt
pub items_at-more : (leaf first number : ℕ) (before now next : List Event) → first ≤ number
    → now ≡ before ++ items_at leaf first (number - first) → next ≡ now ++ Item leaf (pos number) ∷ []
    → next ≡ before ++ items_at leaf first (number + 1 - first)
items_at-more leaf first number before now next within so_far more =
    let one : number + 1 - first ≡ (number - first) + 1 = omega (arith, within) in
    let here : first + (number - first) ≡ number = omega (arith, within) in
    let step : items_at leaf first (number + 1 - first) ≡ items_at leaf first (number - first) ++ Item leaf (pos number) ∷ [] =
    ap (items_at leaf first) one ∙ items_at-add leaf first (number - first) 1
    ∙ ap (λ (n : ℕ). items_at leaf first (number - first) ++ Item leaf (pos n) ∷ []) here in
    more ∙ ap (λ (l : List Event). l ++ Item leaf (pos number) ∷ []) so_far
    ∙ append_assoc before (items_at leaf first (number - first)) (Item leaf (pos number) ∷ [])
    ∙ ap (λ (l : List Event). before ++ l) (sym step)

-- the seat counts it
pub one_counted : (first number : ℕ) (seat now next : Shares) → first ≤ number
    → now ≡ record seat { items = seat.items + (number - first) } → next ≡ record now { items = now.items + 1 }
    → next ≡ record seat { items = seat.items + (number + 1 - first) }
one_counted first number seat now next within so_far counts =
    let sum : (seat.items + (number - first)) + 1 ≡ seat.items + (number + 1 - first) = omega (arith, within) in
    counts ∙ ap (λ (s : Shares). record s { items = s.items + 1 }) so_far ∙ ap (λ (n : ℕ). record seat { items = n }) sum

-- where a number is refused, those before it are emitted
pub begun_before : (leaf first number end : ℕ) (seat now seat' : Shares) (receipts kept receipts' : List Receipt) → first ≤ number
    → number < end → events_of kept ≡ events_of receipts ++ items_at leaf first (number - first)
    → now ≡ record seat { items = seat.items + (number - first) } → receipts' ≡ kept → seat' ≡ now
    → HasBegun leaf first end seat seat' receipts receipts'
begun_before leaf first number end seat now seat' receipts kept receipts' from below so_far counted same still = record {
  count = number - first;
  within = omega (arith, from, below);
  events = ap events_of same ∙ so_far;
  counted = still ∙ counted;
}

-- where a batch is refused, those before it and a part of it are emitted
pub begun_within : (leaf next end items : ℕ) (seat now seat' : Shares) (receipts kept receipts' : List Receipt) → end ≤ items
    → events_of kept ≡ events_of receipts ++ items_at leaf 0 next → now ≡ record seat { items = seat.items + next }
    → HasBegun leaf next end now seat' kept receipts' → HasBegun leaf 0 items seat seat' receipts receipts'
begun_within leaf next end items seat now seat' receipts kept receipts' up so_far counted part =
    let n = part.count in
    let within : next + n ≤ end = part.within in
    let here : 0 + next ≡ next = omega arith in
    let both : items_at leaf 0 (next + n) ≡ items_at leaf 0 next ++ items_at leaf next n =
    items_at-add leaf 0 next n ∙ ap (λ (m : ℕ). items_at leaf 0 next ++ items_at leaf m n) here in
    let sum : (seat.items + next) + n ≡ seat.items + (next + n) = omega arith in
    record {
      count = next + n;
      within = omega (arith, within, up);
      events = part.events ∙ ap (λ (l : List Event). l ++ items_at leaf next n) so_far
          ∙ append_assoc (events_of receipts) (items_at leaf 0 next) (items_at leaf next n)
          ∙ ap (λ (l : List Event). events_of receipts ++ l) (sym both);
      counted = part.counted ∙ ap (λ (s : Shares). record s { items = s.items + n }) counted ∙ ap (λ (m : ℕ). record seat { items = m }) sum;
    }

-- where the completion is refused, all are emitted
pub begun_all : (leaf items : ℕ) (seat seat' : Shares) (receipts kept receipts' : List Receipt)
    → events_of kept ≡ events_of receipts ++ items_at leaf 0 items → seat' ≡ record seat { items = seat.items + items }
    → receipts' ≡ kept → HasBegun leaf 0 items seat seat' receipts receipts'
begun_all leaf items seat seat' receipts kept receipts' all counted same = record {
  count = items;
  within = omega arith;
  events = ap events_of same ∙ all;
  counted = counted;
}

-- a thread that had no receipt before
pub begun_anew : (leaf items : ℕ) (first opened seat : Shares) (receipts receipts' : List Receipt) → receipts ≡ []
    → opened ≡ record first { accepted = first.accepted + 1 } → HasBegun leaf 0 items opened seat receipts receipts'
    → HasEmittedSome items first seat receipts'
begun_anew leaf items first opened seat receipts receipts' none opens begun =
    let within : 0 + begun.count ≤ items = begun.within in
    record {
      leaf = leaf;
      emitted = begun.count;
      within = omega (arith, within);
      events = begun.events ∙ ap (λ (l : List Receipt). events_of l ++ items_at leaf 0 begun.count) none;
      counted = begun.counted ∙ ap (λ (s : Shares). record s { items = s.items + begun.count }) opens;
    }

-- the numbers up to one, and then those up to another
pub items_at-joined : (leaf next end : ℕ) (before now more : List Event) → next ≤ end
    → now ≡ before ++ items_at leaf 0 next → more ≡ now ++ items_at leaf next (end - next)
    → more ≡ before ++ items_at leaf 0 end
items_at-joined leaf next end before now more within so_far then =
    let all : next + (end - next) ≡ end = omega (arith, within) in
    let here : 0 + next ≡ next = omega arith in
    let both : items_at leaf 0 end ≡ items_at leaf 0 next ++ items_at leaf next (end - next) =
    ap (items_at leaf 0) (sym all) ∙ items_at-add leaf 0 next (end - next)
    ∙ ap (λ (n : ℕ). items_at leaf 0 next ++ items_at leaf n (end - next)) here in
    then ∙ ap (λ (l : List Event). l ++ items_at leaf next (end - next)) so_far
    ∙ append_assoc before (items_at leaf 0 next) (items_at leaf next (end - next))
    ∙ ap (λ (l : List Event). before ++ l) (sym both)

pub counts_joined : (next end : ℕ) (seat now more : Shares) → next ≤ end → now ≡ record seat { items = seat.items + next }
    → more ≡ record now { items = now.items + (end - next) } → more ≡ record seat { items = seat.items + end }
counts_joined next end seat now more within so_far then =
    let sum : (seat.items + next) + (end - next) ≡ seat.items + end = omega (arith, within) in
    then ∙ ap (λ (s : Shares). record s { items = s.items + (end - next) }) so_far ∙ ap (λ (n : ℕ). record seat { items = n }) sum

-- what a source of numbers gives, as events: the numbers, and the completion
pub events_counted : (leaf from left : ℕ) → map (event_of leaf) (count_up from left) ≡ items_at leaf from left ++ End leaf Completed ∷ []
events_counted leaf from zero = refl
events_counted leaf from (suc left) = ap (λ (l : List Event). Item leaf (pos from) ∷ l) (events_counted leaf (suc from) left)

pub pulls_counted : (from left : ℕ) → length (count_up from left) ≡ left + 1
pulls_counted from zero = refl
pulls_counted from (suc left) =
    let rest = pulls_counted (suc from) left in
    let one : length (count_up from (suc left)) ≡ suc (length (count_up (suc from) left)) = refl in
    omega (arith, one, rest)

-- where there are receipts for all that such a source gives, they are of all of it
pub all_pulled : (leaf left count : ℕ) (receipts : List Receipt) → count ≡ length (count_up 0 left)
    → events_of receipts ≡ map (event_of leaf) (take count (count_up 0 left))
    → events_of receipts ≡ map (event_of leaf) (count_up 0 left)
all_pulled leaf left count receipts all are =
    are ∙ ap (λ (n : ℕ). map (event_of leaf) (take n (count_up 0 left))) all
    ∙ ap (map (event_of leaf)) (take-length (count_up 0 left))

-- how many of these events are items
abbrev item : Event → ℕ
item e = cond (is_item e) 1 0

items_counted : (leaf from left : ℕ) → sum_by item (map (event_of leaf) (count_up from left)) ≡ left
items_counted leaf from zero = sum_by-cons item (End leaf Completed) []
items_counted leaf from (suc left) =
    let one : 1 + left ≡ suc left = omega arith in
    sum_by-cons item (Item leaf (pos from)) (map (event_of leaf) (count_up (suc from) left))
    ∙ ap (λ (n : ℕ). 1 + n) (items_counted leaf (suc from) left) ∙ one

items_by_event : (receipts : List Receipt) → items_in receipts ≡ sum_by item (events_of receipts)
items_by_event [] = refl
items_by_event (r ∷ rest) =
    sum_by-cons (λ (r : Receipt). cond (is_item r.event) 1 0) r rest
    ∙ ap (λ (n : ℕ). item r.event + n) (items_by_event rest)
    ∙ sym (sum_by-cons item r.event (events_of rest))

pub items_in-counted : (leaf left : ℕ) (receipts : List Receipt) → events_of receipts ≡ map (event_of leaf) (count_up 0 left)
    → items_in receipts ≡ left
items_in-counted leaf left receipts are = items_by_event receipts ∙ ap (sum_by item) are ∙ items_counted leaf 0 left

pub from_nothing : (before rest last more : List Event) → before ≡ [] → more ≡ before ++ rest ++ last → more ≡ rest ++ last
from_nothing before rest last more none is = is ∙ ap (λ (l : List Event). l ++ rest ++ last) none

-- a feed that got no refusal is done, and one that got one is not; its turns are never over
pub done_alone : (emitted : Result (Unit {0}) Refusal) (stop : Stop) (P : Type 0) → IfErr emitted (λ why. stop ≡ Refused why)
    → OnOk emitted P → stop ≡ Done → P
done_alone (Ok x) stop P refused holds is = holds
done_alone (Err why) stop P refused holds is = let told : stop ≡ Refused why = refused in cc

pub never_over : (emitted : Result (Unit {0}) Refusal) (stop : Stop) → OnOk emitted (stop ≡ Done) → IfErr emitted (λ why. stop ≡ Refused why)
    → stop ≢ Turns
never_over (Ok x) stop done refused = λ is. let told : stop ≡ Done = done in cc
never_over (Err why) stop done refused = λ is. let told : stop ≡ Refused why = refused in cc

-- where what was refused is passed on
pub on_err : {A E : Type 0} (result : Result A E) (P : Type 0) → P → OnErr result P
on_err result P holds = search rules

-- one that is not done got a refusal
pub refused_alone : (emitted : Result (Unit {0}) Refusal) (stop : Stop) (P : Type 0) → OnOk emitted (stop ≡ Done) → OnErr emitted P
    → stop ≢ Done → P
refused_alone (Ok x) stop P done holds is = let told : stop ≡ Done = done in absurd (is told)
refused_alone (Err why) stop P done holds is = holds

-- a feed of all that such a source gives has emitted it, and its turns are never over
pub fed_whole : (leaf items count turns : ℕ) (pulls after : List Pull) (first opened seat : Shares) (receipts : List Receipt) (stop : Stop)
    → pulls ≡ count_up 0 items → AreOfPulls leaf count pulls receipts → IsFed stop count turns pulls after
    → opened ≡ record first { accepted = first.accepted + 1 } → seat ≡ record opened { items = opened.items + items_in receipts }
    → stop ≡ Done → HasEmitted items first seat receipts
fed_whole leaf items count turns pulls after first opened seat receipts Done given are fed opens counts is =
    let all : count ≡ length (count_up 0 items) = fed.1 ∙ ap length given in
    let events = all_pulled leaf items count receipts all (are ∙ ap (λ (l : List Pull). map (event_of leaf) (take count l)) given) in
    record {
      leaf = leaf;
      events = events;
      counted = counts ∙ ap (λ (n : ℕ). record opened { items = opened.items + n }) (items_in-counted leaf items receipts events)
          ∙ ap (λ (s : Shares). record s { items = s.items + items }) opens;
    }
fed_whole leaf items count turns pulls after first opened seat receipts Turns given are fed opens counts is = cc
fed_whole leaf items count turns pulls after first opened seat receipts (Refused why) given are fed opens counts is = cc

pub turns_left : (items count turns : ℕ) (pulls after : List Pull) (stop : Stop)
    → pulls ≡ count_up 0 items → IsFed stop count turns pulls after → turns ≡ items + 1 → stop ≢ Turns
turns_left items count turns pulls after Done given fed many = λ is. cc
turns_left items count turns pulls after Turns given fed many = λ is.
    let all = ap length given ∙ pulls_counted 0 items in
    let over : count ≡ turns = fed.0 in
    let within : count < length pulls = fed.1 in
    omega (arith, all, over, within, many)
turns_left items count turns pulls after (Refused why) given fed many = λ is. cc
