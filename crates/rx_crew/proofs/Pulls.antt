-- One pull more.
use Rattle.rx_crew.proofs.Common.{◌≡◌, ℕ, ◌+◌, ◌<◌, IsTrue, List, length, refl, sym, ap, ◌∙◌, arith, Some, add-one, None, length-drop, is_item, Event, Shares}
use Rattle.rx_crew.proofs.Common.{Receipt, Pull, Stop, ends_once}
use Rattle.rx_event.proofs.Laws.Common.{zero, suc, true, false, [], ◌∷◌, ◌++◌, take, drop, false≢true, map-append, length-append, sum_by_push, cond, map}
use Rattle.rx_crew.specs.Feeds.{event_of, items_pulled, items_in, is_end, AreOfPulls, IsFed, IsPullEmitted, IsFeedTurn}
use Rattle.rx_crew.specs.declared.feeding.Pull.TheVariants.{Item as PullItem, Done as PullDone}
use Rattle.rx_crew.specs.declared.working.Stop.TheVariants.{Done, Turns, Refused}

record NextOf (n : ℕ) (xs : List Pull) (p : Pull) (rest : List Pull) : Type 0 where
  pub taken : take (suc n) xs ≡ take n xs ++ p ∷ []
  pub left : drop (suc n) xs ≡ rest
  pub within : n < length xs

next_of : (n : ℕ) (xs : List Pull) (p : Pull) (rest : List Pull) → drop n xs ≡ p ∷ rest → NextOf n xs p rest
next_of zero [] p rest e = cc
next_of (suc n) [] p rest e = cc
next_of zero (x ∷ xs) p rest e =
    let first : x ≡ p = cc in
    let others : xs ≡ rest = cc in
    record { taken = ap (λ (q : Pull). q ∷ []) first; left = others; within = omega arith }
next_of (suc n) (x ∷ xs) p rest e =
    let r = next_of n xs p rest e in
    record { taken = ap (λ (l : List Pull). x ∷ l) r.taken; left = r.left; within = let w = r.within in omega arith }

-- the next of the pulls, and what is left after it
record IsNext (n : ℕ) (xs : List Pull) (p : Pull) (rest : List Pull) : Type 0 where
  pub taken : take (n + 1) xs ≡ take n xs ++ p ∷ []
  pub left : drop (n + 1) xs ≡ rest
  pub within : n < length xs

next_pull : (n : ℕ) (xs : List Pull) (p : Pull) (rest : List Pull) → drop n xs ≡ p ∷ rest → IsNext n xs p rest
next_pull n xs p rest e =
    let r = next_of n xs p rest e in
    record { taken = rw add-one r.taken; left = rw add-one r.left; within = r.within }

ends_here : (p : Pull) (rest : List Pull) → is_end p ≡ true → ends_once (p ∷ rest) ≡ true → rest ≡ []
ends_here (PullItem v) rest is e = absurd (false≢true is)
ends_here (PullDone t) [] is e = refl
ends_here (PullDone t) (p ∷ rest) is e = absurd (false≢true e)

goes_on : (p : Pull) (rest : List Pull) → is_end p ≡ false → ends_once (p ∷ rest) ≡ true → ends_once rest ≡ true
goes_on (PullItem v) rest is e = e
goes_on (PullDone t) rest is e = absurd (false≢true (sym is))

item_or_none : (leaf : ℕ) (p : Pull) → items_pulled p ≡ cond (is_item (event_of leaf p)) 1 0
item_or_none leaf (PullItem v) = refl
item_or_none leaf (PullDone t) = refl

-- the count of the items among the receipts
items-push : (leaf : ℕ) (p : Pull) (receipts : List Receipt) (r : Receipt)
    → r.event ≡ event_of leaf p → items_in (receipts ++ r ∷ []) ≡ items_in receipts + items_pulled p
items-push leaf p receipts r is =
    sum_by_push (λ (r : Receipt). cond (is_item r.event) 1 0) receipts r
    ∙ ap (λ (n : ℕ). items_in receipts + n) (ap (λ (e : Event). cond (is_item e) 1 0) is ∙ sym (item_or_none leaf p))

-- what a feed has done when these pulls are left: the receipts are of the first pulls, and the seat counts their items
pub record SoFar (leaf : ℕ) (before now : List Pull) (first seat : Shares) (receipts : List Receipt) : Type 0 where
  pub left : now ≡ drop (length receipts) before
  pub given : map (λ r. r.event) receipts ≡ map (event_of leaf) (take (length receipts) before)
  pub shares : seat ≡ record first { items = first.items + items_in receipts }

one_more : {leaf : ℕ} {before now : List Pull} (after : List Pull) {first seat : Shares} (seat' : Shares) (receipts receipts' : List Receipt) (pull : Pull)
    → SoFar leaf before now first seat receipts → now ≡ pull ∷ after → IsPullEmitted leaf pull seat seat' receipts receipts'
    → (length receipts' ≡ length receipts + 1) × (length receipts < length before) × SoFar leaf before after first seat' receipts'
one_more {leaf} {before} after {first} seat' receipts receipts' pull far pulled emitted =
    let next = next_pull (length receipts) before pull after (sym far.left ∙ pulled) in
    let one : length receipts' ≡ length receipts + 1 = ap length emitted.added ∙ length-append receipts (emitted.receipt ∷ []) in
    let more = items-push leaf pull receipts emitted.receipt emitted.event in
    let sum : (first.items + items_in receipts) + items_pulled pull ≡ first.items + items_in receipts' = rw emitted.added (omega (arith, more)) in (
      one,
      next.within,
      record {
        left = rw one (sym next.left);
        given = rw (one, emitted.added)
            (map-append (λ (r : Receipt). r.event) receipts (emitted.receipt ∷ [])
            ∙ ap (λ (l : List Event). l ++ emitted.receipt.event ∷ []) far.given
            ∙ ap (λ (e : Event). map (event_of leaf) (take (length receipts) before) ++ e ∷ []) emitted.event
            ∙ sym (map-append (event_of leaf) (take (length receipts) before) (pull ∷ [])) ∙ ap (map (event_of leaf)) (sym next.taken));
        shares = emitted.counted
            ∙ ap (λ (s : Shares). record s { items = s.items + items_pulled pull }) far.shares
            ∙ ap (λ (n : ℕ). record first { items = n }) sum;
      },
    )

-- a turn after which the feed goes on
pub record GoesOn (leaf : ℕ) (before after : List Pull) (first seat' : Shares) (receipts receipts' : List Receipt) : Type 0 where
  pub counted : length receipts' ≡ length receipts + 1
  pub far : SoFar leaf before after first seat' receipts'
  pub course : IsTrue (ends_once after)

pub turn_more : {leaf : ℕ} {before now after : List Pull} (first seat seat' : Shares) (receipts receipts' : List Receipt)
    → SoFar leaf before now first seat receipts → IsTrue (ends_once now) → IsFeedTurn leaf None now after seat seat' receipts receipts'
    → GoesOn leaf before after first seat' receipts receipts'
turn_more {after} first seat seat' receipts receipts' far course turn =
    let more = one_more after seat' receipts receipts' turn.pull far turn.pulled turn.becomes.1 in
    record {
      counted = more.0;
      far = more.2;
      course = goes_on turn.pull after turn.becomes.0 (sym (ap ends_once turn.pulled) ∙ course);
    }

-- a turn with which it stops
pub record Stops (leaf : ℕ) (why : Stop) (turns : ℕ) (before after : List Pull) (first seat' : Shares) (receipts' : List Receipt) : Type 0 where
  pub receipts : AreOfPulls leaf (length receipts') before receipts'
  pub stop : IsFed why (length receipts') turns before after
  pub shares : seat' ≡ record first { items = first.items + items_in receipts' }

pub last_turn : {leaf : ℕ} (turns : ℕ) (stop : Stop) {before now after : List Pull} {first seat seat' : Shares} (receipts receipts' : List Receipt)
    → SoFar leaf before now first seat receipts → IsTrue (ends_once now) → length receipts < turns
    → IsFeedTurn leaf (Some stop) now after seat seat' receipts receipts'
    → Stops leaf stop turns before after first seat' receipts'
last_turn turns Done {before} {after} {seat'} receipts receipts' far course within turn =
    let more = one_more after seat' receipts receipts' turn.pull far turn.pulled turn.becomes.1 in
    let none : after ≡ [] = ends_here turn.pull after turn.becomes.0 (sym (ap ends_once turn.pulled) ∙ course) in
    let one : length receipts' ≡ length receipts + 1 = more.0 in
    let inside : length receipts < length before = more.1 in
    let rest : length (drop (length receipts') before) ≡ 0 = ap length (sym (more.2).left ∙ none) in
    record {
      receipts = (more.2).given;
      stop = (omega (arith, one, within), omega (arith, length-drop (length receipts') before, rest, one, inside), none);
      shares = (more.2).shares;
    }
last_turn turns Turns receipts receipts' far course within turn = absurd turn.becomes
last_turn turns (Refused why) {before} {after} receipts receipts' far course within turn =
    let next = next_pull (length receipts) before turn.pull after (sym far.left ∙ turn.pulled) in
    let same : receipts' ≡ receipts = turn.becomes.1 in
    record {
      receipts = rw same far.given;
      stop = rw same (within, next.within, sym next.left);
      shares = rw same (turn.becomes.0 ∙ far.shares);
    }

-- where an end is still to come, there are more pulls than receipts
pub not_over : (leaf : ℕ) (before now : List Pull) (first seat : Shares) (receipts : List Receipt)
    → SoFar leaf before now first seat receipts → IsTrue (ends_once now) → length receipts < length before
not_over leaf before [] first seat receipts far course = absurd (false≢true course)
not_over leaf before (p ∷ rest) first seat receipts far course = (next_pull (length receipts) before p rest (sym far.left)).within
