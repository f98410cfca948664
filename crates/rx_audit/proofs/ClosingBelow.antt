-- A pass that closes what stands below closed nodes.
use Rattle.rx_audit.proofs.Common.{◌≡◌, ℕ, zero, suc, ◌+◌, ◌-◌, ◌<◌, ◌≤◌, Bool, true, false, List, [], ◌∷◌, ◌++◌, length, Option, Some, None, refl, sym, ap}
use Rattle.rx_audit.proofs.Common.{◌∙◌, arith, cond, inl, inr, ◌⊎◌, get_or, set, get_or-set_other, get_or-set_same, ◌≢◌, length-append, slice_get, ◌==◌}
use Rattle.rx_audit.proofs.Common.{nat_lt, length-set, cases_Bool, cases_order, both_ways, false≢true, and_parts, and_from, eq-eqb, eqb-true, ltb-true, lt-ltb}
use Rattle.rx_audit.proofs.Common.{Event, ◌&&◌, none-some, same_Some, option_and_then, option_map_or, Inner, Open}
use Rattle.rx_audit.proofs.Common.{inner_named, is_switch, is_inner_of, makes_node, parent, is_open, is_switched_inner, at, shuts, parent-lt, parent_open}
use Rattle.rx_audit.proofs.Common.{is_open_step, is_open_within, IsMarked, mark_count, stays_open, last_below, keyed, IsNoted, IsClosingBelow, AreClosed}
use Rattle.rx_audit.proofs.Common.{inner_named_at, false_from_ne_true, cases_lt, ⊎_elim, cases_eq, option_and_then_some, Kind}
use Rattle.rx_audit.proofs.TestsDecideRules.{any_after}
use Rattle.std.proofs.Math.ListN.{get_or-append}
use Rattle.std.proofs.lemmas.List.{get_or_push}
use Rattle.std.proofs.lemmas.List.Sums.{sum_by-set}
use Rattle.rx_event.specs.Tree.{is_shut}
use Rattle.rx_audit.specs.Latest.{ShutsNone, IsShutAlone}
use Rattle.rx_audit.proofs.Latest.{last_none, last_holds, key_is, is_key_of}
use Rattle.rx_audit.proofs.StaysOpen.{stays_closed, shut_closed, below_closed, below_open, top_open}
use Rattle.std.proofs.Common.{rules}

pub within_marks : (ms : List Bool) (n : ℕ) → get_or ms n false ≡ true → n < length ms
within_marks [] n e = absurd (false≢true e)
within_marks (m ∷ ms) zero e = omega arith
within_marks (m ∷ ms) (suc n) e = let r = within_marks ms n e in omega arith

pub count_cleared : (ms : List Bool) (c : ℕ) → get_or ms c false ≡ true → mark_count (set ms c false) + 1 ≡ mark_count ms
count_cleared ms c y = search (rules, sum_by-set, cond, within_marks, get_or)

-- a place that had no mark
pub count_set : (ms : List Bool) (n : ℕ) (b : Bool) → n < length ms → get_or ms n false ≡ false → mark_count (set ms n b) ≡ mark_count ms + cond {A = ℕ} b 1 0
count_set ms n b l unmarked = search (rules, sum_by-set, cond, get_or)

-- a mark that was taken away, and the others
pub cleared : (ms : List Bool) (c n : ℕ) → get_or (set ms c false) n false ≡ true → (n ≢ c) × (get_or ms n false ≡ true)
cleared ms c n e = search (rules, cases_order, get_or, get_or-set_other, length, set, get_or-set_same, cases_Bool, within_marks, length-set, both_ways)

-- where a mark is gone, it was this one's or gone before
pub uncleared : (ms : List Bool) (c n : ℕ) → get_or (set ms c false) n false ≡ false → (n ≡ c) ⊎ (get_or ms n false ≡ false)
uncleared ms c n e = search (rules, cases_order, get_or, get_or-set_other)

pub mark_gone : (ms : List Bool) (c : ℕ) → get_or (set ms c false) c false ≡ false
mark_gone ms c = false_from_ne_true _ (λ y. (cleared ms c c y).0 refl)

pub stays_gone : (ms : List Bool) (c n : ℕ) → get_or ms n false ≡ false → get_or (set ms c false) n false ≡ false
stays_gone ms c n e = search (rules, cases_Bool, get_or, set, both_ways, cleared)

pub noted_more : (from : ℕ) (todo : List ℕ) (c n : ℕ) → IsNoted from todo n → IsNoted from (todo ++ c ∷ []) n
noted_more from todo c n w = search (rules, length-append, get_or-append)

pub noted_last : (from : ℕ) (todo : List ℕ) (c : ℕ) → from ≤ length todo → IsNoted from (todo ++ c ∷ []) c
noted_last from todo c m = search (rules, length-append, length, get_or_push)

pub closing_none : (h : List Event) (p bound : ℕ) (ms : List Bool) (todo : List ℕ) → ((c : ℕ) → parent h c ≡ Some p → c < bound)
    → IsClosingBelow h p bound ms ms todo todo
closing_none h p bound ms todo all = record {
  size = refl;
  kept = λ n y. y;
  below = λ n y z. absurd (both_ways (get_or ms n false) z y);
  noted = λ n y z. absurd (both_ways (get_or ms n false) z y);
  same = λ k l. refl;
  longer = omega arith;
  closed = λ k l m. absurd (omega arith);
  within = λ k l m. absurd (omega arith);
  balance = refl;
  gone = λ c below y. all c below;
}

-- one child more is closed and noted
pub closing_note : {h : List Event} {p bound : ℕ} (c : ℕ) {old : List Bool} (new : List Bool) (before after : List ℕ) →
    IsClosingBelow h p bound old new before after
    → c < length h → parent h c ≡ Some p → get_or new c false ≡ true → IsClosingBelow h p bound old (set new c false) before (after ++ c ∷ [])
closing_note {h} {p} c {old} new before after w inside child y =
    let more : length (after ++ c ∷ []) ≡ length after + 1 = length-append after (c ∷ []) in
    let long = w.longer in
    let count = count_cleared new c y in
    let balance = w.balance in
    record {
      size = length-set new c false ∙ w.size;
      kept = λ n e. w.kept n (cleared new c n e).1;
      below = λ n was gone. ⊎_elim (λ same. ap (parent h) same ∙ child) (λ z. w.below n was z) (uncleared new c n gone);
      noted = λ n was gone. ⊎_elim (λ same. rw same (noted_last (length before) after c w.longer))
          (λ z. noted_more (length before) after c n (w.noted n was z)) (uncleared new c n gone);
      same = λ k l. get_or-append after (c ∷ []) 0 k (omega arith) ∙ w.same k l;
      longer = omega arith;
      closed = λ k l m. ⊎_elim (λ b. ap (λ n. get_or (set new c false) n false) (get_or-append after (c ∷ []) 0 k b)
          ∙ stays_gone new c (get_or after k 0) (w.closed k l b)) (λ g. ap (λ n. get_or (set new c false) n false)
          (get_or_push after c 0 k (omega arith)) ∙ mark_gone new c) (cases_lt k (length after));
      within = λ k l m. ⊎_elim (λ b. rw (get_or-append after (c ∷ []) 0 k b) (w.within k l b))
          (λ g. rw (get_or_push after c 0 k (omega arith)) inside) (cases_lt k (length after));
      balance = omega arith;
      gone = λ d under e. w.gone d under (cleared new c d e).1;
    }

-- where child c is closed, the next older one is the bound
pub closing_next : {h : List Event} {p : ℕ} (c v : ℕ) {old : List Bool} (new : List Bool) (before after : List ℕ) →
    IsClosingBelow h p (suc c) old new before after
    → get_or new c false ≡ false → v ≡ last_below (keyed (parent h) p) c → IsClosingBelow h p v old new before after
closing_next {h} {p} c v new before after w shut is = record {
  size = w.size;
  kept = w.kept;
  below = w.below;
  noted = w.noted;
  same = w.same;
  longer = w.longer;
  closed = w.closed;
  within = w.within;
  balance = w.balance;
  gone = λ d under e. let m = w.gone d under e in ⊎_elim (λ l. l) (λ l. absurd (⊎_elim
      (λ same. both_ways (get_or new d false) (ap (λ k. get_or new k false) same ∙ shut) e)
      (λ apart. both_ways (keyed (parent h) p d) (last_none (keyed (parent h) p) c d (omega arith) (omega arith)) (key_is (parent h d) p under))
      (cases_eq d c))) (cases_lt d v);
}

-- where the table's word is v, each child before k is before v, and there is one at v - 1
pub child_below : (h : List Event) (p k v : ℕ) → v ≡ last_below (keyed (parent h) p) k → (d : ℕ) → parent h d ≡ Some p → d < k → d < v
child_below h p k v is d below l = ⊎_elim (λ m. m) (λ m. absurd (both_ways (keyed (parent h) p d)
    (last_none (keyed (parent h) p) k d (omega arith) l) (key_is (parent h d) p below))) (cases_lt d v)

pub here_is : (h : List Event) (p k v : ℕ) → v ≡ last_below (keyed (parent h) p) k → 0 < v → parent h (v - 1) ≡ Some p
here_is h p k v is some =
    let last : last_below (keyed (parent h) p) k ≡ suc (v - 1) = omega arith in
    is_key_of (parent h (v - 1)) p (last_holds (keyed (parent h) p) k (v - 1) last)

-- the pass over what is noted ---------------------------------------------------------------------

-- what is noted before place i is done with
pub record IsPassing (h : List Event) (e : Event) (i : ℕ) (marks : List Bool) (todo : List ℕ) : Type 0 where
  pub kept : (n : ℕ) → get_or marks n false ≡ true → is_open h n ≡ true
  pub sound : (n : ℕ) → get_or marks n false ≡ false → stays_open h e n ≡ false
  pub unshut : (n : ℕ) → get_or marks n false ≡ true → shuts h n e ≡ false
  pub pending : (c q : ℕ) → parent h c ≡ Some q → get_or marks c false ≡ true → (get_or marks q false ≡ true) ⊎ IsNoted i todo q
  pub closed : (k : ℕ) → k < length todo → get_or marks (get_or todo k 0) false ≡ false
  pub within : (k : ℕ) → k < length todo → get_or todo k 0 < length h

pub passing_starts : (h : List Event) (e : Event) (marks : List Bool) (top : ℕ) → IsMarked marks (is_open h) → top < length h
    → shuts h top e ≡ true → ((n : ℕ) → is_open h n ≡ true → shuts h n e ≡ true → n ≡ top) → IsPassing h e 0 (set marks top false) (top ∷ [])
passing_starts h e marks top tied inside shut alone = record {
  kept = λ n y. sym (tied n) ∙ (cleared marks top n y).1;
  sound = λ n z. ⊎_elim (λ same. rw same (shut_closed h e top shut)) (λ y. stays_closed h e n (sym (tied n) ∙ y)) (uncleared marks top n z);
  unshut = λ n y. let w = cleared marks top n y in false_from_ne_true (shuts h n e) (λ s. w.0 (alone n (sym (tied n) ∙ w.1) s));
  pending = λ c q under y. ⊎_elim (λ same. inr (rw same first)) (λ apart. inl (get_or-set_other marks top q false false apart
      ∙ tied q ∙ parent_open h c q (sym (tied c) ∙ (cleared marks top c y).1) under)) (cases_eq q top);
  closed = λ k l. let z : k ≡ 0 = omega arith in rw z (mark_gone marks top);
  within = λ k l. let z : k ≡ 0 = omega arith in rw z inside;
} where
  first : IsNoted 0 (top ∷ []) top
  first = record { at = 0; after = omega arith; within = omega arith; is = refl }

pub passing_more : {h : List Event} {e : Event} {i p : ℕ} (old new : List Bool) (before after : List ℕ) → i < length before → p ≡ get_or before i 0
    → IsPassing h e i old before → IsClosingBelow h p 0 old new before after → IsPassing h e (i + 1) new after
passing_more {h} {e} {i} {p} old new before after l is so_far w = record {
  kept = λ n y. so_far.kept n (w.kept n y);
  sound = λ n z. ⊎_elim (λ y. below_closed h e n p (w.below n y z) (so_far.sound p (ap (λ q. get_or old q false) is ∙ so_far.closed i l)))
      (λ g. so_far.sound n g) (cases_Bool (get_or old n false));
  unshut = λ n y. so_far.unshut n (w.kept n y);
  pending = λ c q under y. by_pending c q under y (so_far.pending c q under (w.kept c y));
  closed = λ k m. ⊎_elim (λ b. ap (λ n. get_or new n false) (w.same k b) ∙ false_from_ne_true (get_or new (get_or before k 0) false)
      (λ y. both_ways (get_or old (get_or before k 0) false) (so_far.closed k b) (w.kept (get_or before k 0) y)))
      (λ g. w.closed k g m) (cases_lt k (length before));
  within = λ k m. ⊎_elim (λ b. rw (w.same k b) (so_far.within k b)) (λ g. w.within k g m) (cases_lt k (length before));
} where
  by_pending : (c q : ℕ) → parent h c ≡ Some q → get_or new c false ≡ true → (get_or old q false ≡ true) ⊎ IsNoted i before q
      → (get_or new q false ≡ true) ⊎ IsNoted (i + 1) after q
  by_pending c q under y (inl was) = ⊎_elim (λ stays. inl stays) (λ gone. let n = w.noted q was gone in let a = n.after in
      inr (record { at = n.at; after = omega arith; within = n.within; is = n.is })) (cases_Bool (get_or new q false))
  by_pending c q under y (inr n) = let m = n.within in let a = n.after in let long = w.longer in ⊎_elim
      (λ same. absurd (let none = w.gone c (under ∙ ap Some (sym n.is ∙ ap (λ k. get_or before k 0) same ∙ sym is)) y in omega arith))
      (λ apart. inr (record { at = n.at; after = omega arith; within = omega arith; is = w.same n.at n.within ∙ n.is })) (cases_eq n.at i)

-- a mark that is left, where the pass is over, is of a node that stays open
stays_up : {h : List Event} {e : Event} {i : ℕ} (marks : List Bool) (todo : List ℕ) → length todo ≤ i → IsPassing h e i marks todo
    → (bound n : ℕ) → n < bound → get_or marks n false ≡ true → stays_open h e n ≡ true
stays_up marks todo over w zero n l y = absurd (omega arith)
stays_up {h} {e} {i} marks todo over w (suc bound) n l y = by_parent (parent h n) refl (λ p m z. stays_up marks todo over w bound p m z) where
  by_parent : (o : Option ℕ) → parent h n ≡ o → ((p : ℕ) → p < bound → get_or marks p false ≡ true → stays_open h e p ≡ true) → stays_open h e n ≡ true
  by_parent None top before = top_open h e n top (w.unshut n y) ∙ w.kept n y
  by_parent (Some p) below before = let m = parent-lt h n p below in ⊎_elim
      (λ open_above. below_open h e n p below (before p (omega arith) open_above) (w.unshut n y) ∙ w.kept n y)
      (λ noted. absurd (let a = noted.after in let b = noted.within in omega arith)) (w.pending n p below y)

pub passing_ends : (h : List Event) (e : Event) (i : ℕ) (marks : List Bool) (todo : List ℕ) → length todo ≤ i → IsPassing h e i marks todo
    → IsMarked marks (stays_open h e)
passing_ends h e i marks todo over w n = search (rules, cases_Bool, get_or, stays_up)

-- what an event takes away itself -----------------------------------------------------------------

shut_after : (h : List Event) (n c : ℕ) (e : Event) → n < c → slice_get h c ≡ Some e → shuts h n e ≡ true → is_shut h n ≡ true
unfolding is_shut
shut_after h n c e l at_c y = any_after (shuts h n) (suc n) c h e (omega arith) at_c y

inner_event : (e : Event) (f : ℕ) → inner_named e ≡ Some f → (kind : Kind) × (e ≡ Open (Inner f) kind)
inner_event x0 f named = search (rules, none-some, same_Some)

and_not : (a b : Bool) → ((a && false) && b) ≡ false
and_not a b = grind arith

-- an older inner of a Switch is closed
pub older_closed : (h : List Event) (f n c : ℕ) → n < c → inner_named_at h c ≡ Some f → is_switched_inner h f n ≡ true → is_open h n ≡ false
older_closed h f n c l inner shut = option_and_then_some inner_named (slice_get h c) f inner (λ x at_c named.
    let made = inner_event x f named in
    let gone = shut_after h n c (Open (Inner f) made.0) l (at_c ∙ ap Some made.1) shut in
    is_open_step h n ∙ rw gone (and_not (at makes_node h n) (option_map_or (is_open h) (parent h n) true)))

inner_at : (h : List Event) (f n : ℕ) → at (is_inner_of f) h n ≡ true → inner_named_at h n ≡ Some f
inner_at h f n y = search (rules, slice_get, option_map_or, option_and_then, false≢true, eqb-true)

inner_of_named : (h : List Event) (f n : ℕ) → inner_named_at h n ≡ Some f → at (is_inner_of f) h n ≡ true
inner_of_named h f n y = search (rules, slice_get, option_and_then, option_map_or, none-some, eq-eqb, same_Some)

-- no inner of it, or a youngest one that is closed or no younger than it
pub inner_none : (h : List Event) (f v : ℕ) → v ≡ last_below (keyed (inner_named_at h) f) (length h)
    → (0 < v → f < v - 1 → is_open h (v - 1) ≡ false) → ShutsNone h (λ n. is_switched_inner h f n)
inner_none h f v is shut n o = false_from_ne_true (is_switched_inner h f n) (λ s.
    let parts = and_parts (nat_lt f n && at is_switch h f) (at (is_inner_of f) h n) s in
    let below : f < n = ltb-true f n (and_parts (nat_lt f n) (at is_switch h f) parts.0).0 in
    let inside : n < length h = is_open_within h n o in
    ⊎_elim (λ l. let last : last_below (keyed (inner_named_at h) f) (length h) ≡ suc (v - 1) = omega arith in
    ⊎_elim (λ e. both_ways (is_open h n) (ap (is_open h) e ∙ shut (omega arith) (omega arith)) o)
    (λ apart. both_ways (is_open h n) (older_closed h f n (v - 1) (omega arith)
    (is_key_of (inner_named_at h (v - 1)) f (last_holds (keyed (inner_named_at h) f) (length h) (v - 1) last)) s) o) (cases_eq n (v - 1)))
    (λ l. both_ways (keyed (inner_named_at h) f n) (last_none (keyed (inner_named_at h) f) (length h) n (omega arith) inside)
    (key_is (inner_named_at h n) f (inner_at h f n parts.1))) (cases_lt n v))

-- or an open one, which is the only one
pub inner_alone : (h : List Event) (f v : ℕ) → at is_switch h f ≡ true → v ≡ last_below (keyed (inner_named_at h) f) (length h)
    → 0 < v → f < v - 1 → is_open h (v - 1) ≡ true → IsShutAlone h (λ n. is_switched_inner h f n) (v - 1)
inner_alone h f v switch is some below here =
    let last : last_below (keyed (inner_named_at h) f) (length h) ≡ suc (v - 1) = omega arith in
    let named = is_key_of (inner_named_at h (v - 1)) f (last_holds (keyed (inner_named_at h) f) (length h) (v - 1) last) in
    record {
      within = is_open_within h (v - 1) here;
      open_before = here;
      shut = and_from (nat_lt f (v - 1) && at is_switch h f) (at (is_inner_of f) h (v - 1))
          (and_from (nat_lt f (v - 1)) (at is_switch h f) (lt-ltb f (v - 1) below) switch) (inner_of_named h f (v - 1) named);
      alone = λ n o s. ⊎_elim (λ e. e) (⊎_elim (λ l. absurd (both_ways (is_open h n) (older_closed h f n (v - 1) l named s) o))
          (λ g. absurd (both_ways (keyed (inner_named_at h) f n) (last_none (keyed (inner_named_at h) f) (length h) n (omega arith) (is_open_within h n o))
          (key_is (inner_named_at h n) f (inner_at h f n (and_parts (nat_lt f n && at is_switch h f) (at (is_inner_of f) h n) s).1)))))
          (cases_order n (v - 1));
    }

-- where nothing open is shut, all stays as it was
pub all_stays : (h : List Event) (e : Event) (marks : List Bool) → IsMarked marks (is_open h) → ShutsNone h (λ n. shuts h n e) → IsMarked marks (stays_open h e)
all_stays h e marks tied none = passing_ends h e 0 marks [] (omega arith) (record {
  kept = λ n y. sym (tied n) ∙ y;
  sound = λ n z. stays_closed h e n (sym (tied n) ∙ z);
  unshut = λ n y. none n (sym (tied n) ∙ y);
  pending = λ c q below y. inl (tied q ∙ parent_open h c q (sym (tied c) ∙ y) below);
  closed = λ k l. absurd (omega arith);
  within = λ k l. absurd (omega arith);
})

pub alone_number : (h : List Event) (n : ℕ) → is_open h n ≡ true → IsShutAlone h (λ k. n == k) n
alone_number h n o = search (rules, is_open_within, eq-eqb, eqb-true)

pub none_number : (h : List Event) (n : ℕ) → is_open h n ≡ false → ShutsNone h (λ k. n == k)
none_number h n closed k o = search (rules, false_from_ne_true, both_ways, eqb-true, closed)

-- what is listed in the end ---------------------------------------------------------------------------

pub noted_first : (h : List Event) (ms : List Bool) (top : ℕ) → IsMarked ms (is_open h)
    → (n : ℕ) → is_open h n ≡ true → get_or (set ms top false) n false ≡ false → IsNoted 0 (top ∷ []) n
noted_first h ms top tied n o gone = search (rules, uncleared, get_or, both_ways)

pub noted_on : {h : List Event} {p : ℕ} {old : List Bool} (new : List Bool) (before after : List ℕ)
    → ((n : ℕ) → is_open h n ≡ true → get_or old n false ≡ false → IsNoted 0 before n) → IsClosingBelow h p 0 old new before after
    → (n : ℕ) → is_open h n ≡ true → get_or new n false ≡ false → IsNoted 0 after n
noted_on {old} new before after so_far w n o gone = search (rules, cases_Bool, get_or)

pub closed_listed : (h : List Event) (e : Event) (marks : List Bool) (todo : List ℕ) → IsMarked marks (stays_open h e)
    → ((n : ℕ) → is_open h n ≡ true → get_or marks n false ≡ false → IsNoted 0 todo n)
    → ((k : ℕ) → k < length todo → get_or marks (get_or todo k 0) false ≡ false) → AreClosed h e todo
closed_listed h e marks todo now noted gone = search (rules, get_or)

pub none_listed : (h : List Event) (e : Event) (marks : List Bool) → IsMarked marks (is_open h) → IsMarked marks (stays_open h e) → AreClosed h e []
none_listed h e marks tied now = search (rules, both_ways)
