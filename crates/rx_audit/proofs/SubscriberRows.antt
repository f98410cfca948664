-- The lists of the subscribers of each hub: one taken off, and a new one.
use Rattle.rx_audit.proofs.Common.{◌≡◌, ◌≢◌, ℕ, zero, suc, ◌+◌, ◌-◌, ◌<◌, ◌≤◌, Bool, true, false, List, [], ◌∷◌, ◌++◌, length, Some, None, cond}
use Rattle.rx_audit.proofs.Common.{refl, sym, ap, ◌∙◌, arith, get_or, set, get_or-set_other, get_or-set_same, length-set}
use Rattle.rx_audit.proofs.Common.{sum_by, sum_by-cons, option_map_or, cases_Bool, cases_order, both_ways, and_parts, ne_eqb, none-some, Event}
use Rattle.rx_audit.proofs.Common.{is_subscriber_of, hub_subscribed, at, falling, at-append, at_within, slice_get_last, Subscribers}
use Rattle.rx_audit.proofs.Common.{last_below, table_with, on_list, IsRow, number_by_word, AreLinked, hub_subscribed_at, and_false}
use Rattle.rx_audit.proofs.Common.{false_from_ne_true, subscribed_event, ⊎_elim, cases_eq, inl, inr, ◌⊎◌, falling}
use Rattle.std.proofs.lemmas.List.Sums.{sum_by_push}
use Rattle.std.proofs.lemmas.Option.{slice_get_past}
use Rattle.rx_event.proofs.Laws.Connections.{one_hub}
use Rattle.rx_audit.specs.HubTables.{hub_if_last, listed_hub}
use Rattle.rx_audit.proofs.Latest.{last_le, last_holds, one_longer, length-table_with}
use Rattle.rx_audit.proofs.ClosingBelow.{within_marks, mark_gone}
use Rattle.rx_audit.proofs.TestsDecideRules.{same_subscribed, subscriber_at, at_subscriber}
use Rattle.rx_audit.proofs.Neighbours.{IsLess, row_less, row_more, row_apart}
use Rattle.rx_audit.proofs.CountedRows.{falling_same, falling_less, falling_longer, falling_more}
use Rattle.std.proofs.Common.{rules}

at_past : (q : Event → Bool) (h : List Event) (n : ℕ) → length h ≤ n → at q h n ≡ false
at_past q h n l = ap (λ o. option_map_or q o false) (slice_get_past h n l)

-- where a number on a list stands
on_within : (h : List Event) (ms : List Bool) (g k : ℕ) → on_list h ms g k ≡ true → k < length h
on_within h ms g k y = at_within (is_subscriber_of g) h k (and_parts _ _ y).0

on_marked : (h : List Event) (ms : List Bool) (g k : ℕ) → on_list h ms g k ≡ true → k < length ms
on_marked h ms g k y = within_marks ms k (and_parts (at (is_subscriber_of g) h k) (get_or ms k false) y).1

-- what a word does not lead to stays
with_other : (table : List ℕ) (word k value : ℕ) → ((m : ℕ) → word ≡ suc m → k ≢ m)
    → get_or (table_with table (number_by_word word) value) k 0 ≡ get_or table k 0
with_other table zero k value apart = refl
with_other table (suc m) k value apart = get_or-set_other table m k value 0 (apart m refl)

-- on the list of one hub alone
on_one : (h : List Event) (ms : List Bool) {g : ℕ} (j k n : ℕ) → on_list h ms g k ≡ true → on_list h ms j n ≡ true → k ≡ n → g ≡ j
on_one h ms {g} j k n one other same = search (rules, one_hub, and_parts)

-- one that is taken off -----------------------------------------------------------------------------

module _ (h : List Event) (size : ℕ) (old new : Subscribers) (w : AreLinked h size old)
    (s : ℕ) (is_listed : new.listed.items ≡ set old.listed.items s false) where
  on_old : ℕ → ℕ → Bool
  on_old = on_list h old.listed.items

  on_other : (g k : ℕ) → k ≢ s → on_list h new.listed.items g k ≡ on_list h old.listed.items g k
  on_other g k apart = search (rules, get_or, get_or-set_other)

  on_gone : (g : ℕ) → on_list h new.listed.items g s ≡ false
  on_gone g = search (rules, get_or, mark_gone, and_false)

  on_was : (g k : ℕ) → on_list h new.listed.items g k ≡ true → on_list h old.listed.items g k ≡ true
  on_was g k y = sym (on_other g k (λ same. both_ways _ (ap (on_list h new.listed.items g) same ∙ on_gone g) y)) ∙ y

  size_same : length new.listed.items ≡ size
  size_same = ap length is_listed ∙ length-set old.listed.items s false ∙ w.listed_size

  on_same : (g : ℕ) → on_list h old.listed.items g s ≡ false → (k : ℕ) → on_list h new.listed.items g k ≡ on_list h old.listed.items g k
  on_same g out k = ⊎_elim (λ same. ap (on_list h new.listed.items g) same ∙ on_gone g ∙ sym (ap (on_list h old.listed.items g) same ∙ out))
      (λ apart. on_other g k apart) (cases_eq k s)

  same_count : (g : ℕ) → on_list h old.listed.items g s ≡ false → sum_by (λ k. 1) (falling (on_list h old.listed.items g) (length h))
      ≡ sum_by (λ k. 1) (falling (on_list h new.listed.items g) (length h))
  same_count g out = ap (sum_by (λ k. 1)) (sym (falling_same (on_list h new.listed.items g) (on_list h old.listed.items g) (on_same g out) (length h)))

-- which was on none
pub rows_still : {h : List Event} {size : ℕ} {old : Subscribers} (new : Subscribers) (s : ℕ) → AreLinked h size old → listed_hub h old.listed.items s ≡ None
    → new.listed.items ≡ set old.listed.items s false → new.last.items ≡ old.last.items → new.before.items ≡ old.before.items
    → new.after.items ≡ old.after.items → new.counts.items ≡ old.counts.items → AreLinked h size new
rows_still {h} {size} {old} new s w none listed last before after counts = record {
  rows = λ g. rw (last, before, after) (row_apart old.before.items old.after.items (on_same h size old new w s listed g (out g)) (omega arith)
      (on_within h old.listed.items g) (λ k y. refl) (λ k y. refl) (w.rows g));
  hubbed = λ g k y. w.hubbed g k (on_was h size old new w s listed g k y);
  counted = λ g. rw counts (w.counted g ∙ same_count h size old new w s listed g (out g));
  counts_size = ap length counts ∙ w.counts_size;
  listed_size = size_same h size old new w s listed;
  last_size = ap length last ∙ w.last_size;
  before_size = ap length before ∙ w.before_size;
  after_size = ap length after ∙ w.after_size;
} where
  out : (g : ℕ) → on_list h old.listed.items g s ≡ false
  out g = false_from_ne_true _ (λ y.
      let p : (at (is_subscriber_of g) h s ≡ true) × (get_or old.listed.items s false ≡ true) = and_parts _ _ y in
      let hub : listed_hub h old.listed.items s ≡ Some g = ap (λ b. cond b (hub_subscribed_at h s) None) p.1 ∙ at_subscriber h s g p.0 in
      none-some g (sym none ∙ hub))

-- or on that of g
pub rows_less : {h : List Event} {size : ℕ} {old new : Subscribers} (g s : ℕ) → AreLinked h size old → listed_hub h old.listed.items s ≡ Some g
    → new.listed.items ≡ set old.listed.items s false
    → new.last.items ≡ table_with old.last.items (hub_if_last (get_or old.after.items s 0) g) (get_or old.before.items s 0)
    → new.before.items ≡ table_with old.before.items (number_by_word (get_or old.after.items s 0)) (get_or old.before.items s 0)
    → new.after.items ≡ table_with old.after.items (number_by_word (get_or old.before.items s 0)) (get_or old.after.items s 0)
    → new.counts.items ≡ set old.counts.items g (get_or old.counts.items g 0 - 1) → AreLinked h size new
rows_less {h} {size} {old} {new} g s w hub listed last before after counts = record {
  rows = λ j. ⊎_elim (λ same. rw same own) (λ apart. other j apart) (cases_eq j g);
  hubbed = λ j k y. w.hubbed j k (on_was h size old new w s listed j k y);
  counted = λ j. ⊎_elim (λ same. rw same own_count) (λ apart. ap (λ (ls : List ℕ). get_or ls j 0) counts
      ∙ get_or-set_other old.counts.items g j (get_or old.counts.items g 0 - 1) 0 apart ∙ w.counted j
      ∙ same_count h size old new w s listed j (out j apart)) (cases_eq j g);
  counts_size = ap length counts ∙ length-set old.counts.items g _ ∙ w.counts_size;
  listed_size = size_same h size old new w s listed;
  last_size = ap length last ∙ length-table_with old.last.items _ _ ∙ w.last_size;
  before_size = ap length before ∙ length-table_with old.before.items _ _ ∙ w.before_size;
  after_size = ap length after ∙ length-table_with old.after.items _ _ ∙ w.after_size;
} where
  here : on_list h old.listed.items g s ≡ true
  here = ⊎_elim (λ (y : get_or old.listed.items s false ≡ true). rw (subscriber_at h s g (sym (ap (λ b. cond b (hub_subscribed_at h s) None) y) ∙ hub)) y)
      (λ z. absurd (none-some g (sym (ap (λ b. cond b (hub_subscribed_at h s) None) z) ∙ hub))) (cases_Bool (get_or old.listed.items s false))

  row : IsRow (on_list h old.listed.items g) (length h) (get_or old.last.items g 0) old.before.items old.after.items
  row = w.rows g

  in_before : (j k : ℕ) → on_list h old.listed.items j k ≡ true → k < length old.before.items
  in_before j k y = let a = on_marked h old.listed.items j k y in let b = w.listed_size in let c = w.before_size in omega arith

  in_after : (j k : ℕ) → on_list h old.listed.items j k ≡ true → k < length old.after.items
  in_after j k y = let a = on_marked h old.listed.items j k y in let b = w.listed_size in let c = w.after_size in omega arith

  ends : get_or old.after.items s 0 ≡ 0 → get_or new.last.items g 0 ≡ get_or old.before.items s 0
  ends none =
      let l = w.hubbed g s here in
      let size_is = w.last_size in
      ap (λ (ls : List ℕ). get_or ls g 0) (last ∙ ap (λ a. table_with old.last.items (hub_if_last a g) (get_or old.before.items s 0)) none)
      ∙ get_or-set_same old.last.items g (get_or old.before.items s 0) 0 (omega arith)

  goes : 0 < get_or old.after.items s 0 → get_or new.last.items g 0 ≡ get_or old.last.items g 0
  goes some =
      let is : get_or old.after.items s 0 ≡ suc (get_or old.after.items s 0 - 1) = omega arith in
      ap (λ (ls : List ℕ). get_or ls g 0) (last ∙ ap (λ a. table_with old.last.items (hub_if_last a g) (get_or old.before.items s 0)) is)

  less : IsLess (on_list h old.listed.items g) (on_list h new.listed.items g) s
  less = record { same = on_other h size old new w s listed g; gone = on_gone h size old new w s listed g; here = here }

  own_count : get_or new.counts.items g 0 ≡ sum_by (λ k. 1) (falling (on_list h new.listed.items g) (length h))
  own_count =
      let inside = w.hubbed g s here in
      let size_is = w.counts_size in
      let is : get_or new.counts.items g 0 ≡ get_or old.counts.items g 0 - 1 = ap (λ (ls : List ℕ). get_or ls g 0) counts
      ∙ get_or-set_same old.counts.items g (get_or old.counts.items g 0 - 1) 0 (omega arith) in
      let was = w.counted g in
      let one = falling_less less (λ k. 1) (length h) (on_within h old.listed.items g s here) in omega arith

  own : IsRow (on_list h new.listed.items g) (length h) (get_or new.last.items g 0) new.before.items new.after.items
  own = rw (before, after) (row_less less
      (record { below = on_within h old.listed.items g; in_before = in_before g; in_after = in_after g }) row ends goes)

  -- the list of another hub
  last_apart : (j : ℕ) → j ≢ g → get_or new.last.items j 0 ≡ get_or old.last.items j 0
  last_apart j apart = ap (λ (ls : List ℕ). get_or ls j 0) last ∙ by_word (get_or old.after.items s 0) where
    by_word : (a : ℕ) → get_or (table_with old.last.items (hub_if_last a g) (get_or old.before.items s 0)) j 0 ≡ get_or old.last.items j 0
    by_word zero = get_or-set_other old.last.items g j (get_or old.before.items s 0) 0 apart
    by_word (suc m) = refl

  before_apart : (j k : ℕ) → j ≢ g → on_list h old.listed.items j k ≡ true → get_or new.before.items k 0 ≡ get_or old.before.items k 0
  before_apart j k apart y = ap (λ (ls : List ℕ). get_or ls k 0) before ∙ with_other old.before.items (get_or old.after.items s 0) k _
      (λ m e same. apart (on_one h old.listed.items g k m y ((row.up s here).some m e).0 same))

  after_apart : (j k : ℕ) → j ≢ g → on_list h old.listed.items j k ≡ true → get_or new.after.items k 0 ≡ get_or old.after.items k 0
  after_apart j k apart y = ap (λ (ls : List ℕ). get_or ls k 0) after ∙ with_other old.after.items (get_or old.before.items s 0) k _
      (λ m e same. apart (on_one h old.listed.items g k m y (last_holds (on_list h old.listed.items g) s m (sym (row.down s here) ∙ e)) same))

  out : (j : ℕ) → j ≢ g → on_list h old.listed.items j s ≡ false
  out j apart = false_from_ne_true _ (λ y. apart (on_one h old.listed.items g s s y here refl))

  other : (j : ℕ) → j ≢ g → IsRow (on_list h new.listed.items j) (length h) (get_or new.last.items j 0) new.before.items new.after.items
  other j apart = rw (last_apart j apart) (row_apart new.before.items new.after.items
      (on_same h size old new w s listed j (out j apart)) (omega arith)
      (on_within h old.listed.items j) (λ k y. before_apart j k apart y) (λ k y. after_apart j k apart y) (w.rows j))

-- a new one -----------------------------------------------------------------------------------------

-- what is on the list of a hub that the event does not subscribe to
on_longer : (h : List Event) (e : Event) (old new : List Bool) (j : ℕ) → is_subscriber_of j e ≡ false
    → ((k : ℕ) → k < length h → get_or new k false ≡ get_or old k false) → (k : ℕ) → on_list (h ++ e ∷ []) new j k ≡ on_list h old j k
on_longer h e old new j out same k = ⊎_elim (λ (is : k ≡ length h). rw (
  ap (at (is_subscriber_of j) (h ++ e ∷ [])) is ∙ ap (λ o. option_map_or (is_subscriber_of j) o false) (slice_get_last h e) ∙ out,
  at_past (is_subscriber_of j) h k (omega arith),
) refl)
    (⊎_elim (λ (l : k < length h). rw (at-append (is_subscriber_of j) h (e ∷ []) k l, same k l) refl) (λ (l : length h < k). let longer = one_longer h e in
    rw (at_past (is_subscriber_of j) (h ++ e ∷ []) k (omega arith), at_past (is_subscriber_of j) h k (omega arith)) refl)) (cases_order k (length h))

pub subscribes_none : (e : Event) (g : ℕ) → hub_subscribed e ≡ None → is_subscriber_of g e ≡ false
subscribes_none e g hub = sym (same_subscribed e g) ∙ rw hub refl

-- none is new
pub rows_same : {h : List Event} (e : Event) {size : ℕ} {old : Subscribers} (new : Subscribers) → AreLinked h size old
    → ((j k : ℕ) → on_list (h ++ e ∷ []) new.listed.items j k ≡ on_list h old.listed.items j k) → length new.listed.items ≡ length old.listed.items
    → new.last.items ≡ old.last.items → new.before.items ≡ old.before.items → new.after.items ≡ old.after.items → new.counts.items ≡ old.counts.items
    → AreLinked (h ++ e ∷ []) size new
rows_same {h} e {size} {old} new w same listed last before after counts = record {
  rows = λ j. rw (last, before, after) (row_apart old.before.items old.after.items (same j) (let l = one_longer h e in omega arith)
      (on_within h old.listed.items j) (λ k y. refl) (λ k y. refl) (w.rows j));
  hubbed = λ j k y. w.hubbed j k (sym (same j k) ∙ y);
  counted = λ j. rw (counts, one_longer h e) (w.counted j ∙ ap (sum_by (λ k. 1)) (sym (falling_longer (on_list h old.listed.items j)
      (on_list (h ++ e ∷ []) new.listed.items j) (length h) (same j) (on_within h old.listed.items j))));
  listed_size = listed ∙ w.listed_size;
  last_size = ap length last ∙ w.last_size;
  before_size = ap length before ∙ w.before_size;
  after_size = ap length after ∙ w.after_size;
  counts_size = ap length counts ∙ w.counts_size;
}

-- the event subscribes to none
pub rows_other : {h : List Event} (e : Event) {size : ℕ} (s : Subscribers) → AreLinked h size s → ((j : ℕ) → is_subscriber_of j e ≡ false)
    → AreLinked (h ++ e ∷ []) size s
rows_other {h} e s w none = rows_same e s w (λ j. on_longer h e s.listed.items s.listed.items j (none j) (λ k l. refl)) refl refl refl refl refl

-- or the node that it makes gets no mark
pub rows_out : {h : List Event} (e : Event) {size : ℕ} {old : Subscribers} (new : Subscribers) → AreLinked h size old
    → new.listed.items ≡ set old.listed.items (length h) false → new.last.items ≡ old.last.items → new.before.items ≡ old.before.items
    → new.after.items ≡ old.after.items → new.counts.items ≡ old.counts.items → AreLinked (h ++ e ∷ []) size new
rows_out {h} e {size} {old} new w listed last before after counts =
    rows_same e new w (λ j k. by_place j k (cases_order k (length h))) (ap length listed ∙ length-set old.listed.items (length h) false)
    last before after counts where
      marks_same : (k : ℕ) → k < length h → get_or new.listed.items k false ≡ get_or old.listed.items k false
      marks_same k l = ap (λ (ms : List Bool). get_or ms k false) listed ∙ get_or-set_other old.listed.items (length h) k false false (omega arith)

      unmarked : get_or new.listed.items (length h) false ≡ false
      unmarked = ap (λ (ms : List Bool). get_or ms (length h) false) listed ∙ mark_gone old.listed.items (length h)

      by_place : (j k : ℕ) → (k ≡ length h) ⊎ ((k < length h) ⊎ (length h < k)) → on_list (h ++ e ∷ []) new.listed.items j k ≡ on_list h old.listed.items j k
      by_place j k (inl is) = rw (ap (λ n. get_or new.listed.items n false) is ∙ unmarked, at_past (is_subscriber_of j) h k (omega arith))
          (and_false (at (is_subscriber_of j) (h ++ e ∷ []) k))
      by_place j k (inr (inl l)) = rw (at-append (is_subscriber_of j) h (e ∷ []) k l, marks_same k l) refl
      by_place j k (inr (inr l)) = let longer = one_longer h e in
          rw (at_past (is_subscriber_of j) (h ++ e ∷ []) k (omega arith), at_past (is_subscriber_of j) h k (omega arith)) refl

-- number n was put on the list of hub g, after all others
pub record IsPutLast (g n : ℕ) (old new : Subscribers) : Type 0 where
  pub listed : new.listed.items ≡ set old.listed.items n true
  pub last : new.last.items ≡ set old.last.items g (suc n)
  pub before : new.before.items ≡ set old.before.items n (get_or old.last.items g 0)
  pub after : new.after.items ≡ table_with (set old.after.items n 0) (number_by_word (get_or old.last.items g 0)) (suc n)
  pub counts : new.counts.items ≡ set old.counts.items g (get_or old.counts.items g 0 + 1)

pub rows_more : {h : List Event} (e : Event) {size g : ℕ} {old new : Subscribers} → AreLinked h size old → length h < size → g < size
    → hub_subscribed e ≡ Some g → IsPutLast g (length h) old new → AreLinked (h ++ e ∷ []) size new
rows_more {h} e {size} {g} {old} {new} w room inside hub put = record {
  rows = λ j. ⊎_elim (λ same. rw same own) (λ apart. other j apart) (cases_eq j g);
  hubbed = λ j k y. ⊎_elim (λ same. omega arith) (λ apart. w.hubbed j k (sym (on_apart j apart k) ∙ y)) (cases_eq j g);
  counted = λ j. ⊎_elim (λ same. rw same own_count) (λ apart. other_count j apart) (cases_eq j g);
  counts_size = ap length put.counts ∙ length-set old.counts.items g _ ∙ w.counts_size;
  listed_size = ap length put.listed ∙ length-set old.listed.items (length h) true ∙ w.listed_size;
  last_size = ap length put.last ∙ length-set old.last.items g (suc (length h)) ∙ w.last_size;
  before_size = ap length put.before ∙ length-set old.before.items (length h) (get_or old.last.items g 0) ∙ w.before_size;
  after_size = ap length put.after ∙ length-table_with (set old.after.items (length h) 0) _ _ ∙ length-set old.after.items (length h) 0 ∙ w.after_size;
} where
  subscribes : is_subscriber_of g e ≡ true
  subscribes = subscribed_event e g hub

  marks_same : (k : ℕ) → k < length h → get_or new.listed.items k false ≡ get_or old.listed.items k false
  marks_same k l = ap (λ (ms : List Bool). get_or ms k false) put.listed ∙ get_or-set_other old.listed.items (length h) k true false (omega arith)

  on_before : (j k : ℕ) → k < length h → on_list (h ++ e ∷ []) new.listed.items j k ≡ on_list h old.listed.items j k
  on_before j k l = rw (at-append (is_subscriber_of j) h (e ∷ []) k l, marks_same k l) refl

  on_new : on_list (h ++ e ∷ []) new.listed.items g (length h) ≡ true
  on_new =
      let size_is = w.listed_size in
      let last_is : at (is_subscriber_of g) (h ++ e ∷ []) (length h) ≡ true =
      ap (λ o. option_map_or (is_subscriber_of g) o false) (slice_get_last h e) ∙ subscribes in
      let mark : get_or new.listed.items (length h) false ≡ true = ap (λ (ms : List Bool). get_or ms (length h) false) put.listed
      ∙ get_or-set_same old.listed.items (length h) true false (omega arith) in rw (last_is, mark) refl

  most : (j k : ℕ) → on_list (h ++ e ∷ []) new.listed.items j k ≡ true → k ≤ length h
  most j k y = let l = on_within (h ++ e ∷ []) new.listed.items j k y in let m = one_longer h e in omega arith

  row : IsRow (on_list h old.listed.items g) (length h) (get_or old.last.items g 0) old.before.items old.after.items
  row = w.rows g

  own : IsRow (on_list (h ++ e ∷ []) new.listed.items g) (length (h ++ e ∷ [])) (get_or new.last.items g 0) new.before.items new.after.items
  own =
      let last_size = w.last_size in
      let before_size = w.before_size in
      let after_size = w.after_size in
      rw (one_longer h e, put.last, put.before, put.after, get_or-set_same old.last.items g (suc (length h)) 0 (omega arith))
      (row_more (on_list (h ++ e ∷ []) new.listed.items g) (on_before g) on_new (most g) (on_within h old.listed.items g) (omega arith) (omega arith) row)

  not_hub : (j : ℕ) → j ≢ g → is_subscriber_of j e ≡ false
  not_hub j apart = sym (same_subscribed e j) ∙ rw hub (ne_eqb g j (λ is. apart (sym is)))

  on_apart : (j : ℕ) → j ≢ g → (k : ℕ) → on_list (h ++ e ∷ []) new.listed.items j k ≡ on_list h old.listed.items j k
  on_apart j apart = on_longer h e old.listed.items new.listed.items j (not_hub j apart) marks_same

  last_apart : (j : ℕ) → j ≢ g → get_or new.last.items j 0 ≡ get_or old.last.items j 0
  last_apart j apart = ap (λ (ls : List ℕ). get_or ls j 0) put.last ∙ get_or-set_other old.last.items g j (suc (length h)) 0 apart

  before_apart : (j k : ℕ) → on_list h old.listed.items j k ≡ true → get_or new.before.items k 0 ≡ get_or old.before.items k 0
  before_apart j k y =
      let l = on_within h old.listed.items j k y in
      ap (λ (ls : List ℕ). get_or ls k 0) put.before ∙ get_or-set_other old.before.items (length h) k (get_or old.last.items g 0) 0 (omega arith)

  after_apart : (j k : ℕ) → j ≢ g → on_list h old.listed.items j k ≡ true → get_or new.after.items k 0 ≡ get_or old.after.items k 0
  after_apart j k apart y = let l = on_within h old.listed.items j k y in ap (λ (ls : List ℕ). get_or ls k 0) put.after
      ∙ with_other (set old.after.items (length h) 0) (get_or old.last.items g 0) k _ (λ m is same. apart (on_one h old.listed.items g k m y
      (last_holds (on_list h old.listed.items g) (length h) m (sym row.top ∙ is)) same)) ∙ get_or-set_other old.after.items (length h) k 0 0 (omega arith)

  own_count : get_or new.counts.items g 0 ≡ sum_by (λ k. 1) (falling (on_list (h ++ e ∷ []) new.listed.items g) (length (h ++ e ∷ [])))
  own_count =
      let size_is = w.counts_size in
      let is : get_or new.counts.items g 0 ≡ get_or old.counts.items g 0 + 1 = ap (λ (ls : List ℕ). get_or ls g 0) put.counts
      ∙ get_or-set_same old.counts.items g (get_or old.counts.items g 0 + 1) 0 (omega arith) in
      let was = w.counted g in
      let one = falling_more (on_list h old.listed.items g) (on_list (h ++ e ∷ []) new.listed.items g) (λ k. 1) (length h) (on_before g) on_new in
      rw (one_longer h e) (omega arith)

  other_count : (j : ℕ) → j ≢ g → get_or new.counts.items j 0 ≡ sum_by (λ k. 1) (falling (on_list (h ++ e ∷ []) new.listed.items j) (length (h ++ e ∷ [])))
  other_count j apart = rw (one_longer h e) (ap (λ (ls : List ℕ). get_or ls j 0) put.counts
      ∙ get_or-set_other old.counts.items g j (get_or old.counts.items g 0 + 1) 0 apart ∙ w.counted j
      ∙ ap (sum_by (λ k. 1)) (sym (falling_longer (on_list h old.listed.items j) (on_list (h ++ e ∷ []) new.listed.items j) (length h)
      (on_apart j apart) (on_within h old.listed.items j))))

  other : (j : ℕ) → j ≢ g → IsRow (on_list (h ++ e ∷ []) new.listed.items j) (length (h ++ e ∷ [])) (get_or new.last.items j 0) new.before.items new.after.items
  other j apart = rw (last_apart j apart) (row_apart new.before.items new.after.items (on_apart j apart) (let l = one_longer h e in omega arith)
      (on_within h old.listed.items j) (before_apart j) (λ k y. after_apart j k apart y) (w.rows j))

-- from the last to the first --------------------------------------------------------------------------

pub falling_last : (p : ℕ → Bool) (k : ℕ) → falling p k ≡ falling p (last_below p k)
falling_last p zero = refl
falling_last p (suc k) = search (rules, cond, falling_last p k)

-- the walk of subscribers_of: what was found, and what is left from the word on
module _ (h : List Event) (size : ℕ) (s : Subscribers) (g : ℕ) (w : AreLinked h size s) where
  pub walk_starts : (next : ℕ) (found : List ℕ) → next ≡ get_or s.last.items g 0 → found ≡ [] → (number : ℕ → ℕ)
      → sum_by number found + sum_by number (falling (on_list h s.listed.items g) next)
      ≡ sum_by number (falling (on_list h s.listed.items g) (length h))
  walk_starts next found is none number =
      let all : sum_by number (falling (on_list h s.listed.items g) next) ≡ sum_by number (falling (on_list h s.listed.items g) (length h)) =
      ap (λ k. sum_by number (falling (on_list h s.listed.items g) k)) (is ∙ (w.rows g).top)
      ∙ sym (ap (sum_by number) (falling_last (on_list h s.listed.items g) (length h))) in
      let nothing : sum_by number found ≡ 0 = ap (sum_by number) none in omega arith

  pub walk_first : (next : ℕ) → next ≡ get_or s.last.items g 0 → (k : ℕ) → next ≡ suc k → on_list h s.listed.items g k ≡ true
  walk_first next is k e = last_holds (on_list h s.listed.items g) (length h) k (sym (is ∙ (w.rows g).top) ∙ e)

  -- one more is found
  walk_word : (next word : ℕ) → 0 < next → ((k : ℕ) → next ≡ suc k → on_list h s.listed.items g k ≡ true) → word ≡ get_or s.before.items (next - 1) 0
      → word ≡ last_below (on_list h s.listed.items g) (next - 1)
  walk_word next word some here is = is ∙ (w.rows g).down (next - 1) (here (next - 1) (omega arith))

  pub walk_less : (next word : ℕ) → 0 < next → ((k : ℕ) → next ≡ suc k → on_list h s.listed.items g k ≡ true)
      → word ≡ get_or s.before.items (next - 1) 0 → word < next
  walk_less next word some here is = let e = walk_word next word some here is in let l = last_le (on_list h s.listed.items g) (next - 1) in omega arith

  pub walk_next : (next word : ℕ) → 0 < next → ((k : ℕ) → next ≡ suc k → on_list h s.listed.items g k ≡ true) → word ≡ get_or s.before.items (next - 1) 0
      → (k : ℕ) → word ≡ suc k → on_list h s.listed.items g k ≡ true
  walk_next next word some here is k e = last_holds (on_list h s.listed.items g) (next - 1) k (sym (walk_word next word some here is) ∙ e)

  pub walk_more : {next word whole : ℕ} (found more : List ℕ) → 0 < next → ((k : ℕ) → next ≡ suc k → on_list h s.listed.items g k ≡ true)
      → word ≡ get_or s.before.items (next - 1) 0 → more ≡ found ++ (next - 1) ∷ [] → (number : ℕ → ℕ)
      → sum_by number found + sum_by number (falling (on_list h s.listed.items g) next) ≡ whole
      → sum_by number more + sum_by number (falling (on_list h s.listed.items g) word) ≡ whole
  walk_more {next} {word} found more some here is pushed number rest =
      let place : next ≡ suc (next - 1) = omega arith in
      let passes : on_list h s.listed.items g (next - 1) ≡ true = here (next - 1) place in
      let split : falling (on_list h s.listed.items g) next ≡ (next - 1) ∷ falling (on_list h s.listed.items g) (next - 1) =
      ap (falling (on_list h s.listed.items g)) place
      ∙ ap (λ b. cond b ((next - 1) ∷ falling (on_list h s.listed.items g) (next - 1)) (falling (on_list h s.listed.items g) (next - 1))) passes in
      let first = ap (sum_by number) split in
      let cons = sum_by-cons number (next - 1) (falling (on_list h s.listed.items g) (next - 1)) in
      let left : sum_by number (falling (on_list h s.listed.items g) (next - 1)) ≡ sum_by number (falling (on_list h s.listed.items g) word) =
      ap (sum_by number) (falling_last (on_list h s.listed.items g) (next - 1)
      ∙ ap (falling (on_list h s.listed.items g)) (sym (walk_word next word some here is))) in
      let grown : sum_by number more ≡ sum_by number found + number (next - 1) = ap (sum_by number) pushed ∙ sum_by_push number found (next - 1) in
      omega arith
