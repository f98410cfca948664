-- The last number with a key.
use Rattle.rx_audit.proofs.Common.{◌≡◌, ℕ, zero, suc, ◌<◌, ◌≤◌, Bool, true, false, List, Option, Some, None, refl, sym, ap, ◌∙◌, arith, cond}
use Rattle.rx_audit.proofs.Common.{[], ◌∷◌, ◌++◌, length, get_or, set, get_or-set_other, get_or-set_same, length-append, nat_lt, cases_Bool}
use Rattle.rx_audit.proofs.Common.{cases_order, false≢true, eq-eqb, eqb-true, ne_eqb, ltb-true, none-some, same_Some, names_number, length-set, option_and_then}
use Rattle.rx_audit.proofs.Common.{Event, parent_named, inner_named, parent, if_less, slice_get-append, slice_get_last, last_below, keyed, inner_named_at}
use Rattle.rx_audit.proofs.Common.{table_with, link_with, AreChildren, Children, ⊎_elim, cases_eq}
use Rattle.rx_event.proofs.Laws.Parents.{parent-append}
use Rattle.rx_audit.specs.Latest.{IsLatest, IsLinkedBack}
use Rattle.std.proofs.lemmas.List.{set_past}
use Rattle.std.proofs.Common.{rules}

pub last_le : (p : ℕ → Bool) (k : ℕ) → last_below p k ≤ k
last_le p zero = omega arith
last_le p (suc k) = search (rules, cases_Bool, cond, last_le p k)

pub last_holds : (p : ℕ → Bool) (k v : ℕ) → last_below p k ≡ suc v → p v ≡ true
last_holds p zero v e = absurd (omega arith)
last_holds p (suc k) v e = ⊎_elim
    (λ y. let s : suc k ≡ suc v = ap (λ b. cond b (suc k) (last_below p k)) (sym y) ∙ e in let same : v ≡ k = omega arith in rw same y)
    (λ n. last_holds p k v (ap (λ b. cond b (suc k) (last_below p k)) (sym n) ∙ e)) (cases_Bool (p k))

pub last_none : (p : ℕ → Bool) (k j : ℕ) → last_below p k ≤ j → j < k → p j ≡ false
last_none p zero j l m = absurd (omega arith)
last_none p (suc k) j l m = ⊎_elim (λ y. let s : last_below p (suc k) ≡ suc k = ap (λ b. cond b (suc k) (last_below p k)) y in absurd (omega arith))
    (λ n. let s : last_below p (suc k) ≡ last_below p k = ap (λ b. cond b (suc k) (last_below p k)) n in
    ⊎_elim (λ e. rw e n) (λ apart. last_none p k j (omega arith) (omega arith)) (cases_eq j k)) (cases_Bool (p k))

pub last_same : (p q : ℕ → Bool) (k : ℕ) → ((j : ℕ) → j < k → p j ≡ q j) → last_below p k ≡ last_below q k
last_same p q zero same = refl
last_same p q (suc k) same =
    let e : p k ≡ q k = same k (omega arith) in
    let r : last_below p k ≡ last_below q k = last_same p q k (λ j l. same j (omega arith)) in
    ap (λ b. cond b (suc k) (last_below p k)) e ∙ ap (λ v. cond (q k) (suc k) v) r

pub key_is : (o : Option ℕ) (n : ℕ) → o ≡ Some n → names_number o n ≡ true
key_is o n e = ap (λ x. names_number x n) e ∙ eq-eqb n n refl

pub is_key_of : (o : Option ℕ) (n : ℕ) → names_number o n ≡ true → o ≡ Some n
is_key_of x0 n e = search (rules, false≢true, eqb-true)

-- one number more ---------------------------------------------------------------------------------

-- which has no key
pub latest_none : (table : List ℕ) (key more : ℕ → Option ℕ) (bound : ℕ) → IsLatest table key bound → ((k : ℕ) → k < bound → more k ≡ key k)
    → more bound ≡ None → IsLatest table more (suc bound)
latest_none table key more bound tied same none n l = search (rules, cond, last_same)

-- or this key
pub latest_some : (table : List ℕ) {key : ℕ → Option ℕ} (more : ℕ → Option ℕ) (bound p : ℕ) → IsLatest table key bound → ((k : ℕ) → k < bound → more k ≡ key k)
    → more bound ≡ Some p → p < length table → IsLatest (set table p (suc bound)) more (suc bound)
latest_some table {key} more bound p tied same is inside n l = search (rules, cases_order, cond, last_same, length, set, length-set, get_or, ne_eqb, get_or-set_other, eq-eqb, get_or-set_same)

pub linked_none : (next : List ℕ) (key more : ℕ → Option ℕ) (bound : ℕ) → IsLinkedBack next key bound → ((k : ℕ) → k < bound → more k ≡ key k)
    → more bound ≡ None → IsLinkedBack next more (suc bound)
linked_none next key more bound tied same none k n l is = ⊎_elim (λ e. absurd (none-some n (sym none ∙ sym (ap more e) ∙ is)))
    (λ apart. tied k n (omega arith) (sym (same k (omega arith)) ∙ is)
    ∙ sym (last_same (keyed more n) (keyed key n) k (λ j i. ap (λ o. names_number o n) (same j (omega arith))))) (cases_eq k bound)

pub linked_some : (next : List ℕ) {key more : ℕ → Option ℕ} {bound : ℕ} (p v : ℕ) → IsLinkedBack next key bound → ((k : ℕ) → k < bound → more k ≡ key k)
    → more bound ≡ Some p → bound < length next → v ≡ last_below (keyed key p) bound → IsLinkedBack (set next bound v) more (suc bound)
linked_some next {key} {more} {bound} p v tied same has inside value k n l is = ⊎_elim
    (λ e. let p_is : p ≡ n = same_Some p n (sym has ∙ sym (ap more e) ∙ is) in
    ap (λ j. get_or (set next bound v) j 0) e ∙ get_or-set_same next bound v 0 inside ∙ value ∙ ap (λ q. last_below (keyed key q) bound) p_is
    ∙ sym (ap (last_below (keyed more n)) e ∙ before bound (omega arith)))
    (λ apart. get_or-set_other next bound k v 0 apart ∙ tied k n (omega arith) (sym (same k (omega arith)) ∙ is) ∙ sym (before k (omega arith)))
    (cases_eq k bound) where
      before : (j : ℕ) → j ≤ bound → last_below (keyed more n) j ≡ last_below (keyed key n) j
      before j m = last_same (keyed more n) (keyed key n) j (λ i q. ap (λ o. names_number o n) (same i (omega arith)))

-- what stands at the last place
pub parent_last : (h : List Event) (e : Event) → parent (h ++ e ∷ []) (length h) ≡ option_and_then (if_less (length h)) (parent_named e)
unfolding parent
parent_last h e = rw (slice_get_last h e) refl

pub inner_last : (h : List Event) (e : Event) → inner_named_at (h ++ e ∷ []) (length h) ≡ inner_named e
inner_last h e = rw (slice_get_last h e) refl

pub inner_same : (h : List Event) (e : Event) (k : ℕ) → k < length h → inner_named_at (h ++ e ∷ []) k ≡ inner_named_at h k
inner_same h e k l = rw (slice_get-append h (e ∷ []) k l) refl

pub one_longer : (h : List Event) (e : Event) → length (h ++ e ∷ []) ≡ suc (length h)
one_longer h e = omega (arith, length-append h (e ∷ []))

pub latest_with : (table : List ℕ) (key more : ℕ → Option ℕ) (bound : ℕ) (o : Option ℕ) → IsLatest table key bound → ((k : ℕ) → k < bound → more k ≡ key k)
    → more bound ≡ o → IsLatest (table_with table o (suc bound)) more (suc bound)
latest_with table key more bound x4 tied same is = search (rules, latest_none, cases_order, length, set, set_past, ne_eqb, cond, last_same, latest_some)

pub linked_with : (next last : List ℕ) {key more : ℕ → Option ℕ} {bound : ℕ} {o : Option ℕ} → IsLinkedBack next key bound → IsLatest last key bound
    → ((k : ℕ) → k < bound → more k ≡ key k) → more bound ≡ o → bound < length next → ((p : ℕ) → o ≡ Some p → p < length last)
    → IsLinkedBack (link_with next last o bound) more (suc bound)
linked_with next last {key} {more} {bound} {o = None} tied from same is inside within = linked_none next key more bound tied same is
linked_with next last {o = Some p} tied from same is inside within = linked_some next p (get_or last p 0) tied same is inside (from p (within p refl))

pub length-table_with : (table : List ℕ) (o : Option ℕ) (value : ℕ) → length (table_with table o value) ≡ length table
length-table_with table x1 value = search (rules, length-set)

pub length-link_with : (next last : List ℕ) (o : Option ℕ) (n : ℕ) → length (link_with next last o n) ≡ length next
length-link_with next last x2 n = search (rules, length-set, get_or)

pub less_than : (n : ℕ) (o : Option ℕ) (p : ℕ) → option_and_then (if_less n) o ≡ Some p → p < n
less_than n x1 p e = search (rules, none-some, cases_Bool, nat_lt, same_Some, cond, ltb-true)

pub children_more : {h : List Event} (e : Event) {size : ℕ} (old new : Children) → AreChildren h size old → length h < size
    → new.older.items ≡ link_with old.older.items old.youngest.items (option_and_then (if_less (length h)) (parent_named e)) (length h)
    → new.youngest.items ≡ table_with old.youngest.items (option_and_then (if_less (length h)) (parent_named e)) (suc (length h))
    → new.inner.items ≡ table_with old.inner.items (inner_named e) (suc (length h)) → AreChildren (h ++ e ∷ []) size new
children_more {h} e old new w room older youngest inner =
    let above = option_and_then (if_less (length h)) (parent_named e) in
    let same : (k : ℕ) → k < length h → parent (h ++ e ∷ []) k ≡ parent h k = λ k l. parent-append h (e ∷ []) k l in
    let a = w.youngest_size in
    let b = w.older_size in
    record {
      youngest = rw (youngest, one_longer h e)
          (latest_with old.youngest.items (parent h) (parent (h ++ e ∷ [])) (length h) above w.youngest same (parent_last h e));
      youngest_size = ap length youngest ∙ length-table_with old.youngest.items above (suc (length h)) ∙ w.youngest_size;
      older = rw (older, one_longer h e) (linked_with old.older.items old.youngest.items w.older w.youngest same
          (parent_last h e) (omega arith) (λ p is. let l = less_than (length h) (parent_named e) p is in omega arith));
      older_size = ap length older ∙ length-link_with old.older.items old.youngest.items above (length h) ∙ w.older_size;
      inner = rw (inner, one_longer h e)
          (latest_with old.inner.items (inner_named_at h) (inner_named_at (h ++ e ∷ [])) (length h) (inner_named e) w.inner (inner_same h e) (inner_last h e));
      inner_size = ap length inner ∙ length-table_with old.inner.items (inner_named e) (suc (length h)) ∙ w.inner_size;
    }
