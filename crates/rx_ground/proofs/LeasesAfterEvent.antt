-- The leases beside a tree, after one event.
use Rattle.rx_ground.proofs.Common.{◌≡◌, ◌≢◌, ℕ, zero, suc, ◌<◌, ◌≤◌, ◌==◌, Bool, true, false, List, [], ◌∷◌, ◌++◌, length, Option, Some, None, is_some, refl}
use Rattle.rx_ground.proofs.Common.{IsSome, sym, ap, subst, ◌∙◌, inl, inr, ◌⊎◌, arith, length-append, not, ◌&&◌, option_map_or, false≢true, cases_order, Kept}
use Rattle.rx_ground.proofs.Common.{both_ways, eq-eqb, ne_eqb, and_parts, none-some, same_Some, length-range_with_len, count_by-le-length, Ghosts, Event, Key}
use Rattle.rx_ground.proofs.Common.{Lease, Return, makes_lease, is_return, is_return_of, places, IsLawful, slice_get-append, slice_get_last, is_out-push}
use Rattle.rx_ground.proofs.Common.{is_out_within, is_out_past, is_out_last, leases_of_some, out_waits_not, Slots, find, entry_at, with_number, KeepsOthers}
use Rattle.rx_ground.proofs.Common.{ResKey, Stowed, store_key, is_lent, is_lent_at, Tree, AreApart, IsPast, cases_key, none_not_some, some_of, LeaseKey}
use Rattle.rx_ground.proofs.Common.{lease_key, is_out_at, HasKey, IsTied, IsLeaseOf, AreLeased, KeepsLeases}
use Rattle.rx_event.specs.Resources.{is_out, is_out_of, leases_of, is_waiting}
use Rattle.std.proofs.Common.{rules}

and_true : (b : Bool) → (b && true) ≡ b
and_true x0 = search rules

-- no lease is out in no history
pub leased_empty : {T : Type 0} (h : List Event) (resources : Slots (Stowed T)) (leases : Slots ResKey) → h ≡ [] →
    ((key : Key) → find leases key ≡ None) → AreLeased h resources leases
leased_empty h resources leases empty none = search (rules, none-some, both_ways, is_out_past, length)

module _ {T : Type 0} (h : List Event) (resources : Slots (Stowed T)) (leases : Slots ResKey) (leased : AreLeased h resources leases) where
  -- the next number is greater than any before
  pub past_leases : (n : ℕ) → n ≡ length h → IsPast leases n
  past_leases n at_end key some =
      let res = some_of (find leases key) some in
      let l = is_out_within h key.number (leased.each key res.0 res.1).out in omega arith

  -- a lease that is out under its key is out in the history
  pub out_in_history : (lease : LeaseKey) → is_out_at leases lease ≡ true → is_out h lease.number ≡ true
  out_in_history lease out = let res = some_of (find leases (lease_key lease)) out in (leased.each (lease_key lease) res.0 res.1).out

  -- slots that find the same, and resources that are there still where leases of them are out
  pub leased_same : (later : Slots (Stowed T)) (new : Slots ResKey) →
      ((l : ℕ) (res : ResKey) → IsLeaseOf h resources l res → IsSome (find later (store_key res))) →
      ((key : Key) → find new key ≡ find leases key) → AreLeased h later new
  leased_same later new kept same = record {
    each = λ key res found. of key.number res (leased.each key res (sym (same key) ∙ found));
    every = λ l out. has (leased.every l out);
  }
    where
      of : (l : ℕ) (res : ResKey) → IsLeaseOf h resources l res → IsLeaseOf h later l res
      of l res is = record { out = is.out; made = is.made; stored = kept l res is }

      has : {l : ℕ} → HasKey leases l → HasKey new l
      has k = record { key = k.key; value = k.value; found = same k.key ∙ k.found; numbered = k.numbered }

  module _ (base : Kept) (e : Event) (law : IsLawful base h) where
    -- an older lease is out after the event if it was, and the event returns another or none
    still_out : (l : ℕ) → is_return_of l e ≡ false → l < length h → is_out (h ++ e ∷ []) l ≡ is_out h l
    still_out l other less = is_out-push h e l less ∙ ap (λ b. is_out h l && not b) other ∙ and_true (is_out h l)

    lease_on : (l : ℕ) (res : ResKey) → is_return_of l e ≡ false → IsLeaseOf h resources l res → IsLeaseOf (h ++ e ∷ []) resources l res
    lease_on l res other is =
        let less = is_out_within h l is.out in
        record { out = still_out l other less ∙ is.out; made = slice_get-append h (e ∷ []) l less ∙ is.made; stored = is.stored }

    -- what is out after the event and was made before was out before
    out_before : (l : ℕ) → l < length h → is_out (h ++ e ∷ []) l ≡ true → is_out h l ≡ true
    out_before l less out = (and_parts (is_out h l) _ (sym (is_out-push h e l less) ∙ out)).0

    -- what is out after it is older, or the event
    out_where : (l : ℕ) → is_out (h ++ e ∷ []) l ≡ true → (l ≡ length h) ⊎ (l < length h)
    out_where l out = by_place (cases_order l (length h)) where
      by_place : (l ≡ length h) ⊎ ((l < length h) ⊎ (length h < l)) → (l ≡ length h) ⊎ (l < length h)
      by_place (inl same) = inl same
      by_place (inr (inl less)) = inr less
      by_place (inr (inr more)) = absurd (let w = is_out_within (h ++ e ∷ []) l out in omega (arith, length-append h (e ∷ [])))

    -- an event that neither leases nor returns
    pub leased_on : makes_lease e ≡ false → is_return e ≡ false → AreLeased (h ++ e ∷ []) resources leases
    leased_on none quiet = record {
      each = λ key res found. lease_on key.number res (returns_none key.number) (leased.each key res found);
      every = λ l out. by_place l out (out_where l out);
    }
      where
        no_return : (x : Event) (l : ℕ) → is_return x ≡ false → is_return_of l x ≡ false
        no_return (Return m) l other = absurd (false≢true (sym other))
        no_return _ l other = refl

        returns_none : (l : ℕ) → is_return_of l e ≡ false
        returns_none l = no_return e l quiet

        by_place : (l : ℕ) → is_out (h ++ e ∷ []) l ≡ true → (l ≡ length h) ⊎ (l < length h) → HasKey leases l
        by_place l out (inr less) = leased.every l (out_before l less out)
        by_place l out (inl same) = absurd (both_ways _ (is_out_last base h e law ∙ none) (ap (is_out (h ++ e ∷ [])) (sym same) ∙ out))

  -- a lease is given out under a new key
  pub leased_more : {base : Kept} (law : IsLawful base h) {new : Slots ResKey} (key : Key) (res : ResKey) → key.number ≡ length h →
      IsSome (find resources (store_key res)) → entry_at leases key.slot ≡ None → find new key ≡ Some res → KeepsOthers leases new key →
      AreLeased (h ++ Lease res.number ∷ []) resources new
  leased_more {base} law {new} key res numbered stored free found others = record { each = each; every = every } where
    e : Event
    e = Lease res.number

    last : IsLeaseOf (h ++ e ∷ []) resources (length h) res
    last = record { out = is_out_last base h e law; made = slice_get_last h e; stored = stored }

    each : (k : Key) (r : ResKey) → find new k ≡ Some r → IsLeaseOf (h ++ e ∷ []) resources k.number r
    each k r f = by_key (cases_key k key) where
      by_key : (k ≡ key) ⊎ (k ≢ key) → IsLeaseOf (h ++ e ∷ []) resources k.number r
      by_key (inl same) =
          let at_end : k.number ≡ length h = ap (λ (j : Key). j.number) same ∙ numbered in
          let is : res ≡ r = same_Some res r (sym found ∙ sym (ap (find new) same) ∙ f) in
          subst (λ (n : ℕ). IsLeaseOf (h ++ e ∷ []) resources n r) (sym at_end) (subst (IsLeaseOf (h ++ e ∷ []) resources (length h)) is last)
      by_key (inr differs) = lease_on base e law k.number r refl (leased.each k r (sym (others k differs) ∙ f))

    every : (l : ℕ) → is_out (h ++ e ∷ []) l ≡ true → HasKey new l
    every l out = by_place (out_where base e law l out) where
      kept : HasKey leases l → HasKey new l
      kept has = record {
        key = has.key;
        value = has.value;
        found = others has.key (λ same. none-some has.value (sym (ap (find leases) same ∙ ap (with_number key.number) free) ∙ has.found)) ∙ has.found;
        numbered = has.numbered;
      }

      by_place : (l ≡ length h) ⊎ (l < length h) → HasKey new l
      by_place (inl same) = record { key = key; value = res; found = found; numbered = numbered ∙ sym same }
      by_place (inr less) = kept (leased.every l (out_before base e law l less out))

  -- and one is given back
  pub leased_less : (base : Kept) (law : IsLawful base h) → AreApart leases → (new : Slots ResKey) (key : Key) → IsSome (find leases key) →
      find new key ≡ None → KeepsOthers leases new key → AreLeased (h ++ Return key.number ∷ []) resources new
  leased_less base law apart new key there gone others = record { each = each; every = every } where
    e : Event
    e = Return key.number

    each : (k : Key) (r : ResKey) → find new k ≡ Some r → IsLeaseOf (h ++ e ∷ []) resources k.number r
    each k r f = by_key (cases_key k key) where
      by_key : (k ≡ key) ⊎ (k ≢ key) → IsLeaseOf (h ++ e ∷ []) resources k.number r
      by_key (inl same) = absurd (none-some r (sym gone ∙ sym (ap (find new) same) ∙ f))
      by_key (inr differs) =
          let was : find leases k ≡ Some r = sym (others k differs) ∙ f in
          lease_on base e law k.number r (ne_eqb key.number k.number (λ same. differs (apart k key (ap is_some was) there (sym same)))) (leased.each k r was)

    every : (l : ℕ) → is_out (h ++ e ∷ []) l ≡ true → HasKey new l
    every l out = by_place (out_where base e law l out) where
      kept : HasKey leases l → l < length h → HasKey new l
      kept has less = record {
        key = has.key;
        value = has.value;
        found = others has.key (λ same. absurd (both_ways _ (returned (ap (λ (j : Key). j.number) (sym same) ∙ has.numbered)) out)) ∙ has.found;
        numbered = has.numbered;
      }
        where
          returned : key.number ≡ l → is_out (h ++ e ∷ []) l ≡ false
          returned same = is_out-push h e l less ∙ ap (λ b. is_out h l && not b) (eq-eqb key.number l same) ∙ and_false (is_out h l) where
            and_false : (b : Bool) → (b && false) ≡ false
            and_false true = refl
            and_false false = refl

      by_place : (l ≡ length h) ⊎ (l < length h) → HasKey new l
      by_place (inl same) = absurd (both_ways _ (is_out_last base h e law) (ap (is_out (h ++ e ∷ [])) (sym same) ∙ out))
      by_place (inr less) = kept (leased.every l (out_before base e law l less out)) less

-- the resource of a lease is there still where one that waits was taken out
pub taken_still : {base : Kept} {T : Type 0} {h : List Event} {old : Slots (Stowed T)} (new : Slots (Stowed T)) → IsLawful base h → (key : Key) → is_waiting h key.number ≡ true →
    KeepsOthers old new key → (l : ℕ) (res : ResKey) → IsLeaseOf h old l res → IsSome (find new (store_key res))
taken_still {base} {h = h} new law key waits others l res is = of (cases_key (store_key res) key) where
  of : (store_key res ≡ key) ⊎ (store_key res ≢ key) → IsSome (find new (store_key res))
  of (inl taken) = absurd (both_ways _ (out_waits_not base h law l res.number is.made is.out) (ap (λ (j : Key). is_waiting h j.number) taken ∙ waits))
  of (inr differs) = ap is_some (others (store_key res) differs) ∙ is.stored

-- no resource has more leases out than there are events
pub few_leases : (h : List Event) (r : ℕ) → leases_of h r ≤ length h
unfolding leases_of
few_leases h r = let few = count_by-le-length (is_out_of h r) (places h) in omega (arith, length-range_with_len 0 (length h))

-- one of which a lease is out has one there too
pub lent_there : (base : Kept) {T : Type 0} (g : Ghosts T) (h : List Event) (tree : Tree T) → IsTied base g h tree → (l : ℕ) (res : ResKey) →
    IsLeaseOf h tree.resources l res → is_lent_at tree res ≡ true
lent_there base {T = T} g h tree tied l res is =
    let x = some_of (find tree.resources (store_key res)) is.stored in
    let lent = (tied.stored.each (store_key res) x.0 x.1).lent in
    let some = leases_of_some h l res.number is.made is.out in
    ap (λ (o : Option (Stowed T)). option_map_or is_lent o false) x.1 ∙ not_none x.0.leases (omega arith) where
      not_none : (n : ℕ) → 0 < n → not (n == 0) ≡ true
      not_none zero l = absurd (omega arith)
      not_none (suc n) l = rw (ne_eqb (suc n) 0 (λ e. omega arith)) refl

-- a new lease is no older one, and one that is given back is out no more
pub leases_more : (old new : Slots ResKey) (number : ℕ) (key : Key) → KeepsOthers old new key → key.number ≡ number → KeepsLeases old new number
leases_more old new number key others numbered = search (rules, find, is_some)

pub leases_less : (old new : Slots ResKey) (number : ℕ) (key : Key) → find new key ≡ None → KeepsOthers old new key → KeepsLeases old new number
leases_less old new number key gone others = search (rules, find, is_some, none_not_some)
