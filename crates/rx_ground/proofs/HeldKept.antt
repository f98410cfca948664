-- Which resources' keys stay: those held after one event were held before it.
use Rattle.rx_ground.proofs.Common.{◌≡◌, ◌≢◌, ℕ, ◌<◌, true, false, Option, Some, None, is_some, option_map, sym, ap, ◌∙◌, inl, inr, ◌⊎◌, arith, not, ◌||◌}
use Rattle.rx_ground.proofs.Common.{option_map_or, false≢true, ne_eqb, Key, Slots, find, KeepsOthers, Node, Stowed, ResKey, Tree, Rewrites, store_key, is_owned}
use Rattle.rx_ground.proofs.Common.{is_owned_at, is_lent, is_held, is_held_at, removed, one_lease_less, cases_key, KeepsHeld}
use Rattle.std.proofs.Common.{rules}

module _ {T : Type 0} (old new : Tree T) (number : ℕ) (nodes : new.nodes ≡ old.nodes) (k : Key) (others : KeepsOthers old.resources new.resources k) where
  -- where only one key's resource changed, it is enough to know of that
  pub held_but : ((res : ResKey) → store_key res ≡ k → is_held_at new res ≡ true → res.number < number → is_held_at old res ≡ true) → KeepsHeld old new number
  held_but here = record { from = λ res held l. by_key res held l (cases_key (store_key res) k) } where
    by_key : (res : ResKey) → is_held_at new res ≡ true → res.number < number → (store_key res ≡ k) ⊎ (store_key res ≢ k) → is_held_at old res ≡ true
    by_key res held l (inl same) = here res same held l
    by_key res held l (inr differs) = sym (ap (λ (ns : Slots Node). option_map_or (is_held ns) (find new.resources (store_key res)) false) nodes ∙
        ap (λ (o : Option (Stowed T)). option_map_or (is_held old.nodes) o false) (others (store_key res) differs)) ∙ held

-- a new one is no older one
pub held_new : {T : Type 0} (old new : Tree T) (number : ℕ) (k : Key) → new.nodes ≡ old.nodes → KeepsOthers old.resources new.resources k →
    k.number ≡ number → KeepsHeld old new number
held_new old new number k nodes others numbered =
    held_but old new number nodes k others (λ res same held l. absurd (let n = ap (λ (j : Key). j.number) same in omega arith))

-- one that is rewritten was there, and was held where the change leaves it held
pub held_rewritten : {T : Type 0} (old new : Tree T) (number : ℕ) (k : Key) (change : Stowed T → Stowed T) → new.nodes ≡ old.nodes →
    Rewrites old.resources new.resources k change → ((x : Stowed T) → is_held old.nodes (change x) ≡ true →
    is_held old.nodes x ≡ true) → KeepsHeld old new number
held_rewritten {T = T} old new number k change nodes w keeps = held_but old new number nodes k w.others here where
  mapped : (o : Option (Stowed T)) → option_map_or (is_held old.nodes) (option_map change o) false ≡ true → option_map_or (is_held old.nodes) o false ≡ true
  mapped None e = e
  mapped (Some x) e = keeps x e

  here : (res : ResKey) → store_key res ≡ k → is_held_at new res ≡ true → res.number < number → is_held_at old res ≡ true
  here res same held l = ap (λ (j : Key). option_map_or (is_held old.nodes) (find old.resources j) false) same ∙
      mapped (find old.resources k) (sym (ap (λ (j : Key). option_map_or (is_held new.nodes) (find new.resources j) false) same ∙
      ap (λ (ns : Slots Node). option_map_or (is_held ns) (find new.resources k) false) nodes ∙
      ap (λ (o : Option (Stowed T)). option_map_or (is_held old.nodes) o false) w.changed) ∙ held)

-- one that is removed was held where a lease of it is out, and so was one of which a lease was given back
pub removed_held : {T : Type 0} (nodes : Slots Node) (x : Stowed T) → is_held nodes (removed x) ≡ true → is_held nodes x ≡ true
removed_held nodes x = search (rules, is_some, find, not, is_lent)

pub less_held : {T : Type 0} (nodes : Slots Node) (x : Stowed T) → is_held nodes (one_lease_less x) ≡ true → is_held nodes x ≡ true
less_held nodes x = search (rules, not, ne_eqb)

-- one that is owned was held, whatever became of it
pub held_owned : {T : Type 0} (old new : Tree T) (number : ℕ) (res : ResKey) → new.nodes ≡ old.nodes → KeepsOthers old.resources new.resources (store_key res) →
    is_owned_at old res ≡ true → KeepsHeld old new number
held_owned {T = T} old new number res nodes others owned = held_but old new number nodes (store_key res) others (λ r same held l.
    ap (λ (j : Key). option_map_or (is_held old.nodes) (find old.resources j) false) same ∙ by_value (find old.resources (store_key res)) owned) where
      by_value : (o : Option (Stowed T)) → option_map_or (is_owned old.nodes) o false ≡ true → option_map_or (is_held old.nodes) o false ≡ true
      by_value None e = e
      by_value (Some x) e = ap (λ b. b || is_lent x) e

-- one that is out is not held
pub held_gone : {T : Type 0} (old new : Tree T) (number : ℕ) (k : Key) → new.nodes ≡ old.nodes → KeepsOthers old.resources new.resources k →
    find new.resources k ≡ None → KeepsHeld old new number
held_gone {T = T} old new number k nodes others gone = held_but old new number nodes k others
    (λ res same held l. absurd (false≢true (sym (ap (λ (j : Key). option_map_or (is_held new.nodes) (find new.resources j) false) same ∙
    ap (λ (o : Option (Stowed T)). option_map_or (is_held new.nodes) o false) gone) ∙ held)))
