-- Taking what waits keeps the key of all that is there.
use Rattle.std.proofs.Common.{◌≡◌, ◌≢◌, ℕ, ◌==◌, ◌&&◌, ◌||◌, ◌⊎◌, inl, inr, Bool, true, List, [], ◌∷◌, ◌++◌, map, Option, Some, None, IfSome, IsTrue, refl, sym, ap, ◌∙◌, subst}
use Rattle.std.proofs.lemmas.Bool.{eqb-true, eq-eqb, and_parts, false≢true, or_cases, or_right}
use Rattle.std.specs.List.{AllPairs, Contains, list_any}
use Rattle.rx_resource.specs.declared.Resource.{Ghosts}
use Rattle.rx_resource.specs.declared.token.Token.{Token}
use Rattle.rx_event.specs.declared.event.Event.{Event}
use Rattle.rx_event.specs.declared.event.Event.TheVariants.{Take}
use Rattle.rx_event.specs.Calls.{Taking}
use Rattle.rx_event.specs.Gone.{AreJust}
use Rattle.rx_event.specs.Resources.{is_out, is_held}
use Rattle.rx_event.specs.Tree.{is_open}
use Rattle.rx_event.proofs.Laws.Common.{IsForcedOn, MayFollow}
use Rattle.rx_event.proofs.Laws.Leases.{is_out_within}
use Rattle.rx_event.proofs.Laws.Openness.{is_open_within}
use Rattle.rx_event.proofs.Laws.Resources.{is_held_within, is_held_kept}
use Rattle.rx_ground.proofs.Laws.Members.{Contains-head, Contains-later, Contains-none, Contains-cases, Contains-map, Contains-from_map, AllPairs-head, AllPairs-tail}
use Rattle.rx_slots.specs.declared.Key.{Key}
use Rattle.rx_tree.specs.declared.node.ResKey.{ResKey}
use Rattle.rx_ground.specs.declared.leases.LeaseKey.{LeaseKey}
use Rattle.rx_book.specs.State.{State as BookState, IsPromised as IsBookPromised, has_key}
use Rattle.rx_book.specs.Answers.{AnswersHanded}
use Rattle.rx_book.proofs.Laws.LastsThroughSteps.{out_same}
use Rattle.rx_roles.proofs.Laws.NodesAfterStep.{first_follows, taken_forces_none, open_past_taking}
use Rattle.rx_engine.specs.Settlements.{KeepsKeys}

-- keys of one sort, each of a slot and a number
module _ {K : Type 0} (slot number : K → ℕ) (same : (j k : K) → slot j ≡ slot k → number j ≡ number k → j ≡ k) where
  abbrev has : List K → K → Bool
  has keys k = list_any (λ j. slot j == slot k && number j == number k) keys

  has_contains : (keys : List K) (k : K) → has keys k ≡ true → Contains keys k
  has_contains [] k is = absurd (false≢true is)
  has_contains (j ∷ js) k is = by_part (or_cases (slot j == slot k && number j == number k) (has js k) is) (λ later. has_contains js k later) where
    by_part : ((slot j == slot k && number j == number k) ≡ true) ⊎ (has js k ≡ true) → (has js k ≡ true → Contains js k) → Contains (j ∷ js) k
    by_part (inl here) rest =
        let both = and_parts (slot j == slot k) (number j == number k) here in
        subst (Contains (j ∷ js)) (same j k (eqb-true (slot j) (slot k) both.0) (eqb-true (number j) (number k) both.1)) (Contains-head j js)
    by_part (inr later) rest = Contains-later j js k (rest later)

  contains_has : (keys : List K) (k : K) → Contains keys k → has keys k ≡ true
  contains_has [] k c = absurd (Contains-none k c)
  contains_has (j ∷ js) k c = by_part (Contains-cases j js k c) (λ later. contains_has js k later) where
    itself : ((slot j == slot j && number j == number j) || has js j) ≡ true
    itself = rw (eq-eqb (slot j) (slot j) refl, eq-eqb (number j) (number j) refl) refl

    by_part : (j ≡ k) ⊎ Contains js k → (Contains js k → has js k ≡ true) → ((slot j == slot k && number j == number k) || has js k) ≡ true
    by_part (inl here) rest = subst (λ (x : K). ((slot j == slot x && number j == number x) || has js x) ≡ true) here itself
    by_part (inr later) rest = or_right (slot j == slot k && number j == number k) (has js k) (rest later)

  -- each number has one key
  only : (keys : List K) → AllPairs (λ m n. m ≢ n) (map number keys) → (j k : K) → Contains keys j → Contains keys k → number j ≡ number k → j ≡ k
  only [] once j k cj ck is = absurd (Contains-none j cj)
  only (x ∷ xs) once j k cj ck is = by_part (Contains-cases x xs j cj) (Contains-cases x xs k ck)
      (λ a b. only xs (AllPairs-tail (λ m n. m ≢ n) (number x) (map number xs) once) j k a b is) where
        by_part : (x ≡ j) ⊎ Contains xs j → (x ≡ k) ⊎ Contains xs k → (Contains xs j → Contains xs k → j ≡ k) → j ≡ k
        by_part (inl a) (inl b) rest = sym a ∙ b
        by_part (inl a) (inr b) rest =
            absurd (AllPairs-head (λ m n. m ≢ n) (number x) (map number xs) once (number k) (Contains-map number xs k b) (ap number a ∙ is))
        by_part (inr a) (inl b) rest =
            absurd (AllPairs-head (λ m n. m ≢ n) (number x) (map number xs) once (number j) (Contains-map number xs j a) (ap number b ∙ sym is))
        by_part (inr a) (inr b) rest = rest a b

  -- so what is there still has the key that it had
  key_stays : (old new : List K) (was still : ℕ → Bool) → AreJust was (map number old) → AreJust still (map number new) →
      ((j : K) → Contains new j → was (number j) ≡ true → Contains old j) → (k : K) → (was (number k) ≡ true → still (number k) ≡ true) → has old k ≡ true →
      has new k ≡ true
  key_stays old new was still just_old just_new older k stays is =
      let had = has_contains old k is in
      let at_k = Contains-map number old k had in
      let passes : was (number k) ≡ true = subst (λ (n : ℕ). was n ≡ true) at_k.2 (just_old.each at_k.0 (number k) at_k.1) in
      let found = Contains-from_map number new (number k) (just_new.every (number k) (stays passes)) in
      let one = only old just_old.once found.0 k (older found.0 found.1 (ap was found.2 ∙ passes)) had found.2 in
      contains_has new k (subst (Contains new) one found.1)

pub keeps_taken : (g : Ghosts Token) (s t : BookState) (number : ℕ) (token : Token) → IsBookPromised s → IsBookPromised t →
    AnswersHanded g s t (Some (number, token)) → KeepsKeys s t
keeps_taken g s t number token kept then says = record {
  keys = λ k is. key_stays (λ (j : Key). j.slot) (λ (j : Key). j.number) (λ a b x y i. record { slot = x i; number = y i }) s.keys t.keys
      (is_open s.history) (is_open t.history) kept.keys then.keys (λ j there o. says.accepted.keys j there (is_open_within s.history j.number o)) k
      (λ o. open_past_taking s.base s.history number t.history kept.lawful kept.settled next steps k.number ∙ o) is;
  res_keys = λ k is. key_stays (λ (j : ResKey). j.slot) (λ (j : ResKey). j.number) (λ a b x y i. record { slot = x i; number = y i }) s.res_keys t.res_keys
      (is_held s.history) (is_held t.history) kept.res_keys then.res_keys (λ j there o. says.accepted.res_keys j there (is_held_within s.history j.number o)) k
      (λ o. held_still k.number o) is;
  lease_keys = λ k is. key_stays (λ (j : LeaseKey). j.slot) (λ (j : LeaseKey). j.number) (λ a b x y i. record { slot = x i; number = y i })
      s.lease_keys t.lease_keys (is_out s.history) (is_out t.history) kept.lease_keys then.lease_keys
      (λ j there o. says.accepted.lease_keys j there (is_out_within s.history j.number o)) k
      (λ o. out_same (Taking number) says.accepted.step refl k.number ∙ o) is;
} where
  steps : IsForcedOn s.base (s.history ++ Take number ∷ []) t.history
  steps = says.accepted.step.forced

  next : MayFollow s.base s.history (Take number)
  next = first_follows s.base s.history (Take number) t.history kept.lawful says.accepted.step.lawful steps

  held_still : (r : ℕ) → is_held s.history r ≡ true → is_held t.history r ≡ true
  held_still r held = ap (λ (h : List Event). is_held h r) (taken_forces_none s.base s.history number t.history kept.lawful kept.settled next steps)
      ∙ is_held_kept (Take number) kept.lawful r (is_held_within s.history r held) refl refl refl refl ∙ held

-- one after another
pub keeps_itself : (s : BookState) → KeepsKeys s s
keeps_itself s = record { keys = λ k is. is; res_keys = λ k is. is; lease_keys = λ k is. is }

pub keeps_on : (s t u : BookState) → KeepsKeys s t → KeepsKeys t u → KeepsKeys s u
keeps_on s t u first then = record {
  keys = λ k is. then.keys k (first.keys k is);
  res_keys = λ k is. then.res_keys k (first.res_keys k is);
  lease_keys = λ k is. then.lease_keys k (first.lease_keys k is);
}

-- so does the key of a connection, if there is one
pub second_listed : (s t : BookState) → KeepsKeys s t → (o : Option Key) → IfSome o (λ k. IsTrue (has_key s.keys k)) → IfSome o (λ k. IsTrue (has_key t.keys k))
second_listed s t keeps None is = tt
second_listed s t keeps (Some k) is = keeps.keys k is
