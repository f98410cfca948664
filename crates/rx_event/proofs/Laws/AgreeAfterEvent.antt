-- Two stored histories that agree, followed by one event that may follow, agree again.
use Rattle.rx_event.proofs.Laws.Common.{◌≡◌, ℕ, ◌+◌, ◌<◌, Bool, true, false, List, [], ◌∷◌, ◌++◌, length, cond, Option, Some, None, refl, sym, ap, ◌∙◌, arith}
use Rattle.rx_event.proofs.Laws.Common.{inl, inr, ◌⊎◌, slice_get, nat_lt, length-append, subst, ℤ, not, ◌&&◌, ◌||◌, option_and_then, option_map_or, cases_order}
use Rattle.rx_event.proofs.Laws.Common.{both_ways, and_parts, Event, End, Item, is_return_of, is_take_of, is_use_of, is_open, is_owned, is_out}
use Rattle.rx_event.proofs.Laws.Common.{is_held, is_waiting, uses, accepted_by, Kept, resource_kept, Agree, AreRead, MayFollow, IsLawful, Terminal, is_untaken}
use Rattle.rx_event.proofs.Laws.Places.{slice_get-append, slice_get_last}
use Rattle.rx_event.proofs.Laws.Resources.{held_is, owned_held, is_owned_past, is_owned_new, held_old, is_held_past, is_waiting_past, is_waiting_new}
use Rattle.rx_event.proofs.Laws.Resources.{is_waiting-unheld}
use Rattle.rx_event.proofs.Laws.Leases.{is_out-push, is_out_last, is_out_past, is_leased-counted, leases_of_same}
use Rattle.rx_event.proofs.Laws.Totals.{item_count-push, accepted_count-push, taken_count-push, uses-push, uses_past}
use Rattle.rx_event.proofs.Laws.SameTree.{Alike, alike_read}
use Rattle.rx_event.proofs.Laws.TreeRead.{event_by_itself}
use Rattle.rx_event.proofs.Laws.TreeAfterEvent.{GoesOn, id_goes_on}
use Rattle.rx_event.proofs.Laws.ReadAfter.{read_after}
use Rattle.rx_event.proofs.Laws.SameForcedAndAllowed.{reads_of}
use Rattle.rx_event.proofs.Laws.Sound.{sound_of, owned-push, node_open}
use Rattle.rx_event.proofs.Laws.Lawful.{IsLawful-push, shown_within, may_end}
use Rattle.rx_event.proofs.Laws.Steps.{may_name, may_emit}
use Rattle.std.proofs.Common.{rules}

pub ends : (b : Kept) (h : List Event) (e : Event) → MayFollow b h e → (n : ℕ) (t : Terminal) → e ≡ End n t → is_open h n ≡ true
ends b h e next n t same = may_end b (subst (λ x. MayFollow b h x) same next)

pub emits : (b : Kept) (h : List Event) (e : Event) → MayFollow b h e → (l : ℕ) (v : ℤ) → e ≡ Item l v → is_open h l ≡ true
emits b h e next l v same = may_emit b (subst (λ x. MayFollow b h x) same next)

-- followed by one event -------------------------------------------------------------------------------

module _ (b : Kept) (h : List Event) (c : Kept) (k : List Event) (e : Event) (law : IsLawful b h) (law_k : IsLawful c k) (next : MayFollow b h e)
    (next_k : MayFollow c k e) (a : Agree b h c k) where
  -- they stay the same, number for number
  reads : AreRead b c (λ n. n) (λ n. n) (h ++ e ∷ []) (k ++ e ∷ [])
  reads = subst (λ (x : Event). AreRead b c (λ n. n) (λ n. n) (h ++ e ∷ []) (k ++ x ∷ [])) (event_by_itself e)
      (read_after (reads_of a law law_k) next (subst (λ (x : Event). MayFollow c k x) (sym (event_by_itself e)) next_k)
      (id_goes_on h k e a.same_length (λ m named. may_name b next named) (λ m named. may_name c next_k named))
      (subst (λ (x : Event). GoesOn (λ n. n) (λ n. n) (λ n. n) (λ n. n) k h x) (sym (event_by_itself e))
      (id_goes_on k h e (sym a.same_length) (λ m named. may_name c next_k named) (λ m named. may_name b next named))))

  pushed : Alike (h ++ e ∷ []) (k ++ e ∷ [])
  pushed = alike_read (length-append h (e ∷ []) ∙ ap (λ n. n + 1) a.same_length ∙ sym (length-append k (e ∷ []))) reads.there reads.back

  long_k : (n : ℕ) → n ≡ length h → n ≡ length k
  long_k n last = last ∙ a.same_length

  -- an owned resource reads the same in both
  owned_made : (r : ℕ) → is_owned h r ≡ true → slice_get h r ≡ slice_get k r
  owned_made r owned = sym ((sound_of b h law).accepted r owned) ∙ a.accepts r (λ i. owned_held h r owned i || is_waiting h r) ∙
      (sound_of c k law_k).accepted r (sym (a.owned r) ∙ owned)

  in_k : (r : ℕ) → r < length h → r < length k
  in_k r l = let q = a.same_length in omega arith

  node_on : (n : Option ℕ) → option_map_or (is_open (h ++ e ∷ [])) n false ≡ option_map_or (is_open (k ++ e ∷ [])) n false
  node_on None = refl
  node_on (Some n) = pushed.same_open n

  owned_on : (r : ℕ) → is_owned (h ++ e ∷ []) r ≡ is_owned (k ++ e ∷ []) r
  owned_on r = search (rules, cases_order, length, node_open, not, node_on, option_map_or, option_and_then, owned_made, is_owned_new, long_k, owned-push, in_k, is_owned_past, length-append)

  out_on : (l : ℕ) → is_out (h ++ e ∷ []) l ≡ is_out (k ++ e ∷ []) l
  out_on l = by_place (cases_order l (length h)) where
    by_place : (l ≡ length h) ⊎ ((l < length h) ⊎ (length h < l)) → is_out (h ++ e ∷ []) l ≡ is_out (k ++ e ∷ []) l
    by_place (inl last) = ap (is_out (h ++ e ∷ [])) last ∙ is_out_last b h e law ∙ sym (ap (is_out (k ++ e ∷ [])) (long_k l last) ∙ is_out_last c k e law_k)
    by_place (inr (inl less)) = is_out-push h e l less ∙ ap (λ x. x && not (is_return_of l e)) (a.out l) ∙ sym (is_out-push k e l (in_k l less))
    by_place (inr (inr past)) = is_out_past (h ++ e ∷ []) l (omega (arith, length-append h (e ∷ []))) ∙ sym
        (is_out_past (k ++ e ∷ []) l (let q = a.same_length in omega (arith, length-append k (e ∷ []))))

  leased_on : (l : ℕ) → is_out (h ++ e ∷ []) l ≡ true → slice_get (h ++ e ∷ []) l ≡ slice_get (k ++ e ∷ []) l
  leased_on l out = by_place (cases_order l (length h)) where
    by_place : (l ≡ length h) ⊎ ((l < length h) ⊎ (length h < l)) → slice_get (h ++ e ∷ []) l ≡ slice_get (k ++ e ∷ []) l
    by_place (inl last) = ap (slice_get (h ++ e ∷ [])) last ∙ slice_get_last h e ∙ sym (ap (slice_get (k ++ e ∷ [])) (long_k l last) ∙ slice_get_last k e)
    by_place (inr (inl less)) = slice_get-append h (e ∷ []) l less ∙ a.leased l (and_parts (is_out h l) _ (sym (is_out-push h e l less) ∙ out)).0 ∙ sym
        (slice_get-append k (e ∷ []) l (in_k l less))
    by_place (inr (inr past)) = absurd (both_ways _ (is_out_past (h ++ e ∷ []) l (omega (arith, length-append h (e ∷ [])))) out)

  held_on : (r : ℕ) → is_held (h ++ e ∷ []) r ≡ is_held (k ++ e ∷ []) r
  held_on r = held_is (h ++ e ∷ []) r ∙ (λ i. owned_on r i || (is_leased-counted b (h ++ e ∷ []) (IsLawful-push b h e law next) r ∙
      ap (nat_lt 0) (leases_of_same (h ++ e ∷ []) (k ++ e ∷ []) pushed.same_length out_on leased_on r) ∙ sym
      (is_leased-counted c (k ++ e ∷ []) (IsLawful-push c k e law_k next_k) r)) i) ∙ sym (held_is (k ++ e ∷ []) r)

  untaken_old : (r : ℕ) → r < length h → is_untaken (h ++ e ∷ []) r ≡ true → is_untaken h r ≡ true
  untaken_old r l untaken = shape (is_held (h ++ e ∷ []) r) (is_waiting h r) (is_held h r) (is_take_of r e) (held_old b h e law next r l)
      (ap (λ x. is_held (h ++ e ∷ []) r || x) (sym (is_waiting-unheld b h e law next r l)) ∙ untaken)
    where
      shape : (after waits held takes : Bool) → (after ≡ true → held ≡ true) → (after || ((waits || (held && not after)) && not takes)) ≡ true →
          (held || waits) ≡ true
      shape after waits held takes up some = grind arith

  accepts_on : (r : ℕ) → is_untaken (h ++ e ∷ []) r ≡ true → accepted_by b (h ++ e ∷ []) r ≡ accepted_by c (k ++ e ∷ []) r
  accepts_on r untaken = by_place (cases_order r (length h)) where
    past : is_held (h ++ e ∷ []) r ≡ false → is_waiting (h ++ e ∷ []) r ≡ false → ⊥
    past one two = both_ways _ (λ i. one i || two i) untaken

    fresh : (d : Kept) (m : List Event) → IsLawful d m → r ≡ length m → accepted_by d (m ++ e ∷ []) r ≡ Some e
    fresh d m s last =
        ap (λ x. option_map_or (λ y. Some (Rattle.rx_event.specs.declared.event.Event.TheVariants.Accept y.node y.tag)) x (slice_get (m ++ e ∷ []) r))
        (s.started.unnumbered r (let w = shown_within d m s in omega arith)) ∙ ap (slice_get (m ++ e ∷ [])) last ∙ slice_get_last m e

    older : (d : Kept) (m : List Event) → r < length m → accepted_by d (m ++ e ∷ []) r ≡ accepted_by d m r
    older d m l = ap (λ x. option_map_or (λ y. Some (Rattle.rx_event.specs.declared.event.Event.TheVariants.Accept y.node y.tag)) (resource_kept d r) x)
        (slice_get-append m (e ∷ []) r l)

    by_place : (r ≡ length h) ⊎ ((r < length h) ⊎ (length h < r)) → accepted_by b (h ++ e ∷ []) r ≡ accepted_by c (k ++ e ∷ []) r
    by_place (inl last) = fresh b h law last ∙ sym (fresh c k law_k (long_k r last))
    by_place (inr (inl l)) = older b h l ∙ a.accepts r (untaken_old r l untaken) ∙ sym (older c k (in_k r l))
    by_place (inr (inr l)) = absurd (past (is_held_past (h ++ e ∷ []) r (omega (arith, length-append h (e ∷ []))))
        (is_waiting_past (h ++ e ∷ []) r (omega (arith, length-append h (e ∷ [])))))

  uses_on : (r : ℕ) → is_untaken (h ++ e ∷ []) r ≡ true → uses b (h ++ e ∷ []) r ≡ uses c (k ++ e ∷ []) r
  uses_on r untaken = uses-push b h e r ∙ ap (λ n. n + cond (is_use_of r e) 1 0) (before (cases_order r (length h))) ∙ sym (uses-push c k e r) where
    past : is_held (h ++ e ∷ []) r ≡ false → is_waiting (h ++ e ∷ []) r ≡ false → ⊥
    past one two = both_ways _ (λ i. one i || two i) untaken

    before : (r ≡ length h) ⊎ ((r < length h) ⊎ (length h < r)) → uses b h r ≡ uses c k r
    before (inl last) = uses_past b h law r (omega arith) ∙ sym (uses_past c k law_k r (let q = long_k r last in omega arith))
    before (inr (inl l)) = a.used r (untaken_old r l untaken)
    before (inr (inr l)) = absurd (past (is_held_past (h ++ e ∷ []) r (omega (arith, length-append h (e ∷ []))))
        (is_waiting_past (h ++ e ∷ []) r (omega (arith, length-append h (e ∷ [])))))

  pub agree-push : Agree b (h ++ e ∷ []) c (k ++ e ∷ [])
  agree-push =
      record {
        same_length = pushed.same_length;
        there = reads.there;
        back = reads.back;
        owned = owned_on;
        held = held_on;
        waiting = λ r. search (rules, cases_order, length, is_waiting_new, long_k, is_waiting-unheld, not, held_on, in_k, is_waiting_past, length-append);
        accepts = accepts_on;
        used = uses_on;
        out = out_on;
        leased = leased_on;
        item_total = let one = (item_count-push b) h e in let two = (item_count-push c) k e in let same = a.item_total in omega arith;
        accepted_total = let one = (accepted_count-push b) h e in let two = (accepted_count-push c) k e in let same = a.accepted_total in omega arith;
        taken_total = let one = (taken_count-push b) h e in let two = (taken_count-push c) k e in let same = a.taken_total in omega arith;
      }
