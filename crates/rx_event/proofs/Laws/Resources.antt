-- Where each resource is after one more event.
use Rattle.rx_event.proofs.Laws.Common.{◌≡◌, ℕ, ◌+◌, ◌<◌, ◌≤◌, Bool, true, false, List, [], ◌∷◌, ◌++◌, length, Option, Some, None, cond, refl, sym, ap}
use Rattle.rx_event.proofs.Laws.Common.{◌∙◌, arith, inl, inr, ◌⊎◌, ◌==◌, nat_lt, slice_get, length-append, not, ◌&&◌, ◌||◌, list_any, option_and_then}
use Rattle.rx_event.proofs.Laws.Common.{option_map_or, cases_order, cases_Bool, both_ways, and_parts, or_cases, ne_eqb, eqb-true, lt-ltb}
use Rattle.rx_event.proofs.Laws.Common.{slice_get_past, slice_get_within, none-some, same_Some, Terminal, Kept, shown, Event}
use Rattle.rx_event.proofs.Laws.Common.{Accept, Remove, Lease, Return, End, Close, Take, makes_resource, node_of_accept}
use Rattle.rx_event.proofs.Laws.Common.{is_remove_of, is_take_of, at, is_open, is_within, is_owned, leases_of, is_held, is_taken, is_waiting, accepted_by}
use Rattle.rx_event.proofs.Laws.Common.{MayFollow, IsLawful, and_true, and_not_false, or_false, and_assoc, and_false, or_right, not-true}
use Rattle.rx_event.proofs.Laws.Common.{list_any-append, is_lease_of, is_return, is_leased}
use Rattle.std.proofs.lemmas.Bool.{or_from, and_right}
use Rattle.std.proofs.lemmas.Option.{option_and_then_some}
use Rattle.rx_event.proofs.Laws.Places.{slice_get-append, slice_get_last, at-append, at_within}
use Rattle.rx_event.proofs.Laws.Openness.{is_cut, is_cut_none, is_open_cut, is_open_within, is_open_unchanged, shuts_none}
use Rattle.rx_event.proofs.Laws.Lawful.{in_base, since_base, FoundAt, found_at, shown_within}
use Rattle.rx_event.proofs.Laws.Steps.{by_events, may_accept, may_remove, may_take}
use Rattle.rx_event.proofs.Laws.Leases.{is_owned_within, owned_resource, lease_resource, leases_of-return, leased_resource}
use Rattle.rx_event.proofs.Laws.Leases.{leased_where, is_leased_past, is_leased_kept, is_leased_last, leased_old, lease_owned}
use Rattle.rx_event.proofs.Laws.MakingRemovesNothing.{made_unremoved, made_untaken}
use Rattle.std.proofs.Common.{rules}

-- the node of a resource ---------------------------------------------------------------------------

-- the node that resource r was accepted at
abbrev pub node_of : List Event → ℕ → Option ℕ
node_of h r = option_and_then node_of_accept (slice_get h r)

accepted_before : (base : Kept) → (h : List Event) → IsLawful base h → (r n : ℕ) (e : Event) → slice_get h r ≡ Some e → node_of_accept e ≡ Some n → n ≤ r
accepted_before base h law r n (Accept m tag) at_r named = by_case (found_at base h law r (Accept m tag) at_r) where
  by_case : FoundAt base h r (Accept m tag) → n ≤ r
  by_case (in_base found at_same) = let l = law.started.accepts r m tag found in let same : m ≡ n = same_Some m n named in omega arith
  by_case (since_base next) = search (rules, is_open_within, may_accept, slice_get_within, same_Some)
accepted_before base h law r n _ at_r named = absurd (none-some n named)

-- a resource has a larger number than its node
pub node_of-lt : (base : Kept) → (h : List Event) → IsLawful base h → (r n : ℕ) → node_of h r ≡ Some n → n ≤ r
node_of-lt base h law r n named = option_and_then_some node_of_accept (slice_get h r) n named (λ e at_r n_of. accepted_before base h law r n e at_r n_of)

-- owned -------------------------------------------------------------------------------------------

-- the event takes r from its node: it removes it, or cuts its node
abbrev pub loses : List Event → Event → ℕ → Bool
loses h e r = option_map_or (is_cut h e) (node_of h r) false || is_remove_of r e

-- an older resource is owned if it was, and its node does not lose it
pub is_owned-push : (base : Kept) → (h : List Event) (e : Event) → IsLawful base h → (r : ℕ) → r < length h → is_owned (h ++ e ∷ []) r ≡
    (is_owned h r && not (loses h e r))
unfolding is_owned
is_owned-push base h e law r l = rw (slice_get-append h (e ∷ []) r l, list_any-append (is_remove_of r) h (e ∷ [])) (by_node (node_of h r) refl) where
  shape : (o s a b : Bool) → ((o && not s) && not (a || (b || false))) ≡ ((o && not a) && not (s || b))
  shape o s a b = grind arith

  by_node : (o : Option ℕ) → node_of h r ≡ o →
      (option_map_or (is_open (h ++ e ∷ [])) o false && not (list_any (is_remove_of r) h || (is_remove_of r e || false))) ≡
      ((option_map_or (is_open h) o false && not (list_any (is_remove_of r) h)) && not (option_map_or (is_cut h e) o false || is_remove_of r e))
  by_node None at_r = refl
  by_node (Some n) at_r =
      let s : n ≤ r = node_of-lt base h law r n at_r in
      rw (is_open_cut h e n (omega arith)) (shape (is_open h n) (is_cut h e n) (list_any (is_remove_of r) h) (is_remove_of r e))

-- beyond the end nothing is owned
pub is_owned_past : (h : List Event) (r : ℕ) → length h ≤ r → is_owned h r ≡ false
unfolding is_owned
is_owned_past h r l = rw (slice_get_past h r l) refl

removes_none : (base : Kept) → (h : List Event) (e : Event) → MayFollow base h e → (r : ℕ) → length h ≤ r → is_remove_of r e ≡ false
removes_none base h x2 next r l = search (rules, is_owned_within, may_remove, ne_eqb)

-- only older resources are removed
pub no_remove : (base : Kept) → (h : List Event) → IsLawful base h → (r : ℕ) → length h ≤ r → list_any (is_remove_of r) h ≡ false
no_remove base = by_events base (λ h. (r : ℕ) → length h ≤ r → list_any (is_remove_of r) h ≡ false) (λ s r l. made_unremoved (shown base) s.making r)
    (λ h e law next before r l.
    let b : length h ≤ r = omega (arith, length-append h (e ∷ [])) in
    list_any-append (is_remove_of r) h (e ∷ []) ∙ or_from _ _ (before r b) (or_from _ _ (removes_none base h e next r b) refl))

-- a new resource is owned where its node is open
pub is_owned_last : (base : Kept) → (h : List Event) (e : Event) → IsLawful base h → is_owned (h ++ e ∷ []) (length h) ≡ option_map_or (is_open h)
    (node_of_accept e) false
unfolding is_owned
is_owned_last base h e law = rw (slice_get_last h e) (by_event e) where
  by_event : (e : Event) → (option_map_or (is_open (h ++ e ∷ [])) (node_of_accept e) false && not (list_any (is_remove_of (length h)) (h ++ e ∷ []))) ≡
      option_map_or (is_open h) (node_of_accept e) false
  by_event (Accept n tag) = rw (is_open_unchanged h (Accept n tag) refl refl n) (and_not_false (is_open h n) _
      (list_any-append (is_remove_of (length h)) h (Accept n tag ∷ []) ∙ or_from _ _ (no_remove base h law (length h) (omega arith)) refl))
  by_event _ = refl

keeps_none : (h : List Event) (e : Event) (r : ℕ) → shuts_none e ≡ true → is_remove_of r e ≡ false → loses h e r ≡ false
keeps_none h e r s keeps = search (rules, or_from, option_map_or, is_cut_none)

-- an event that shuts no node leaves what it does not remove
pub is_owned_kept : (base : Kept) → (h : List Event) (e : Event) → IsLawful base h → (r : ℕ) → r < length h → shuts_none e ≡ true → is_remove_of r e ≡ false →
    is_owned (h ++ e ∷ []) r ≡ is_owned h r
is_owned_kept base h e law r l s keeps = rw (is_owned-push base h e law r l, keeps_none h e r s keeps) (and_true (is_owned h r))

-- a resource is in the history
pub node_of_within : (h : List Event) (r n : ℕ) → node_of h r ≡ Some n → r < length h
node_of_within h r n named = option_and_then_some node_of_accept (slice_get h r) n named (λ e at_r n_of. slice_get_within h r e at_r)

-- after the end or the closing of c, what was owned within c no longer is
pub is_owned-end : (base : Kept) → (h : List Event) (c : ℕ) (t : Terminal) → IsLawful base h → (r n : ℕ) → node_of h r ≡ Some n →
    is_owned (h ++ End c t ∷ []) r ≡ (is_owned h r && not (is_within h c n))
is_owned-end base h c t law r n at_r = rw (is_owned-push base h (End c t) law r (node_of_within h r n at_r), at_r)
    (ap (λ b. is_owned h r && not b) (or_false (is_within h c n)))

pub is_owned-close : (base : Kept) → (h : List Event) (c : ℕ) → IsLawful base h → (r n : ℕ) → node_of h r ≡ Some n →
    is_owned (h ++ Close c ∷ []) r ≡ (is_owned h r && not (is_within h c n))
is_owned-close base h c law r n at_r = rw (is_owned-push base h (Close c) law r (node_of_within h r n at_r), at_r)
    (ap (λ b. is_owned h r && not b) (or_false (is_within h c n)))

-- after a removal all that was owned still is, but that
pub is_owned-remove : (base : Kept) → (h : List Event) (q : ℕ) → IsLawful base h → (r : ℕ) → r < length h → is_owned (h ++ Remove q ∷ []) r ≡
    (is_owned h r && not (q == r))
is_owned-remove base h q law r l = rw (is_owned-push base h (Remove q) law r l) (ap (λ b. is_owned h r && not (b || q == r)) (cut_none (node_of h r))) where
  cut_none : (o : Option ℕ) → option_map_or (is_cut h (Remove q)) o false ≡ false
  cut_none None = refl
  cut_none (Some n) = is_cut_none h (Remove q) n refl

-- what is owned is owned by an open node
owned_open : (h : List Event) (r n : ℕ) → node_of h r ≡ Some n → is_owned h r ≡ true → is_open h n ≡ true
unfolding is_owned
owned_open h r n at_r owned = sym (ap (λ o. option_map_or (is_open h) o false) at_r) ∙ (and_parts _ _ owned).0

-- a resource stays owned as long as its node is open and it is not removed
pub is_owned-open : (base : Kept) → (h : List Event) (e : Event) → IsLawful base h → (r n : ℕ) → node_of h r ≡ Some n →
    is_owned (h ++ e ∷ []) r ≡ (is_owned h r && is_open (h ++ e ∷ []) n && not (is_remove_of r e))
is_owned-open base h e law r n at_r =
    let s : n ≤ r = node_of-lt base h law r n at_r in
    let l : r < length h = node_of_within h r n at_r in
    rw (is_owned-push base h e law r l, at_r, is_open_cut h e n (omega arith)) (shape (is_owned h r) (is_open h n) (is_cut h e n) (is_remove_of r e)
    (owned_open h r n at_r))
  where
    shape : (owned o c k : Bool) → (owned ≡ true → o ≡ true) → (owned && not (c || k)) ≡ ((owned && (o && not c)) && not k)
    shape owned o c k open_where = grind arith

-- held --------------------------------------------------------------------------------------------

pub held_is : (h : List Event) (r : ℕ) → is_held h r ≡ (is_owned h r || is_leased h r)
unfolding is_held
held_is h r = refl

pub owned_held : (h : List Event) (r : ℕ) → is_owned h r ≡ true → is_held h r ≡ true
owned_held h r owned = held_is h r ∙ ap (λ b. b || is_leased h r) owned

pub leased_held : (h : List Event) (r : ℕ) → is_leased h r ≡ true → is_held h r ≡ true
leased_held h r leased = held_is h r ∙ or_right (is_owned h r) (is_leased h r) leased

pub held_parts : (h : List Event) (r : ℕ) → is_held h r ≡ true → (is_owned h r ≡ true) ⊎ (is_leased h r ≡ true)
held_parts h r held = or_cases (is_owned h r) (is_leased h r) (sym (held_is h r) ∙ held)

-- what is held is a resource
pub held_resource : (h : List Event) (r : ℕ) → is_held h r ≡ true → at makes_resource h r ≡ true
held_resource h r held = search (rules, held_parts, owned_resource, leased_resource)

-- and in the history
pub is_held_within : (h : List Event) (r : ℕ) → is_held h r ≡ true → r < length h
is_held_within h r held = at_within makes_resource h r (held_resource h r held)

-- beyond the end nothing is held
pub is_held_past : (h : List Event) (r : ℕ) → length h ≤ r → is_held h r ≡ false
is_held_past h r l = held_is h r ∙ (λ i. is_owned_past h r l i || is_leased_past h r l i)

-- a new resource is held where its node is open
pub is_held_last : (base : Kept) → (h : List Event) (e : Event) → IsLawful base h → is_held (h ++ e ∷ []) (length h) ≡ option_map_or (is_open h)
    (node_of_accept e) false
is_held_last base h e law = held_is (h ++ e ∷ []) (length h) ∙ (λ i. is_owned_last base h e law i || is_leased_last base h e law i) ∙ or_false _

-- an event that shuts no node leaves what it neither removes, leases nor returns
pub is_held_kept : {base : Kept} → {h : List Event} (e : Event) → IsLawful base h → (r : ℕ) → r < length h → shuts_none e ≡ true → is_remove_of r e ≡ false →
    is_return e ≡ false → is_lease_of r e ≡ false → is_held (h ++ e ∷ []) r ≡ is_held h r
is_held_kept {base} {h} e law r l s keeps none unleased =
    held_is (h ++ e ∷ []) r ∙ (λ i. is_owned_kept base h e law r l s keeps i || is_leased_kept base h e law r l none unleased i) ∙ sym (held_is h r)

-- an older resource that is held was held, if a lease of it is one of what was owned
pub held_before : (base : Kept) → (h : List Event) (e : Event) → IsLawful base h → (r : ℕ) → r < length h → (is_lease_of r e ≡ true → is_owned h r ≡ true) →
    is_held (h ++ e ∷ []) r ≡ true → is_held h r ≡ true
held_before base h e law r l may held = by_part (held_parts (h ++ e ∷ []) r held) where
  by_cause : (is_leased h r ≡ true) ⊎ (is_owned h r ≡ true) → is_held h r ≡ true
  by_cause (inl leased) = leased_held h r leased
  by_cause (inr owned) = owned_held h r owned

  by_part : (is_owned (h ++ e ∷ []) r ≡ true) ⊎ (is_leased (h ++ e ∷ []) r ≡ true) → is_held h r ≡ true
  by_part (inl owned) = owned_held h r (and_parts _ _ (sym (is_owned-push base h e law r l) ∙ owned)).0
  by_part (inr leased) = by_cause (leased_old base h e law r l may leased)

pub held_old : (base : Kept) → (h : List Event) (e : Event) → IsLawful base h → MayFollow base h e → (r : ℕ) → r < length h →
    is_held (h ++ e ∷ []) r ≡ true → is_held h r ≡ true
held_old base h e law next r l held = held_before base h e law r l (lease_owned base h e next r) held

-- after a return just that resource is leased no more of which it was the last lease
pub is_leased-return : {base : Kept} → (h : List Event) (l q : ℕ) → IsLawful base h → MayFollow base h (Return l) → slice_get h l ≡ Some (Lease q) → (r : ℕ)
    → r < length h → is_leased (h ++ Return l ∷ []) r ≡ (is_leased h r && not (q == r && leases_of h r == 1))
is_leased-return {base} h l q law next at_l r less =
    ap (λ a. a && nat_lt 0 (leases_of (h ++ Return l ∷ []) r)) (at-append makes_resource h (Return l ∷ []) r less) ∙
    ap (λ b. at makes_resource h r && b) (by_number (q == r) (leases_of-return base h l q law next at_l r)) ∙
    and_assoc (at makes_resource h r) (nat_lt 0 (leases_of h r)) (not (q == r && leases_of h r == 1))
  where
    both : (x : ℕ) → nat_lt 0 x ≡ (nat_lt 0 (x + 1) && not (x + 1 == 1))
    both x = by_size (cases_order x 0) where
      by_size : (x ≡ 0) ⊎ ((x < 0) ⊎ (0 < x)) → nat_lt 0 x ≡ (nat_lt 0 (x + 1) && not (x + 1 == 1))
      by_size (inl none) = rw none refl
      by_size (inr (inl l)) = absurd (omega arith)
      by_size (inr (inr some)) = lt-ltb 0 x some ∙ sym (λ i. lt-ltb 0 (x + 1) (omega arith) i && not (ne_eqb (x + 1) 1 (omega arith) i))

    by_number : (b : Bool) → leases_of (h ++ Return l ∷ []) r + cond b 1 0 ≡ leases_of h r →
        nat_lt 0 (leases_of (h ++ Return l ∷ []) r) ≡ (nat_lt 0 (leases_of h r) && not (b && leases_of h r == 1))
    by_number true same = both (leases_of (h ++ Return l ∷ []) r) ∙ ap (λ n. nat_lt 0 n && not (n == 1)) same
    by_number false same =
        let kept : leases_of (h ++ Return l ∷ []) r ≡ leases_of h r = omega arith in ap (nat_lt 0) kept ∙ sym (and_true (nat_lt 0 (leases_of h r)))

-- and as much is owned
pub owned_return : (base : Kept) → (h : List Event) (l : ℕ) → IsLawful base h → (r : ℕ) → r < length h → is_owned (h ++ Return l ∷ []) r ≡ is_owned h r
owned_return base h l law r less = is_owned_kept base h (Return l) law r less refl refl

-- taken -------------------------------------------------------------------------------------------

-- an older resource is taken if it was, or if the event takes it
pub is_taken-push : (h : List Event) (e : Event) (r : ℕ) → r < length h → is_taken (h ++ e ∷ []) r ≡ (is_taken h r || (at makes_resource h r && is_take_of r e))
unfolding is_taken
is_taken-push h e r l = search (rules, at-append, list_any-append, list_any)

-- what is taken is a resource
pub taken_resource : (h : List Event) (r : ℕ) → is_taken h r ≡ true → at makes_resource h r ≡ true
unfolding is_taken
taken_resource h r taken = (and_parts _ _ taken).0

-- beyond the end nothing is taken
pub is_taken_past : (h : List Event) (r : ℕ) → length h ≤ r → is_taken h r ≡ false
unfolding is_taken
is_taken_past h r l = rw (slice_get_past h r l) refl

-- waiting -----------------------------------------------------------------------------------------

-- beyond the end nothing waits
pub is_waiting_past : (h : List Event) (r : ℕ) → length h ≤ r → is_waiting h r ≡ false
unfolding is_waiting
is_waiting_past h r l = rw (slice_get_past h r l) refl

-- what waits is in the history
pub is_waiting_within : (h : List Event) (r : ℕ) → is_waiting h r ≡ true → r < length h
is_waiting_within h r waits = search (rules, cases_order, length, both_ways, is_waiting_past)

-- what waits is neither held nor taken
pub waiting_parts : (h : List Event) (r : ℕ) → is_waiting h r ≡ true → (at makes_resource h r ≡ true) × (is_held h r ≡ false) × (is_taken h r ≡ false)
unfolding is_waiting
waiting_parts h r waits = search (rules, and_parts, not-true)

takes_none : (base : Kept) → (h : List Event) (e : Event) → MayFollow base h e → (r : ℕ) → length h ≤ r → is_take_of r e ≡ false
takes_none base h x2 next r l = search (rules, is_waiting_within, may_take, ne_eqb)

-- only older resources are taken
pub no_take : (base : Kept) → (h : List Event) → IsLawful base h → (r : ℕ) → length h ≤ r → list_any (is_take_of r) h ≡ false
no_take base = by_events base (λ h. (r : ℕ) → length h ≤ r → list_any (is_take_of r) h ≡ false) (λ s r l. made_untaken (shown base) s.making r)
    (λ h e law next before r l.
    let b : length h ≤ r = omega (arith, length-append h (e ∷ [])) in
    list_any-append (is_take_of r) h (e ∷ []) ∙ or_from _ _ (before r b) (or_from _ _ (takes_none base h e next r b) refl))

-- the new event's resource is not taken
pub is_taken_last : (base : Kept) → (h : List Event) (e : Event) → IsLawful base h → is_taken (h ++ e ∷ []) (length h) ≡ false
unfolding is_taken
is_taken_last base h e law = rw (slice_get_last h e) (by_event e) where
  by_event : (e : Event) → (makes_resource e && list_any (is_take_of (length h)) (h ++ e ∷ [])) ≡ false
  by_event (Accept n tag) = list_any-append (is_take_of (length h)) h (Accept n tag ∷ []) ∙ or_from _ _ (no_take base h law (length h) (omega arith)) refl
  by_event _ = refl

-- one place for each resource ---------------------------------------------------------------------

-- what is held is not what the event takes
held_untaken : (base : Kept) → (h : List Event) (e : Event) → MayFollow base h e → (r : ℕ) → is_held h r ≡ true → is_take_of r e ≡ false
held_untaken base h (Take q) next r held = by_number (cases_Bool (q == r)) where
  by_number : ((q == r) ≡ true) ⊎ ((q == r) ≡ false) → (q == r) ≡ false
  by_number (inr apart) = apart
  by_number (inl same) = absurd (both_ways _ (waiting_parts h q (may_take base next)).1 (ap (is_held h) (eqb-true q r same) ∙ held))
held_untaken base h _ next r held = refl

-- without a taking nothing is taken
untaken_there : (h : List Event) (r : ℕ) → list_any (is_take_of r) h ≡ false → is_taken h r ≡ false
unfolding is_taken
untaken_there h r none = ap (λ c. at makes_resource h r && c) none ∙ and_false (at makes_resource h r)

-- what is held was not taken
pub held_not_taken : (base : Kept) → (h : List Event) → IsLawful base h → (r : ℕ) → is_held h r ≡ true → is_taken h r ≡ false
held_not_taken base = by_events base (λ h. (r : ℕ) → is_held h r ≡ true → is_taken h r ≡ false)
    (λ s r held. untaken_there (shown base) r (made_untaken (shown base) s.making r)) after
  where
    after : (h : List Event) (e : Event) → IsLawful base h → MayFollow base h e → ((r : ℕ) → is_held h r ≡ true → is_taken h r ≡ false) → (r : ℕ) →
        is_held (h ++ e ∷ []) r ≡ true → is_taken (h ++ e ∷ []) r ≡ false
    after h e law next before r held = by_place (cases_order r (length h)) where
      by_place : (r ≡ length h) ⊎ ((r < length h) ⊎ (length h < r)) → is_taken (h ++ e ∷ []) r ≡ false
      by_place (inr (inl l)) =
          let was : is_held h r ≡ true = held_old base h e law next r l held in
          is_taken-push h e r l ∙ or_from _ _ (before r was) (and_right _ _ (held_untaken base h e next r was))
      by_place (inl same) = ap (is_taken (h ++ e ∷ [])) same ∙ is_taken_last base h e law
      by_place (inr (inr g)) = is_taken_past (h ++ e ∷ []) r (omega (arith, length-append {A = Event}))

-- an older resource waits if it did, or is held no more, and the event does not take it
waiting-held : (base : Kept) → (h : List Event) (e : Event) → IsLawful base h → (r : ℕ) → r < length h → (is_lease_of r e ≡ true → is_owned h r ≡ true) →
    is_waiting (h ++ e ∷ []) r ≡ ((is_waiting h r || (is_held h r && not (is_held (h ++ e ∷ []) r))) && not (is_take_of r e))
unfolding is_waiting
waiting-held base h e law r l may = (λ i. at-append makes_resource h (e ∷ []) r l i && not (is_held (h ++ e ∷ []) r) && not (is_taken-push h e r l i)) ∙
    shape (at makes_resource h r) (is_held h r) (is_held (h ++ e ∷ []) r) (is_taken h r) (is_take_of r e) (held_resource h r) (held_not_taken base h law r)
    (held_before base h e law r l may)
  where
    shape : (a held after taken t : Bool) → (held ≡ true → a ≡ true) → (held ≡ true → taken ≡ false) → (after ≡ true → held ≡ true) →
        ((a && not after) && not (taken || (a && t))) ≡ ((((a && not held) && not taken) || (held && not after)) && not t)
    shape a held after taken t made untaken old = grind arith

pub is_waiting-unheld : (base : Kept) → (h : List Event) (e : Event) → IsLawful base h → MayFollow base h e → (r : ℕ) → r < length h →
    is_waiting (h ++ e ∷ []) r ≡ ((is_waiting h r || (is_held h r && not (is_held (h ++ e ∷ []) r))) && not (is_take_of r e))
is_waiting-unheld base h e law next r l = waiting-held base h e law r l (lease_owned base h e next r)

-- so where nothing is leased or returned: what was owned and has no lease out, where its node loses it
is_waiting-loses : {base : Kept} → (h : List Event) (e : Event) → IsLawful base h → (r : ℕ) → r < length h → is_return e ≡ false → is_lease_of r e ≡ false →
    is_take_of r e ≡ false → is_waiting (h ++ e ∷ []) r ≡ (is_waiting h r || (is_owned h r && loses h e r && not (is_leased h r)))
is_waiting-loses {base} h e law r l none unleased leaves =
    let after : is_held (h ++ e ∷ []) r ≡ ((is_owned h r && not (loses h e r)) || is_leased h r) =
    held_is (h ++ e ∷ []) r ∙ (λ i. is_owned-push base h e law r l i || is_leased_kept base h e law r l none unleased i) in
    waiting-held base h e law r l (λ leases. absurd (both_ways _ unleased leases)) ∙
    (λ i. (is_waiting h r || (held_is h r i && not (after i))) && not (leaves i)) ∙ shape (is_waiting h r) (is_owned h r) (loses h e r) (is_leased h r) where
      shape : (w o k s : Bool) → ((w || ((o || s) && not ((o && not k) || s))) && true) ≡ (w || ((o && k) && not s))
      shape w o k s = grind arith

-- after the end or the closing of c, what was owned within c waits, but what is leased
pub is_waiting-end : (base : Kept) → (h : List Event) (c : ℕ) (t : Terminal) → IsLawful base h → (r n : ℕ) → node_of h r ≡ Some n →
    is_waiting (h ++ End c t ∷ []) r ≡ (is_waiting h r || (is_owned h r && is_within h c n && not (is_leased h r)))
is_waiting-end base h c t law r n at_r = is_waiting-loses h (End c t) law r (node_of_within h r n at_r) refl refl refl ∙
    ap (λ k. is_waiting h r || (is_owned h r && k && not (is_leased h r))) (ap (λ o. option_map_or (is_cut h (End c t)) o false || false) at_r ∙ or_false
    (is_within h c n))

pub is_waiting-close : (base : Kept) → (h : List Event) (c : ℕ) → IsLawful base h → (r n : ℕ) → node_of h r ≡ Some n →
    is_waiting (h ++ Close c ∷ []) r ≡ (is_waiting h r || (is_owned h r && is_within h c n && not (is_leased h r)))
is_waiting-close base h c law r n at_r = is_waiting-loses h (Close c) law r (node_of_within h r n at_r) refl refl refl ∙
    ap (λ k. is_waiting h r || (is_owned h r && k && not (is_leased h r))) (ap (λ o. option_map_or (is_cut h (Close c)) o false || false) at_r ∙ or_false
    (is_within h c n))

-- a new resource does not wait where its node is open
pub is_waiting_last : (base : Kept) → (h : List Event) (e : Event) → IsLawful base h →
    is_waiting (h ++ e ∷ []) (length h) ≡ (makes_resource e && not (option_map_or (is_open h) (node_of_accept e) false))
unfolding is_waiting
is_waiting_last base h e law = rw (is_held_last base h e law, is_taken_last base h e law, slice_get_last h e) (and_true _)

-- so none waits at the place of an event that may follow
pub is_waiting_new : (base : Kept) → (h : List Event) (e : Event) → IsLawful base h → MayFollow base h e → is_waiting (h ++ e ∷ []) (length h) ≡ false
is_waiting_new base h e law next = is_waiting_last base h e law ∙ by_event e next where
  by_event : (e : Event) → MayFollow base h e → (makes_resource e && not (option_map_or (is_open h) (node_of_accept e) false)) ≡ false
  by_event (Accept n tag) next = ap not (may_accept base next)
  by_event _ next = refl

-- after a removal what was removed waits too, if it has no lease out
pub is_waiting-remove : (base : Kept) → (h : List Event) (q : ℕ) → IsLawful base h → (r : ℕ) → r < length h →
    is_waiting (h ++ Remove q ∷ []) r ≡ (is_waiting h r || (is_owned h r && q == r && not (is_leased h r)))
is_waiting-remove base h q law r l = is_waiting-loses h (Remove q) law r l refl refl refl ∙
    ap (λ k. is_waiting h r || (is_owned h r && k && not (is_leased h r))) (ap (λ c. c || q == r) (cut_none (node_of h r)))
  where
    cut_none : (o : Option ℕ) → option_map_or (is_cut h (Remove q)) o false ≡ false
    cut_none None = refl
    cut_none (Some n) = is_cut_none h (Remove q) n refl

-- after a return that waits too of which it was the last lease, if it is not owned
pub is_waiting-return : (base : Kept) → (h : List Event) (l q : ℕ) → IsLawful base h → MayFollow base h (Return l) → slice_get h l ≡ Some (Lease q) → (r : ℕ) →
    is_waiting (h ++ Return l ∷ []) r ≡ (is_waiting h r || (q == r && not (is_owned h r) && leases_of h r == 1))
is_waiting-return base h l q law next at_l r = by_place (cases_order r (length h)) where
  shape : (w o s same one : Bool) → (same ≡ true → s ≡ true) →
      ((w || ((o || s) && not (o || (s && not (same && one))))) && true) ≡ (w || ((same && not o) && one))
  shape w o s same one leased = grind arith

  leased : (q == r) ≡ true → is_leased h r ≡ true
  leased same =
      let back = leases_of-return base h l q law next at_l r in
      let one : cond {A = ℕ} (q == r) 1 0 ≡ 1 = ap (λ b. cond {A = ℕ} b 1 0) same in
      leased_where h r (ap (at makes_resource h) (sym (eqb-true q r same)) ∙ lease_resource base h law l q at_l) (omega arith)

  other : length h ≤ r → (q == r) ≡ false
  other past = let w : q < length h = at_within makes_resource h q (lease_resource base h law l q at_l) in ne_eqb q r (omega arith)

  beyond : length h ≤ r → (is_waiting h r || (q == r && not (is_owned h r) && leases_of h r == 1)) ≡ false
  beyond past = (λ i. is_waiting_past h r past i || (other past i && not (is_owned h r) && leases_of h r == 1))

  by_place : (r ≡ length h) ⊎ ((r < length h) ⊎ (length h < r)) → is_waiting (h ++ Return l ∷ []) r ≡
      (is_waiting h r || (q == r && not (is_owned h r) && leases_of h r == 1))
  by_place (inr (inl less)) = is_waiting-unheld base h (Return l) law next r less ∙
      (λ i. (is_waiting h r || (held_is h r i && not ((held_is (h ++ Return l ∷ []) r ∙ (λ j. owned_return base h l law r less j || is_leased-return h
      l q law next at_l r less j)) i))) && true) ∙ shape (is_waiting h r) (is_owned h r) (is_leased h r) (q == r) (leases_of h r == 1) leased
  by_place (inl same) = ap (is_waiting (h ++ Return l ∷ [])) same ∙ is_waiting_last base h (Return l) law ∙ sym (beyond (omega arith))
  by_place (inr (inr g)) = is_waiting_past (h ++ Return l ∷ []) r (omega (arith, length-append {A = Event})) ∙ sym (beyond (omega arith))

-- each resource is in exactly one place: held, waiting or taken
pub in_one_place : (base : Kept) → (h : List Event) → IsLawful base h → (r : ℕ) →
    cond (is_held h r) 1 0 + cond (is_waiting h r) 1 0 + cond (is_taken h r) 1 0 ≡ cond (at makes_resource h r) 1 0
unfolding is_waiting
in_one_place base h law r = shape (at makes_resource h r) (is_held h r) (is_taken h r) (held_resource h r) (held_not_taken base h law r) (taken_resource h r)
  where
    shape : (a held taken : Bool) → (held ≡ true → a ≡ true) → (held ≡ true → taken ≡ false) → (taken ≡ true → a ≡ true) →
        cond held 1 0 + cond ((a && not held) && not taken) 1 0 + cond taken 1 0 ≡ cond a 1 0
    shape a held taken made untaken given = grind arith

-- a new resource is held
pub is_held_new : (base : Kept) → (h : List Event) (e : Event) → IsLawful base h → MayFollow base h e → is_held (h ++ e ∷ []) (length h) ≡ makes_resource e
is_held_new base h e law next = is_held_last base h e law ∙ by_event e next where
  by_event : (e : Event) → MayFollow base h e → option_map_or (is_open h) (node_of_accept e) false ≡ makes_resource e
  by_event (Accept n tag) next = may_accept base next
  by_event _ next = refl

-- by its node
pub is_owned_new : (base : Kept) → (h : List Event) (e : Event) → IsLawful base h → MayFollow base h e → is_owned (h ++ e ∷ []) (length h) ≡ makes_resource e
is_owned_new base h e law next = is_owned_last base h e law ∙ sym (is_held_last base h e law) ∙ is_held_new base h e law next

-- what accepted it ---------------------------------------------------------------------------------

pub accepted_by-push : (base : Kept) → (h : List Event) (e : Event) (r : ℕ) → r < length h → accepted_by base (h ++ e ∷ []) r ≡ accepted_by base h r
accepted_by-push base h e r l = search (rules, option_map_or, Accept, slice_get-append)

-- of a new one no record is kept
pub accepted_by_new : (base : Kept) → (h : List Event) (e : Event) → IsLawful base h → accepted_by base (h ++ e ∷ []) (length h) ≡ Some e
accepted_by_new base h e law = search (rules, option_map_or, Accept, slice_get, length, shown_within, slice_get_last)
