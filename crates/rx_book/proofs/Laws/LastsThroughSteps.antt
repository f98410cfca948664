-- What an event of one sort makes and one of another takes away, and what a step of the book leaves of it.
use Rattle.rx_book.proofs.Common.{◌≡◌, ℕ, ◌+◌, ◌≤◌, Bool, true, false, List, [], ◌∷◌, ◌++◌, length, map, cond, refl, sym, ap, ◌∙◌, arith, ◌==◌, append_assoc}
use Rattle.rx_book.proofs.Common.{length-append, slice_get, not, ◌&&◌, ◌||◌, list_any, list_all, option_map_or, cases_order, and_parts, ne_eqb, eqb-true}
use Rattle.rx_book.proofs.Common.{eq-eqb, false_from_ne_true, append-nil, Kept, Event, Open, Accept, Lease, Return, Close, Take, Place, at, Pass}
use Rattle.rx_book.proofs.Common.{makes_resource, makes_lease, is_take_of, is_return_of, is_out, IsLawful, IsForcedOn, stays, more, Call, outside_of, IsStepOf}
use Rattle.rx_book.proofs.Common.{OpeningUsing, Holding, Leasing, GivingBack, Taking, slice_get_last, at-append, no_take, at_within, at_before, list_any_push}
use Rattle.rx_book.proofs.Common.{forced_kind, may_be_forced}
use Rattle.rx_event.proofs.Laws.Leases.{no_return}
use Rattle.rx_book.specs.State.{is_kept}
use Rattle.std.proofs.Common.{rules}

same_test : (a b : Bool) → (a ≡ true → b ≡ true) → (b ≡ true → a ≡ true) → a ≡ b
same_test x0 b p q = search rules

-- made at this place, and not taken away by any event
abbrev pub lasts : (Event → Bool) → (ℕ → Event → Bool) → List Event → ℕ → Bool
lasts made gone h n = at made h n && not (list_any (gone n) h)

at_same : (made : Event → Bool) (h : List Event) (e : Event) (n : ℕ) → made e ≡ false → at made (h ++ e ∷ []) n ≡ at made h n
at_same made h e n none = search (rules, same_test, at_before, at-append, at_within)

at_last : (made : Event → Bool) (h : List Event) (e : Event) (n : ℕ) → made e ≡ true → at made (h ++ e ∷ []) n ≡ cond (length h == n) true (at made h n)
at_last made h e n makes = search (rules, cases_order, length, cond, option_map_or, slice_get, slice_get_last, makes, eq-eqb, ne_eqb, at-append, false_from_ne_true, at_within, length-append)

or_none : (b c : Bool) → c ≡ false → (b || c) ≡ b
or_none x0 c none = search rules

-- a plain event makes nothing and takes nothing away, and all that are forced are plain, and all closings
record LeavesAlone (made : Event → Bool) (gone : ℕ → Event → Bool) (plain : Event → Bool) : Type 0 where
  pub makes : (e : Event) → plain e ≡ true → made e ≡ false
  pub takes : (e : Event) (n : ℕ) → plain e ≡ true → gone n e ≡ false
  pub follows : (e : Event) → may_be_forced e ≡ true → plain e ≡ true
  pub closes : (c : ℕ) → plain (Close c) ≡ true

module _ {made : Event → Bool} {gone : ℕ → Event → Bool} {plain : Event → Bool} (alone : LeavesAlone made gone plain) where
  -- by a plain event nothing changes
  lasts_plain : (h : List Event) (e : Event) → plain e ≡ true → (n : ℕ) → lasts made gone (h ++ e ∷ []) n ≡ lasts made gone h n
  lasts_plain h e p n = search (rules, list_any, list_any_push, or_none, at_same, not)

  lasts_all : (h es : List Event) → list_all plain es ≡ true → (n : ℕ) → lasts made gone (h ++ es) n ≡ lasts made gone h n
  lasts_all h [] p n = ap (λ (k : List Event). lasts made gone k n) (append-nil h)
  lasts_all h (e ∷ es) p n = ap (λ (k : List Event). lasts made gone k n) (sym (append_assoc h (e ∷ []) es)) ∙
      lasts_all (h ++ e ∷ []) es (and_parts _ _ p).1 n ∙ lasts_plain h e (and_parts _ _ p).0 n

  lasts_forced : {base : Kept} {h k : List Event} → IsForcedOn base h k → (n : ℕ) → lasts made gone k n ≡ lasts made gone h n
  lasts_forced stays n = refl
  lasts_forced {base} (more {h} {k} {e} before is_forced) n = lasts_plain k e (alone.follows e (forced_kind base is_forced)) n ∙ lasts_forced before n

  -- by a step of which no event is other than plain, too
  lasts_step : {base : Kept} {h k : List Event} (call : Call) → IsStepOf base h call k → list_all plain (outside_of h call) ≡ true → (n : ℕ) →
      lasts made gone k n ≡ lasts made gone h n
  lasts_step {h = h} call step p n = lasts_forced step.forced n ∙ lasts_all h (outside_of h call) p n

  -- by a step of one event, the rest of what it changes
  lasts_one : {base : Kept} {h k : List Event} (e : Event) (call : Call) → IsStepOf base h call k → outside_of h call ≡ e ∷ [] → (n : ℕ) →
      lasts made gone k n ≡ lasts made gone (h ++ e ∷ []) n
  lasts_one {h = h} e call step one n = lasts_forced step.forced n ∙ ap (λ (es : List Event). lasts made gone (h ++ es) n) one

  all_closed : (cs : List ℕ) → list_all plain (map (λ c. Close c) cs) ≡ true
  all_closed [] = refl
  all_closed (c ∷ cs) = ap (λ (b : Bool). b && list_all plain (map (λ d. Close d) cs)) (alone.closes c) ∙ all_closed cs

-- one more is made
lasts_made : (made : Event → Bool) (gone : ℕ → Event → Bool) (h : List Event) (e : Event) → made e ≡ true → ((n : ℕ) → gone n e ≡ false) →
    list_any (gone (length h)) h ≡ false → (n : ℕ) → lasts made gone (h ++ e ∷ []) n ≡ cond (length h == n) true (lasts made gone h n)
lasts_made made gone h e makes keeps fresh n = search (rules, length, list_any, list_any_push, or_none, cond, not, at_last, makes, eqb-true)

-- one is taken away
lasts_gone : (made : Event → Bool) (gone : ℕ → Event → Bool) (h : List Event) (e : Event) (q : ℕ) → made e ≡ false → ((n : ℕ) → gone n e ≡ (q == n)) →
    (n : ℕ) → lasts made gone (h ++ e ∷ []) n ≡ cond (q == n) false (lasts made gone h n)
lasts_gone made gone h e q makes takes n = search (rules, list_any, list_any_push, takes, at_same, makes, not, cond)

-- resources ------------------------------------------------------------------------------------------

abbrev plain_for_resources : Event → Bool
plain_for_resources (Accept node tag) = false
plain_for_resources (Take r) = false
plain_for_resources _ = true

accepts_none : (e : Event) → plain_for_resources e ≡ true → makes_resource e ≡ false
accepts_none x0 p = search rules

takes_none : (e : Event) (n : ℕ) → plain_for_resources e ≡ true → is_take_of n e ≡ false
takes_none x0 n p = search rules

resource_forced : (e : Event) → may_be_forced e ≡ true → plain_for_resources e ≡ true
resource_forced x0 p = search rules

resources_alone : LeavesAlone makes_resource is_take_of plain_for_resources
resources_alone = record { makes = accepts_none; takes = takes_none; follows = resource_forced; closes = λ c. refl }

-- leases ---------------------------------------------------------------------------------------------

abbrev plain_for_leases : Event → Bool
plain_for_leases (Lease r) = false
plain_for_leases (Return l) = false
plain_for_leases _ = true

leases_none : (e : Event) → plain_for_leases e ≡ true → makes_lease e ≡ false
leases_none x0 p = search rules

returns_none : (e : Event) (n : ℕ) → plain_for_leases e ≡ true → is_return_of n e ≡ false
returns_none x0 n p = search rules

lease_forced : (e : Event) → may_be_forced e ≡ true → plain_for_leases e ≡ true
lease_forced x0 p = search rules

leases_alone : LeavesAlone makes_lease is_return_of plain_for_leases
leases_alone = record { makes = leases_none; takes = returns_none; follows = lease_forced; closes = λ c. refl }

-- calls ----------------------------------------------------------------------------------------------

-- the call accepts and takes nothing
abbrev pub keeps_resources : Call → Bool
keeps_resources (OpeningUsing place tag) = false
keeps_resources (Holding node tag) = false
keeps_resources (Taking r) = false
keeps_resources _ = true

-- the call gives out and takes back no lease
abbrev pub keeps_leases : Call → Bool
keeps_leases (Leasing r) = false
keeps_leases (GivingBack l) = false
keeps_leases _ = true

resources_outside : (h : List Event) (call : Call) → keeps_resources call ≡ true → list_all plain_for_resources (outside_of h call) ≡ true
resources_outside h x1 p = search (rules, all_closed, resources_alone)

leases_outside : (h : List Event) (call : Call) → keeps_leases call ≡ true → list_all plain_for_leases (outside_of h call) ≡ true
leases_outside h x1 p = search (rules, all_closed, leases_alone)

-- a step that accepts and takes nothing keeps what is kept
pub kept_same : {base : Kept} {h k : List Event} (call : Call) → IsStepOf base h call k → keeps_resources call ≡ true → (r : ℕ) → is_kept k r ≡ is_kept h r
unfolding is_kept
kept_same {h = h} call step plain r = lasts_step resources_alone call step (resources_outside h call plain) r

pub out_same : {base : Kept} {h k : List Event} (call : Call) → IsStepOf base h call k → keeps_leases call ≡ true → (l : ℕ) → is_out k l ≡ is_out h l
unfolding is_out
out_same {h = h} call step plain l = lasts_step leases_alone call step (leases_outside h call plain) l

-- one that takes a resource
pub kept_taken : {base : Kept} {h k : List Event} {q : ℕ} → IsStepOf base h (Taking q) k → (r : ℕ) → is_kept k r ≡ cond (q == r) false (is_kept h r)
unfolding is_kept
kept_taken {h = h} {q = q} step r =
    lasts_one resources_alone (Take q) (Taking q) step refl r ∙ lasts_gone makes_resource is_take_of h (Take q) q refl (λ n. refl) r

-- one that accepts a resource
pub kept_held : {base : Kept} {h k : List Event} {node tag : ℕ} → IsLawful base h → IsStepOf base h (Holding node tag) k → (r : ℕ) →
    is_kept k r ≡ cond (length h == r) true (is_kept h r)
unfolding is_kept
kept_held {base} {h = h} {node = node} {tag = tag} law step r = lasts_one resources_alone (Accept node tag) (Holding node tag) step refl r
    ∙ lasts_made makes_resource is_take_of h (Accept node tag) refl (λ n. refl) (no_take base h law (length h) (omega arith)) r

-- one that accepts a resource with a node of its own
pub kept_used : {base : Kept} {h k : List Event} {place : Place} {tag : ℕ} → IsLawful base h → IsStepOf base h (OpeningUsing place tag) k → (r : ℕ) →
    is_kept k r ≡ cond (length h + 1 == r) true (is_kept h r)
unfolding is_kept
kept_used {base} {h = h} {place = place} {tag = tag} law step r =
    let opened : List Event = h ++ Open place Pass ∷ [] in
    let accept : Event = Accept (length h) tag in
    let longer : length opened ≡ length h + 1 = length-append h (Open place Pass ∷ []) in
    let both : h ++ Open place Pass ∷ accept ∷ [] ≡ opened ++ accept ∷ [] = sym (append_assoc h (Open place Pass ∷ []) (accept ∷ [])) in
    let untaken : list_any (is_take_of (length opened)) opened ≡ false = list_any_push (is_take_of (length opened)) h (Open place Pass)
    ∙ or_none (list_any (is_take_of (length opened)) h) false refl ∙ no_take base h law (length opened) (omega arith) in
    lasts_forced resources_alone step.forced r ∙ ap (λ (es : List Event). lasts makes_resource is_take_of es r) both
    ∙ lasts_made makes_resource is_take_of opened accept refl (λ n. refl) untaken r
    ∙ (λ i. cond (longer i == r) true (lasts_plain resources_alone h (Open place Pass) refl r i))

-- one that gives a lease out, and one that takes it back
pub out_leased : {base : Kept} {h k : List Event} {q : ℕ} → IsLawful base h → IsStepOf base h (Leasing q) k → (l : ℕ) →
    is_out k l ≡ cond (length h == l) true (is_out h l)
unfolding is_out
out_leased {base} {h = h} {q = q} law step l = lasts_one leases_alone (Lease q) (Leasing q) step refl l
    ∙ lasts_made makes_lease is_return_of h (Lease q) refl (λ n. refl) (no_return base h law (length h) (omega arith)) l

pub out_returned : {base : Kept} {h k : List Event} {q : ℕ} → IsStepOf base h (GivingBack q) k → (l : ℕ) → is_out k l ≡ cond (q == l) false (is_out h l)
unfolding is_out
out_returned {h = h} {q = q} step l =
    lasts_one leases_alone (Return q) (GivingBack q) step refl l ∙ lasts_gone makes_lease is_return_of h (Return q) q refl (λ n. refl) l

-- what has no place yet is not kept
pub kept_past : (h : List Event) (r : ℕ) → length h ≤ r → is_kept h r ≡ false
unfolding is_kept
kept_past h r past = search (rules, false_from_ne_true, at_within, not, list_any)
