-- What a checkpoint makes of a session.
use Rattle.rx_live.proofs.Common.{◌≡◌, ℕ, ◌-◌, ◌≤◌, Bool, true, false, List, [], length, drop, Option, None, Result, refl, sym}
use Rattle.rx_live.proofs.Common.{◌∙◌, arith, subst, inl, inr, ◌⊎◌, IfOk, is_some, nat_lt, list_any, option_to_list, not, ◌&&◌, ◌||◌, and_cases, ltb-true}
use Rattle.rx_live.proofs.Common.{and_parts, and_right, not-false, ltb-false, lt-ltb, le-ltb, cases_lt, drop_all, length-drop, Mail, Event, Refusal, Full}
use Rattle.rx_live.proofs.Common.{MailLeft, Kept, base_of, is_held, is_waiting, is_taken, IsLawful, State}
use Rattle.rx_live.proofs.Common.{first_cause, IsRefusal, made_untold, held_resource, held_not_taken, checkpoint_causes, most_places, IsPromised, is_kept}
use Rattle.rx_live.proofs.Common.{Names, Cause, Book, Outcome, Refused, AllocError, name_of_number, IsPaired, Session, IsSound, AreOpenSame, Task}
use Rattle.rx_live.proofs.Common.{IsAlike, to_tell, AreOpen, Renews, renewing_causes, Renewing, IsFullByOpen, may_renew, DoesTask, FindsFull, is_full_cause}
use Rattle.rx_register.proofs.Laws.NoCause.{no_cause}
use Rattle.rx_book.specs.Checkpoints.{Checkpoints}
use Rattle.std.proofs.Common.{rules}

-- what is kept ----------------------------------------------------------------------------------------

kept_shape : (made gone held : Bool) → (held ≡ true → (made ≡ true) × ((made && gone) ≡ false)) →
    (made && not gone) ≡ (held || (made && not held && not (made && gone)))
kept_shape x0 x1 x2 p = search rules

-- what is kept is held or waits
kept_is : (base : Kept) (h : List Event) → IsLawful base h → (r : ℕ) → is_kept h r ≡ (is_held h r || is_waiting h r)
unfolding is_waiting is_taken is_kept
kept_is base h law r = search (rules, kept_shape, list_any, held_resource, held_not_taken)

-- a session that is sound stays so --------------------------------------------------------------------

pub renewed_sound : (s : Session) (book : State) (nodes : Names) → IsSound s → IsPromised book → Checkpoints s.book book → IsPaired nodes →
    AreOpenSame None book s.nodes nodes → IsSound (record s { book = book; nodes = nodes })
renewed_sound s book nodes sound kept made paired same = record {
  kept = kept;
  node_pairs = paired;
  hub_pairs = sound.hub_pairs;
  resource_pairs = sound.resource_pairs;
  lease_pairs = sound.lease_pairs;
  nodes = λ n past. by_old n past (same.names n);
  hubs = λ n past. sound.hubs n (omega (arith, made.agree.same_length));
  resources = λ r. sound.resources r ∙ kept_is s.book.base s.book.history sound.kept.lawful r ∙ (λ i. made.agree.held r i || made.agree.waiting r i)
      ∙ sym (kept_is book.base book.history kept.lawful r);
  leases = λ l. sound.leases l ∙ made.agree.out l;
  unnamed = sound.unnamed;
} where
  by_old : (n : ℕ) → length book.history ≤ n → (name_of_number nodes n ≡ name_of_number s.nodes n) ⊎ (name_of_number nodes n ≡ None)
      → name_of_number nodes n ≡ None
  by_old n past (inl was) = was ∙ sound.nodes n (omega (arith, made.agree.same_length))
  by_old n past (inr none) = none

-- what is still to be told ----------------------------------------------------------------------------

told_before : (s : Session) → s.untold ≡ None → first_cause (checkpoint_causes s.book.history s.book.given) ≡ None → to_tell s ≡ []
told_before s none free = search (rules, length, ltb-false, no_cause, option_to_list, drop, drop_all)

told_after : (s : Session) (book : State) (nodes : Names) → s.untold ≡ None → IsPromised book → Checkpoints s.book book →
    to_tell (record s { book = book; nodes = nodes }) ≡ []
told_after s book nodes none kept made = search (rules, made_untold, length, option_to_list, drop, drop_all)

pub renews : (s : Session) (book : State) (nodes : Names) → s.untold ≡ None → IsPromised book → Checkpoints s.book book →
    AreOpenSame None book s.nodes nodes → AreOpen book nodes → Renews s (record s { book = book; nodes = nodes })
renews s book nodes none kept made same alive = record {
  told = told_before s none made.no_cause;
  book = made;
  untold = told_after s book nodes none kept made;
  nodes = subst (λ (u : Option Mail). AreOpenSame u book s.nodes nodes) (sym none) same;
  open_alone = alive;
  rest = refl;
}

-- causes ----------------------------------------------------------------------------------------------

some_left : (g n : ℕ) → nat_lt 0 (n - g) ≡ nat_lt g n
some_left g n = search (rules, cases_lt, nat_lt, lt-ltb, le-ltb)

same_cause : (s : Session) → s.untold ≡ None → (why : Refusal) → checkpoint_causes s.book.history s.book.given why ≡ renewing_causes s why
same_cause s none x2 = search (rules, length, option_to_list, drop, length-drop, some_left, nat_lt)

pub refused_cause : (s : Session) (why : Refusal) → s.untold ≡ None → IsRefusal (checkpoint_causes s.book.history s.book.given) why →
    IsRefusal (renewing_causes s) why
refused_cause s why none refusal = subst (λ (stands : Refusal → Bool). IsRefusal stands why) (λ i w. same_cause s none w i) refusal

left_over : (s : Session) (o : Option Mail) → s.untold ≡ o → is_some o ≡ true → nat_lt 0 (length (to_tell s)) ≡ true
left_over s x1 is some = search (rules, nat_lt, length, option_to_list, drop, lt-ltb)

pub mail_left : (s : Session) → is_some s.untold ≡ true → IsRefusal (renewing_causes s) MailLeft
mail_left s some = let left : renewing_causes s MailLeft ≡ true = left_over s s.untold refl some in inl (rw left refl)

-- where the book refuses it
pub renewing_refused : (s : Session) (book : State) (why : Refusal) (result : Result Outcome AllocError) → IfOk result (λ o. o ≡ Refused (Book why)) →
    IsRefusal (renewing_causes s) why → book ≡ s.book → IfOk result (λ o. Renewing s o (record s { book = book }))
renewing_refused s book why x3 told refusal same = search rules

pub refused_same : (old new : Session) (why : Cause) → Renewing old (Refused why) new → new ≡ old
refused_same old new x2 r = search rules

-- by age ----------------------------------------------------------------------------------------------

by_open : (s : Session) (why : Cause) → IsPromised s.book → (is_full_cause why && may_renew s) ≡ false → IsFullByOpen s why
by_open s (Book Full) kept none =
    by_case (and_cases (not (nat_lt most_places (length s.book.history))) (nat_lt s.book.base.at_length (length s.book.history)) none)
  where
    by_case : (not (nat_lt most_places (length s.book.history)) ≡ false) ⊎ (nat_lt s.book.base.at_length (length s.book.history) ≡ false) →
        IsFullByOpen s (Book Full)
    by_case (inl past) = inr (ltb-true most_places (length s.book.history) (not-false (nat_lt most_places (length s.book.history)) past))
    by_case (inr young) = let l = ltb-false s.book.base.at_length (length s.book.history) young in let b = kept.begun in inl (omega arith)
by_open s _ kept none = tt

-- after a refusal, which changed nothing
full_why : (why : Cause) → is_full_cause why ≡ true → why ≡ Book Full
full_why x0 e = search rules

pub full_by_age : (old new : Session) (t : Task) (why : Cause) → DoesTask old t (Refused why) new → IsAlike old new →
    (is_full_cause why && may_renew new) ≡ true → FindsFull old t new
full_by_age old new t why does alike both = search (rules, full_why, and_parts)

pub full_by_open : (old new : Session) (why : Cause) → IsPromised old.book → IsAlike old new → (is_full_cause why && may_renew new) ≡ false
    → IsFullByOpen old why
full_by_open old new why kept alike none = search (rules, by_open)

-- behind a checkpoint a history is young
at_base : (b : Kept) (h : List Event) → (base_of b h).at_length ≡ length h
unfolding base_of
at_base b h = refl

pub young : (old new : Session) → Renews old new → may_renew new ≡ true → ⊥
young old new renews aged = search (rules, length, at_base, nat_lt, le-ltb, and_right, not)
