-- Where nothing but making happens nothing is removed, returned, taken, fired or told.
use Rattle.rx_event.proofs.Laws.Common.{arith, ◌≡◌, ℕ, suc, Bool, true, false, List, [], ◌∷◌, ◌++◌, Some, refl, ap, ◌∙◌, slice_get, ◌||◌, list_any, Event}
use Rattle.rx_event.proofs.Laws.Common.{is_remove_of, is_return_of, is_take_of, Stop, Moment, moments, moments_after, is_firing_of, stops_of, is_fired}
use Rattle.rx_event.proofs.Laws.Common.{mail_of, notes}
use Rattle.std.specs.List.{flat_map}
use Rattle.rx_event.specs.Events.{is_making}

abbrev pub AllMaking : List Event → Type 0
AllMaking xs = (i : ℕ) (x : Event) → slice_get xs i ≡ Some x → is_making x ≡ true

made_none : (xs : List Event) → AllMaking xs → (t : Event → Bool) → ((x : Event) → is_making x ≡ true → t x ≡ false) → list_any t xs ≡ false
made_none [] making t fails = refl
made_none (x ∷ xs) making t fails = (λ i. fails x (making 0 x refl) i || made_none xs (λ j y at_j. making (suc j) y at_j) t fails i)

removes_none : (r : ℕ) (x : Event) → is_making x ≡ true → is_remove_of r x ≡ false
removes_none r x making = grind arith

takes_none : (r : ℕ) (x : Event) → is_making x ≡ true → is_take_of r x ≡ false
takes_none r x making = grind arith

returns_none : (l : ℕ) (x : Event) → is_making x ≡ true → is_return_of l x ≡ false
returns_none l x making = grind arith

pub made_unreturned : (xs : List Event) → AllMaking xs → (l : ℕ) → list_any (is_return_of l) xs ≡ false
made_unreturned xs making l = made_none xs making (is_return_of l) (returns_none l)

pub made_unremoved : (xs : List Event) → AllMaking xs → (r : ℕ) → list_any (is_remove_of r) xs ≡ false
made_unremoved xs making r = made_none xs making (is_remove_of r) (removes_none r)

pub made_untaken : (xs : List Event) → AllMaking xs → (r : ℕ) → list_any (is_take_of r) xs ≡ false
made_untaken xs making r = made_none xs making (is_take_of r) (takes_none r)

no_stops : (before : List Event) (x : Event) → is_making x ≡ true → stops_of before x ≡ []
no_stops before x making = grind arith

unfired_after : (f : List Stop → Bool) → f [] ≡ false → (before xs : List Event) → AllMaking xs →
    list_any (λ (m : Moment). f (stops_of m.before m.event)) (moments_after before xs) ≡ false
unfired_after f nothing before [] making = refl
unfired_after f nothing before (x ∷ xs) making =
    (λ i. (ap f (no_stops before x (making 0 x refl)) ∙ nothing) i || unfired_after f nothing (before ++ x ∷ []) xs (λ j y at_j. making (suc j) y at_j) i)

pub made_unfired : (xs : List Event) → AllMaking xs → (u : ℕ) → is_fired xs u ≡ false
unfolding is_fired moments
made_unfired xs making u = unfired_after (list_any (is_firing_of u)) refl [] xs making

tells_nothing : (before : List Event) (x : Event) → is_making x ≡ true → mail_of before x ≡ []
tells_nothing before x making = grind arith

untold_after : (before xs : List Event) → AllMaking xs → flat_map (λ (m : Moment). mail_of m.before m.event) (moments_after before xs) ≡ []
untold_after before [] making = refl
untold_after before (x ∷ xs) making =
    (λ i. tells_nothing before x (making 0 x refl) i ++ untold_after (before ++ x ∷ []) xs (λ j y at_j. making (suc j) y at_j) i)

pub made_untold : (xs : List Event) → AllMaking xs → notes xs ≡ []
unfolding notes moments
made_untold xs making = untold_after [] xs making
