-- What the lists say of resources, and of the connections above a node.
use Rattle.rx_audit.proofs.Common.{◌≡◌, ℕ, Bool, true, false, nat_lt, List, Some, None, refl, sym, ap, ◌∙◌, slice_get, not, ◌&&◌, ◌||◌}
use Rattle.rx_audit.proofs.Common.{option_and_then, Event, makes_resource, makes_lease, removed_of, returned_of, taken_of, at, is_open, parent, leases_of}
use Rattle.rx_audit.proofs.Common.{ancestors, ancestors_step, list_any, names_number, list_any-same, ◌<◌, length, get_or, arith}
use Rattle.rx_audit.specs.declared.found.Found.{Found}
use Rattle.rx_audit.specs.Found.{IsFoundHere}
use Rattle.rx_event.specs.Events.{node_of_accept, is_remove_of, is_return_of, is_take_of}
use Rattle.rx_event.specs.Resources.{is_owned, is_out, is_leased, is_held, is_taken, is_waiting}
use Rattle.rx_event.specs.Causes.{connects_up_to}
use Rattle.rx_event.proofs.Laws.Resources.{held_is}
use Rattle.rx_audit.specs.Rules.{was_removed, was_returned, was_taken}
use Rattle.std.proofs.Common.{rules}

removed_key : (r : ℕ) (e : Event) → names_number (removed_of e) r ≡ is_remove_of r e
removed_key r x1 = search rules

returned_key : (l : ℕ) (e : Event) → names_number (returned_of e) l ≡ is_return_of l e
returned_key l x1 = search rules

taken_key : (r : ℕ) (e : Event) → names_number (taken_of e) r ≡ is_take_of r e
taken_key r x1 = search rules

-- resources --------------------------------------------------------------------------------------------

pub removed_here : {h : List Event} {found : Found} → IsFoundHere h found → (r : ℕ) → r < length h → get_or found.removed.items r false ≡ was_removed h r
removed_here w r l = let a = w.room in let b = w.is.removed_size in w.is.removed r (omega arith)

pub returned_here : {h : List Event} {found : Found} → IsFoundHere h found → (l : ℕ) → l < length h → get_or found.returned.items l false ≡ was_returned h l
returned_here w l m = let a = w.room in let b = w.is.returned_size in w.is.returned l (omega arith)

pub taken_here : {h : List Event} {found : Found} → IsFoundHere h found → (r : ℕ) → r < length h → get_or found.taken.items r false ≡ was_taken h r
taken_here w r l = let a = w.room in let b = w.is.taken_size in w.is.taken r (omega arith)

pub leases_here : {h : List Event} {found : Found} → IsFoundHere h found → (r : ℕ) → r < length h → get_or found.leases.items r 0 ≡ leases_of h r
leases_here w r l = let a = w.room in let b = w.is.leases_size in w.is.leases r (omega arith)

pub owned_at : (h : List Event) (r n : ℕ) → option_and_then node_of_accept (slice_get h r) ≡ Some n → (is_open h n && not (was_removed h r)) ≡ is_owned h r
unfolding is_owned
owned_at h r n e = search (rules, not, list_any-same, removed_key)

pub not_owned : (h : List Event) (r : ℕ) → option_and_then node_of_accept (slice_get h r) ≡ None → false ≡ is_owned h r
unfolding is_owned
not_owned h r e = rw e refl

pub out_at : (h : List Event) (l : ℕ) → (at makes_lease h l && not (was_returned h l)) ≡ is_out h l
unfolding is_out
out_at h l = search (rules, not, list_any-same, returned_key)

pub out_there : (h : List Event) (l : ℕ) → at makes_lease h l ≡ true → not (was_returned h l) ≡ is_out h l
out_there h l m = ap (λ b. b && not (was_returned h l)) (sym m) ∙ out_at h l

pub not_out : (h : List Event) (l : ℕ) → at makes_lease h l ≡ false → false ≡ is_out h l
not_out h l m = ap (λ b. b && not (was_returned h l)) (sym m) ∙ out_at h l

pub leased_there : (h : List Event) (r : ℕ) → at makes_resource h r ≡ true → nat_lt 0 (leases_of h r) ≡ is_leased h r
leased_there h r m = rw m refl

pub not_leased : (h : List Event) (r : ℕ) → at makes_resource h r ≡ false → false ≡ is_leased h r
not_leased h r m = rw m refl

pub owned_held : (h : List Event) (r : ℕ) → is_owned h r ≡ true → true ≡ is_held h r
owned_held h r owned = sym (held_is h r ∙ ap (λ b. b || is_leased h r) owned)

pub leased_held : (h : List Event) (r : ℕ) → is_owned h r ≡ false → is_leased h r ≡ is_held h r
leased_held h r unowned = sym (held_is h r ∙ ap (λ b. b || is_leased h r) unowned)

pub waiting_at : (h : List Event) (r : ℕ) (b : Bool) → at makes_resource h r ≡ true → b ≡ (not (is_held h r) && not (was_taken h r)) → b ≡ is_waiting h r
unfolding is_waiting is_taken
waiting_at h r b m e = search (rules, not, list_any-same, taken_key)

pub not_waiting : (h : List Event) (r : ℕ) → at makes_resource h r ≡ false → false ≡ is_waiting h r
unfolding is_waiting
not_waiting h r m = rw m refl

-- order of hubs ----------------------------------------------------------------------------------------

pub order_above : (h : List Event) (g a p : ℕ) → parent h a ≡ Some p → at (connects_up_to g) h a ≡ false →
    list_any (at (connects_up_to g) h) (ancestors h a) ≡ list_any (at (connects_up_to g) h) (ancestors h p)
order_above h g a p above apart = rw (ancestors_step h a, above, apart) refl

pub order_top : (h : List Event) (g a : ℕ) → parent h a ≡ None → at (connects_up_to g) h a ≡ false →
    list_any (at (connects_up_to g) h) (ancestors h a) ≡ false
order_top h g a above apart = rw (ancestors_step h a, above, apart) refl

pub order_broken : (h : List Event) (g a : ℕ) → at (connects_up_to g) h a ≡ true → list_any (at (connects_up_to g) h) (ancestors h a) ≡ true
order_broken h g a here = rw (ancestors_step h a, here) refl
