-- The calls that steps make: none is the taking of a resource, and every step but a drain and a checkpoint makes one where no cause of the scenario's
-- own stands.
use Rattle.rx_script.proofs.Common.{◌≡◌, ◌⊎◌, ℕ, Bool, false, List, Option, Some, None, cond, slice_get, refl, subst, ◌||◌, is_none, option_map, false≢true}
use Rattle.rx_script.proofs.Common.{same_Some, none-some, Event, Source, Inner, Notifier, Call, Applying, Aborting, IsReady, NoName, NameTaken, NoStock, bound}
use Rattle.rx_script.proofs.Common.{Site, root, source, inner, notifier, Sort, Command, using, open_node, hold, apply, remove, lease, give_back, next, end}
use Rattle.rx_script.proofs.Common.{abort, decline, fail, dispose, connect, disconnect, drain, checkpoint, Ware, Stage, is_unbound_site, is_unbound_hub}
use Rattle.rx_script.proofs.Common.{has_no_ware, lacks_name, lacks_stock, ◌∙◌, own_cause, place_at, kind_at_stage, call_of, after}
use Rattle.rx_script.proofs.MadeOfOptions.{made_of, made_of_two, is_none-map, is_none-two}
use Rattle.std.proofs.Common.{rules}

-- what is called ---------------------------------------------------------------------------------------------------------------------

-- what holds of a call of each number holds of the one that is made
of_number : {B : Type 0} (P : B → Type 0) (f : ℕ → B) → ((n : ℕ) → P (f n)) → (o : Option ℕ) (b : B) → option_map f o ≡ Some b → P b
of_number P f each o b called = let v = made_of f o b called in subst P v.2 (each v.0)

pub call_ready : (s : Stage) (step : Command) (call : Call) → call_of s step ≡ Some call → IsReady s.history call
call_ready s x1 call called = search (rules, made_of_two, of_number, Applying, Aborting, same_Some, none-some)

-- that something is called -----------------------------------------------------------------------------------------------------------

no_cause_of_own : (a b c : Bool) → cond a (Some NoName) (cond b (Some NameTaken) (cond c (Some NoStock) None)) ≡ None → (a ≡ false) × (c ≡ false)
no_cause_of_own x0 b c none = search (rules, none-some)

plain : (b : Bool) → b ≡ (b || false)
plain x0 = search rules

-- a step that uses one name makes none where it is not bound
none_bound : (f : ℕ → Call) (o : Option ℕ) → is_none (option_map f o) ≡ (is_none o || false)
none_bound f o = is_none-map f o ∙ plain (is_none o)

none_placed : (s : Stage) (site : Site) → is_none (place_at s site) ≡ is_unbound_site s site
none_placed s root = refl
none_placed s (source name) = is_none-map Source (bound s.nodes name)
none_placed s (inner name) = is_none-map Inner (bound s.nodes name)
none_placed s (notifier name) = is_none-map Notifier (bound s.nodes name)

none_sorted : (s : Stage) (sort : Sort) → is_none (kind_at_stage s sort) ≡ is_unbound_hub s sort
none_sorted s x1 = search (rules, is_none-map)

none_stocked : (stock : List Ware) → is_none (slice_get stock 0) ≡ has_no_ware stock
none_stocked x0 = search rules

-- without a cause of the scenario's own it makes one
called : (s : Stage) (step : Command) → is_none (call_of s step) ≡ (lacks_name s step || lacks_stock s step) → own_cause s step ≡ None
    → call_of s step ≡ None → ⊥
called s step same own uncalled = search (rules, no_cause_of_own, false≢true, is_none)

pub not_called : (s : Stage) (step : Command) → own_cause s step ≡ None → call_of s step ≡ None → (step ≡ drain) ⊎ (step ≡ checkpoint)
not_called s x1 own none = search (rules, called, using, is_none-two, none_placed, none_stocked, open_node, none_sorted, plain, hold, apply, none_bound, Applying, remove, lease, give_back, next, end, abort, Aborting, decline, fail, dispose, connect, disconnect, none-some)

-- the history after a step -----------------------------------------------------------------------------------------------------------

pub history-after : (s : Stage) (step : Command) (k : List Event) → (after s step k).history ≡ k
history-after s x1 k = search rules
