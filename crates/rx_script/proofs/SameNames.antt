-- Two stages that differ in their histories alone: the same causes of the scenario's own stand, a step makes the same call, and binds
-- the same names where it adds the same events.
use Rattle.rx_script.proofs.Common.{◌≡◌, ℕ, suc, ◌+◌, List, [], ◌∷◌, ◌++◌, length, cond, refl, ap, ◌∙◌, arith, slice_get, drop, option_map, option_and_then}
use Rattle.rx_script.proofs.Common.{option_map_or, Event, connection_made, Site, root, Sort, Command, checkpoint, Stage, is_unbound_site, is_unbound_hub}
use Rattle.rx_script.proofs.Common.{lacks_name, takes_name, lacks_stock, own_cause, place_at, kind_at_stage, call_of, after}
use Rattle.std.proofs.Common.{rules}

-- a stage with another history, in which so many events came before the last checkpoint
abbrev pub with_history : Stage → List Event → ℕ → Stage
with_history s h n = record s { history = h; checked = n }

module _ (s : Stage) (h : List Event) (n : ℕ) where
  site_kept : (site : Site) → is_unbound_site (with_history s h n) site ≡ is_unbound_site s site
  site_kept root = refl
  site_kept _ = refl

  hub_kept : (sort : Sort) → is_unbound_hub (with_history s h n) sort ≡ is_unbound_hub s sort
  hub_kept x0 = search rules

  place_kept : (site : Site) → place_at (with_history s h n) site ≡ place_at s site
  place_kept root = refl
  place_kept _ = refl

  kind_kept : (sort : Sort) → kind_at_stage (with_history s h n) sort ≡ kind_at_stage s sort
  kind_kept x0 = search rules

  lacks_kept : (step : Command) → lacks_name (with_history s h n) step ≡ lacks_name s step
  lacks_kept x0 = search (rules, site_kept)

  takes_kept : (step : Command) → takes_name (with_history s h n) step ≡ takes_name s step
  takes_kept x0 = search rules

  stock_kept : (step : Command) → lacks_stock (with_history s h n) step ≡ lacks_stock s step
  stock_kept x0 = search rules

  pub own_kept : (step : Command) → own_cause (with_history s h n) step ≡ own_cause s step
  own_kept step = search (rules, cond, lacks_kept, takes_kept, stock_kept)

  pub call_kept : (step : Command) → call_of (with_history s h n) step ≡ call_of s step
  call_kept x0 = search (rules, option_and_then, option_map, place_kept, kind_kept)

  -- what it binds, where both histories are of one length, and go on to these with the same connection
  pub after_kept : (step : Command) → (step ≡ checkpoint → ⊥) → (h_then k_then : List Event) → length h ≡ length s.history
      → connection_made h h_then ≡ connection_made s.history k_then → after (with_history s h n) step h_then ≡ with_history (after s step k_then) h_then n
  after_kept x0 plain h_then k_then long made = search (rules, drop)

past : (h es : List Event) (n : ℕ) → slice_get (h ++ es) (length h + n) ≡ slice_get es n
past [] es n = let h : List Event = [] in let none : length h + n ≡ n = omega arith in ap (slice_get es) none
past (e ∷ h) es n = let one : length (e ∷ h) + n ≡ suc (length h + n) = omega arith in ap (slice_get (e ∷ h ++ es)) one ∙ past h es n

-- the same events make the same connection
pub connection_past : (h k es : List Event) → length h ≡ length k → connection_made h (h ++ es) ≡ connection_made k (k ++ es)
connection_past h k es long = search (rules, cond, option_map_or, past)
