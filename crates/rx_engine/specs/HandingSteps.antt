-- The steps by which an item is handed out. No public clause cites this module.
use Rattle.std.specs.Prelude.{◌≡◌, ℕ, ◌+◌, ◌≤◌, ◌++◌, false, List, [], ◌∷◌, length, Option, Some, None, Result, Ok}
use Rattle.rx_event.specs.declared.mail.Mail.{Mail}
use Rattle.rx_event.specs.declared.refusal.Refusal.{Refusal}
use Rattle.rx_lanes.specs.State.{State as LanesState, IsPromised as AreLanesPromised}
use Rattle.rx_lanes.specs.Handings.{ClaimsAlone, IsGiven}
use Rattle.rx_roles.specs.declared.effect.Effect.{Effect}
use Rattle.rx_roles.specs.Effects.{only_item, all_told, after_all, items_in}
use Rattle.rx_engine.specs.declared.parts.Parts.{Parts}
use Rattle.rx_engine.specs.Rooms.{IsReady}
use Rattle.rx_engine.specs.Gatherings.{Spreads}
use Rattle.rx_engine.specs.Handings.{item_at_once}

-- the effect that was on its way is an item, and its lane is claimed for it
pub record ClaimsOnly (by : ℕ) (e : Effect) (p q : Parts) : Type 0 where
  pub item : only_item p.effects.list ≡ Some e
  pub claims : ClaimsAlone e.lane by p.lanes q.lanes
  pub copies : q.copies ≡ 1
  pub only : q ≡ record p { effects = q.effects; lanes = q.lanes; copies = q.copies }

-- as of the command, of lanes alone
abbrev pub HandsOf : (by : ℕ) → (s t : LanesState Effect) → Option Effect → Type 0
HandsOf by s t None = t ≡ s
HandsOf by s t (Some e) = (s.due ≡ record { lane = e.lane; inside = false } ∷ []) × IsGiven e.lane false by s t (Some e)

-- all effects are in their lanes, and then what is to be handed out is
pub record SpreadsAndHands (by : ℕ) (p q : Parts) (given : Option Effect) : Type 0 where
  pub between : Parts
  pub spreads : Spreads by p between
  pub ready : IsReady 0 between
  pub promised : AreLanesPromised between.lanes
  pub exact : given ≡ item_at_once p.effects.list p.lanes
  pub hands : HandsOf by between.lanes q.lanes given
  pub only : q ≡ record between { lanes = q.lanes }

-- what these notes came to is on its way, behind what was
pub record HasTold (by value : ℕ) (ms : List Mail) (p q : Parts) : Type 0 where
  pub hears : q.hears.list ≡ after_all p.hears.list ms
  pub effects : q.effects.list ≡ p.effects.list ++ all_told by value p.hears.list p.merges.list ms
  pub room : p.effects.room + length q.hears.list ≤ q.effects.room + (items_in ms + length p.hears.list)
  pub only : q ≡ record p { hears = q.hears; effects = q.effects }

-- and then in its lanes
pub record TellsAndSpreads (by value : ℕ) (ms : List Mail) (p q : Parts) : Type 0 where
  pub told : Parts
  pub tells : HasTold by value ms p told
  pub spreads : Spreads by told q
  pub ready : IsReady 0 q
  pub promised : AreLanesPromised q.lanes

-- or handed out, and that is the command's answer
pub record TellsAndHands (by value : ℕ) (ms : List Mail) (p q : Parts) (answer : Result (Option Effect) Refusal) : Type 0 where
  pub told : Parts
  pub tells : HasTold by value ms p told
  pub given : Option Effect
  pub answers : answer ≡ Ok given
  pub hands : SpreadsAndHands by told q given
