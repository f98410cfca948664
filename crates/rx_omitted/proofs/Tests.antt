-- Tests of events by new numbers.
use Rattle.rx_event.proofs.Laws.Common.{◌≡◌, ℕ, Bool, false, Option, Some, None, refl, arith, option_map}
use Rattle.rx_event.proofs.Laws.Common.{makes_hub, makes_resource, makes_lease, node_of_accept, is_source_of, is_notifier_of, is_inner_of}
use Rattle.rx_event.proofs.Laws.Common.{is_connect_of, is_subscriber_of, is_use_of, is_remove_of, is_take_of, is_lease_of, is_return_of, pays, event_by}
use Rattle.rx_event.proofs.Laws.Common.{is_auto_hub, is_manual_hub, same_Some, none-some, ◌&&◌, ◌||◌}
use Rattle.rx_omitted.specs.Imports.{Event}
use Rattle.rx_omitted.specs.Named.{named_in, Stay_all}
use Rattle.rx_omitted.specs.Omitted.{number}
use Rattle.std.proofs.Common.{rules}
use Rattle.rx_omitted.proofs.Numbers.{number_eq}
use Rattle.rx_omitted.proofs.Staying.{Renumbers}

-- tests that see no number ------------------------------------------------------------------------------------

hub_by : (r : ℕ → ℕ) (e : Event) → makes_hub (event_by r e) ≡ makes_hub e
hub_by r e = grind arith

resource_by : (r : ℕ → ℕ) (e : Event) → makes_resource (event_by r e) ≡ makes_resource e
resource_by r e = grind arith

lease_by : (r : ℕ → ℕ) (e : Event) → makes_lease (event_by r e) ≡ makes_lease e
lease_by r e = grind arith

pub auto_by : (r : ℕ → ℕ) (e : Event) → is_auto_hub (event_by r e) ≡ is_auto_hub e
auto_by r e = grind arith

pub manual_by : (r : ℕ → ℕ) (e : Event) → is_manual_hub (event_by r e) ≡ is_manual_hub e
manual_by r e = grind arith

pub node_of_by : (r : ℕ → ℕ) (e : Event) → node_of_accept (event_by r e) ≡ option_map r (node_of_accept e)
node_of_by r e = grind arith

pub node_of_stays : (omit : ℕ → Bool) (e : Event) (n : ℕ) → node_of_accept e ≡ Some n → Stay_all omit (named_in e) → omit n ≡ false
node_of_stays omit x1 n named all = search (rules, same_Some, none-some)

pub hubs : (omit : ℕ → Bool) → Renumbers omit makes_hub makes_hub
hubs omit = record { by = λ e all. hub_by (number omit) e; item = λ l v. refl; leaf = refl; ends = λ n t. refl; closes = λ n. refl }

pub resources : (omit : ℕ → Bool) → Renumbers omit makes_resource makes_resource
resources omit = record { by = λ e all. resource_by (number omit) e; item = λ l v. refl; leaf = refl; ends = λ n t. refl; closes = λ n. refl }

pub leases : (omit : ℕ → Bool) → Renumbers omit makes_lease makes_lease
leases omit = record { by = λ e all. lease_by (number omit) e; item = λ l v. refl; leaf = refl; ends = λ n t. refl; closes = λ n. refl }

pub autos : (omit : ℕ → Bool) → Renumbers omit is_auto_hub is_auto_hub
autos omit = record { by = λ e all. auto_by (number omit) e; item = λ l v. refl; leaf = refl; ends = λ n t. refl; closes = λ n. refl }

pub manuals : (omit : ℕ → Bool) → Renumbers omit is_manual_hub is_manual_hub
manuals omit = record { by = λ e all. manual_by (number omit) e; item = λ l v. refl; leaf = refl; ends = λ n t. refl; closes = λ n. refl }

-- tests whose number goes with them -----------------------------------------------------------------------------

module _ (omit : ℕ → Bool) (f : ℕ) (stay : omit f ≡ false) where
  source_of_by : (e : Event) → Stay_all omit (named_in e) → is_source_of (number omit f) (event_by (number omit) e) ≡ is_source_of f e
  source_of_by x3 all = search (rules, number_eq)

  pub inner_of_by : (e : Event) → Stay_all omit (named_in e) → is_inner_of (number omit f) (event_by (number omit) e) ≡ is_inner_of f e
  inner_of_by x3 all = search (rules, number_eq)

  notifier_of_by : (e : Event) → Stay_all omit (named_in e) → is_notifier_of (number omit f) (event_by (number omit) e) ≡ is_notifier_of f e
  notifier_of_by x3 all = search (rules, number_eq)

  connect_of_by : (e : Event) → Stay_all omit (named_in e) → is_connect_of (number omit f) (event_by (number omit) e) ≡ is_connect_of f e
  connect_of_by x3 all = search (rules, number_eq)

  subscriber_of_by : (e : Event) → Stay_all omit (named_in e) → is_subscriber_of (number omit f) (event_by (number omit) e) ≡ is_subscriber_of f e
  subscriber_of_by x3 all = search (rules, number_eq)

  use_of_by : (e : Event) → Stay_all omit (named_in e) → is_use_of (number omit f) (event_by (number omit) e) ≡ is_use_of f e
  use_of_by x3 all = search (rules, number_eq)

  remove_of_by : (e : Event) → Stay_all omit (named_in e) → is_remove_of (number omit f) (event_by (number omit) e) ≡ is_remove_of f e
  remove_of_by x3 all = search (rules, number_eq)

  take_of_by : (e : Event) → Stay_all omit (named_in e) → is_take_of (number omit f) (event_by (number omit) e) ≡ is_take_of f e
  take_of_by x3 all = search (rules, number_eq)

  lease_of_by : (e : Event) → Stay_all omit (named_in e) → is_lease_of (number omit f) (event_by (number omit) e) ≡ is_lease_of f e
  lease_of_by x3 all = search (rules, number_eq)

  return_of_by : (e : Event) → Stay_all omit (named_in e) → is_return_of (number omit f) (event_by (number omit) e) ≡ is_return_of f e
  return_of_by x3 all = search (rules, number_eq)

  pays_by : (e : Event) → Stay_all omit (named_in e) → pays (number omit f) (event_by (number omit) e) ≡ pays f e
  pays_by x3 all = search (rules, number_eq)

  pub sources_of : Renumbers omit (is_source_of f) (is_source_of (number omit f))
  sources_of = record { by = source_of_by; item = λ l v. refl; leaf = refl; ends = λ n t. refl; closes = λ n. refl }

  pub notifiers_of : Renumbers omit (is_notifier_of f) (is_notifier_of (number omit f))
  notifiers_of = record { by = notifier_of_by; item = λ l v. refl; leaf = refl; ends = λ n t. refl; closes = λ n. refl }

  pub connects_of : Renumbers omit (is_connect_of f) (is_connect_of (number omit f))
  connects_of = record { by = connect_of_by; item = λ l v. refl; leaf = refl; ends = λ n t. refl; closes = λ n. refl }

  pub subscribers_of : Renumbers omit (is_subscriber_of f) (is_subscriber_of (number omit f))
  subscribers_of = record { by = subscriber_of_by; item = λ l v. refl; leaf = refl; ends = λ n t. refl; closes = λ n. refl }

  pub uses_of : Renumbers omit (is_use_of f) (is_use_of (number omit f))
  uses_of = record { by = use_of_by; item = λ l v. refl; leaf = refl; ends = λ n t. refl; closes = λ n. refl }

  pub removes_of : Renumbers omit (is_remove_of f) (is_remove_of (number omit f))
  removes_of = record { by = remove_of_by; item = λ l v. refl; leaf = refl; ends = λ n t. refl; closes = λ n. refl }

  pub takes_of : Renumbers omit (is_take_of f) (is_take_of (number omit f))
  takes_of = record { by = take_of_by; item = λ l v. refl; leaf = refl; ends = λ n t. refl; closes = λ n. refl }

  pub leases_of_one : Renumbers omit (is_lease_of f) (is_lease_of (number omit f))
  leases_of_one = record { by = lease_of_by; item = λ l v. refl; leaf = refl; ends = λ n t. refl; closes = λ n. refl }

  pub returns_of : Renumbers omit (is_return_of f) (is_return_of (number omit f))
  returns_of = record { by = return_of_by; item = λ l v. refl; leaf = refl; ends = λ n t. refl; closes = λ n. refl }

  pub paid_by : Renumbers omit (pays f) (pays (number omit f))
  paid_by = record { by = pays_by; item = λ l v. refl; leaf = refl; ends = λ n t. refl; closes = λ n. refl }

-- shapes -----------------------------------------------------------------------------------------------------------

pub none_some : (p : ℕ) (x : Option ℕ) → x ≡ None → x ≡ Some p → ⊥
none_some p x1 none some = search (rules, none-some)

pub and_none : (b : Bool) → (b && false) ≡ false
and_none b = grind arith

pub or_first : (a b : Bool) → (a || b) ≡ false → a ≡ false
or_first a b none = grind arith

pub or_later : (a b : Bool) → (a || b) ≡ false → b ≡ false
or_later a b none = grind arith
