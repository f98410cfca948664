-- Two stages at which the names stand for the same things, which have other numbers: the same causes of the scenario's own stand, and
-- each step makes the same call.
use Rattle.rx_script.proofs.Common.{◌≡◌, ℕ, true, false, List, Option, Some, None, cond, map, slice_get, refl, ap, subst, ◌∙◌, ◌||◌, option_map, bytes_eq}
use Rattle.rx_script.proofs.Common.{option_and_then, option_map_or, same_Some, none-some, nothing_kept, Place, Root, Source, Inner, Notifier, Kind, Leaf, Pass}
use Rattle.rx_script.proofs.Common.{Flat, Switch, Until, Sub, makes_node, makes_hub, makes_resource, makes_lease, at, IsSettled, Call, Opening, OpeningUsing}
use Rattle.rx_script.proofs.Common.{Holding, Applying, Removing, Leasing, GivingBack, Emitting, Ending, Aborting, Declining, Failing, Disposing, Publishing}
use Rattle.rx_script.proofs.Common.{Connecting, Disconnecting, call_by, AreSameBy, NamesKnown, Binding, bound, is_unbound, is_bound, Name, Site, root, source}
use Rattle.rx_script.proofs.Common.{inner, notifier, Sort, leaf, pass, flat, switch, until, sub, Command, using, open_node, hold, apply, remove, lease}
use Rattle.rx_script.proofs.Common.{give_back, next, end, abort, decline, fail, dispose, make_hub, connect, disconnect, Ware, Stage, is_unbound_site}
use Rattle.rx_script.proofs.Common.{is_unbound_hub, lacks_name, takes_name, lacks_stock, own_cause, place_at, kind_at_stage, front, call_of}
use Rattle.rx_event.specs.Renumbered.{place_by, kind_by}
use Rattle.rx_register.proofs.Laws.SameCauses.{NamesPlace, NamesKind}
use Rattle.rx_script.proofs.NamesForOtherNumbers.{renamed, AllNumbers, bound-same, is_bound-same, is_unbound-same, bound-holds}
use Rattle.rx_script.proofs.MadeOfOptions.{made_of, made_of_two}
use Rattle.std.proofs.Common.{rules}

pub record AreSameStages (r s : ℕ → ℕ) (x y : Stage) : Type 0 where
  pub histories : AreSameBy nothing_kept r s x.history y.history
  pub settled : IsSettled nothing_kept x.history
  pub settled_there : IsSettled nothing_kept y.history
  pub nodes : y.nodes ≡ map (renamed r) x.nodes
  pub hubs : y.hubs ≡ map (renamed r) x.hubs
  pub resources : y.resources ≡ map (renamed r) x.resources
  pub leases : y.leases ≡ map (renamed r) x.leases
  pub stock : y.stock ≡ x.stock
  -- each name stands for what it has to
  pub nodes_made : AllNumbers (λ n. at makes_node x.history n ≡ true) x.nodes
  pub hubs_made : AllNumbers (λ n. at makes_hub x.history n ≡ true) x.hubs
  pub resources_made : AllNumbers (λ n. at makes_resource x.history n ≡ true) x.resources
  pub leases_made : AllNumbers (λ n. at makes_lease x.history n ≡ true) x.leases

module _ (r s : ℕ → ℕ) (x y : Stage) (a : AreSameStages r s x y) where
  -- the causes of the scenario's own ---------------------------------------------------------------------------------------------

  no_node : (name : Name) → is_unbound y.nodes name ≡ is_unbound x.nodes name
  no_node name = is_unbound-same r x.nodes y.nodes name a.nodes

  no_hub : (name : Name) → is_unbound y.hubs name ≡ is_unbound x.hubs name
  no_hub name = is_unbound-same r x.hubs y.hubs name a.hubs

  no_resource : (name : Name) → is_unbound y.resources name ≡ is_unbound x.resources name
  no_resource name = is_unbound-same r x.resources y.resources name a.resources

  no_lease : (name : Name) → is_unbound y.leases name ≡ is_unbound x.leases name
  no_lease name = is_unbound-same r x.leases y.leases name a.leases

  a_node : (name : Name) → is_bound y.nodes name ≡ is_bound x.nodes name
  a_node name = is_bound-same r x.nodes y.nodes name a.nodes

  no_site : (site : Site) → is_unbound_site y site ≡ is_unbound_site x site
  no_site root = refl
  no_site (source name) = no_node name
  no_site (inner name) = no_node name
  no_site (notifier name) = no_node name

  no_sort : (sort : Sort) → is_unbound_hub y sort ≡ is_unbound_hub x sort
  no_sort (sub hub connection) = no_hub hub
  no_sort _ = refl

  lacks_same : (step : Command) → lacks_name y step ≡ lacks_name x step
  lacks_same (using name site res) = no_site site
  lacks_same (open_node name site sort) = λ i. no_site site i || no_sort sort i
  lacks_same (hold node res) = no_node node
  lacks_same (apply res word) = no_resource res
  lacks_same (remove res) = no_resource res
  lacks_same (lease res name) = no_resource res
  lacks_same (give_back name) = no_lease name
  lacks_same (next node value) = no_node node
  lacks_same (end node t) = no_node node
  lacks_same (abort node code) = no_node node
  lacks_same (decline node) = no_node node
  lacks_same (fail node code) = no_node node
  lacks_same (dispose node) = no_node node
  lacks_same (connect hub name) = no_hub hub
  lacks_same (disconnect hub) = no_hub hub
  lacks_same _ = refl

  beside_same : (name : Name) (o : Option Name)
      → option_map_or (λ c. is_bound y.nodes c || bytes_eq name c) o false ≡ option_map_or (λ c. is_bound x.nodes c || bytes_eq name c) o false
  beside_same name x1 = search (rules, bytes_eq, a_node)

  given_same : (o : Option Name) → option_map_or (is_bound y.nodes) o false ≡ option_map_or (is_bound x.nodes) o false
  given_same x0 = search (rules, a_node)

  takes_same : (step : Command) → takes_name y step ≡ takes_name x step
  takes_same x0 = search (rules, a_node, is_bound-same, beside_same, given_same)

  stock_same : (step : Command) → lacks_stock y step ≡ lacks_stock x step
  stock_same x0 = search rules

  pub own_same : (step : Command) → own_cause y step ≡ own_cause x step
  own_same step = search (rules, cond, lacks_same, takes_same, stock_same)

  -- the call ---------------------------------------------------------------------------------------------------------------------

  number_same : {B : Type 0} (f : ℕ → B) (g : B → B) → ((n : ℕ) → f (r n) ≡ g (f n)) → (bindings others : List Binding) (name : Name)
      → others ≡ map (renamed r) bindings → option_map f (bound others name) ≡ option_map g (option_map f (bound bindings name))
  number_same {B = B} f g each bindings others name same = ap (option_map f) (bound-same r bindings others name same) ∙ moved (bound bindings name) where
    moved : (o : Option ℕ) → option_map f (option_map r o) ≡ option_map g (option_map f o)
    moved None = refl
    moved (Some n) = ap (λ (z : B). Some z) (each n)

  place_same : (site : Site) → place_at y site ≡ option_map (place_by r) (place_at x site)
  place_same root = refl
  place_same (source name) = number_same Source (place_by r) (λ n. refl) x.nodes y.nodes name a.nodes
  place_same (inner name) = number_same Inner (place_by r) (λ n. refl) x.nodes y.nodes name a.nodes
  place_same (notifier name) = number_same Notifier (place_by r) (λ n. refl) x.nodes y.nodes name a.nodes

  kind_same : (sort : Sort) → kind_at_stage y sort ≡ option_map (kind_by r) (kind_at_stage x sort)
  kind_same x0 = search (rules, number_same)

  pub front_same : front y ≡ front x
  front_same = ap (λ (l : List Ware). slice_get l 0) a.stock

  using_moved : (o : Option Place) (w : Option Ware) → option_and_then (λ place. option_map (λ v. OpeningUsing place v.tag) w) (option_map (place_by r) o)
      ≡ option_map (call_by r) (option_and_then (λ place. option_map (λ v. OpeningUsing place v.tag) w) o)
  using_moved x0 w = search rules

  open_moved : (o : Option Place) (k : Option Kind)
      → option_and_then (λ place. option_map (Opening place) (option_map (kind_by r) k)) (option_map (place_by r) o)
      ≡ option_map (call_by r) (option_and_then (λ place. option_map (Opening place) k) o)
  open_moved x0 k = search rules

  hold_moved : (o : Option ℕ) (w : Option Ware) → option_and_then (λ n. option_map (λ v. Holding n v.tag) w) (option_map r o)
      ≡ option_map (call_by r) (option_and_then (λ n. option_map (λ v. Holding n v.tag) w) o)
  hold_moved x0 w = search rules

  node_call : (f : ℕ → Call) → ((n : ℕ) → f (r n) ≡ call_by r (f n)) → (name : Name)
      → option_map f (bound y.nodes name) ≡ option_map (call_by r) (option_map f (bound x.nodes name))
  node_call f each name = number_same f (call_by r) each x.nodes y.nodes name a.nodes

  hub_call : (f : ℕ → Call) → ((n : ℕ) → f (r n) ≡ call_by r (f n)) → (name : Name)
      → option_map f (bound y.hubs name) ≡ option_map (call_by r) (option_map f (bound x.hubs name))
  hub_call f each name = number_same f (call_by r) each x.hubs y.hubs name a.hubs

  resource_call : (f : ℕ → Call) → ((n : ℕ) → f (r n) ≡ call_by r (f n)) → (name : Name)
      → option_map f (bound y.resources name) ≡ option_map (call_by r) (option_map f (bound x.resources name))
  resource_call f each name = number_same f (call_by r) each x.resources y.resources name a.resources

  pub call_same : (step : Command) → call_of y step ≡ option_map (call_by r) (call_of x step)
  call_same (using name site res) =
      (λ i. option_and_then (λ place. option_map (λ v. OpeningUsing place v.tag) (front_same i)) (place_same site i)) ∙ using_moved (place_at x site) (front x)
  call_same (open_node name site sort) =
      (λ i. option_and_then (λ place. option_map (Opening place) (kind_same sort i)) (place_same site i)) ∙ open_moved (place_at x site) (kind_at_stage x sort)
  call_same (hold node res) = (λ i. option_and_then (λ n. option_map (λ v. Holding n v.tag) (front_same i)) (bound-same r x.nodes y.nodes node a.nodes i))
      ∙ hold_moved (bound x.nodes node) (front x)
  call_same (apply res word) = resource_call Applying (λ n. refl) res
  call_same (remove res) = resource_call Removing (λ n. refl) res
  call_same (lease res name) = resource_call Leasing (λ n. refl) res
  call_same (give_back name) = number_same GivingBack (call_by r) (λ n. refl) x.leases y.leases name a.leases
  call_same (next node value) = node_call (λ n. Emitting n value) (λ n. refl) node
  call_same (end node t) = node_call (λ n. Ending n t) (λ n. refl) node
  call_same (abort node code) = node_call (λ n. Aborting n code) (λ n. refl) node
  call_same (decline node) = node_call Declining (λ n. refl) node
  call_same (fail node code) = node_call (λ n. Failing n code) (λ n. refl) node
  call_same (dispose node) = node_call Disposing (λ n. refl) node
  call_same (connect hub name) = hub_call Connecting (λ n. refl) hub
  call_same (disconnect hub) = hub_call Disconnecting (λ n. refl) hub
  call_same _ = refl

  -- its numbers are of what they have to be --------------------------------------------------------------------------------------

  by_number : (f : ℕ → Call) (P : ℕ → Type 0) → ((n : ℕ) → P n → NamesKnown x.history (f n)) → (bindings : List Binding) → AllNumbers P bindings
      → (name : Name) (call : Call) → option_map f (bound bindings name) ≡ Some call → NamesKnown x.history call
  by_number f P each bindings all name call called =
      let v = made_of f (bound bindings name) call called in
      subst (NamesKnown x.history) v.2 (each v.0 (bound-holds P bindings name v.0 all v.1))

  by_node : (f : ℕ → Call) → ((n : ℕ) → at makes_node x.history n ≡ true → NamesKnown x.history (f n)) → (name : Name) (call : Call)
      → option_map f (bound x.nodes name) ≡ Some call → NamesKnown x.history call
  by_node f each name call called = by_number f (λ n. at makes_node x.history n ≡ true) each x.nodes a.nodes_made name call called

  by_hub : (f : ℕ → Call) → ((n : ℕ) → at makes_hub x.history n ≡ true → NamesKnown x.history (f n)) → (name : Name) (call : Call)
      → option_map f (bound x.hubs name) ≡ Some call → NamesKnown x.history call
  by_hub f each name call called = by_number f (λ n. at makes_hub x.history n ≡ true) each x.hubs a.hubs_made name call called

  by_resource : (f : ℕ → Call) → ((n : ℕ) → at makes_resource x.history n ≡ true → NamesKnown x.history (f n)) → (name : Name) (call : Call)
      → option_map f (bound x.resources name) ≡ Some call → NamesKnown x.history call
  by_resource f each name call called = search (rules, by_number)

  place_of_number : (f : ℕ → Place) → ((n : ℕ) → at makes_node x.history n ≡ true → NamesPlace x.history (f n)) → (name : Name) (place : Place)
      → option_map f (bound x.nodes name) ≡ Some place → NamesPlace x.history place
  place_of_number f each name place placed =
      let v = made_of f (bound x.nodes name) place placed in
      subst (NamesPlace x.history) v.2 (each v.0 (bound-holds (λ m. at makes_node x.history m ≡ true) x.nodes name v.0 a.nodes_made v.1))

  place_known : (site : Site) (place : Place) → place_at x site ≡ Some place → NamesPlace x.history place
  place_known root place placed = subst (NamesPlace x.history) (same_Some Root place placed) tt
  place_known (source name) place placed = place_of_number Source (λ n made. made) name place placed
  place_known (inner name) place placed = place_of_number Inner (λ n made. made) name place placed
  place_known (notifier name) place placed = place_of_number Notifier (λ n made. made) name place placed

  kind_known : (sort : Sort) (kind : Kind) → kind_at_stage x sort ≡ Some kind → NamesKind x.history kind
  kind_known (sub hub connection) kind of_kind =
      let v = made_of Sub (bound x.hubs hub) kind of_kind in
      subst (NamesKind x.history) v.2 (bound-holds (λ m. at makes_hub x.history m ≡ true) x.hubs hub v.0 a.hubs_made v.1)
  kind_known leaf kind of_kind = subst (NamesKind x.history) (same_Some Leaf kind of_kind) tt
  kind_known pass kind of_kind = subst (NamesKind x.history) (same_Some Pass kind of_kind) tt
  kind_known flat kind of_kind = subst (NamesKind x.history) (same_Some Flat kind of_kind) tt
  kind_known switch kind of_kind = subst (NamesKind x.history) (same_Some Switch kind of_kind) tt
  kind_known until kind of_kind = subst (NamesKind x.history) (same_Some Until kind of_kind) tt

  pub call_known : (step : Command) (call : Call) → call_of x step ≡ Some call → NamesKnown x.history call
  call_known (using name site res) call called =
      let v = made_of_two (λ (place : Place) (w : Ware). OpeningUsing place w.tag) (place_at x site) (front x) call called in
      subst (NamesKnown x.history) v.4 (place_known site v.0 v.2)
  call_known (open_node name site sort) call called =
      let v = made_of_two Opening (place_at x site) (kind_at_stage x sort) call called in
      subst (NamesKnown x.history) v.4 (place_known site v.0 v.2, kind_known sort v.1 v.3)
  call_known (hold node res) call called =
      let v = made_of_two (λ (n : ℕ) (w : Ware). Holding n w.tag) (bound x.nodes node) (front x) call called in
      subst (NamesKnown x.history) v.4 (bound-holds (λ m. at makes_node x.history m ≡ true) x.nodes node v.0 a.nodes_made v.2)
  call_known (apply res word) call called = by_resource Applying (λ n made. made) res call called
  call_known (remove res) call called = by_resource Removing (λ n made. made) res call called
  call_known (lease res name) call called = by_resource Leasing (λ n made. made) res call called
  call_known (give_back name) call called =
      by_number GivingBack (λ n. at makes_lease x.history n ≡ true) (λ n made. made) x.leases a.leases_made name call called
  call_known (next node value) call called = by_node (λ n. Emitting n value) (λ n made. made) node call called
  call_known (end node t) call called = by_node (λ n. Ending n t) (λ n made. made) node call called
  call_known (abort node code) call called = by_node (λ n. Aborting n code) (λ n made. made) node call called
  call_known (decline node) call called = by_node Declining (λ n made. made) node call called
  call_known (fail node code) call called = by_node (λ n. Failing n code) (λ n made. made) node call called
  call_known (dispose node) call called = by_node Disposing (λ n made. made) node call called
  call_known (make_hub name mode) call called = subst (NamesKnown x.history) (same_Some (Publishing mode) call called) tt
  call_known (connect hub name) call called = by_hub Connecting (λ n made. made) hub call called
  call_known (disconnect hub) call called = by_hub Disconnecting (λ n made. made) hub call called
  call_known _ call called = absurd (none-some call called)
