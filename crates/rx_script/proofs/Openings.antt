-- Names that commands bind, places where nodes are opened, and what is known of a name that is new.
use Rattle.rx_script.proofs.Common.{◌≡◌, ◌<◌, ◌+◌, ◌++◌, ◌∷◌, [], ℕ, List, true, false, cond, String, Global, string_bytes, refl, sym, ap, subst, ◌∙◌, map}
use Rattle.rx_script.proofs.Common.{length, ◌||◌, Option, Some, None, is_none, is_some, option_map, bytes_eq, option_map_or, not, All, map-append, Source}
use Rattle.rx_script.proofs.Common.{Inner, Notifier, at, is_open, at_within, outside_of, Key, ResKey, LeaseKey, At, State, has_key, is_gone, Request, place_of}
use Rattle.rx_script.proofs.Common.{is_known_place, Accepts, IsNewKey, IsNewResKey, IsNewLeaseKey, IsOpened, Named, Engine, Name, Site, root, source, inner}
use Rattle.rx_script.proofs.Common.{notifier, Binding, is_bound, is_unbound, with_binding, is_unbound_site, place_at, with_connection_bound, name_bytes}
use Rattle.rx_script.proofs.Common.{key_named}
use Rattle.rx_script.proofs.Common.{node_binding, res_binding, lease_binding, IsNodeKey, IsHeldKey, IsLeaseKey, number_binding, at_of, is_taken_beside}
use Rattle.rx_script.proofs.Common.{with_named, IsSound, key_named-holds, bound-numbers, or_parts, none-some, same_Some, false≢true}
use Rattle.std.specs.Prelude.{IfSome}
use Rattle.std.proofs.lemmas.List.Elements.{All-push}
use Rattle.rx_book.specs.declared.answer.At.TheVariants.{Root as AtRoot, Source as AtSource, Inner as AtInner, Notifier as AtNotifier}
use Rattle.rx_script.specs.Engine.{is_connection_bound}
use Rattle.rx_agenda.proofs.Laws.{key_named-bind, none_there}
use Rattle.rx_script.proofs.KeysByNumber.{has_key-is_open, has_key-contained, has_res_key-contained, has_lease_key-contained}
use Rattle.rx_script.proofs.MadeOfOptions.{made_of, is_none-map}
use Rattle.rx_script.proofs.NamesStandForKeys.{bound-nodes, bound-resources, bound-leases, node_bound}
use Rattle.rx_book.proofs.Laws.StepsContinue.{step_longer}
use Rattle.rx_script.proofs.EngineCarriesOut.{stored_stage}
use Rattle.std.proofs.Common.{rules}

-- names that are taken -----------------------------------------------------------------------------

is_some-map : {A B : Type 0} (f : A → B) (o : Option A) → is_some (option_map f o) ≡ is_some o
is_some-map f x1 = search rules

pub is_bound-nodes : (names : List (Named Key)) (name : Name) → is_bound (map node_binding names) name ≡ is_some (key_named names name)
is_bound-nodes names name = ap is_some (bound-nodes names name) ∙ is_some-map _ (key_named names name)

pub is_bound-resources : (names : List (Named ResKey)) (name : Name) → is_bound (map res_binding names) name ≡ is_some (key_named names name)
is_bound-resources names name = ap is_some (bound-resources names name) ∙ is_some-map _ (key_named names name)

pub is_bound-leases : (names : List (Named LeaseKey)) (name : Name) → is_bound (map lease_binding names) name ≡ is_some (key_named names name)
is_bound-leases names name = ap is_some (bound-leases names name) ∙ is_some-map _ (key_named names name)

pub is_bound-hubs : (names : List (Named ℕ)) (name : Name) → is_bound (map number_binding names) name ≡ is_some (key_named names name)
is_bound-hubs names name = ap is_some (bound-numbers names name)

-- places -------------------------------------------------------------------------------------------

-- what is known of the place that a site stands for
pub record IsPlaced {R : Type 0} (e : Engine R) (site : Site) (place : At) : Type 0 where
  pub named : is_unbound_site (stored_stage e) site ≡ false
  pub placed : place_at (stored_stage e) site ≡ Some (place_of place)
  pub gone : is_known_place e.book.keys place ≡ false → is_gone e.book.history (place_of place) ≡ true

module _ {R : Type 0} (e : Engine R) where
  unknown_gone : (name : Name) (k : Key) → IsSound e → key_named e.nodes name ≡ Some k → has_key e.book.keys k ≡ false
      → not (is_open e.book.history k.number) ≡ true
  unknown_gone name k sound is unknown =
      ap not (sym (has_key-is_open e.book k sound.kept (key_named-holds (IsNodeKey e.book) e.nodes name k sound.nodes is)) ∙ unknown)

  pub site_placed : (site : Site) (place : At) → IsSound e → at_of e.nodes site ≡ Some place → IsPlaced e site place
  site_placed root place sound at =
      subst (IsPlaced e root) (same_Some AtRoot place at) (record { named = refl; placed = refl; gone = λ unknown. absurd (false≢true (sym unknown)) })
  site_placed (source name) place sound at =
      let v = made_of AtSource (key_named e.nodes name) place at in
      let number = node_bound e.nodes name v.0 v.1 in
      subst (IsPlaced e (source name)) v.2
      (record { named = ap is_none number; placed = ap (option_map Source) number; gone = unknown_gone name v.0 sound v.1 })
  site_placed (inner name) place sound at =
      let v = made_of AtInner (key_named e.nodes name) place at in
      let number = node_bound e.nodes name v.0 v.1 in
      subst (IsPlaced e (inner name)) v.2
      (record { named = ap is_none number; placed = ap (option_map Inner) number; gone = unknown_gone name v.0 sound v.1 })
  site_placed (notifier name) place sound at =
      let v = made_of AtNotifier (key_named e.nodes name) place at in
      let number = node_bound e.nodes name v.0 v.1 in
      subst (IsPlaced e (notifier name)) v.2
      (record { named = ap is_none number; placed = ap (option_map Notifier) number; gone = unknown_gone name v.0 sound v.1 })

  nameless : (f : Key → At) (name : Name) → option_map f (key_named e.nodes name) ≡ None → is_unbound (stored_stage e).nodes name ≡ true
  nameless f name at = search (rules, is_none, bound-nodes, is_none-map)

  pub site_nameless : (site : Site) → at_of e.nodes site ≡ None → is_unbound_site (stored_stage e) site ≡ true
  site_nameless root at = absurd (none-some AtRoot (sym at))
  site_nameless (source name) at = nameless AtSource name at
  site_nameless (inner name) at = nameless AtInner name at
  site_nameless (notifier name) at = nameless AtNotifier name at

-- new names ----------------------------------------------------------------------------------------

pub new_node_key : {old new : State} {asked : Request} {k : Key} → Accepts old asked new → IsNewKey new (length old.history) k
    → 0 < length (outside_of old.history asked.call) → IsNodeKey new k
new_node_key {old} {new} {asked} {k} accepts given some = search (rules, step_longer, has_key-contained)

pub new_held_key : {old new : State} {asked : Request} {place : ℕ} {k : ResKey} → Accepts old asked new → IsNewResKey new place k
    → place < length old.history + length (outside_of old.history asked.call) → IsHeldKey new k
new_held_key {old} {new} {asked} {k = k} accepts given some = search (rules, step_longer, has_res_key-contained)

pub new_out_key : {old new : State} {asked : Request} {k : LeaseKey} → Accepts old asked new → IsNewLeaseKey new (length old.history) k
    → 0 < length (outside_of old.history asked.call) → IsLeaseKey new k
new_out_key {old} {new} {asked} {k} accepts given some = search (rules, step_longer, has_lease_key-contained)

-- one more name is bound, to this key
pub record Binds {K : Type 0} (old : List (Named K)) (name : Name) (key : K) (new : List (Named K)) : Type 0 where
  pub text : String Global
  pub spelt : string_bytes text ≡ name
  pub pushed : new ≡ old ++ record { name = text; key = key } ∷ []

-- a name with its key's number
abbrev pub binding_by : {K : Type 0} → (K → ℕ) → Named K → Binding
binding_by number_of n = record { name = name_bytes n; number = number_of n.key }

module _ {K : Type 0} {old new : List (Named K)} {name : Name} {key : K} (binds : Binds old name key new) where
  abbrev last : Named K
  last = record { name = binds.text; key = key }

  pub numbers_bound : (number_of : K → ℕ) {number : ℕ} → number_of key ≡ number
      → map (binding_by number_of) new ≡ with_binding (map (binding_by number_of) old) name number
  numbers_bound number_of same = search (rules, map, map-append)

  pub all_bound : (P : K → Type 0) → All (λ n. P n.key) old → P key → All (λ n. P n.key) new
  all_bound P all here = subst (All (λ n. P n.key)) (sym binds.pushed) (All-push (λ n. P n.key) old last all here)

-- names for connections ----------------------------------------------------------------------------

pub taken-bound : (names : List (Named Key)) (name : Option Name)
    → option_map_or (is_bound (map node_binding names)) name false ≡ is_connection_bound names name
taken-bound names x1 = search (rules, is_bound-nodes)

pub taken_beside-bound : (names : List (Named Key)) (node : Name) (name : Option Name)
    → option_map_or (λ c. is_bound (map node_binding names) c || bytes_eq node c) name false ≡ is_taken_beside names node name
taken_beside-bound names node x2 = search (rules, bytes_eq, is_bound-nodes)

-- a name that is free, and is not the node's, is free still once the node has its own
pub free_behind : (names between : List (Named Key)) (x : Named Key) (name : Option Name)
    → between ≡ names ++ x ∷ [] → is_some (key_named names (name_bytes x)) ≡ false → is_taken_beside names (name_bytes x) name ≡ false
    → is_connection_bound between name ≡ false
free_behind names between x x3 pushed free beside = search (rules, or_parts, is_some, bytes_eq, key_named-bind, none_there, cond)

pub named_bound : (names : List (Named Key)) (name : Option (String Global)) (made : Option Key)
    → map node_binding (with_named names name made) ≡ with_connection_bound (map node_binding names) (option_map string_bytes name)
    (option_map (λ k. k.number) made)
named_bound names x1 x2 = search (rules, map-append)

pub all_named : (P : Key → Type 0) (names : List (Named Key)) (name : Option (String Global)) (made : Option Key) → All (λ n. P n.key) names → IfSome made P
    → All (λ n. P n.key) (with_named names name made)
all_named P names None None all here = all
all_named P names None (Some k) all here = all
all_named P names (Some n) None all here = all
all_named P names (Some n) (Some k) all here = All-push (λ n. P n.key) names (record { name = n; key = k }) all here

-- a connection that was forced is a node of the history
pub forced_node_key : (old new : State) (made : Option Key) {key : Key}
    → IsOpened old new (record { key = key; connected = made }) → IfSome made (IsNodeKey new)
forced_node_key old new x2 opened = search (rules, length, cond, at_within, has_key-contained)
