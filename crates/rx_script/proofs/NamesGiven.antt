-- A command that its book accepts binds its name to what its call gave.
use Rattle.rx_script.proofs.Common.{◌≡◌, ◌++◌, ◌∷◌, [], ℕ, List, true, false, refl, ap, subst, ◌∙◌, arith, length, map, Option, Some, option_map, All}
use Rattle.rx_script.proofs.Common.{String, Global, string_bytes, Kind, Mode, Key, ResKey, At, State, IsPromised, Accepts, Request}
use Rattle.rx_script.proofs.Common.{Accepted, Named, Engine, Binding, with_binding, with_connection_bound, connection_name, key_named, at_of, kind_by_hubs}
use Rattle.rx_script.proofs.Common.{node_binding}
use Rattle.rx_script.proofs.Common.{IsNodeKey, IsLeaseKey, IsSound, CarriesStep, accepted_continues, same_Some, false≢true}
use Rattle.rx_scenario.specs.declared.scenario.Site.{Site as SiteInCode}
use Rattle.rx_scenario.specs.declared.scenario.Sort.{Sort as SortInCode}
use Rattle.rx_scenario.specs.declared.scenario.Command.{Command as CommandInCode}
use Rattle.rx_scenario.specs.declared.scenario.Command.TheVariants.{Open as OpenThere, Lease as LeaseThere, Hub as HubThere, Connect as ConnectThere}
use Rattle.rx_scenario.specs.declared.scenario.Command.TheVariants.{Using as UsingThere, Hold as HoldThere, Checkpoint as CheckpointThere}
use Rattle.rx_scenario.specs.Scenario.{command_of, sort_of, site_of}
use Rattle.rx_book.specs.declared.call.Call.{Call as Asked}
use Rattle.rx_book.specs.declared.call.Call.TheVariants.{Open, Lease, Hub, Connect}
use Rattle.rx_book.specs.declared.answer.Answer.{Answer as Given}
use Rattle.rx_book.specs.declared.answer.Answer.TheVariants.{Place, Opened, Connected, Leased}
use Rattle.rx_book.specs.Asks.{request_of, gives}
use Rattle.rx_script.specs.KeyedCalls.{is_asked, keyed_call, rebinds, connection_of, with_given}
use Rattle.rx_script.proofs.GivenKeysStay.{HasKeys, keys_kept}
use Rattle.rx_script.proofs.EngineCarriesOut.{HasAccepted, accepted_to, stored_stage}
use Rattle.rx_script.proofs.Commands.{call_agrees}
use Rattle.rx_script.proofs.MadeOfOptions.{made_of, made_of_two}
use Rattle.rx_script.proofs.Openings.{Binds, numbers_bound, all_bound, named_bound, all_named, forced_node_key, new_node_key, new_out_key}
use Rattle.std.proofs.Common.{rules}

pub connection_named : (sort : SortInCode) → option_map string_bytes (connection_of sort) ≡ connection_name (sort_of sort)
connection_named x0 = search rules

module _ {R : Type 0} (e : Engine R) (sound : IsSound e) {book : State} (kept : IsPromised book) where
  -- the engine with its names as they were
  abbrev between : Engine R
  between = record e { book = book }

  -- what is to be known of the engine after the command
  abbrev IsBound : CommandInCode → Given → Asked → Type 0
  IsBound command given call = HasAccepted e (request_of e.book call) (command_of command) (with_given between command given)

  abbrev MayBind : CommandInCode → Given → Asked → Type 0
  MayBind command given call = Accepts e.book (request_of e.book call) book → gives e.book call book given → IsBound command given call

  older : (asked : Request) → Accepts e.book asked book → HasKeys e book
  older asked accepts = keys_kept sound kept (accepted_continues e.book book asked accepts)

  open_bound : (name : String Global) (site : SiteInCode) (sort : SortInCode) (at : At) (kind : Kind) (given : Given)
      → MayBind (OpenThere name site sort) given (Open at kind)
  open_bound name site sort at kind (Opened o) accepts is =
      let old = older (request_of e.book (Open at kind)) accepts in
      let named : List (Named Key) = e.nodes ++ record { name = name; key = o.key } ∷ [] in
      let binds : Binds e.nodes (string_bytes name) o.key named = record { text = name; spelt = refl; pushed = refl } in
      let all : All (λ n. IsNodeKey book n.key) named = all_bound binds (IsNodeKey book) old.nodes (new_node_key accepts is.key (omega arith)) in
      let behind : List Binding = with_binding (map node_binding e.nodes) (string_bytes name) (length e.book.history) in
      let number : Option ℕ = option_map (λ k. k.number) o.connected in
      record {
        kept = kept;
        accepts = accepts;
        staged = ap (λ bound. record (stored_stage e) { history = book.history; nodes = bound }) (named_bound named (connection_of sort) o.connected
            ∙ ap (λ bound. with_connection_bound bound (option_map string_bytes (connection_of sort)) number)
            (numbers_bound binds (λ k. k.number) is.key.number)
            ∙ ap (λ c. with_connection_bound behind c number) (connection_named sort)
            ∙ ap (with_connection_bound behind (connection_name (sort_of sort))) is.connection);
        keys = record {
          nodes = all_named (IsNodeKey book) named (connection_of sort) o.connected all (forced_node_key e.book book o.connected is);
          resources = old.resources;
          leases = old.leases;
        };
        rest = (refl, refl);
      }
  open_bound name site sort at kind _ accepts is = absurd is

  lease_bound : (res name : String Global) (k : ResKey) (given : Given) → MayBind (LeaseThere res name) given (Lease k)
  lease_bound res name k (Leased j) accepts is =
      let old = older (request_of e.book (Lease k)) accepts in
      let binds : Binds e.leases (string_bytes name) j (e.leases ++ record { name = name; key = j } ∷ []) =
      record { text = name; spelt = refl; pushed = refl } in
      record {
        kept = kept;
        accepts = accepts;
        staged = ap (λ bound. record (stored_stage e) { history = book.history; leases = bound }) (numbers_bound binds (λ n. n.number) is.number);
        keys = record {
          nodes = old.nodes;
          resources = old.resources;
          leases = all_bound binds (IsLeaseKey book) old.leases (new_out_key accepts is (omega arith));
        };
        rest = (refl, refl);
      }
  lease_bound res name k _ accepts is = absurd is

  hub_bound : (name : String Global) (mode : Mode) (given : Given) → MayBind (HubThere name mode) given (Hub mode)
  hub_bound name mode (Place number) accepts place =
      let old = older (request_of e.book (Hub mode)) accepts in
      let binds : Binds e.hubs (string_bytes name) number (e.hubs ++ record { name = name; key = number } ∷ []) =
      record { text = name; spelt = refl; pushed = refl } in
      record {
        kept = kept;
        accepts = accepts;
        staged = ap (λ bound. record (stored_stage e) { history = book.history; hubs = bound }) (numbers_bound binds (λ n. n) place);
        keys = record { nodes = old.nodes; resources = old.resources; leases = old.leases };
        rest = (refl, refl);
      }
  hub_bound name mode _ accepts is = absurd is

  connect_bound : (hub : String Global) (name : Option (String Global)) (number : ℕ) (given : Given) → MayBind (ConnectThere hub name) given (Connect number)
  connect_bound hub name number (Connected k) accepts is =
      let old = older (request_of e.book (Connect number)) accepts in
      record {
        kept = kept;
        accepts = accepts;
        staged = ap (λ bound. record (stored_stage e) { history = book.history; nodes = bound }) (named_bound e.nodes name (Some k)
            ∙ ap (λ n. with_connection_bound (map node_binding e.nodes) (option_map string_bytes name) (Some n)) is.number);
        keys = record {
          nodes = all_named (IsNodeKey book) e.nodes name (Some k) old.nodes (new_node_key accepts is (omega arith));
          resources = old.resources;
          leases = old.leases;
        };
        rest = (refl, refl);
      }
  connect_bound hub name number _ accepts is = absurd is

  all_given : (command : CommandInCode) (given : Given) (call : Asked) → is_asked (command_of command) ≡ true
      → keyed_call e (command_of command) ≡ Some call → MayBind command given call
  all_given (OpenThere name site sort) given call asked is =
      let k = made_of_two Open (at_of e.nodes (site_of site)) (kind_by_hubs e.hubs (sort_of sort)) call is in
      subst (λ c. MayBind (OpenThere name site sort) given c) k.4 (open_bound name site sort k.0 k.1 given)
  all_given (LeaseThere res name) given call asked is =
      let k = made_of Lease (key_named e.resources (string_bytes res)) call is in
      subst (λ c. MayBind (LeaseThere res name) given c) k.2 (lease_bound res name k.0 given)
  all_given (HubThere name mode) given call asked is =
      subst (λ c. MayBind (HubThere name mode) given c) (same_Some (Hub mode) call is) (hub_bound name mode given)
  all_given (ConnectThere hub name) given call asked is =
      let k = made_of Connect (key_named e.hubs (string_bytes hub)) call is in
      subst (λ c. MayBind (ConnectThere hub name) given c) k.2 (connect_bound hub name k.0 given)
  all_given (UsingThere name site res) given call asked is = absurd (false≢true asked)
  all_given (HoldThere node res) given call asked is = absurd (false≢true asked)
  all_given CheckpointThere given call asked is = absurd (false≢true asked)
  all_given _ given call asked is = λ accepts gave.
      let old = older (request_of e.book call) accepts in
      record {
        kept = kept;
        accepts = accepts;
        staged = refl;
        keys = record { nodes = old.nodes; resources = old.resources; leases = old.leases };
        rest = (refl, refl);
      }

  pub call_accepted : (command : CommandInCode) (asked : is_asked (command_of command) ≡ true) (call : Asked)
      → keyed_call e (command_of command) ≡ Some call → rebinds e.nodes e.hubs e.leases (command_of command) ≡ false → (given : Given)
      → Accepts e.book (request_of e.book call) book → gives e.book call book given
      → CarriesStep e (command_of command) Accepted (with_given (record e { book = book }) command given)
  call_accepted command asked call is free given accepts gave = accepted_to {new = with_given between command given} sound
      (call_agrees e sound (command_of command) asked call is free) (all_given command given call asked is accepts gave)
