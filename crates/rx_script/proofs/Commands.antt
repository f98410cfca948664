-- The commands that make a call of the book as a value: what is known of each by that call, and that an engine carries it out.
use Rattle.rx_script.proofs.Common.{◌≡◌, ℕ, List, Bool, true, false, refl, sym, ap, subst, ◌∙◌, cond, ◌≢◌, Option, Some, None, is_none, option_map, map, not}
use Rattle.rx_script.proofs.Common.{option_and_then, Kind, Refusal, Gone, NoMemory, is_open, is_held, Call, Opening, Emitting, Ending, Aborting, Declining}
use Rattle.rx_script.proofs.Common.{Failing, Disposing, Applying, Removing, Leasing, GivingBack, first_cause, Key, ResKey, At, State, has_key, has_res_key}
use Rattle.rx_script.proofs.Common.{has_lease_key, place_of, is_known_place, causes, by_key, by_res_key, stands, Refused, Cause, NoName, NameTaken, NoStock}
use Rattle.rx_script.proofs.Common.{Book, Named, Engine, Name, Site, Sort, Command, open_node, apply, remove, lease, next, end, abort, decline, fail, dispose}
use Rattle.rx_script.proofs.Common.{make_hub, connect, disconnect, false≢true, lacks_name, takes_name, lacks_stock, kind_at_stage, call_of, front_is_fresh}
use Rattle.rx_script.proofs.Common.{bound}
use Rattle.rx_script.proofs.Common.{is_unbound, key_named, at_of, kind_by_hubs, IsSound, CarriesStep, IsNodeKey, IsHeldKey, IsLeaseKey, key_named-holds}
use Rattle.rx_script.proofs.Common.{is_unbound_hub}
use Rattle.rx_script.proofs.Common.{own_cause, bound-numbers, give_back}
use Rattle.rx_agenda.proofs.Laws.{bound-keys}
use Rattle.rx_event.specs.Causes.{by_lease_key}
use Rattle.rx_event.specs.declared.refusal.Refusal.TheVariants.{NotHeld, NoLease}
use Rattle.rx_book.specs.Answers.{IsRefusalOf}
use Rattle.rx_book.specs.Asks.{request_of, takes_memory, refuses}
use Rattle.rx_book.specs.declared.call.Call.{Call as Asked}
use Rattle.rx_book.specs.declared.call.Call.TheVariants.{Open, Next, End, Abort, Decline, Fail, Dispose, Apply, Remove, Lease, GiveBack, Connect, Disconnect}
use Rattle.rx_script.specs.KeyedCalls.{is_asked, keyed_call, rebinds}
use Rattle.rx_script.proofs.MadeOfOptions.{is_none-map}
use Rattle.rx_script.proofs.KeysByNumber.{has_key-is_open, has_res_key-is_held, has_lease_key-is_out}
use Rattle.rx_script.proofs.EngineCarriesOut.{Agrees, first_cause-by_key, with, refused_own, refused_there, stored_stage, cause_of}
use Rattle.rx_script.proofs.Openings.{binding_by, IsPlaced, site_placed, site_nameless, is_bound-nodes, is_bound-leases, is_bound-hubs, taken-bound}
use Rattle.rx_script.proofs.Openings.{taken_beside-bound}
use Rattle.std.proofs.Common.{rules}

-- it uses no name that is not bound, and takes nothing of the stock; it is this call of the stage, and refused by keys as by numbers
pub record IsCalled {R : Type 0} (e : Engine R) (step : Command) (call : Asked) : Type 0 where
  pub named : lacks_name (stored_stage e) step ≡ false
  pub stocked : lacks_stock (stored_stage e) step ≡ false
  pub called : call_of (stored_stage e) step ≡ Some (request_of e.book call).call
  pub same : first_cause (stands e.book (request_of e.book call))
      ≡ first_cause (causes e.book.base e.book.history e.book.limit (front_is_fresh (stored_stage e)) (request_of e.book call).call)

-- so it is with the call that a command makes, and one that makes none lacks a name
abbrev IsResolved : {R : Type 0} → Engine R → Command → Option Asked → Type 0
IsResolved e step None = lacks_name (stored_stage e) step ≡ true
IsResolved e step (Some call) = IsCalled e step call

-- kinds: a sort stands for the same by numbers as by names
kind_same : {R : Type 0} (e : Engine R) (sort : Sort) → kind_at_stage (stored_stage e) sort ≡ kind_by_hubs e.hubs sort
kind_same e x1 = search (rules, option_map, bound-numbers)

hub_same : {R : Type 0} (e : Engine R) (sort : Sort) → is_unbound_hub (stored_stage e) sort ≡ is_none (kind_by_hubs e.hubs sort)
hub_same e x1 = search (rules, is_none, bound-numbers, is_none-map)

-- to look for the key is to look whether the resource is held, or the lease out
by_res_same : (known : Bool) (stand : Refusal → Bool) → (known ≡ false → first_cause stand ≡ Some NotHeld)
    → first_cause (by_res_key known stand) ≡ first_cause stand
by_res_same x0 stand none = search rules

by_lease_same : (known : Bool) (stand : Refusal → Bool) → (known ≡ false → first_cause stand ≡ Some NoLease)
    → first_cause (by_lease_key known stand) ≡ first_cause stand
by_lease_same x0 stand none = search rules

-- a command that uses one name, for which this stands if it is bound
by_name : {R K : Type 0} (e : Engine R) (step : Command) (number_of : K → ℕ) (names : List (Named K)) (name : Name) (f : K → Asked) (o : Option K)
    → key_named names name ≡ o → lacks_name (stored_stage e) step ≡ is_unbound (map (binding_by number_of) names) name
    → ((k : K) → key_named names name ≡ Some k → bound (map (binding_by number_of) names) name ≡ Some (number_of k) → IsCalled e step (f k))
    → IsResolved e step (option_map f o)
by_name e step number_of names name f x6 at lacks is = search (rules, is_none, bound-keys, option_map)

module _ {R : Type 0} (e : Engine R) (sound : IsSound e) where
  -- the causes against a call by numbers
  abbrev against : Call → Refusal → Bool
  against = causes e.book.base e.book.history e.book.limit true

  at_node : (step : Command) (node : Name) (f : Key → Asked) → lacks_name (stored_stage e) step ≡ is_unbound (stored_stage e).nodes node
      → ((k : Key) → bound (stored_stage e).nodes node ≡ Some k.number
      → ((stand : Refusal → Bool) → (is_open e.book.history k.number ≡ false → stand Gone ≡ true)
      → first_cause (by_key (has_key e.book.keys k) stand) ≡ first_cause stand) → IsCalled e step (f k))
      → IsResolved e step (option_map f (key_named e.nodes node))
  at_node step node f lacks called = by_name e step (λ k. k.number) e.nodes node f (key_named e.nodes node) refl lacks (λ k at is.
      called k is (λ stand gone. first_cause-by_key (has_key e.book.keys k) stand (λ unknown.
      gone (sym (has_key-is_open e.book k sound.kept (key_named-holds (IsNodeKey e.book) e.nodes node k sound.nodes at)) ∙ unknown))))

  at_res : (step : Command) (res : Name) (f : ResKey → Asked) → lacks_name (stored_stage e) step ≡ is_unbound (stored_stage e).resources res
      → ((k : ResKey) → bound (stored_stage e).resources res ≡ Some k.number
      → ((stand : Refusal → Bool) → (is_held e.book.history k.number ≡ false → first_cause stand ≡ Some NotHeld)
      → first_cause (by_res_key (has_res_key e.book.res_keys k) stand) ≡ first_cause stand) → IsCalled e step (f k))
      → IsResolved e step (option_map f (key_named e.resources res))
  at_res step res f lacks called = by_name e step (λ k. k.number) e.resources res f (key_named e.resources res) refl lacks (λ k at is.
      called k is (λ stand gone. by_res_same (has_res_key e.book.res_keys k) stand (λ unknown.
      gone (sym (has_res_key-is_held e.book k sound.kept (key_named-holds (IsHeldKey e.book) e.resources res k sound.resources at)) ∙ unknown))))

  at_hub : (step : Command) (hub : Name) (f : ℕ → Asked) → lacks_name (stored_stage e) step ≡ is_unbound (stored_stage e).hubs hub
      → ((number : ℕ) → bound (stored_stage e).hubs hub ≡ Some number → IsCalled e step (f number)) → IsResolved e step (option_map f (key_named e.hubs hub))
  at_hub step hub f lacks called = by_name e step (λ n. n) e.hubs hub f (key_named e.hubs hub) refl lacks (λ number at is. called number is)

  at_lease : (name : Name) → IsResolved e (give_back name) (option_map GiveBack (key_named e.leases name))
  at_lease name = by_name e (give_back name) (λ k. k.number) e.leases name GiveBack (key_named e.leases name) refl refl (λ k at is. record {
    named = rw is refl;
    stocked = refl;
    called = rw is refl;
    same = by_lease_same (has_lease_key e.book.lease_keys k) (against (GivingBack k.number)) (λ unknown.
        let none = sym (has_lease_key-is_out e.book k sound.kept (key_named-holds (IsLeaseKey e.book) e.leases name k sound.leases at)) ∙ unknown in
        rw none refl);
  })

  module _ (name : Name) (site : Site) (sort : Sort) where
    of_kind : (place : At) → IsPlaced e site place → (o : Option Kind) → kind_by_hubs e.hubs sort ≡ o
        → IsResolved e (open_node name site sort) (option_map (Open place) o)
    of_kind place facts None none =
        let named = facts.named in
        let hubless : is_unbound_hub (stored_stage e) sort ≡ true = hub_same e sort ∙ ap is_none none in rw (named, hubless) refl
    of_kind place facts (Some kind) is =
        let placed = facts.named in
        let hubbed : is_unbound_hub (stored_stage e) sort ≡ false = hub_same e sort ∙ ap is_none is in
        record {
          named = rw (placed, hubbed) refl;
          stocked = refl;
          called = ap (option_and_then (λ p. option_map (Opening p) (kind_at_stage (stored_stage e) sort))) facts.placed
              ∙ ap (option_map (Opening (place_of place))) (kind_same e sort ∙ is);
          same = first_cause-by_key (is_known_place e.book.keys place) (against (Opening (place_of place) kind)) facts.gone;
        }

    at_place : (o : Option At) → at_of e.nodes site ≡ o
        → IsResolved e (open_node name site sort) (option_and_then (λ place. option_map (Open place) (kind_by_hubs e.hubs sort)) o)
    at_place None at = let nameless = site_nameless e site at in rw nameless refl
    at_place (Some place) at = of_kind place (site_placed e site place sound at) (kind_by_hubs e.hubs sort) refl

  resolved : (step : Command) → is_asked step ≡ true → IsResolved e step (keyed_call e step)
  resolved (open_node name site sort) asked = at_place name site sort (at_of e.nodes site) refl
  resolved (apply res word) asked = at_res (apply res word) res (λ k. Apply k word) refl (λ k is by.
      record { named = rw is refl; stocked = refl; called = rw is refl; same = by (against (Applying k.number)) (λ none. rw none refl) })
  resolved (remove res) asked = at_res (remove res) res Remove refl (λ k is by.
      record { named = rw is refl; stocked = refl; called = rw is refl; same = by (against (Removing k.number)) (λ none. rw none refl) })
  resolved (lease res name) asked = at_res (lease res name) res Lease refl (λ k is by.
      record { named = rw is refl; stocked = refl; called = rw is refl; same = by (against (Leasing k.number)) (λ none. rw none refl) })
  resolved (give_back name) asked = at_lease name
  resolved (next node value) asked = at_node (next node value) node (λ k. Next k value) refl (λ k is by.
      record { named = rw is refl; stocked = refl; called = rw is refl; same = by (against (Emitting k.number value)) (λ none. ap not none) })
  resolved (end node t) asked = at_node (end node t) node (λ k. End k t) refl (λ k is by.
      record { named = rw is refl; stocked = refl; called = rw is refl; same = by (against (Ending k.number t)) (λ none. ap not none) })
  resolved (abort node code) asked = at_node (abort node code) node (λ k. Abort k code) refl (λ k is by.
      record { named = rw is refl; stocked = refl; called = rw is refl; same = by (against (Aborting k.number code)) (λ none. ap not none) })
  resolved (decline node) asked = at_node (decline node) node Decline refl (λ k is by.
      record { named = rw is refl; stocked = refl; called = rw is refl; same = by (against (Declining k.number)) (λ none. ap not none) })
  resolved (fail node code) asked = at_node (fail node code) node (λ k. Fail k code) refl (λ k is by.
      record { named = rw is refl; stocked = refl; called = rw is refl; same = by (against (Failing k.number code)) (λ none. ap not none) })
  resolved (dispose node) asked = at_node (dispose node) node Dispose refl (λ k is by.
      record { named = rw is refl; stocked = refl; called = rw is refl; same = by (against (Disposing k.number)) (λ none. ap not none) })
  resolved (make_hub name mode) asked = record { named = refl; stocked = refl; called = refl; same = refl }
  resolved (connect hub name) asked = at_hub (connect hub name) hub Connect refl (λ number is.
      record { named = rw is refl; stocked = refl; called = rw is refl; same = refl })
  resolved (disconnect hub) asked = at_hub (disconnect hub) hub Disconnect refl (λ number is.
      record { named = rw is refl; stocked = refl; called = rw is refl; same = refl })
  resolved _ asked = absurd (false≢true asked)

-- a name that is bound is bound on the stage
takes_name-rebinds : {R : Type 0} (e : Engine R) (step : Command) → is_asked step ≡ true
    → takes_name (stored_stage e) step ≡ rebinds e.nodes e.hubs e.leases step
takes_name-rebinds e x1 asked = search (rules, false≢true, is_bound-nodes, taken_beside-bound, is_bound-leases, is_bound-hubs, taken-bound)

-- carrying out -------------------------------------------------------------------------------------

cause_asked : (may_want : Bool) (stand : Refusal → Bool) (why : Refusal) → IsRefusalOf may_want stand why → why ≢ NoMemory → first_cause stand ≡ Some why
cause_asked x0 stand why refusal other = search (rules, cause_of)

-- the causes of the scenario's own, in their order
abbrev own_by : (lacks takes stockless : Bool) → Option Cause
own_by lacks takes stockless = cond lacks (Some NoName) (cond takes (Some NameTaken) (cond stockless (Some NoStock) None))

module _ {R : Type 0} (e : Engine R) (sound : IsSound e) (step : Command) (asked : is_asked step ≡ true) where
  pub call_nameless : keyed_call e step ≡ None → CarriesStep e step (Refused NoName) (with e e.book e.stock)
  call_nameless none =
      let lacks : lacks_name (stored_stage e) step ≡ true = subst (λ o. IsResolved e step o) none (resolved e sound step asked) in
      refused_own step NoName e.book e.stock sound refl refl (λ i. own_by (lacks i) (takes_name (stored_stage e) step) (lacks_stock (stored_stage e) step))

  module _ (call : Asked) (is : keyed_call e step ≡ Some call) where
    facts : IsCalled e step call
    facts = subst (λ o. IsResolved e step o) is (resolved e sound step asked)

    own_is : (takes : Bool) → rebinds e.nodes e.hubs e.leases step ≡ takes → own_cause (stored_stage e) step ≡ cond takes (Some NameTaken) None
    own_is takes same = λ i. own_by (facts.named i) ((takes_name-rebinds e step asked ∙ same) i) (facts.stocked i)

    pub call_taken : rebinds e.nodes e.hubs e.leases step ≡ true → CarriesStep e step (Refused NameTaken) (with e e.book e.stock)
    call_taken taken = refused_own step NameTaken e.book e.stock sound refl refl (own_is true taken)

    module _ (free : rebinds e.nodes e.hubs e.leases step ≡ false) where
      pub call_agrees : Agrees e (request_of e.book call) step
      call_agrees = record { own = own_is false free; called = facts.called; same = facts.same }

      pub call_refused : (book : State) (why : Refusal) → book ≡ e.book → refuses e.book call why → why ≢ NoMemory
          → CarriesStep e step (Refused (Book why)) (with e book e.stock)
      call_refused book why same refusal other = refused_there book e.stock sound same refl call_agrees
          (cause_asked (takes_memory call) (stands e.book (request_of e.book call)) why refusal other)
