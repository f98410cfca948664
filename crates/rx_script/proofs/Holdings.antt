-- The commands that hand a resource in, carried out by an engine.
use Rattle.rx_script.proofs.Common.{◌≡◌, ◌∷◌, [], List, Bool, true, false, refl, sym, ap, ◌∙◌, length, arith, ◌≢◌, ◌||◌, Some, None, is_none, is_some}
use Rattle.rx_script.proofs.Common.{slice_get, drop, not, Refusal, NoMemory, Gone, is_open, Call, OpeningUsing, Holding, first_cause, IsRefusal, Key, ResKey}
use Rattle.rx_script.proofs.Common.{At, State, IsPromised, has_key, causes, by_key, Request, place_of, is_known_place, stands, Accepts, IsNewResKey, Accepted}
use Rattle.rx_script.proofs.Common.{Refused, NoName, NameTaken, NoStock, Book, Named, Engine, Name, Site, using, hold, Ware, has_no_ware, own_cause, front}
use Rattle.rx_script.proofs.Common.{front_is_fresh, bound, Shelf, key_named, IsNodeKey, IsHeldKey, at_of, IsSound, CarriesStep, key_named-holds}
use Rattle.rx_script.proofs.Common.{accepted_continues}
use Rattle.rx_book.specs.declared.answer.OpenedUsing.{OpenedUsing}
use Rattle.rx_book.specs.Answers.{IsOpenedUsing}
use Rattle.rx_script.proofs.KeysByNumber.{has_key-is_open}
use Rattle.rx_script.proofs.NamesStandForKeys.{node_bound, node_unbound}
use Rattle.rx_script.proofs.GivenKeysStay.{keys_kept}
use Rattle.rx_script.proofs.EngineCarriesOut.{Agrees, first_cause-by_key, with, refused_own, refused_there, accepted_to, stored_stage, cause_of}
use Rattle.rx_script.proofs.Openings.{is_bound-nodes, is_bound-resources, IsPlaced, site_placed, site_nameless, Binds, numbers_bound, all_bound, new_node_key}
use Rattle.rx_script.proofs.Openings.{new_held_key}
use Rattle.std.proofs.Common.{rules}

-- a stock with a resource in front
module _ {R : Type 0} (e : Engine R) (w : Ware) (rest : List Ware) (stocked : e.stock.wares ≡ w ∷ rest) where
  pub front_stocked : front (stored_stage e) ≡ Some w
  front_stocked = ap (λ wares. slice_get wares 0) stocked

  pub fresh_stocked : front_is_fresh (stored_stage e) ≡ w.is_fresh
  fresh_stocked = rw front_stocked refl

  pub some_stocked : has_no_ware (stored_stage e).stock ≡ false
  some_stocked = ap has_no_ware stocked

  pub rest_stocked : drop 1 (stored_stage e).stock ≡ rest
  rest_stocked = ap (drop 1) stocked

  -- the causes look at that resource
  pub same_stocked : (known : Bool) (call : Call) → (known ≡ false → causes e.book.base e.book.history e.book.limit w.is_fresh call Gone ≡ true)
      → first_cause (by_key known (causes e.book.base e.book.history e.book.limit w.is_fresh call))
      ≡ first_cause (causes e.book.base e.book.history e.book.limit (front_is_fresh (stored_stage e)) call)
  same_stocked known call gone = search (rules, first_cause-by_key, fresh_stocked)

-- opening with a resource --------------------------------------------------------------------------

module _ {R : Type 0} (e : Engine R) (name : Name) (site : Site) (res : Name) (sound : IsSound e) where
  pub using_nameless : at_of e.nodes site ≡ None → CarriesStep e (using name site res) (Refused NoName) (with e e.book e.stock)
  using_nameless none = search (rules, site_nameless, refused_own, using)

  module _ (place : At) (at : at_of e.nodes site ≡ Some place) where
    facts : IsPlaced e site place
    facts = site_placed e site place sound at

    pub using_taken : (is_some (key_named e.nodes name) || is_some (key_named e.resources res)) ≡ true
        → CarriesStep e (using name site res) (Refused NameTaken) (with e e.book e.stock)
    using_taken taken =
        let named = facts.named in
        let node_named = is_bound-nodes e.nodes name in
        let res_named = is_bound-resources e.resources res in
        refused_own (using name site res) NameTaken e.book e.stock sound refl refl (rw (named, node_named, res_named, taken) refl)

    module _ (free : (is_some (key_named e.nodes name) || is_some (key_named e.resources res)) ≡ false) where
      pub using_stockless : (stock : Shelf) → e.stock.wares ≡ [] → stock.wares ≡ []
          → CarriesStep e (using name site res) (Refused NoStock) (with e e.book stock)
      using_stockless stock none same =
          let named = facts.named in
          let node_named = is_bound-nodes e.nodes name in
          let res_named = is_bound-resources e.resources res in
          refused_own (using name site res) NoStock e.book stock sound refl (same ∙ sym none) (rw (named, node_named, res_named, free, none) refl)

      module _ (w : Ware) (rest : List Ware) (stocked : e.stock.wares ≡ w ∷ rest) where
        no_own_cause : own_cause (stored_stage e) (using name site res) ≡ None
        no_own_cause =
            let named = facts.named in
            let node_named = is_bound-nodes e.nodes name in
            let res_named = is_bound-resources e.resources res in
            let some = some_stocked e w rest stocked in rw (named, node_named, res_named, free, some) refl

        abbrev asked : Request
        asked = record { call = OpeningUsing (place_of place) w.tag; is_known = is_known_place e.book.keys place; is_fresh = w.is_fresh }

        agrees : Agrees e asked (using name site res)
        agrees =
            let placed = facts.placed in
            let in_front = front_stocked e w rest stocked in
            record {
              own = no_own_cause;
              called = rw (placed, in_front) refl;
              same = same_stocked e w rest stocked (is_known_place e.book.keys place) (OpeningUsing (place_of place) w.tag) facts.gone;
            }

        pub using_refused : (book : State) (stock : Shelf) (why : Refusal) → book ≡ e.book → stock.wares ≡ e.stock.wares → IsRefusal (stands e.book (record {
          call = OpeningUsing (place_of place) w.tag;
          is_known = is_known_place e.book.keys place;
          is_fresh = w.is_fresh;
        })) why → why ≢ NoMemory → CarriesStep e (using name site res) (Refused (Book why)) (with e book stock)
        using_refused book stock why same same_stock refusal other = refused_there book stock sound same same_stock agrees
            (cause_of (stands e.book asked) why refusal other)

        pub using_accepted : {book : State} {nodes : List (Named Key)} {resources : List (Named ResKey)} {stock : Shelf} {opened : OpenedUsing}
            → IsPromised book → Accepts e.book (record {
              call = OpeningUsing (place_of place) w.tag;
              is_known = is_known_place e.book.keys place;
              is_fresh = w.is_fresh;
            }) book → IsOpenedUsing e.book book opened → Binds e.nodes name opened.key nodes → Binds e.resources res opened.res resources → stock.wares ≡ rest
            → CarriesStep e (using name site res) Accepted (record e { book = book; nodes = nodes; resources = resources; stock = stock })
        using_accepted {book} {nodes} {resources} {stock} kept accepts given binds binds_res same_stock =
            let older = keys_kept sound kept (accepted_continues e.book book asked accepts) in
            accepted_to {new = record e { book = book; nodes = nodes; resources = resources; stock = stock }} sound agrees (record {
              kept = kept;
              accepts = accepts;
              staged = λ i. record (stored_stage e) {
                history = book.history;
                nodes = numbers_bound binds (λ k. k.number) given.key.number i;
                resources = numbers_bound binds_res (λ k. k.number) given.res.number i;
                stock = (same_stock ∙ sym (rest_stocked e w rest stocked)) i;
              };
              keys = record {
                nodes = all_bound binds (IsNodeKey book) older.nodes (new_node_key accepts given.key (omega arith));
                resources = all_bound binds_res (IsHeldKey book) older.resources (new_held_key accepts given.res (omega arith));
                leases = older.leases;
              };
              rest = (refl, refl);
            })

-- holding ------------------------------------------------------------------------------------------

module _ {R : Type 0} (e : Engine R) (node : Name) (res : Name) (sound : IsSound e) where
  pub hold_nameless : key_named e.nodes node ≡ None → CarriesStep e (hold node res) (Refused NoName) (with e e.book e.stock)
  hold_nameless none = search (rules, stored_stage, is_none, node_unbound, refused_own, hold)

  module _ (k : Key) (at : key_named e.nodes node ≡ Some k) where
    number_named : bound (stored_stage e).nodes node ≡ Some k.number
    number_named = node_bound e.nodes node k at

    pub hold_taken : is_some (key_named e.resources res) ≡ true → CarriesStep e (hold node res) (Refused NameTaken) (with e e.book e.stock)
    hold_taken taken =
        let named = number_named in
        let res_named = is_bound-resources e.resources res ∙ taken in
        refused_own (hold node res) NameTaken e.book e.stock sound refl refl (rw (named, res_named) refl)

    module _ (free : is_some (key_named e.resources res) ≡ false) where
      pub hold_stockless : (stock : Shelf) → e.stock.wares ≡ [] → stock.wares ≡ [] → CarriesStep e (hold node res) (Refused NoStock) (with e e.book stock)
      hold_stockless stock none same =
          let named = number_named in
          let res_named = is_bound-resources e.resources res ∙ free in
          refused_own (hold node res) NoStock e.book stock sound refl (same ∙ sym none) (rw (named, res_named, none) refl)

      module _ (w : Ware) (rest : List Ware) (stocked : e.stock.wares ≡ w ∷ rest) where
        hold_no_own_cause : own_cause (stored_stage e) (hold node res) ≡ None
        hold_no_own_cause =
            let named = number_named in
            let res_named = is_bound-resources e.resources res ∙ free in
            let some = some_stocked e w rest stocked in rw (named, res_named, some) refl

        hold_known : has_key e.book.keys k ≡ is_open e.book.history k.number
        hold_known = has_key-is_open e.book k sound.kept (key_named-holds (IsNodeKey e.book) e.nodes node k sound.nodes at)

        abbrev hold_asked : Request
        hold_asked = record { call = Holding k.number w.tag; is_known = has_key e.book.keys k; is_fresh = w.is_fresh }

        hold_agrees : Agrees e hold_asked (hold node res)
        hold_agrees =
            let named = number_named in
            let in_front = front_stocked e w rest stocked in
            record {
              own = hold_no_own_cause;
              called = rw (named, in_front) refl;
              same = same_stocked e w rest stocked (has_key e.book.keys k) (Holding k.number w.tag) (λ unknown. ap not (sym hold_known ∙ unknown));
            }

        pub hold_refused : (book : State) (stock : Shelf) (why : Refusal) → book ≡ e.book → stock.wares ≡ e.stock.wares
            → IsRefusal (stands e.book (record { call = Holding k.number w.tag; is_known = has_key e.book.keys k; is_fresh = w.is_fresh })) why → why ≢ NoMemory
            → CarriesStep e (hold node res) (Refused (Book why)) (with e book stock)
        hold_refused book stock why same same_stock refusal other = refused_there book stock sound same same_stock hold_agrees
            (cause_of (stands e.book hold_asked) why refusal other)

        pub hold_accepted : {book : State} {resources : List (Named ResKey)} {stock : Shelf} {held : ResKey} → IsPromised book
            → Accepts e.book (record { call = Holding k.number w.tag; is_known = has_key e.book.keys k; is_fresh = w.is_fresh }) book
            → IsNewResKey book (length e.book.history) held → Binds e.resources res held resources → stock.wares ≡ rest
            → CarriesStep e (hold node res) Accepted (record e { book = book; resources = resources; stock = stock })
        hold_accepted {book} {resources} {stock} kept accepts given binds same_stock =
            let older = keys_kept sound kept (accepted_continues e.book book hold_asked accepts) in
            accepted_to {new = record e { book = book; resources = resources; stock = stock }} sound hold_agrees (record {
              kept = kept;
              accepts = accepts;
              staged = λ i. record (stored_stage e) {
                history = book.history;
                resources = numbers_bound binds (λ j. j.number) given.number i;
                stock = (same_stock ∙ sym (rest_stocked e w rest stocked)) i;
              };
              keys = record {
                nodes = older.nodes;
                resources = all_bound binds (IsHeldKey book) older.resources (new_held_key accepts given (omega arith));
                leases = older.leases;
              };
              rest = (refl, refl);
            })

-- a resource that was put back in front
pub put_back : {R : Type 0} (ware : R → Ware) {old : List Ware} (mid new : List Ware) (r back : R) → old ≡ ware r ∷ mid → back ≡ r
    → new ≡ ware back ∷ mid → new ≡ old
put_back ware mid new r back taken same returned = returned ∙ ap (λ x. ware x ∷ mid) same ∙ sym taken
