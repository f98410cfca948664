-- What a step binds, it binds at two stages that are the same but for numbers to numbers of the same things.
use Rattle.rx_script.proofs.Common.{◌≡◌, ℕ, ◌+◌, ◌-◌, ◌<◌, Bool, true, false, List, [], ◌∷◌, ◌++◌, length, drop, Option, Some, None, cond, map, slice_get, refl}
use Rattle.rx_script.proofs.Common.{sym, ap, subst, ◌∙◌, arith, append_assoc, length-append, option_map, option_map_or, false≢true, slice_get_within, same_Some}
use Rattle.rx_script.proofs.Common.{none-some, nothing_kept, Place, Kind, Pass, Event, Open, Hub, Connect, Accept, Lease, makes_node, makes_hub, makes_resource}
use Rattle.rx_script.proofs.Common.{makes_lease, at, IsSettled, IsForcedOn, stays, more, Call, Opening, OpeningUsing, Holding, Leasing, Publishing, Connecting}
use Rattle.rx_script.proofs.Common.{IsStepOf, event_by, is_named, AreSameBy, AreSameSince, slice_get-append, slice_get_last, at_within, makes_connection}
use Rattle.rx_script.proofs.Common.{connection_made, Binding, bound, with_binding, Name, Command, using, open_node, hold, lease, make_hub, connect, checkpoint}
use Rattle.rx_script.proofs.Common.{Ware, Stage, connection_name, place_at, kind_at_stage, front, call_of, with_connection_bound, after}
use Rattle.rx_event.specs.Lawful.{IsStep}
use Rattle.rx_script.proofs.NamesForOtherNumbers.{renamed, AllNumbers, all_numbers, renamed-same, with_binding-renamed, with_binding-all}
use Rattle.rx_script.proofs.SameStages.{AreSameStages}
use Rattle.rx_script.proofs.MadeOfOptions.{made_of, made_of_two}
use Rattle.std.proofs.Common.{rules}

-- places in a longer history ---------------------------------------------------------------------------------------------------------

pub stands_on : {b k : List Event} → IsForcedOn nothing_kept b k → (n : ℕ) (e : Event) → slice_get b n ≡ Some e → slice_get k n ≡ Some e
stands_on stays n e at_n = at_n
stands_on (more {k = k} {e = x} on f) n e at_n = let before = stands_on on n e at_n in slice_get-append k (x ∷ []) n (slice_get_within k n e before) ∙ before

found_at : (q : Event → Bool) (h : List Event) (n : ℕ) → at q h n ≡ true → (e : Event) × (slice_get h n ≡ Some e) × (q e ≡ true)
found_at q h n holds = search (rules, slice_get, option_map_or, false≢true)

at_event : (q : Event → Bool) (h : List Event) (n : ℕ) (e : Event) → slice_get h n ≡ Some e → at q h n ≡ q e
at_event q h n e at_n = ap (λ (o : Option Event). option_map_or q o false) at_n

pub at_stands : (q : Event → Bool) (h k : List Event) → ((n : ℕ) (e : Event) → slice_get h n ≡ Some e → slice_get k n ≡ Some e) → (n : ℕ) → at q h n ≡ true
    → at q k n ≡ true
at_stands q h k stands n holds = let w = found_at q h n holds in at_event q k n w.0 (stands n w.0 w.1) ∙ w.2

next_there : (h rest : List Event) (e : Event) → slice_get (h ++ e ∷ rest) (length h) ≡ Some e
next_there [] rest e = refl
next_there (x ∷ h) rest e = next_there h rest e

-- the event that a call adds stands at the next place
new_event : (h k rest : List Event) (e : Event) → IsStep nothing_kept h (e ∷ rest) k → slice_get k (length h) ≡ Some e
new_event h k rest e step = stands_on step.forced (length h) e (next_there h rest e)

second_event : (h k : List Event) (e x : Event) → IsStep nothing_kept h (e ∷ x ∷ []) k → slice_get k (length h + 1) ≡ Some x
second_event h k e x step =
    let longer : length (h ++ e ∷ []) ≡ length h + 1 = length-append h (e ∷ []) in
    let there : slice_get (h ++ e ∷ x ∷ []) (length h + 1) ≡ Some x =
    ap (λ (l : List Event). slice_get l (length h + 1)) (sym (append_assoc h (e ∷ []) (x ∷ []))) ∙
    ap (slice_get ((h ++ e ∷ []) ++ x ∷ [])) (sym longer) ∙ slice_get_last (h ++ e ∷ []) x in stands_on step.forced (length h + 1) x there

-- the history goes on ----------------------------------------------------------------------------------------------------------------

-- both go on, and what was made before keeps its numbers
pub record GoAlike (r q t : ℕ → ℕ) (x y : Stage) (k j : List Event) : Type 0 where
  pub same : AreSameBy nothing_kept q t k j
  pub older : (n : ℕ) → n < length x.history → q n ≡ r n
  pub settled : IsSettled nothing_kept k
  pub settled_there : IsSettled nothing_kept j
  pub stands : (n : ℕ) (e : Event) → slice_get x.history n ≡ Some e → slice_get k n ≡ Some e

module _ (r s q t : ℕ → ℕ) (x y : Stage) (k j : List Event) (a : AreSameStages r s x y) (g : GoAlike r q t x y k j) where
  kept_names : (p : Event → Bool) (bindings others : List Binding) → others ≡ map (renamed r) bindings → AllNumbers (λ n. at p x.history n ≡ true) bindings
      → others ≡ map (renamed q) bindings
  kept_names p bindings others same all = same ∙ sym (renamed-same q r bindings
      (all_numbers (λ n. at p x.history n ≡ true) (λ n. q n ≡ r n) bindings (λ n made. g.older n (at_within p x.history n made)) all))

  kept_made : (p : Event → Bool) (bindings : List Binding) → AllNumbers (λ n. at p x.history n ≡ true) bindings → AllNumbers (λ n. at p k n ≡ true) bindings
  kept_made p bindings all = search (rules, all_numbers, at_stands)

  pub same_on : AreSameStages q t (record x { history = k }) (record y { history = j })
  same_on = record {
    histories = g.same;
    settled = g.settled;
    settled_there = g.settled_there;
    nodes = kept_names makes_node x.nodes y.nodes a.nodes a.nodes_made;
    hubs = kept_names makes_hub x.hubs y.hubs a.hubs a.hubs_made;
    resources = kept_names makes_resource x.resources y.resources a.resources a.resources_made;
    leases = kept_names makes_lease x.leases y.leases a.leases a.leases_made;
    stock = a.stock;
    nodes_made = kept_made makes_node x.nodes a.nodes_made;
    hubs_made = kept_made makes_hub x.hubs a.hubs_made;
    resources_made = kept_made makes_resource x.resources a.resources_made;
    leases_made = kept_made makes_lease x.leases a.leases_made;
  }

-- one more name ----------------------------------------------------------------------------------------------------------------------

module _ (q t : ℕ → ℕ) (x y : Stage) (a : AreSameStages q t x y) where
  -- names that stand for the same, each for what it has to
  abbrev Names : (Event → Bool) → List Binding → List Binding → Type 0
  Names p bindings others = (others ≡ map (renamed q) bindings) × AllNumbers (λ n. at p x.history n ≡ true) bindings

  with_names : {nodes nodes_there hubs hubs_there resources resources_there leases leases_there : List Binding} {stock stock_there : List Ware}
      → Names makes_node nodes nodes_there → Names makes_hub hubs hubs_there → Names makes_resource resources resources_there
      → Names makes_lease leases leases_there → stock_there ≡ stock
      → AreSameStages q t (record x { nodes = nodes; hubs = hubs; resources = resources; leases = leases; stock = stock })
      (record y { nodes = nodes_there; hubs = hubs_there; resources = resources_there; leases = leases_there; stock = stock_there })
  with_names n h r l same = record {
    histories = a.histories;
    settled = a.settled;
    settled_there = a.settled_there;
    nodes = n.0;
    hubs = h.0;
    resources = r.0;
    leases = l.0;
    stock = same;
    nodes_made = n.1;
    hubs_made = h.1;
    resources_made = r.1;
    leases_made = l.1;
  }

  one_more : (p : Event → Bool) (bindings others : List Binding) → Names p bindings others → (name : Name) (n m : ℕ) → at p x.history n ≡ true → q n ≡ m
      → Names p (with_binding bindings name n) (with_binding others name m)
  one_more p bindings others names name n m made number = search (rules, with_binding-renamed, with_binding-all)

  with_node : (name : Name) (n m : ℕ) → at makes_node x.history n ≡ true → q n ≡ m
      → AreSameStages q t (record x { nodes = with_binding x.nodes name n }) (record y { nodes = with_binding y.nodes name m })
  with_node name n m made number = with_names (one_more makes_node x.nodes y.nodes (a.nodes, a.nodes_made) name n m made number)
      (a.hubs, a.hubs_made) (a.resources, a.resources_made) (a.leases, a.leases_made) a.stock

  with_hub : (name : Name) (n m : ℕ) → at makes_hub x.history n ≡ true → q n ≡ m
      → AreSameStages q t (record x { hubs = with_binding x.hubs name n }) (record y { hubs = with_binding y.hubs name m })
  with_hub name n m made number = with_names (a.nodes, a.nodes_made) (one_more makes_hub x.hubs y.hubs (a.hubs, a.hubs_made) name n m made number)
      (a.resources, a.resources_made) (a.leases, a.leases_made) a.stock

  -- of a resource, which the stock loses
  with_resource : (name : Name) (n m : ℕ) → at makes_resource x.history n ≡ true → q n ≡ m
      → AreSameStages q t (record x { resources = with_binding x.resources name n; stock = drop 1 x.stock })
      (record y { resources = with_binding y.resources name m; stock = drop 1 y.stock })
  with_resource name n m made number = with_names (a.nodes, a.nodes_made) (a.hubs, a.hubs_made)
      (one_more makes_resource x.resources y.resources (a.resources, a.resources_made) name n m made number)
      (a.leases, a.leases_made) (ap (λ (l : List Ware). drop 1 l) a.stock)

  with_lease : (name : Name) (n m : ℕ) → at makes_lease x.history n ≡ true → q n ≡ m
      → AreSameStages q t (record x { leases = with_binding x.leases name n }) (record y { leases = with_binding y.leases name m })
  with_lease name n m made number = with_names (a.nodes, a.nodes_made) (a.hubs, a.hubs_made) (a.resources, a.resources_made)
      (one_more makes_lease x.leases y.leases (a.leases, a.leases_made) name n m made number) a.stock

  with_connection_bound-same : (o : Option Name) (c d : Option ℕ) → d ≡ option_map q c → ((n : ℕ) → c ≡ Some n → at makes_node x.history n ≡ true)
      → AreSameStages q t (record x { nodes = with_connection_bound x.nodes o c }) (record y { nodes = with_connection_bound y.nodes o d })
  with_connection_bound-same o c d same made =
      subst (λ (z : Option ℕ). AreSameStages q t (record x { nodes = with_connection_bound x.nodes o c })
      (record y { nodes = with_connection_bound y.nodes o z }))
      (sym same) (by_name o c made) where
        by_name : (o : Option Name) (c : Option ℕ) → ((n : ℕ) → c ≡ Some n → at makes_node x.history n ≡ true)
            → AreSameStages q t (record x { nodes = with_connection_bound x.nodes o c }) (record y { nodes = with_connection_bound y.nodes o (option_map q c) })
        by_name (Some name) (Some n) made = with_node name n (q n) (made n refl) refl
        by_name (Some name) None made = a
        by_name None (Some n) made = a
        by_name None None made = a

-- what was made since ----------------------------------------------------------------------------------------------------------------

connection_named : (e : Event) → makes_connection e ≡ true → is_named e ≡ true
connection_named x0 made = search (rules, false≢true)

connection_node : (e : Event) → makes_connection e ≡ true → makes_node e ≡ true
connection_node x0 made = search (rules, false≢true)

connection_by : (r : ℕ → ℕ) (e : Event) → makes_connection (event_by r e) ≡ makes_connection e
connection_by r x1 = search rules

named_by_numbers : (r : ℕ → ℕ) (e : Event) → is_named (event_by r e) ≡ is_named e
named_by_numbers r x1 = search rules

module _ (r : ℕ → ℕ) (h c k j : List Event) (since : AreSameSince nothing_kept r h c k j) where
  number_next : at is_named k (length h) ≡ true → since.reads (length h) ≡ length c
  number_next named =
      let here : length h + 0 ≡ length h = omega arith in
      let there : length c + 0 ≡ length c = omega arith in
      ap since.reads (sym here) ∙ since.newest 0 (ap (at is_named k) here ∙ named) ∙ there

  number_second : at is_named k (length h + 1) ≡ true → since.reads (length h + 1) ≡ length c + 1
  number_second named = since.newest 1 named

  -- the connection that an opening makes
  connects_there : at makes_connection k (length h + 1) ≡ true → at makes_connection j (length c + 1) ≡ true
  connects_there made =
      let w = found_at makes_connection k (length h + 1) made in
      let named = connection_named w.0 w.2 in
      let number : since.reads (length h + 1) ≡ length c + 1 = number_second (at_event is_named k (length h + 1) w.0 w.1 ∙ named) in
      at_event makes_connection j (length c + 1) (event_by since.reads w.0) (ap (slice_get j) (sym number) ∙ since.same.shown.kept (length h + 1) w.0 named w.1)
      ∙ connection_by since.reads w.0 ∙ w.2

  connects_here : at is_named k (length h) ≡ true → at makes_connection j (length c + 1) ≡ true → at makes_connection k (length h + 1) ≡ true
  connects_here named made =
      ap (at makes_connection k) (sym place) ∙ at_event makes_connection k (back (length c + 1)) (event_by back w.0) moved ∙ connection_by back w.0 ∙ w.2 where
        back : ℕ → ℕ
        back = since.reads_back

        w : (e : Event) × (slice_get j (length c + 1) ≡ Some e) × (makes_connection e ≡ true)
        w = found_at makes_connection j (length c + 1) made

        moved : slice_get k (back (length c + 1)) ≡ Some (event_by back w.0)
        moved = since.same.shown_back.kept (length c + 1) w.0 (connection_named w.0 w.2) w.1

        named_second : at is_named j (length c + 1) ≡ true
        named_second = at_event is_named j (length c + 1) w.0 w.1 ∙ connection_named w.0 w.2

        first : (e : Event) × (slice_get k (length h) ≡ Some e) × (is_named e ≡ true)
        first = found_at is_named k (length h) named

        number : since.reads (length h) ≡ length c
        number = number_next named

        named_first : at is_named j (length c) ≡ true
        named_first = at_event is_named j (length c) (event_by since.reads first.0) (ap (slice_get j) (sym number)
            ∙ since.same.shown.kept (length h) first.0 first.2 first.1) ∙ named_by_numbers since.reads first.0 ∙ first.2

        leads_back : back (length c) ≡ length h
        leads_back = ap back (sym number) ∙ since.same.shown.apart (length h) named

        later : back (length c) < back (length c + 1)
        later = since.same.shown_back.in_order (length c) (length c + 1) named_first named_second (omega arith)

        distance : length h + (back (length c + 1) - length h) ≡ back (length c + 1)
        distance = let l = later in let b = leads_back in omega arith

        named_there : at is_named k (back (length c + 1)) ≡ true
        named_there = at_event is_named k (back (length c + 1)) (event_by back w.0) moved ∙ named_by_numbers back w.0 ∙ connection_named w.0 w.2

        reads_there : since.reads (back (length c + 1)) ≡ length c + (back (length c + 1) - length h)
        reads_there = ap since.reads (sym distance) ∙ since.newest (back (length c + 1) - length h) (ap (at is_named k) distance ∙ named_there)

        round : since.reads (back (length c + 1)) ≡ length c + 1
        round = since.same.shown_back.apart (length c + 1) named_second

        place : back (length c + 1) ≡ length h + 1
        place = let a = distance in let b = reads_there in let d = round in omega arith

  connection_same : at is_named k (length h) ≡ true → connection_made c j ≡ option_map since.reads (connection_made h k)
  connection_same named = search (rules, length, cond, option_map, found_at, number_second, at_event, connection_named, false≢true, connects_there, connects_here)

  connection_node_made : (n : ℕ) → connection_made h k ≡ Some n → at makes_node k n ≡ true
  connection_node_made n made = search (rules, length, cond, none-some, found_at, same_Some, at_event, connection_node)

-- each step --------------------------------------------------------------------------------------------------------------------------

module _ (r s : ℕ → ℕ) (x y : Stage) (k j : List Event) (a : AreSameStages r s x y) (call : Call) (since : AreSameSince nothing_kept r x.history y.history k j)
    (g : GoAlike r since.reads since.reads_back x y k j) (step : IsStepOf nothing_kept x.history call k) where
  abbrev X : Stage
  X = record x { history = k }

  abbrev Y : Stage
  Y = record y { history = j }

  base : AreSameStages since.reads since.reads_back X Y
  base = same_on r s since.reads since.reads_back x y k j a g

  one_there : (e : Event) (p : Event → Bool) → p e ≡ true → slice_get k (length x.history) ≡ Some e → at p k (length x.history) ≡ true
  one_there e p made at_n = at_event p k (length x.history) e at_n ∙ made

  next_number : (e : Event) → is_named e ≡ true → slice_get k (length x.history) ≡ Some e → since.reads (length x.history) ≡ length y.history
  next_number e named at_n = number_next r x.history y.history k j since (one_there e is_named named at_n)

  after_using : (name res : Name) → (place : Place) × (tag : ℕ) × (OpeningUsing place tag ≡ call) → AreSameStages since.reads since.reads_back (record X {
    nodes = with_binding x.nodes name (length x.history);
    resources = with_binding x.resources res (length x.history + 1);
    stock = drop 1 x.stock;
  }) (record Y {
    nodes = with_binding y.nodes name (length y.history);
    resources = with_binding y.resources res (length y.history + 1);
    stock = drop 1 y.stock;
  })
  after_using name res w = with_resource since.reads since.reads_back (record X { nodes = with_binding x.nodes name (length x.history) })
      (record Y { nodes = with_binding y.nodes name (length y.history) })
      (with_node since.reads since.reads_back X Y base name (length x.history) (length y.history) (one_there (Open w.0 Pass) makes_node refl opened)
      (next_number (Open w.0 Pass) refl opened))
      res (length x.history + 1) (length y.history + 1) (at_event makes_resource k (length x.history + 1) (Accept (length x.history) w.1) handed)
      (number_second r x.history y.history k j since (at_event is_named k (length x.history + 1) (Accept (length x.history) w.1) handed))
    where
      step_using : IsStep nothing_kept x.history (Open w.0 Pass ∷ Accept (length x.history) w.1 ∷ []) k
      step_using = subst (λ (z : Call). IsStepOf nothing_kept x.history z k) (sym w.2) step

      opened : slice_get k (length x.history) ≡ Some (Open w.0 Pass)
      opened = new_event x.history k (Accept (length x.history) w.1 ∷ []) (Open w.0 Pass) step_using

      handed : slice_get k (length x.history + 1) ≡ Some (Accept (length x.history) w.1)
      handed = second_event x.history k (Open w.0 Pass) (Accept (length x.history) w.1) step_using

  after_open : (name : Name) (connection : Option Name) → (place : Place) × (kind : Kind) × (Opening place kind ≡ call)
      → AreSameStages since.reads since.reads_back
      (record X { nodes = with_connection_bound (with_binding x.nodes name (length x.history)) connection (connection_made x.history k) })
      (record Y { nodes = with_connection_bound (with_binding y.nodes name (length y.history)) connection (connection_made y.history j) })
  after_open name connection w = with_connection_bound-same since.reads since.reads_back (record X { nodes = with_binding x.nodes name (length x.history) })
      (record Y { nodes = with_binding y.nodes name (length y.history) })
      (with_node since.reads since.reads_back X Y base name (length x.history) (length y.history) (one_there (Open w.0 w.1) makes_node refl opened)
      (next_number (Open w.0 w.1) refl opened)) connection (connection_made x.history k) (connection_made y.history j)
      (connection_same r x.history y.history k j since (one_there (Open w.0 w.1) is_named refl opened)) (connection_node_made r x.history y.history k j since)
    where
      opened : slice_get k (length x.history) ≡ Some (Open w.0 w.1)
      opened = new_event x.history k [] (Open w.0 w.1) (subst (λ (z : Call). IsStepOf nothing_kept x.history z k) (sym w.2) step)

  after_hold : (res : Name) → (n : ℕ) × (tag : ℕ) × (Holding n tag ≡ call)
      → AreSameStages since.reads since.reads_back (record X { resources = with_binding x.resources res (length x.history); stock = drop 1 x.stock })
      (record Y { resources = with_binding y.resources res (length y.history); stock = drop 1 y.stock })
  after_hold res w =
      with_resource since.reads since.reads_back X Y base res (length x.history) (length y.history) (one_there (Accept w.0 w.1) makes_resource refl handed)
      (next_number (Accept w.0 w.1) refl handed)
    where
      handed : slice_get k (length x.history) ≡ Some (Accept w.0 w.1)
      handed = new_event x.history k [] (Accept w.0 w.1) (subst (λ (z : Call). IsStepOf nothing_kept x.history z k) (sym w.2) step)

  after_lease : (name : Name) → (resource : ℕ) × (Leasing resource ≡ call)
      → AreSameStages since.reads since.reads_back (record X { leases = with_binding x.leases name (length x.history) })
      (record Y { leases = with_binding y.leases name (length y.history) })
  after_lease name w =
      with_lease since.reads since.reads_back X Y base name (length x.history) (length y.history) (one_there (Lease w.0) makes_lease refl given)
      (next_number (Lease w.0) refl given)
    where
      given : slice_get k (length x.history) ≡ Some (Lease w.0)
      given = new_event x.history k [] (Lease w.0) (subst (λ (z : Call). IsStepOf nothing_kept x.history z k) (sym w.1) step)

  after_connect : (connection : Option Name) → (hub : ℕ) × (Connecting hub ≡ call)
      → AreSameStages since.reads since.reads_back (record X { nodes = with_connection_bound x.nodes connection (Some (length x.history)) })
      (record Y { nodes = with_connection_bound y.nodes connection (Some (length y.history)) })
  after_connect connection w = with_connection_bound-same since.reads since.reads_back X Y base connection (Some (length x.history)) (Some (length y.history))
      (ap (λ (n : ℕ). Some n) (sym (next_number (Connect w.0) refl made)))
      (λ n same. ap (at makes_node k) (sym (same_Some (length x.history) n same)) ∙ one_there (Connect w.0) makes_node refl made)
    where
      made : slice_get k (length x.history) ≡ Some (Connect w.0)
      made = new_event x.history k [] (Connect w.0) (subst (λ (z : Call). IsStepOf nothing_kept x.history z k) (sym w.1) step)

  pub after_same : (command : Command) → call_of x command ≡ Some call → AreSameStages since.reads since.reads_back (after x command k) (after y command j)
  after_same (using name site res) called =
      let v = made_of_two (λ (place : Place) (w : Ware). OpeningUsing place w.tag) (place_at x site) (front x) call called in
      after_using name res (v.0, v.1.tag, v.4)
  after_same (open_node name site sort) called =
      let v = made_of_two Opening (place_at x site) (kind_at_stage x sort) call called in after_open name (connection_name sort) (v.0, v.1, v.4)
  after_same (hold node res) called =
      let v = made_of_two (λ (n : ℕ) (w : Ware). Holding n w.tag) (bound x.nodes node) (front x) call called in after_hold res (v.0, v.1.tag, v.4)
  after_same (lease res name) called = let v = made_of Leasing (bound x.resources res) call called in after_lease name (v.0, v.2)
  after_same (make_hub name mode) called =
      let made : slice_get k (length x.history) ≡ Some (Hub mode) =
      new_event x.history k [] (Hub mode) (subst (λ (z : Call). IsStepOf nothing_kept x.history z k) (sym (same_Some (Publishing mode) call called)) step) in
      with_hub since.reads since.reads_back X Y base name (length x.history) (length y.history) (one_there (Hub mode) makes_hub refl made)
      (next_number (Hub mode) refl made)
  after_same (connect hub name) called = let v = made_of Connecting (bound x.hubs hub) call called in after_connect name (v.0, v.2)
  after_same checkpoint called = absurd (none-some call called)
  after_same _ called = base
