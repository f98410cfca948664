-- What comes in for a node that names a hub, and for the connection that came with it.
use Rattle.std.proofs.Common.{◌≡◌, ℕ, ◌+◌, ◌<◌, ◌≤◌, Bool, true, false, List, [], ◌∷◌, ◌++◌, Option, Some, None, refl, sym, ap, ◌∙◌, arith, subst, if◌then◌else◌, append-nil}
use Rattle.std.proofs.lemmas.Bool.{ne_eqb}
use Rattle.rx_lanes.specs.declared.names.LaneName.{LaneName}
use Rattle.rx_pool.specs.Pool.{changed, joined}
use Rattle.rx_roles.specs.declared.roles.Role.{Role}
use Rattle.rx_roles.specs.Roles.{AreBelow}
use Rattle.rx_roles.proofs.Laws.RolesTaken.{role_of-append}
use Rattle.rx_pool.specs.Places.{place_role}
use Rattle.rx_engine.specs.declared.parts.Parts.{Parts}
use Rattle.rx_engine.specs.declared.homes.Home.{Home}
use Rattle.rx_engine.specs.Deliveries.{many_at}
use Rattle.rx_engine.specs.Rooms.{role_if, role_count, named, IsReady, IsRoomier}
use Rattle.rx_engine.specs.Sharings.{connection_home, Names, Connects, ConnectsIf, Subscribes}
use Rattle.rx_engine.proofs.LanesGiven.{enters_many, enters_few, enters_from}

-- no role has a number from there on, also with one role more before it
pub below_more : (list : List Role) (r : Role) (start end : ℕ) → AreBelow list start → start < end → r.number ≡ start → AreBelow (list ++ r ∷ []) end
below_more list r start end below l here n past =
    role_of-append list r n (below n (omega arith)) ∙
    ap (λ (b : Bool). if b then Some r else None) (ne_eqb r.number n (λ is. let s : r.number ≡ n = is in omega arith))

-- from p to q: a node of this number has its home and its roles, and names the hub at this place, and so does a connection, if there is one
pub record IsGiven (p q : Parts) (n : ℕ) (hears merges : Bool) (place word : ℕ) (second : Bool) : Type 0 where
  pub home : Role
  pub home_is : home.number ≡ n
  pub other : Role
  pub other_is : other.number ≡ n + 1
  pub homes : q.homes.list ≡ (p.homes.list ++ home ∷ []) ++ role_if second other
  pub ear : Role
  pub ear_is : ear.number ≡ n
  pub hears_are : q.hears.list ≡ p.hears.list ++ role_if hears ear
  pub merge : Role
  pub merge_is : merge.number ≡ n
  pub merges_are : q.merges.list ≡ p.merges.list ++ role_if merges merge
  pub holds : q.holds.list ≡ p.holds.list
  pub shares : q.shares.list ≡ (p.shares.list ++ place_role n place ∷ []) ++ (if second then place_role (n + 1) place ∷ [] else [])
  pub hubs : q.shares.hubs ≡ (if second then changed (joined word) place (changed (joined word) place p.shares.hubs) else changed (joined word) place p.shares.hubs)
  pub many : ((name : LaneName) → many_at p.lanes name ≡ named name p) → (name : LaneName) → many_at q.lanes name ≡ named name q
  pub few : role_count q ≤ role_count p + 4

-- who names a hub changes nothing else
names_many : (p q : Parts) (number place word : ℕ) → Names p number place word q → ((name : LaneName) → many_at p.lanes name ≡ named name p) →
    (name : LaneName) → many_at q.lanes name ≡ named name q
names_many p q number place word n many = subst (λ (x : Parts). (name : LaneName) → many_at x.lanes name ≡ named name x) (sym n.only) many

names_few : (p q : Parts) (number place word : ℕ) → Names p number place word q → role_count q ≡ role_count p
names_few p q number place word n = ap role_count n.only

-- a connection
pub connects_given : (p q : Parts) (n place word : ℕ) → Connects p n place word q → IsGiven p q n false false place word false
connects_given p q n place word c =
    let only = c.names.only in
    let e = c.houses in
    record {
      home = record { number = n; word = place; lane = c.name };
      home_is = refl;
      other = record { number = n + 1; word = place; lane = c.name };
      other_is = refl;
      homes = ap (λ (x : Parts). x.homes.list) only ∙ e.homes_is ∙ sym (append-nil (p.homes.list ++ (record { number = n; word = place; lane = c.name }) ∷ []));
      ear = record { number = n; word = 0; lane = c.name };
      ear_is = refl;
      hears_are = ap (λ (x : Parts). x.hears.list) only ∙ e.hears_is.list;
      merge = record { number = n; word = 0; lane = c.name };
      merge_is = refl;
      merges_are = ap (λ (x : Parts). x.merges.list) only ∙ e.merges_is.list;
      holds = ap (λ (x : Parts). x.holds.list) only ∙ e.holds;
      shares = c.names.joins.list ∙ ap (λ (rs : List Role). rs ++ place_role n place ∷ []) e.shares ∙ sym (append-nil (p.shares.list ++ place_role n place ∷ []));
      hubs = c.names.joins.hubs ∙ ap (changed (joined word) place) e.hubs;
      many = λ many. names_many c.housed q n place word c.names (enters_many p c.housed n false false 0 (connection_home place) c.name many e);
      few = let f = enters_few p c.housed n false false 0 (connection_home place) c.name e in let s = names_few c.housed q n place word c.names in omega (arith, f, s);
    }

-- a subscriber alone, and one that connects
pub subscribes_given : (p q : Parts) (n : ℕ) (hears : Bool) (user : ℕ) (home : Home) (place word : ℕ) (second : Bool) →
    Subscribes p n hears user home place word (if second then Some (n + 1) else None) q → IsGiven p q n hears false place word second
subscribes_given p q n hears user home place word false d =
    let same = d.connects in
    let only = same ∙ d.names.only in
    let e = d.enters in
    record {
      home = record { number = n; word = home.limit; lane = d.name };
      home_is = refl;
      other = record { number = n + 1; word = place; lane = d.name };
      other_is = refl;
      homes = ap (λ (x : Parts). x.homes.list) only ∙ e.homes_is ∙ sym (append-nil (p.homes.list ++ (record { number = n; word = home.limit; lane = d.name }) ∷ []));
      ear = record { number = n; word = user; lane = e.hears_is.name };
      ear_is = refl;
      hears_are = ap (λ (x : Parts). x.hears.list) only ∙ e.hears_is.list;
      merge = record { number = n; word = user; lane = e.merges_is.name };
      merge_is = refl;
      merges_are = ap (λ (x : Parts). x.merges.list) only ∙ e.merges_is.list;
      holds = ap (λ (x : Parts). x.holds.list) only ∙ e.holds;
      shares = ap (λ (x : Parts). x.shares.list) same ∙ d.names.joins.list ∙ ap (λ (rs : List Role). rs ++ place_role n place ∷ []) e.shares ∙
          sym (append-nil (p.shares.list ++ place_role n place ∷ []));
      hubs = ap (λ (x : Parts). x.shares.hubs) same ∙ d.names.joins.hubs ∙ ap (changed (joined word) place) e.hubs;
      many = λ many. subst (λ (x : Parts). (name : LaneName) → many_at x.lanes name ≡ named name x) (sym same)
          (names_many d.entered d.named n place word d.names (enters_many p d.entered n hears false user home d.name many e));
      few =
          let f = enters_few p d.entered n hears false user home d.name e in let s = names_few d.entered d.named n place word d.names in
          let t = ap role_count same in omega (arith, f, s, t);
    }
subscribes_given p q n hears user home place word true d =
    let c = d.connects in
    let second = connects_given d.named q (n + 1) place word c in
    let first = d.names.only in
    let e = d.enters in
    record {
      home = record { number = n; word = home.limit; lane = d.name };
      home_is = refl;
      other = second.home;
      other_is = second.home_is;
      homes = second.homes ∙ append-nil (d.named.homes.list ++ second.home ∷ []) ∙
          ap (λ (rs : List Role). rs ++ second.home ∷ []) (ap (λ (x : Parts). x.homes.list) first ∙ e.homes_is);
      ear = record { number = n; word = user; lane = e.hears_is.name };
      ear_is = refl;
      hears_are = second.hears_are ∙ append-nil d.named.hears.list ∙ ap (λ (x : Parts). x.hears.list) first ∙ e.hears_is.list;
      merge = record { number = n; word = user; lane = e.merges_is.name };
      merge_is = refl;
      merges_are = second.merges_are ∙ append-nil d.named.merges.list ∙ ap (λ (x : Parts). x.merges.list) first ∙ e.merges_is.list;
      holds = second.holds ∙ ap (λ (x : Parts). x.holds.list) first ∙ e.holds;
      shares = second.shares ∙ append-nil (d.named.shares.list ++ place_role (n + 1) place ∷ []) ∙
          ap (λ (rs : List Role). rs ++ place_role (n + 1) place ∷ []) (d.names.joins.list ∙ ap (λ (rs : List Role). rs ++ place_role n place ∷ []) e.shares);
      hubs = second.hubs ∙ ap (changed (joined word) place) (d.names.joins.hubs ∙ ap (changed (joined word) place) e.hubs);
      many = λ many. second.many (names_many d.entered d.named n place word d.names (enters_many p d.entered n hears false user home d.name many e));
      few =
          let f = enters_few p d.entered n hears false user home d.name e in let s = names_few d.entered d.named n place word d.names in
          let g = enters_few d.named c.housed (n + 1) false false 0 (connection_home place) c.name c.houses in let t = names_few c.housed q (n + 1) place word c.names in
          omega (arith, f, s, g, t);
    }

-- so there is room for what is last told of all of them
pub ready_given : (p q : Parts) (n : ℕ) (hears merges : Bool) (place word : ℕ) (second : Bool) → IsReady 4 p → IsGiven p q n hears merges place word second →
    q.effects ≡ p.effects → q.lanes.spare ≡ p.lanes.spare → IsReady 0 q
ready_given p q n hears merges place word second ready g effects spare =
    let few = g.few in let room = ready.room in let kept = ap (λ x. x.room) effects in let spared = ready.spare in
    record {
      empty = ap (λ x. x.list) effects ∙ ready.empty;
      many = g.many ready.many;
      room = omega (arith, few, room, kept);
      spare = omega (arith, few, spared, spare);
    }

-- with room that was gotten before
pub subscribes_from : (p p' q : Parts) (n n' : ℕ) (hears : Bool) (user : ℕ) (home : Home) (place word : ℕ) (second second' : Option ℕ) → IsRoomier p p' → n' ≡ n → second' ≡ second →
    Subscribes p' n' hears user home place word second' q → Subscribes p n hears user home place word second q
subscribes_from p p' q n n' hears user home place word second second' r same both d = record {
  name = d.name;
  entered = d.entered;
  enters = enters_from p p' d.entered n n' hears false user home d.name r same d.enters;
  named = d.named;
  names = subst (λ (m : ℕ). Names d.entered m place word d.named) same d.names;
  connects = subst (λ (o : Option ℕ). ConnectsIf d.named o place word q) both d.connects;
}

pub connects_from : (p p' q : Parts) (n n' place word : ℕ) → IsRoomier p p' → n' ≡ n → Connects p' n' place word q → Connects p n place word q
connects_from p p' q n n' place word r same c = record {
  name = c.name;
  housed = c.housed;
  houses = enters_from p p' c.housed n n' false false 0 (connection_home place) c.name r same c.houses;
  names = subst (λ (m : ℕ). Names c.housed m place word q) same c.names;
}
