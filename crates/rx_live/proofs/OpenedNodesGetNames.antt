-- Nodes that are opened and connected, and the names that they get.
use Rattle.rx_live.proofs.Common.{◌≡◌, ℕ, ◌+◌, ◌==◌, ◌<◌, ◌≤◌, Bool, true, false, cond, List, length, Option, Some, None, option_map, Result, refl}
use Rattle.rx_live.proofs.Common.{sym, ap, ◌∙◌, arith, subst, IfSome, OnErr, is_some, ◌||◌, or_parts, ne_eqb, bytes_eq, option_map_or, none-some, same_Some}
use Rattle.rx_live.proofs.Common.{Event, Kind, Name, Key, At, Opened, State, IsPromised, Request, open_request, connect_request, Accepts, IsOpened, Spot}
use Rattle.rx_live.proofs.Common.{connection_made, step_longer, Names, spot_of, name_of_number, IsPaired, AreSameNames, Binds, Session, IsSound}
use Rattle.rx_live.proofs.Common.{AreNamesPlaced, has_resource, AreOpenSame, IsAlike, IsUnchanged, NamesOne, using_at, is_open_taken, BindsMade, BindsNode}
use Rattle.rx_live.proofs.Common.{BindsUsing, BindsConnection, keeps_resources, keeps_leases, kept_same, out_same, kept_used, kept_past}
use Rattle.rx_live.proofs.Soundness.{accepted_longer}
use Rattle.rx_live.proofs.AcceptedBindsNames.{same_names, bound_after, none_of, some_cond, not_unnamed, placed_longer, placed_bound, sound_alike}
use Rattle.rx_live.proofs.NamesOfOpenNodes.{open_same, open_on, placed_open, made_placed, made_within}
use Rattle.std.proofs.Common.{rules}

-- sessions that differ in the names of nodes --------------------------------------------------------

pub alike_nodes : (s : Session) (t : Names) → AreOpenSame s.untold s.book s.nodes t → IsAlike s (record s { nodes = t })
alike_nodes s t same = search (rules, same_names)

pub unchanged_nodes : (s : Session) (t : Names) → IsSound s → AreOpenSame s.untold s.book s.nodes t → IsPaired t → IsUnchanged s (record s { nodes = t })
unchanged_nodes s t sound same paired = search (rules, alike_nodes, sound_alike)

-- and where room was made, too
pub unchanged_room : (s : Session) (mid t : Names) → IsSound s → AreOpenSame s.untold s.book s.nodes mid → AreSameNames mid t → IsPaired t →
    IsUnchanged s (record s { nodes = t })
unchanged_room s mid t sound same room paired = search (rules, unchanged_nodes, open_on, open_same)

pub unchanged_rooms : {s : Session} {mid : Names} (t r : Names) → IsSound s → AreOpenSame s.untold s.book s.nodes mid → AreSameNames mid t
    → AreSameNames s.resources r →
    IsPaired t → IsPaired r → IsUnchanged s (record s { nodes = t; resources = r })
unchanged_rooms {s} {mid} t r sound same room more paired pairs = search (rules, open_on, open_same, same_names, sound_alike)

-- what is bound has to be free -----------------------------------------------------------------------

other_free : (name : Name) (spot : Spot) (old new : Names) (other : Option Name) → Binds old name spot new → option_map_or (bytes_eq name) other false ≡ false →
    IfSome other (λ n. spot_of old n ≡ None) → IfSome other (λ n. spot_of new n ≡ None)
other_free name spot old new x4 binds apart free = search (rules, cond)

room_free : (mid t : Names) (other : Option Name) → AreSameNames mid t → IfSome other (λ n. spot_of mid n ≡ None) → IfSome other (λ n. spot_of t n ≡ None)
room_free mid t x2 room free = search rules

apart_of : (a b c : Bool) → (a || b || c) ≡ false → b ≡ false
apart_of a b c none = (or_parts a b (or_parts (a || b) c none).0).1

-- behind a node's own name that of its connection is free still
pub connection_free : (s : Session) {name : Name} {spot : Spot} {mid : Names} (t with_node : Names) (other : Option Name) → is_open_taken s name other ≡ false →
    AreSameNames mid t → Binds t name spot with_node → IfSome other (λ n. spot_of mid n ≡ None) → IfSome other (λ n. spot_of with_node n ≡ None)
connection_free s {name} {spot} {mid} t with_node other taken room binds free = search (rules, other_free, apart_of, option_map_or, bytes_eq, room_free)

made_number : (h k : List Event) (n : ℕ) → connection_made h k ≡ Some n → n ≡ length h + 1
made_number h k n is = search (rules, length, cond, same_Some, none-some)

-- and what was made has no name yet
pub made_unnamed : (h k : List Event) {old new : Names} {name : Name} {spot : Spot} → AreNamesPlaced h old → Binds old name spot new → spot.number ≡ length h →
    (made : Option Key) → option_map (λ key. key.number) made ≡ connection_made h k → IfSome made (λ key. name_of_number new key.number ≡ None)
made_unnamed h k placed binds is x5 e = search (rules, length, made_number, ne_eqb, cond)

-- an opened node -------------------------------------------------------------------------------------

nodes_sound : {s : Session} {asked : Request} {book : State} (t : Names) → IsSound s → IsPromised book → IsPaired t → AreNamesPlaced book.history t →
    Accepts s.book asked book → keeps_resources asked.call ≡ true → keeps_leases asked.call ≡ true → IsSound (record s { book = book; nodes = t })
nodes_sound {s} {asked} {book} t sound kept paired placed accepts resources leases = search (rules, placed, placed_longer, accepted_longer, kept_same, out_same)

-- names as some of closed nodes are forgotten, and as room is made
module _ {s : Session} {mid t : Names} (sound : IsSound s) (same : AreOpenSame s.untold s.book s.nodes mid) (room : AreSameNames mid t) where
  all_same : AreOpenSame s.untold s.book s.nodes t
  all_same = open_on s.untold s.book s.nodes mid t same (open_same s.untold s.book mid t room)

  pub placed : AreNamesPlaced s.book.history t
  placed = placed_open s.untold s.book.history s.book s.nodes t all_same sound.nodes

  module _ {book : State} {name : Name} {with_node new : Names} (node : NamesOne t name (length s.book.history) with_node)
      {o : Opened} (opened : IsOpened s.book book o) (connection : Option Name)
      (made : BindsMade with_node connection (option_map (λ k. k.number) o.connected) new) where
    pub opened_bound : BindsNode s name connection (record s { book = book; nodes = new })
    opened_bound = record {
      nodes = t;
      alike = alike_nodes s t all_same;
      with_node = with_node;
      node = node;
      made = subst (λ (m : Option ℕ). BindsMade with_node connection m new) opened.connection made;
      rest = refl;
    }

    pub opened_sound : (place : At) (kind : Kind) → IsPromised book → IsPaired new → Accepts s.book (open_request s.book place kind) book →
        IsSound (record s { book = book; nodes = new })
    opened_sound place kind kept paired accepts =
        let asked : Request = open_request s.book place kind in
        let steps = step_longer s.book.base s.book.history book.history asked.call accepts.step in
        let longer : length s.book.history < length book.history = omega arith in
        let one : AreNamesPlaced book.history with_node =
        placed_bound book.history (placed_longer s.book.history book.history t placed (omega arith)) node.binds
        (let l : node.spot.number ≡ length s.book.history = node.is in omega arith) in
        let two : AreNamesPlaced book.history new = made_placed book.history with_node new connection (connection_made s.book.history book.history)
        (subst (λ (m : Option ℕ). BindsMade with_node connection m new) opened.connection made) one (made_within s.book.history book.history) in
        nodes_sound new sound kept paired two accepts refl refl

-- one with a resource --------------------------------------------------------------------------------

module _ {s : Session} {mid t : Names} (sound : IsSound s) (same : AreOpenSame s.untold s.book s.nodes mid) (room : AreSameNames mid t)
    {name res : Name} {more nodes resources : Names} (node : NamesOne t name (length s.book.history) nodes)
    (grown : AreSameNames s.resources more) (held : NamesOne more res (length s.book.history + 1) resources) where
  held_binds : Binds s.resources res held.spot resources
  held_binds = bound_after s.resources more resources res held.spot grown held.binds

  pub used_bound : {book : State} → BindsUsing s name res (record s { book = book; nodes = nodes; resources = resources })
  used_bound = search (rules, alike_nodes, all_same, held_binds)

  pub used_sound : {book : State} (place : At) → IsPromised book → IsPaired nodes → IsPaired resources → has_resource s res ≡ false →
      Accepts s.book (using_at s.book place) book → IsSound (record s { book = book; nodes = nodes; resources = resources })
  used_sound {book} place kept pairs paired free accepts =
      let asked : Request = using_at s.book place in
      let steps = step_longer s.book.base s.book.history book.history asked.call accepts.step in
      let longer : length s.book.history < length book.history = omega arith in
      record {
        kept = kept;
        node_pairs = pairs;
        hub_pairs = sound.hub_pairs;
        resource_pairs = paired;
        lease_pairs = sound.lease_pairs;
        nodes = placed_bound book.history (placed_longer s.book.history book.history t (placed sound same room) (omega arith)) node.binds
            (let l : node.spot.number ≡ length s.book.history = node.is in omega arith);
        hubs = placed_longer s.book.history book.history s.hubs sound.hubs (omega arith);
        resources = λ r. ap is_some (held_binds.names r) ∙ some_cond (held.spot.number == r) res (name_of_number s.resources r)
            ∙ (λ i. cond (held.is i == r) true (sound.resources r i)) ∙ sym (kept_used sound.kept.lawful accepts.step r);
        leases = λ l. sound.leases l ∙ sym (out_same asked.call accepts.step refl l);
        unnamed = λ n is. held_binds.spots n ∙ ap (λ (b : Bool). cond b (Some held.spot) (spot_of s.resources n)) (not_unnamed s res n free is)
            ∙ sound.unnamed n is;
      }

-- a number that is not given yet has no name
pub unnamed_past : (s : Session) (more : Names) (n : ℕ) → IsSound s → AreSameNames s.resources more → length s.book.history ≤ n → name_of_number more n ≡ None
unnamed_past s more n sound grown past = search (rules, none_of, kept_past)

-- a connection ---------------------------------------------------------------------------------------

module _ {s : Session} {mid t : Names} (sound : IsSound s) (same : AreOpenSame s.untold s.book s.nodes mid) (room : AreSameNames mid t)
    {book : State} {new : Names} (name : Option Name) (made : BindsMade t name (Some (length s.book.history)) new) where
  pub connected_bound : BindsConnection s name (record s { book = book; nodes = new })
  connected_bound = record { nodes = t; alike = alike_nodes s t (all_same sound same room); made = made; rest = refl }

  pub connected_sound : (hub : ℕ) → IsPromised book → IsPaired new → Accepts s.book (connect_request hub) book → IsSound (record s { book = book; nodes = new })
  connected_sound hub kept paired accepts =
      let asked : Request = connect_request hub in
      let steps = step_longer s.book.base s.book.history book.history asked.call accepts.step in
      let longer : length s.book.history < length book.history = omega arith in
      let all : AreNamesPlaced book.history new = made_placed book.history t new name (Some (length s.book.history)) made
      (placed_longer s.book.history book.history t (placed sound same room) (omega arith))
      (λ n is. let l : length s.book.history ≡ n = same_Some (length s.book.history) n is in omega arith) in
      nodes_sound new sound kept paired all accepts refl refl

-- outcomes -------------------------------------------------------------------------------------------

pub on_err : {A E : Type 0} (result : Result A E) (P : Type 0) → P → OnErr result P
on_err x0 x1 p = search rules

-- the book stays as it was
pub with_book : (s : Session) (book : State) (nodes resources : Names) → book ≡ s.book → IsUnchanged s (record s { nodes = nodes; resources = resources }) →
    IsUnchanged s (record s { book = book; nodes = nodes; resources = resources })
with_book s book nodes resources same unchanged = search rules
