-- What a command asks, by its numbers.
use Rattle.std.specs.Prelude.{ℕ, ◌==◌, ◌&&◌, nat_lt, Bool, true, false, Option, Some, None, is_some, option_map, if◌then◌else◌}
use Rattle.std.specs.Option.{option_and_then}
use Rattle.std.proofs.Math.Bool.{not}
use Rattle.std.proofs.Common.{◌/◌, ◌%◌}
use Rattle.rx_event.specs.declared.event.Kind.{Kind}
use Rattle.rx_event.specs.declared.event.Kind.TheVariants.{Leaf, Pass, Flat, Switch, Until}
use Rattle.rx_event.specs.declared.event.Mode.{Mode}
use Rattle.rx_event.specs.declared.event.Mode.TheVariants.{Auto, Manual}
use Rattle.rx_tree.specs.declared.node.ResKey.{ResKey}
use Rattle.rx_ground.specs.declared.leases.LeaseKey.{LeaseKey}
use Rattle.rx_book.specs.declared.answer.At.{At}
use Rattle.rx_pool.specs.declared.search.Share.{Share}
use Rattle.rx_engine.specs.declared.parts.User.{User}
use Rattle.rx_engine.specs.declared.homes.LaneOf.{LaneOf}
use Rattle.rx_engine.specs.declared.homes.LaneOf.TheVariants.{Node, Projections}
use Rattle.rx_cellar.specs.declared.shapes.NumberedKey.{NumberedKey}
use Rattle.rx_cellar.specs.Codes.{key_of, place_at}
use Rattle.rx_cellar.specs.declared.shapes.Command.{Command}
use Rattle.rx_cellar.specs.declared.asked.OwnKind.{OwnKind}
use Rattle.rx_cellar.specs.declared.asked.OwnKind.TheVariants.{Leaf as OwnLeaf, Pass as OwnPass, Flat as OwnFlat, Switch as OwnSwitch, Until as OwnUntil}
use Rattle.rx_cellar.specs.declared.asked.OpenedAs.{OpenedAs}
use Rattle.rx_cellar.specs.declared.asked.OpenedAs.TheVariants.{Own, Of}
use Rattle.rx_cellar.specs.declared.asked.Item.{Item}
use Rattle.rx_cellar.specs.declared.asked.Asked.{Asked}
use Rattle.rx_cellar.specs.declared.asked.Asked.TheVariants.{Open, Subscribe, Using, Hold, Next, Complete, Error, Fail, Decline, Dispose, Connect, Disconnect}
use Rattle.rx_cellar.specs.declared.asked.Asked.TheVariants.{Put, Shut, Abort, Apply, Remove, Lease, GiveBack}

-- the kind that the book has
abbrev pub kind_of : OwnKind → Kind
kind_of OwnLeaf = Leaf
kind_of OwnPass = Pass
kind_of OwnFlat = Flat
kind_of OwnSwitch = Switch
kind_of OwnUntil = Until

abbrev pub share_of : Command → Mode → Share
share_of c mode = record { word = c.value; mode = mode; level = c.level }

-- how a node is opened: as one of a kind, or as a subscriber of a share
abbrev pub opened_as : Command → Option OpenedAs
opened_as c = if c.kind == 0 then Some (Own OwnLeaf) else if c.kind == 1 then Some (Own OwnPass) else if c.kind == 2 then Some (Own OwnFlat)
    else if c.kind == 3 then Some (Own OwnSwitch) else if c.kind == 4 then Some (Own OwnUntil)
    else if c.kind == 5 then Some (Of (share_of c Auto)) else if c.kind == 6 then Some (Of (share_of c Manual)) else None

-- whose lane a root has: by the flags 2 and 4, of which the second wants the first
abbrev pub lane_asked : ℕ → NumberedKey → Option (Option LaneOf)
lane_asked code node = if code == 0 then Some None else if code == 1 then Some (Some (Node (key_of node)))
    else if code == 3 then Some (Some (Projections (key_of node))) else None

-- what the face says of a node: below another it may only wish, by the flag 1
abbrev pub user_of : Command → Option User
user_of c = if not (c.place == 0) && nat_lt 1 c.flags then None
    else option_map (λ lane. record { word = c.user; lane = lane; wished = c.flags % 2 == 1 }) (lane_asked (c.flags / 2) c.node)

abbrev pub opening_as : Command → At → User → OpenedAs → Asked
opening_as c at user (Own kind) = Open at kind user
opening_as c at user (Of share) = Subscribe at share c.hub user

abbrev pub opening_of : Command → Option Asked
opening_of c = option_and_then (λ at. option_and_then (λ user. option_map (opening_as c at user) (opened_as c)) (user_of c)) (place_at c.place c.node)

abbrev pub using_of : Command → Option Asked
using_of c = option_and_then (λ at. option_map (λ user. Using at user c.value) (user_of c)) (place_at c.place c.node)

-- an item, which may be handed out but for the flag 8
abbrev pub next_of : Command → Option Asked
next_of c = if c.flags == 0 then Some (Next (key_of c.node) c.value true) else if c.flags == 8 then Some (Next (key_of c.node) c.value false) else None

abbrev pub connect_of : Command → Option Asked
connect_of c = if nat_lt 1 c.flags then None
    else Some (Connect (share_of c Manual) c.hub (record { word = c.user; lane = None; wished = c.flags == 1 }))

-- into the lane of a node, or with the flag 4 into that of what it projects
abbrev pub put_of : Command → Option Asked
put_of c = if c.flags == 0 then Some (Put (Node (key_of c.node)) c.user c.value)
    else if c.flags == 4 then Some (Put (Projections (key_of c.node)) c.user c.value) else None

abbrev pub res_of : NumberedKey → ResKey
res_of n = record { slot = n.slot; number = n.number }

abbrev pub lease_of : NumberedKey → LeaseKey
lease_of n = record { slot = n.slot; number = n.number }

-- what has no flags
abbrev pub plain_of : Command → Option Asked
plain_of c = if c.what == 2 then Some (Hold (key_of c.node) c.value) else if c.what == 4 then Some (Complete (key_of c.node))
    else if c.what == 5 then Some (Error (key_of c.node) c.value) else if c.what == 6 then Some (Fail (key_of c.node) c.value)
    else if c.what == 7 then Some (Decline (key_of c.node)) else if c.what == 8 then Some (Dispose (key_of c.node))
    else if c.what == 10 then Some (Disconnect c.value c.hub) else if c.what == 12 then Some Shut
    else if c.what == 13 then Some (Abort (key_of c.node) c.value) else if c.what == 14 then Some (Apply (res_of c.node))
    else if c.what == 15 then Some (Remove (res_of c.node)) else if c.what == 16 then Some (Lease (res_of c.node))
    else if c.what == 17 then Some (GiveBack (lease_of c.node)) else None

abbrev pub by_code : Command → Option Asked
by_code c = if c.what == 0 then opening_of c else if c.what == 1 then using_of c else if c.what == 3 then next_of c else if c.what == 9 then connect_of c
    else if c.what == 11 then put_of c else if c.flags == 0 then plain_of c else None

-- nothing where the spare field is not 0
abbrev pub asked_of : Command → Option Asked
asked_of c = if c.spare == 0 then by_code c else None

-- an item that may be handed out: it does not queue
abbrev pub item_asked : Asked → Option Item
item_asked (Next leaf value may_hand) = if may_hand then Some (record { leaf = leaf; value = value }) else None
item_asked _ = None

abbrev pub hands : Asked → Bool
hands asked = is_some (item_asked asked)

abbrev pub asks_item : Option Asked → Bool
asks_item None = false
asks_item (Some asked) = hands asked

-- by its numbers
abbrev pub is_emission : Command → Bool
is_emission c = (c.what == 3 && c.flags == 0) && c.spare == 0

abbrev pub asked_for : Item → Asked
asked_for item = Next item.leaf item.value true

-- one that waits in its lane
abbrev pub queued_for : Item → Asked
queued_for item = Next item.leaf item.value false

-- as its caller asks it: an item that is to wait is not handed out
abbrev pub asked_as : (waits : Bool) → Option Asked → Option Asked
asked_as waits (Some (Next leaf value may_hand)) = Some (Next leaf value (may_hand && not waits))
asked_as waits o = o
