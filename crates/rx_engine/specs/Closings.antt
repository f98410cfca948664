-- Who wants to know, in the answer of the command that closed it, that its node is closed.
use Rattle.std.specs.Prelude.{◌≡◌, ℕ, ◌≤◌, true, List, [], ◌∷◌, ◌++◌, is_some, None, option_map, length, vec_capacity}
use Rattle.std.specs.Option.{option_to_list}
use Rattle.rx_event.specs.declared.event.Event.{Event}
use Rattle.rx_event.specs.Tree.{is_open}
use Rattle.rx_book.specs.State.{State as BookState}
use Rattle.rx_lanes.specs.declared.names.LaneName.{LaneName}
use Rattle.rx_roles.specs.declared.roles.Role.{Role}
use Rattle.rx_roles.specs.Roles.{Table, role_of, without, without_all}
use Rattle.rx_engine.specs.declared.parts.User.{User}
use Rattle.rx_engine.specs.declared.wishes.Wishes.TheInside.{Inside}
use Rattle.rx_engine.specs.Rooms.{role_if}
use Rattle.rx_engine.specs.Settlements.{closed_of}

-- a role for each open node that wished, the words that the last accepted command closed, and for how many there is
-- room
pub record WishState : Type 0 where
  pub roles : Table
  pub closings : List ℕ
  pub capacity : ℕ

abbrev pub wishes_of : Inside → WishState
wishes_of a = record { roles = a.roles; closings = a.closings.items; capacity = vec_capacity a.closings }

-- each may close in one command
abbrev pub HasRoom : Inside → Type 0
HasRoom a = length a.roles.list ≤ vec_capacity a.closings

-- a closing goes to no lane
abbrev pub nowhere : LaneName
nowhere = record { place = 0; turn = 0 }

-- with the wish of a node of this number, where it wished
abbrev pub with_wish : List Role → (number : ℕ) → User → List Role
with_wish roles number user = roles ++ role_if user.wished
    (record { number = number; word = user.word; lane = nowhere })

-- the words of the roles of these numbers, each one taken out
abbrev pub words_taken : List Role → List ℕ → List ℕ
words_taken roles [] = []
words_taken roles (n ∷ ns) = option_to_list (option_map (λ r. r.word) (role_of roles n)) ++ words_taken
    (without roles n) ns

-- the roles of what the call closed are gone, and their words are the closings
pub record Closes (mid : BookState) (roles : List Role) (v : WishState) : Type 0 where
  pub roles_are : v.roles.list ≡ without_all roles (closed_of mid)
  pub closings_are : v.closings ≡ words_taken roles (closed_of mid)

-- who has a role is open, and has one
pub record AreWishes (h : List Event) (roles : List Role) : Type 0 where
  pub opens : (n : ℕ) → is_some (role_of roles n) ≡ true → is_open h n ≡ true
  pub once : (n : ℕ) → role_of (without roles n) n ≡ None
