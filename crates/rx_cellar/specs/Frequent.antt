-- Frequent commands, which are read each for itself, and how an answer of the engine is told. No public clause cites this module.
use Rattle.std.specs.Prelude.{◌≡◌, ℕ, ◌==◌, ◌&&◌, Bool, true, false, Option, Some, None, Result, Ok, Err, option_map, if◌then◌else◌}
use Rattle.std.specs.Option.{option_and_then}
use Rattle.rx_event.specs.declared.refusal.Refusal.{Refusal}
use Rattle.rx_engine.specs.States.{State}
use Rattle.rx_cellar.specs.Codes.{key_of, place_at, refusal_status}
use Rattle.rx_cellar.specs.declared.shapes.Command.{Command}
use Rattle.rx_cellar.specs.declared.shapes.Answer.{Answer}
use Rattle.rx_cellar.specs.declared.making.Made.{Made}
use Rattle.rx_cellar.specs.declared.asked.Item.{Item}
use Rattle.rx_cellar.specs.declared.asked.Opening.{Opening}
use Rattle.rx_cellar.specs.declared.asked.Asked.{Asked}
use Rattle.rx_cellar.specs.declared.asked.Asked.TheVariants.{Open, Using}
use Rattle.rx_cellar.specs.Asking.{user_of}
use Rattle.rx_cellar.specs.Cellars.{told}

abbrev pub item_in : Command → Item
item_in c = record { leaf = key_of c.node; value = c.value }

-- where a node is opened, and for whom
abbrev pub opening_in : Command → Option Opening
opening_in c = if c.spare == 0 then option_and_then (λ at. option_map (λ user. record { at = at; user = user }) (user_of c)) (place_at c.place c.node) else None

abbrev pub has_no_flags : Command → Bool
has_no_flags c = c.flags == 0 && c.spare == 0

-- it opens no node, but as a subscriber of a share
abbrev pub is_rest : Asked → Bool
is_rest (Open at kind user) = false
is_rest (Using at user tag) = false
is_rest _ = true

abbrev pub rests : Option Asked → Bool
rests None = true
rests (Some asked) = is_rest asked

-- done, and all of it told; or refused, and nothing is told
abbrev pub IsToldOrRefused : Result Made Refusal → State → Answer → Answer → (status : ℕ) → Type 0
IsToldOrRefused (Ok made) e a b status = (b ≡ told made e a) × (status ≡ 0)
IsToldOrRefused (Err why) e a b status = (b ≡ a) × (status ≡ refusal_status why)
