-- How what a register keeps is tied to its history. No public clause cites this module.
use Rattle.std.specs.Prelude.{◌≡◌, ◌+◌, ◌-◌, ◌≤◌, length, take, drop}
use Rattle.std.specs.VecDeque.{deque_len, deque_capacity}
use Rattle.rx_event.specs.Kept.{shown}
use Rattle.rx_event.specs.Notes.{notes}
use Rattle.rx_event.specs.Totals.{item_count, accepted_count, taken_count, debt}
use Rattle.rx_event.specs.Lawful.{IsLawful}
use Rattle.rx_register.specs.declared.register.Register.TheInside.{Inside}
use Rattle.rx_register.specs.State.{State, greatest_limit}

-- what callers see
abbrev pub state_of : Inside → State
state_of a = record {
  base = a.history.base;
  history = a.history.events;
  limit = a.history.limit;
  room = a.history.room - a.spare;
  given = length (notes a.history.events) - a.told;
  pending = drop a.told a.mail.items;
  mail_room = deque_capacity a.mail - deque_len a.mail;
}

pub record IsTied (a : Inside) : Type 0 where
  pub lawful : IsLawful a.history.base a.history.events
  pub limited : a.history.limit ≤ greatest_limit
  pub begun : a.history.base.at_length ≤ length a.history.events
  pub placed : a.history.base.at_length ≤ 9223372036854775807
  pub closing : debt a.history.base (shown a.history.base) ≤ a.history.limit
  pub within : length a.history.events + a.history.room ≤ a.history.base.at_length + a.history.limit
  pub limit : a.limit ≡ a.history.limit
  pub item_total : a.item_total ≡ item_count a.history.base a.history.events
  pub accepted_total : a.accepted_total ≡ accepted_count a.history.base a.history.events
  pub taken_total : a.taken_total ≡ taken_count a.history.base a.history.events
  -- what is spare is a part of the room
  pub spare : a.spare ≤ a.history.room
  -- no more than there were events
  pub few_items : item_count a.history.base a.history.events ≤ length a.history.events
  pub few_accepted : accepted_count a.history.base a.history.events ≤ length a.history.events
  pub few_taken : taken_count a.history.base a.history.events ≤ length a.history.events
  -- the queue begins with the notes of written events that were not handed out
  pub some_told : a.told ≤ length (notes a.history.events)
  pub queued : a.told ≤ length a.mail.items
  pub mail : take a.told a.mail.items ≡ drop (length (notes a.history.events) - a.told) (notes a.history.events)
