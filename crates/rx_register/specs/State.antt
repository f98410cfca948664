-- What a register is to its callers, and what it promises at every moment.
use Rattle.std.specs.Prelude.{◌≡◌, ℕ, ◌+◌, ◌≤◌, List, [], ◌++◌, length}
use Rattle.rx_event.specs.declared.mail.Mail.{Mail}
use Rattle.rx_event.specs.declared.event.Event.{Event}
use Rattle.rx_event.specs.Kept.{Kept, shown}
use Rattle.rx_event.specs.Bases.{base_of}
use Rattle.rx_event.specs.Notes.{notes}
use Rattle.rx_event.specs.Lawful.{IsLawful}
use Rattle.rx_event.specs.Totals.{debt, open_count, item_count, accepted_count, taken_count}
use Rattle.rx_register.specs.declared.load.Load.{Load}

-- the greatest limit on the events since a base
abbrev pub greatest_limit : ℕ
greatest_limit = 4294967295

-- what a checkpoint kept of the events before it; all that happened, as one list with that, and how much may since; for how many
-- more events memory is set aside; how many notes were handed out; the notes of the event that comes next, as far as they were told;
-- and for how many more notes memory is there
pub record State : Type 0 where
  pub base : Kept
  pub history : List Event
  pub limit : ℕ
  pub room : ℕ
  pub given : ℕ
  pub pending : List Mail
  pub mail_room : ℕ

-- each event could follow those before it, and no limit is passed by those since the base, nor by what closing all that the base
-- shows may need; and no total is more than the number of events
pub record IsPromised (s : State) : Type 0 where
  pub lawful : IsLawful s.base s.history
  pub limited : s.limit ≤ greatest_limit
  pub begun : s.base.at_length ≤ length s.history
  pub placed : s.base.at_length ≤ 9223372036854775807
  pub closing : debt s.base (shown s.base) ≤ s.limit
  pub within : length s.history ≤ s.base.at_length + s.limit
  pub room : length s.history + s.room ≤ s.base.at_length + s.limit
  pub given : s.given ≤ length (notes s.history)
  pub few_items : item_count s.base s.history ≤ length s.history
  pub few_accepted : accepted_count s.base s.history ≤ length s.history
  pub few_taken : taken_count s.base s.history ≤ length s.history

-- how many nodes are open, and how many events closing everything may still need
pub record IsLoadOf (base : Kept) (h : List Event) (load : Load) : Type 0 where
  pub open_count : load.open ≡ open_count h
  pub debt : load.debt ≡ debt base h

-- new is old with these events written and their notes told: each took a place of the room, and nothing was handed out
pub record Writes (old : State) (events : List Event) (new : State) : Type 0 where
  pub base : new.base ≡ old.base
  pub history : new.history ≡ old.history ++ events
  pub limit : new.limit ≡ old.limit
  pub given : new.given ≡ old.given
  pub pending : new.pending ≡ []
  pub room : new.room + length events ≡ old.room
  pub mail_room : new.mail_room + length (notes new.history) ≡ old.mail_room + length (notes old.history)

-- what old leaves stands in place of its base and its events: nothing happened since, nothing was told since, and there is room for
-- just so many events
pub record Rebases (old new : State) (reserved : ℕ) : Type 0 where
  pub base : new.base ≡ base_of old.base old.history
  pub history : new.history ≡ shown new.base
  pub limit : new.limit ≡ old.limit
  pub room : new.room ≡ reserved
  pub given : new.given ≡ 0
  pub pending : new.pending ≡ []
  pub mail_room : new.mail_room ≡ old.mail_room
