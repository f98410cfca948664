-- What a dump of an engine answers into the caller's buffer. A prime marks the buffer after the call.
use Rattle.std.specs.Prelude.{◌≡◌, ◌≢◌, ℕ, List}
use Rattle.rx_dump.specs.Dump.{dump}
use Rattle.rx_book.specs.State.{State}
use Rattle.cellarcliff.specs.Answers.{IsGiven, IsTextTooLong, TellsNoText}

-- the dump of its history; or the buffer is too small (7), a checkpoint took events away (8), or memory was refused (4)
pub data IsHandedOver (s : State) (buffer buffer' : List ℕ) (told status : ℕ) : Type 0 where
  gives_dump : s.base.at_length ≡ 0 → IsGiven (dump s.history) buffer buffer' told → status ≡ 0 → IsHandedOver s buffer buffer' told status
  needs_room : s.base.at_length ≡ 0 → IsTextTooLong (dump s.history) buffer buffer' told → status ≡ 7 → IsHandedOver s buffer buffer' told status
  is_cut : s.base.at_length ≢ 0 → TellsNoText buffer buffer' told → status ≡ 8 → IsHandedOver s buffer buffer' told status
  is_starved : TellsNoText buffer buffer' told → status ≡ 4 → IsHandedOver s buffer buffer' told status
