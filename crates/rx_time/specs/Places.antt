-- Places of entries: a due time and a ticket.
use Rattle.std.specs.Prelude.{ℕ, Option, Some, None, nat_le, if◌then◌else◌}

-- of two places the one that is due first, and at a tie the first one
abbrev pub earlier_place : Option (ℕ × ℕ) → Option (ℕ × ℕ) → Option (ℕ × ℕ)
earlier_place None other = other
earlier_place (Some a) None = Some a
earlier_place (Some a) (Some b) = if nat_le a.0 b.0 then Some a else Some b
