-- How a seat's numbers are tied to its shares. No public clause cites this module.
use Rattle.std.specs.Prelude.{◌≡◌, ℕ, ◌%◌, ◌^◌}

-- the share stands on the seat's parts, and the number is its amount modulo 2^64
abbrev pub IsCount : (seat_parts number share_parts amount : ℕ) → Type 0
IsCount seat_parts number share_parts amount = (share_parts ≡ seat_parts) × (number ≡ amount % 2 ^ 64)
