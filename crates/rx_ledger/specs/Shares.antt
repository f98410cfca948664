-- What a thread's seat holds, and what all seats hold together. There is no public standard of this:
-- it is bookkeeping between threads.
use Rattle.std.specs.Prelude.{◌≡◌, ℕ, ◌+◌, ◌≤◌, List, sum_by}
use Rattle.rx_ledger.specs.declared.ledgers.Sums.{Sums}

-- the parts of each ledger
abbrev pub all_parts : ℕ
all_parts = 1048576

-- a share of the items, of the accepted and of the taken resources, and the parts of their ledgers that it stands on
pub record Shares : Type 0 where
  pub parts : ℕ
  pub items : ℕ
  pub accepted : ℕ
  pub taken : ℕ

-- a ledger of this name and these parts can be opened from a blank of that name and those parts, and has all of them
abbrev pub OpensFromBlank : (name parts blank_name blank_parts : ℕ) → Type 0
OpensFromBlank name parts blank_name blank_parts = (blank_name ≡ name) × (blank_parts ≡ parts) × (parts ≡ all_parts)

-- what was counted, without the parts
abbrev pub sums_in : Shares → Sums
sums_in s = record { items = s.items; accepted = s.accepted; taken = s.taken }

-- the seat that has counted all, with all parts
abbrev pub whole : Sums → Shares
whole sums = record { parts = all_parts; items = sums.items; accepted = sums.accepted; taken = sums.taken }

-- a seat that has counted nothing, with one part
abbrev pub new_seat : Shares
new_seat = record { parts = 1; items = 0; accepted = 0; taken = 0 }

-- the shares and parts of two, added up
abbrev pub plus : Shares → Shares → Shares
plus a b = record {
  parts = a.parts + b.parts;
  items = a.items + b.items;
  accepted = a.accepted + b.accepted;
  taken = a.taken + b.taken;
}

-- the shares and parts of all, added up
abbrev pub together : List Shares → Shares
together seats = record {
  parts = sum_by (λ s. s.parts) seats;
  items = sum_by (λ s. s.items) seats;
  accepted = sum_by (λ s. s.accepted) seats;
  taken = sum_by (λ s. s.taken) seats;
}

-- no share is above its total
pub record IsWithin (shares : Shares) (sums : Sums) : Type 0 where
  pub items : shares.items ≤ sums.items
  pub accepted : shares.accepted ≤ sums.accepted
  pub taken : shares.taken ≤ sums.taken
