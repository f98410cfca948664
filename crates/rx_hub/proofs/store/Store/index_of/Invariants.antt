use Rattle.rx_hub.proofs.Common.{ℕ, ◌<◌, ◌≤◌, ◌-◌, length, record_at}
use Rattle.rx_hub.proofs.store.Store.index_of.Given as goal

abbrev pub invariant-loop-low : goal.invariant-loop-low
invariant-loop-low l = record {
  ordered : l.low ≤ l.high;
  inside : l.high ≤ length l.self-inside.records.items;
  before : (i : ℕ) → i < l.low → (record_at l.self-inside.records.items i).number < l.number;
  behind : (i : ℕ) → l.high ≤ i → i < length l.self-inside.records.items → l.number < (record_at l.self-inside.records.items i).number;
}

abbrev pub decreases-loop-low : goal.decreases-loop-low
decreases-loop-low l = l.high - l.low
