use Rattle.rx_listing.proofs.Common.{◌≡◌, ℕ, unwrap_or, nat_eq, get, connection_by, uses_by, IsCountable}
use Rattle.rx_listing.proofs.seen.seen_of.Given as goal

abbrev pub invariant-places : goal.invariant-places
invariant-places g l = record {
  uses : (r : ℕ) → IsCountable l.book l.known.past.now r → unwrap_or (get nat_eq l.seen.uses r) 0 ≡ uses_by l.book l.known.past.now l.place r;
  connections : (c : ℕ) → get nat_eq l.seen.connections c ≡ connection_by l.book l.known.past.now l.place c;
}
