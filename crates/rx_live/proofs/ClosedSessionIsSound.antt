-- A session that was closed is sound.
use Rattle.rx_live.proofs.Common.{◌≡◌, ℕ, Bool, true, false, List, [], map, sym, ap, ◌∙◌, inl, inr, ◌⊎◌, is_some, not, ◌&&◌, Event}
use Rattle.rx_live.proofs.Common.{Contains, list_any, none-some, makes_resource, is_take_of, at, is_out, is_held, is_waiting, is_taken, IsPromised, is_kept}
use Rattle.rx_live.proofs.Common.{IsPaired, Session, IsSound, IsSessionClosed}
use Rattle.std.proofs.lemmas.Bool.{false_from_ne_true}
use Rattle.std.proofs.Common.{rules}

kept_shape : (made held gone : Bool) → (made && not gone) ≡ true → (held ≡ true) ⊎ ((made && not held && not (made && gone)) ≡ true)
kept_shape made x1 gone p = search rules

-- what is kept is held or waits
pub kept_where : (h : List Event) (r : ℕ) → is_kept h r ≡ true → (is_held h r ≡ true) ⊎ (is_waiting h r ≡ true)
unfolding is_waiting is_taken is_kept
kept_where h r kept = kept_shape (at makes_resource h r) (is_held h r) (list_any (is_take_of r) h) kept

none_in : {L : Type 0} (number : L → ℕ) (ls : List L) (r : ℕ) → ls ≡ [] → Contains (map number ls) r → ⊥
none_in {L} number ls r none within = search (rules, map)

pub closed_sound : (t : Session) → IsPromised t.book → IsSessionClosed t → IsPaired t.nodes → IsPaired t.hubs → IsPaired t.resources → IsPaired t.leases
    → IsSound t
closed_sound t kept closed nodes hubs resources leases = record {
  kept = kept;
  node_pairs = nodes;
  hub_pairs = hubs;
  resource_pairs = resources;
  lease_pairs = leases;
  nodes = λ n past. closed.nodes.1 n;
  hubs = λ n past. closed.hubs.1 n;
  resources = λ r. ap is_some (closed.resources.1 r) ∙ sym (none_kept r);
  leases = λ l. ap is_some (closed.leases.1 l) ∙
      sym (false_from_ne_true (is_out t.book.history l) (λ out. none_in (λ k. k.number) t.book.lease_keys l closed.none_out (kept.lease_keys.every l out)));
  unnamed = λ name is. absurd (none-some name (sym closed.unnamed ∙ is));
} where
  by_where : (r : ℕ) → (is_held t.book.history r ≡ true) ⊎ (is_waiting t.book.history r ≡ true) → ⊥
  by_where r (inl held) = none_in (λ k. k.number) t.book.held r closed.none_held (kept.held.every r held)
  by_where r (inr waits) = none_in (λ k. k.number) t.book.waiting r closed.none_waits (kept.waiting.every r waits)

  none_kept : (r : ℕ) → is_kept t.book.history r ≡ false
  none_kept r = false_from_ne_true (is_kept t.book.history r) (λ there. by_where r (kept_where t.book.history r there))
