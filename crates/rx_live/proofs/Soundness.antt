-- A session stays sound as its book goes on.
use Rattle.rx_live.proofs.Common.{◌≡◌, ℕ, ◌≤◌, true, false, Some, Result, length, refl, sym, ap, ◌∙◌, arith, List, [], IfErr, OnOk, OnErr, is_some, Refusal}
use Rattle.rx_live.proofs.Common.{none-some, Event, is_out, is_out_past, IsPaired, State, is_kept, IsPromised, Request, Accepts, IsCauseOrWant, step_longer}
use Rattle.rx_live.proofs.Common.{Outcome, Session, IsSound, IsNewSession, outcome_of, CarriesSoundly, keeps_resources, keeps_leases, kept_same, out_same}
use Rattle.std.proofs.Common.{rules}

pub accepted_longer : (old new : State) (asked : Request) → Accepts old asked new → length old.history ≤ length new.history
accepted_longer old new asked accepts = let l = step_longer old.base old.history new.history asked.call accepts.step in omega arith

-- a call that accepts and takes no resource, and gives and takes back no lease
pub sound_on : (s : Session) (asked : Request) (book : State) → IsSound s → IsPromised book → Accepts s.book asked book → keeps_resources asked.call ≡ true →
    keeps_leases asked.call ≡ true → IsSound (record s { book = book })
sound_on s asked book sound kept accepts resources leases = search (rules, kept, accepted_longer, kept_same, leases, out_same)

-- what is known of the book's answer to such a call
pub record Called {A : Type 0} (old : State) (asked : Request) (answer : Result A Refusal) (new : State) : Type 0 where
  pub kept : IsPromised new
  pub resources : keeps_resources asked.call ≡ true
  pub leases : keeps_leases asked.call ≡ true
  pub accepts : OnOk answer (Accepts old asked new)
  pub refuses : IfErr answer (IsCauseOrWant old asked)
  pub same : OnErr answer (new ≡ old)

-- what such a call is answered
pub goes_on : {A : Type 0} {s : Session} {asked : Request} {book : State} {answer : Result A Refusal} {outcome : Outcome} → IsSound s →
    Called s.book asked answer book → outcome ≡ outcome_of answer → CarriesSoundly s (Some asked) outcome (record s { book = book })
goes_on sound called is = search (rules, sound_on)

-- before the first line
kept_none : (r : ℕ) → is_kept [] r ≡ false
unfolding is_kept
kept_none r = refl

pub sound_start : {s : Session} → IsPromised s.book → IsNewSession s → IsPaired s.nodes → IsPaired s.hubs → IsPaired s.resources → IsPaired s.leases → IsSound s
sound_start kept fresh node_pairs hub_pairs resource_pairs lease_pairs = record {
  kept = kept;
  node_pairs = node_pairs;
  hub_pairs = hub_pairs;
  resource_pairs = resource_pairs;
  lease_pairs = lease_pairs;
  nodes = λ n past. fresh.nodes.1 n;
  hubs = λ n past. fresh.hubs.1 n;
  resources = λ r. ap is_some (fresh.resources.1 r) ∙ sym (ap (λ (h : List Event). is_kept h r) fresh.history ∙ kept_none r);
  leases = λ l. ap is_some (fresh.leases.1 l) ∙ sym (ap (λ (h : List Event). is_out h l) fresh.history ∙ is_out_past [] l (omega arith));
  unnamed = λ name is. absurd (none-some name (sym fresh.unnamed ∙ is));
}
