-- A new engine has no role, and promises what every engine does.
use Rattle.std.proofs.Common.{◌≡◌, ℕ, ◌+◌, ◌&&◌, Option, None, slice_index_or, Bool, false, List, [], length, refl, sym, ap, ◌∙◌, arith}
use Rattle.std.proofs.lemmas.Bool.{false≢true}
use Rattle.rx_event.specs.declared.event.Event.{Event}
use Rattle.rx_event.proofs.Laws.Common.{at, is_open, is_root, is_merging}
unfoldable use Rattle.rx_event.proofs.Laws.Common.{notes, moments}
use Rattle.rx_event.proofs.Laws.Openness.{is_open_past}
use Rattle.rx_book.specs.State.{is_kept}
use Rattle.rx_book.proofs.Laws.LastsThroughSteps.{kept_past}
use Rattle.rx_pool.proofs.Laws.CountsAfterStep.{stays_the_pool}
use Rattle.rx_pool.specs.Places.{names_hub, AreShared}
use Rattle.rx_roles.specs.declared.roles.Role.{Role}
use Rattle.rx_roles.specs.Roles.{AreRolesOf}
use Rattle.rx_lanes.specs.State.{Opened, with_turn}
use Rattle.rx_roles.specs.declared.effect.Effect.{Effect}
use Rattle.rx_roles.specs.Effects.{names_of}
use Rattle.rx_engine.specs.Deliveries.{many_of}
use Rattle.rx_engine.specs.States.{State, IsTied, hears_in, merges_in}

no_notes : notes [] ≡ []
unfolding notes moments
no_notes = refl

none_of : (p : Event → Bool) (n : ℕ) → (is_open [] n && at p [] n) ≡ false
none_of p n = ap (λ (b : Bool). b && at p [] n) (is_open_past [] n (omega arith))

no_roles : (test : ℕ → Bool) (roles : List Role) → roles ≡ [] → ((n : ℕ) → test n ≡ false) → AreRolesOf test roles
no_roles test roles none nobody = rw none (record { there = λ n. sym (nobody n); once = λ n. refl })

none_shared : AreShared [] [] []
none_shared = record {
  places = no_roles (λ n. is_open [] n && at names_hub [] n) [] refl (none_of names_hub);
  pool = stays_the_pool.begins [];
  known = record { within = λ n p is. absurd (cc); named = λ n o i hub there. absurd (cc) };
}

pub new_tied : (s : State) → s.book.history ≡ [] → s.book.given ≡ 0 → s.book.waiting ≡ [] → s.parts.hears.list ≡ [] → s.parts.merges.list ≡ [] → s.parts.holds.list ≡ [] → s.parts.homes.list ≡ [] →
    s.parts.shares.list ≡ [] → s.parts.shares.hubs ≡ [] → s.parts.effects.list ≡ [] → s.parts.lanes.places ≡ [] → s.wishes.roles.list ≡ [] → IsTied s
new_tied s new given waiting hears merges holds homes shares hubs effects places wishes = record {
  given = given ∙ sym (ap length (ap notes new ∙ no_notes));
  none_waits = waiting;
  homes = rw new (no_roles (is_open []) s.parts.homes.list homes (λ n. is_open_past [] n (omega arith)));
  hears = rw new (no_roles (hears_in []) s.parts.hears.list hears (none_of is_root));
  merges = rw new (no_roles (merges_in []) s.parts.merges.list merges (none_of is_merging));
  holds = rw new (no_roles (is_kept []) s.parts.holds.list holds (λ n. kept_past [] n (omega arith)));
  shared = rw (new, shares, hubs) none_shared;
  ready = record {
    empty = effects;
    many = λ name.
        ap (λ (ps : List (Option (Opened Effect))). many_of (with_turn name.turn (slice_index_or ps name.place None))) places
        ∙ sym (λ i. names_of name (hears i) + names_of name (merges i) + names_of name (holds i) + names_of name (homes i));
    spare = let h = ap length hears in let m = ap length merges in let k = ap length holds in omega (arith, h, m, k);
    room = let h = ap length hears in let m = ap length merges in let k = ap length holds in omega (arith, h, m, k);
  };
  wishes = rw wishes (record { opens = λ n is. absurd (false≢true is); once = λ n. refl });
}
