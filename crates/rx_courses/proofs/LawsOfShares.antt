-- The laws of the pool, of the shares of an engine.
use Rattle.std.proofs.Common.{◌≡◌, ℕ, Bool, true, false, Ok, Err, Result, sym, ap, ◌∙◌, if◌then◌else◌}
use Rattle.rx_resource.specs.declared.Resource.{Ghosts}
use Rattle.rx_resource.specs.declared.token.Token.{Token}
use Rattle.rx_event.specs.declared.refusal.Refusal.{Refusal}
use Rattle.rx_event.specs.declared.refusal.Refusal.TheVariants.{HubOrder}
use Rattle.rx_event.proofs.Laws.Common.{nat_lt}
use Rattle.rx_pool.proofs.Laws.Choices.{chooses_admissible, refuses_where_none, keeps_its_hub}
use Rattle.rx_pool.proofs.Laws.CountsAfterStep.{free_serves_nobody}
use Rattle.rx_engine.specs.Sharings.{limit_for}
use Rattle.rx_courses.specs.SharesServed.{ServesShares}

abbrev place_of : Result ℕ Refusal → ℕ
place_of (Ok place) = place
place_of (Err why) = 0

place_is : (b : Bool) (place other : ℕ) → ◌≡◌ {A = Result ℕ Refusal} (if b then Ok place else Err HubOrder) (Ok other) → other ≡ place
place_is true place other is = sym (ap place_of is)
place_is false place other is = absurd (cc)

pub serves_shares : (g : Ghosts Token) → ServesShares g
serves_shares g = record {
  keeps = λ at share user by s t u kept made.
      (let chosen = made.done.0.chosen in
      let limit = limit_for s at user.lane in
      let admissible = chooses_admissible s.parts.shares.hubs share limit u.place kept.hubs.apart chosen.chosen in
      record {
        keeps = λ place own. place_is (nat_lt place limit) place u.place (sym (keeps_its_hub s.parts.shares.hubs share limit place kept.hubs.apart own)
            ∙ chosen.chosen);
        before = admissible.before;
        serves = admissible.serves;
      });
  refuses = λ share limit s why kept refused.
      (let r = refuses_where_none s.parts.shares.hubs share limit why kept.hubs.apart refused in record { none = r.0; why_is = r.1 });
  free = λ s i hub kept there none. free_serves_nobody s.book.history s.parts.shares.hubs kept.tied.shared.pool i hub there none;
}
