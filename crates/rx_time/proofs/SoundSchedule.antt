-- What holds of every timeline, kept with one entry more and one less.
use Rattle.std.proofs.Common.{ℕ, ◌+◌, ◌<◌, ◌≤◌, ◌++◌, ◌∷◌, [], nat_eq, arith, rules}
use Rattle.std.proofs.lemmas.List.Elements.{All-push, All-weaker}
use Rattle.std.specs.Map.{remove_entry}
use Rattle.rx_time.specs.declared.work.Work.{Work}
use Rattle.rx_time.specs.Schedule.{Schedule, IsSound, schedule}
use Rattle.rx_time.proofs.Entries.{All-remove_entry, sorted-push, sorted-remove_entry}

module _ {T : Type 0} where
  pub IsSound-push : (s : Schedule T) (w : Work T) → IsSound s → s.clock ≤ w.due
      → IsSound (schedule s.clock (s.tickets + 1) (s.work ++ (s.tickets, w) ∷ []))
  IsSound-push s w sound ahead = record {
    ascending = sorted-push s.work s.tickets w sound.ascending sound.given;
    given = All-push (λ e. e.0 < s.tickets + 1) s.work (s.tickets, w)
        (All-weaker (λ e. e.0 < s.tickets) (λ e. e.0 < s.tickets + 1) (λ e h. omega arith) s.work sound.given) (omega arith);
    ahead = All-push (λ e. s.clock ≤ e.1.due) s.work (s.tickets, w) sound.ahead ahead;
  }

  pub IsSound-without : (s : Schedule T) (t : ℕ) → IsSound s → IsSound (schedule s.clock s.tickets (remove_entry (nat_eq t) s.work))
  IsSound-without s t sound = search (rules, sorted-remove_entry, nat_eq, All-remove_entry)
