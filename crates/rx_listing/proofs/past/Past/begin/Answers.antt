use Rattle.rx_listing.proofs.Common.{refl}
use Rattle.std.proofs.lemmas.Map.Entries.{entries_from_clone}
use Rattle.rx_listing.proofs.past.Past.begin.Goals as goal

pub returns-clause-uses : goal.returns-clause-uses
returns-clause-uses c =
    rw (entries_from_clone _ _ (λ x y same. same) (λ v w same. same) c.args.self.now.uses.entries c.in_ok-uses.uses.entries c.in_ok-uses.ensures.cases)
    (λ r. refl)

pub returns-clause-connections : goal.returns-clause-connections
returns-clause-connections c =
    rw (
    entries_from_clone _ _ (λ x y same. same) (λ v w same. same) c.args.self.now.connections.entries c.in_ok-connections.connections.entries
    c.in_ok-connections.ensures.cases
    ) (λ r. refl)
