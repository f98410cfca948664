use Rattle.rx_ground.proofs.Common.{Option, Some, None, option_map, sym, ap, ◌∙◌, option_to_list, Key, AreTied}
use Rattle.rx_ground.proofs.Connections.{connection_known}
use Rattle.rx_ground.proofs.base.Ground.connection.Goals as goal

pub returns-in_err-get-clause-number : goal.returns-in_err-get-clause-number
returns-in_err-get-clause-number g c = let s = c.self.inside in let tied : AreTied s.register.base g.R.Resource s.register.history s.tree s.hubs = rw
    (← c.self.view_is) at c.requires.standing.tied in let none = connection_known s.register.history s.tree s.hubs c.promise.ensures.lawful tied _
    None (sym c.in_err-get.was ∙ c.get.ensures) in rw (← c.self.view_is) (ap (λ (o : Option Key). option_to_list (option_map (λ (key : Key).
    key.number) o)) c.from_residual.ensures ∙ none.number)

pub returns-clause-number : goal.returns-clause-number
returns-clause-number g c = let s = c.self.inside in let tied : AreTied s.register.base g.R.Resource s.register.history s.tree s.hubs = rw (←
    c.self.view_is) at c.requires.standing.tied in let known = connection_known s.register.history s.tree s.hubs c.promise.ensures.lawful tied _ (Some
    c.in_ok-get.field-0) (sym c.in_ok-get.was ∙ c.get.ensures) in rw (← c.self.view_is) known.number

pub returns-clause-there : goal.returns-clause-there
returns-clause-there g c = let s = c.self.inside in let tied : AreTied s.register.base g.R.Resource s.register.history s.tree s.hubs = rw (←
    c.self.view_is) at c.requires.standing.tied in let known = connection_known s.register.history s.tree s.hubs c.promise.ensures.lawful tied _ (Some
    c.in_ok-get.field-0) (sym c.in_ok-get.was ∙ c.get.ensures) in rw (← c.self.view_is) known.there
