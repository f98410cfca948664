use Rattle.rx_register.proofs.RegisterStaysTied.{IsRebased, may_rebase, base_long, placed_base, rebased, rebases_seen}
use Rattle.rx_register.proofs.register.Register.rebase.Goals as goal
use Rattle.std.proofs.Common.{rules}

pub rebase-requires-clause-length : goal.rebase-requires-clause-length
rebase-requires-clause-length c = base_long c.self.inside _ _ c.self.view_is c.requires.base

pub rebase-requires-clause-placed : goal.rebase-requires-clause-placed
rebase-requires-clause-placed c = placed_base c.self.inside _ _ c.self.view_is c.requires.base c.requires.placed

-- the register over that base
made : (c : goal.After-self-1) → IsRebased c.self.inside (record c.self.inside { history = c.rebase.new.self; spare = 0 }) c.args.room
made c = search (rules, may_rebase)

pub invariant_of-self-2 : goal.invariant_of-self-2
invariant_of-self-2 c = rebased c.self.inside _ _ c.self.invariant (made c)

pub returns-clause-ok : goal.returns-clause-ok
returns-clause-ok c = rebases_seen c.self.inside _ _ _ c.self.view_is c.self.invariant (made c)
