use Rattle.rx_audit.proofs.children.zeros.Goals as goal

pub returns : goal.returns
returns c = c.in_ok-vec.ensures.items_if_clones_equal (λ y same. same)
