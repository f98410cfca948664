use Rattle.rx_tree.proofs.Common.{◌≡◌, Bool, true, false, refl, sym, ◌∙◌, true≢false, not, Due, nodes_of, resources_of, next_of, previous_of}
use Rattle.rx_tree.proofs.CountSteps.{counted_relinked}
use Rattle.rx_tree.proofs.MarkSteps.{noted_already, noted_tied, noted_chain}
use Rattle.rx_tree.proofs.There.{slot_stands, previous_stands}
use Rattle.rx_tree.proofs.store.Store.note.Goals as goal
use Rattle.std.proofs.Common.{rules}

not_false : (b : Bool) → false ≡ not b → b ≡ true
not_false x0 e = search (rules, true≢false)

not_true : (b : Bool) → true ≡ not b → b ≡ false
not_true x0 e = search (rules, true≢false)

pub join-requires-clause-place : goal.join-requires-clause-place
join-requires-clause-place g c = slot_stands (nodes_of c.args.self.now) c.args.key c.requires.«open»

pub join-requires-clause-last : goal.join-requires-clause-last
join-requires-clause-last g c =
    let s = c.args.self.now in
    previous_stands (nodes_of s) (resources_of s) (next_of s) (previous_of s) c.requires.kept.tied Due refl

pub returns-then-not-is_noted-clause-kept : goal.returns-then-not-is_noted-clause-kept
returns-then-not-is_noted-clause-kept g c = record {
  tied = noted_tied _ _ c.requires.kept.tied c.requires.«open» _ (not_false _ (sym
      c.if-not-is_noted.true ∙ c.is_noted.ensures)) c.join.ensures.joins c.join.ensures.rest;
  counted = counted_relinked _ _ c.join.ensures.rest c.requires.kept.counted;
}

pub returns-then-not-is_noted-clause-chain : goal.returns-then-not-is_noted-clause-chain
returns-then-not-is_noted-clause-chain g c = search (rules, noted_chain, not_false)

pub returns-else-not-is_noted-clause-chain : goal.returns-else-not-is_noted-clause-chain
returns-else-not-is_noted-clause-chain g c = search (rules, noted_already, not_true)

pub returns-else-not-is_noted-clause-rest : goal.returns-else-not-is_noted-clause-rest
returns-else-not-is_noted-clause-rest g c = search rules

pub is_noted-requires : goal.is_noted-requires
is_noted-requires g c = record { there = slot_stands (nodes_of c.args.self.now) c.args.key c.requires.«open» }
