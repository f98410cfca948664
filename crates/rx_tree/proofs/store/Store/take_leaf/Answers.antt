use Rattle.rx_tree.proofs.Common.{ap, find, project, nodes_of, some_of}
use Rattle.rx_tree.proofs.LeafSteps.{noted_before, noted_after, noted_loop, sibling_before, sibling_after, noted_alone, children_alone, held_alone}
use Rattle.rx_tree.proofs.LeafSteps.{leaf_tied, leaf_chain}
use Rattle.rx_tree.proofs.CountSteps.{counted_relinked}
use Rattle.rx_tree.proofs.There.{slot_stands}
use Rattle.rx_tree.proofs.store.Store.take_leaf.Goals as goal
use Rattle.std.proofs.Common.{rules}

pub unnote-requires-clause-before : goal.unnote-requires-clause-before
unnote-requires-clause-before g c =
    let h = some_of (find (nodes_of c.args.self.now) c.args.key) c.requires.«open» in
    noted_before c.args.self.now c.let_wait.new.self c.args.key h.0 h.1 c.let_wait.ensures.waits c.let_wait.ensures.rest c.requires.childless

pub unnote-requires-clause-after : goal.unnote-requires-clause-after
unnote-requires-clause-after g c =
    let h = some_of (find (nodes_of c.args.self.now) c.args.key) c.requires.«open» in
    noted_after c.args.self.now c.let_wait.new.self c.args.key h.0 h.1 c.let_wait.ensures.waits c.let_wait.ensures.rest c.requires.childless

pub unnote-requires-clause-alone : goal.unnote-requires-clause-alone
unnote-requires-clause-alone g c =
    let h = some_of (find (nodes_of c.args.self.now) c.args.key) c.requires.«open» in
    noted_loop c.args.self.now c.let_wait.new.self c.args.key h.0 h.1 c.let_wait.ensures.waits c.let_wait.ensures.rest c.requires.childless

pub pass_sibling_by-requires-clause-before : goal.pass_sibling_by-requires-clause-before
pass_sibling_by-requires-clause-before g c =
    let h = some_of (find (nodes_of c.args.self.now) c.args.key) c.requires.«open» in
    sibling_before c.args.self.now c.let_wait.new.self c.args.key h.0 h.1 c.let_wait.ensures.waits c.let_wait.ensures.rest c.requires.childless
    c.unnote.new.self c.unnote.ensures.leaves c.unnote.ensures.rest

pub pass_sibling_by-requires-clause-after : goal.pass_sibling_by-requires-clause-after
pass_sibling_by-requires-clause-after g c =
    let h = some_of (find (nodes_of c.args.self.now) c.args.key) c.requires.«open» in
    sibling_after c.args.self.now c.let_wait.new.self c.args.key h.0 h.1 c.let_wait.ensures.waits c.let_wait.ensures.rest c.requires.childless
    c.unnote.new.self c.unnote.ensures.leaves c.unnote.ensures.rest

pub take_node-requires-clause-noted : goal.take_node-requires-clause-noted
take_node-requires-clause-noted g c =
    let h = some_of (find (nodes_of c.args.self.now) c.args.key) c.requires.«open» in
    noted_alone c.args.self.now c.let_wait.new.self c.args.key h.0 h.1 c.let_wait.ensures.waits c.let_wait.ensures.rest c.requires.childless c.unnote.new.self
    c.unnote.ensures.leaves c.unnote.ensures.rest c.pass_sibling_by.new.self c.pass_sibling_by.ensures.passes c.pass_sibling_by.ensures.rest

pub take_node-requires-clause-children : goal.take_node-requires-clause-children
take_node-requires-clause-children g c =
    let h = some_of (find (nodes_of c.args.self.now) c.args.key) c.requires.«open» in
    children_alone c.args.self.now c.let_wait.new.self c.args.key h.0 h.1 c.let_wait.ensures.waits c.let_wait.ensures.rest c.requires.childless
    c.unnote.new.self c.unnote.ensures.leaves c.unnote.ensures.rest c.pass_sibling_by.new.self c.pass_sibling_by.ensures.passes c.pass_sibling_by.ensures.rest

pub take_node-requires-clause-held : goal.take_node-requires-clause-held
take_node-requires-clause-held g c =
    let h = some_of (find (nodes_of c.args.self.now) c.args.key) c.requires.«open» in
    held_alone c.args.self.now c.let_wait.new.self c.args.key h.0 h.1 c.let_wait.ensures.waits c.let_wait.ensures.rest c.requires.childless c.unnote.new.self
    c.unnote.ensures.leaves c.unnote.ensures.rest c.pass_sibling_by.new.self c.pass_sibling_by.ensures.passes c.pass_sibling_by.ensures.rest

pub returns-clause-tied : goal.returns-clause-tied
returns-clause-tied g c =
    let h = some_of (find (nodes_of c.args.self.now) c.args.key) c.requires.«open» in
    leaf_tied c.args.self.now c.let_wait.new.self c.args.key h.0 h.1 c.let_wait.ensures.waits c.let_wait.ensures.rest c.requires.childless c.unnote.new.self
    c.unnote.ensures.leaves c.unnote.ensures.rest c.pass_sibling_by.new.self c.pass_sibling_by.ensures.passes c.pass_sibling_by.ensures.rest
    c.take_node.new.self c.take_node.ensures.taken c.take_node.ensures.links (ap (project (λ r. r.stowed)) c.take_node.ensures.resources)

pub returns-clause-chain : goal.returns-clause-chain
returns-clause-chain g c =
    let h = some_of (find (nodes_of c.args.self.now) c.args.key) c.requires.«open» in
    leaf_chain c.args.self.now c.let_wait.new.self c.args.key h.0 h.1 c.let_wait.ensures.waits c.let_wait.ensures.rest c.requires.childless c.unnote.new.self
    c.unnote.ensures.leaves c.unnote.ensures.rest c.pass_sibling_by.new.self c.pass_sibling_by.ensures.passes c.pass_sibling_by.ensures.rest
    c.take_node.new.self c.take_node.ensures.taken c.take_node.ensures.links (ap (project (λ r. r.stowed)) c.take_node.ensures.resources)

pub returns-clause-taken : goal.returns-clause-taken
returns-clause-taken g c = search (rules, some_of, nodes_of)

pub take_node-requires-clause-counted : goal.take_node-requires-clause-counted
take_node-requires-clause-counted g c = search (rules, counted_relinked)

pub pass_sibling_by-requires-clause-place : goal.pass_sibling_by-requires-clause-place
pass_sibling_by-requires-clause-place g c = search (rules, slot_stands, nodes_of)
