use Rattle.rx_book.proofs.Common.{◌≡◌, ℕ, false, [], length, ap, ◌∙◌, arith, false_from_ne_true, both_ways, is_out, IsLetGo, none_taken}
use Rattle.rx_book.proofs.Closings.{closed_book, lets_all}
use Rattle.rx_book.proofs.book.Book.shut.Given as given
use Rattle.rx_book.proofs.book.Book.shut.Goals as goal
use Rattle.rx_book.proofs.book.Book.shut.Goals.{After-promise-2}
use Rattle.std.proofs.Common.{rules}

none_out : (g : given.Over) (c : After-promise-2 g) → (l : ℕ) → is_out c.disconnect_hubs.new.self.history l ≡ false
none_out g c l = search (rules, false_from_ne_true, both_ways)

let_go : (g : given.Over) (c : After-promise-2 g) → IsLetGo c.disconnect_hubs.new.self.history
let_go g c = search (rules, false_from_ne_true, both_ways)

closed : (g : given.Over) (c : After-promise-2 g) →
    (c.disconnect_hubs.new.self.keys ≡ []) × (c.disconnect_hubs.new.self.held ≡ []) × (c.disconnect_hubs.new.self.lease_keys ≡ [])
closed g c = closed_book c.disconnect_hubs.new.self c.disconnect_hubs.new.self (let_go g c) (none_out g c) none_taken c.promise-2.ensures

pub returns-clause-none_open : goal.returns-clause-none_open
returns-clause-none_open g c = (closed g (goal.at.returns-clause-none_open g c).After-promise-2).0

pub returns-clause-none_held : goal.returns-clause-none_held
returns-clause-none_held g c = (closed g (goal.at.returns-clause-none_held g c).After-promise-2).1

pub returns-clause-none_out : goal.returns-clause-none_out
returns-clause-none_out g c = (closed g (goal.at.returns-clause-none_out g c).After-promise-2).2

pub returns-clause-lets_go : goal.returns-clause-lets_go
returns-clause-lets_go g c = search (rules, lets_all)

pub returns-clause-waiting : goal.returns-clause-waiting
returns-clause-waiting g c =
    let held : length c.disconnect_hubs.new.self.held ≡ 0 = ap length (closed g (goal.at.returns-clause-waiting g c).After-promise-2).1 in
    let accepted = c.disconnect_hubs.ensures.accepted ∙ c.dispose_roots.ensures.accepted ∙ c.return_leases.ensures.accepted in
    let taken = c.disconnect_hubs.ensures.taken ∙ c.dispose_roots.ensures.taken ∙ c.return_leases.ensures.taken in
    let before = c.promise.ensures.in_one_place in
    let after = c.promise-2.ensures.in_one_place in omega arith
