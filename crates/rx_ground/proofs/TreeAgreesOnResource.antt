-- What a tree says of a stored resource, whether it is owned, leased and held, the history says too.
use Rattle.rx_ground.proofs.Common.{◌≡◌, ℕ, ◌==◌, Bool, List, Some, is_some, sym, ap, ◌∙◌, nat_lt, not, ◌&&◌, ◌||◌, lt-ltb, ne_eqb}
use Rattle.rx_ground.proofs.Common.{Kept, Ghosts, Event, is_open, held_is, Key, find, Stowed, Tree, is_owned, is_lent, is_held, some_of, IsTied, IsStored}
use Rattle.std.specs.Cmp.{both_ways as same_test}
use Rattle.rx_event.specs.Resources.{is_owned as is_owned_in, is_leased, is_held as is_held_in, leases_of}
use Rattle.std.proofs.Common.{rules}

-- some are, where they are not none
some_are : (n : ℕ) → nat_lt 0 n ≡ not (n == 0)
some_are x0 = search (rules, lt-ltb, ne_eqb)

-- leases alone hold it
abbrev pub is_alone : List Event → ℕ → Bool
is_alone h r = is_held_in h r && not (is_owned_in h r)

module _ (base : Kept) {T : Type 0} (g : Ghosts T) (h : List Event) (tree : Tree T) (tied : IsTied base g h tree) (key : Key) (s : Stowed T)
    (found : find tree.resources key ≡ Some s) where
  is : IsStored base g h tree.nodes key.number s
  is = tied.stored.each key s found

  pub owned_agrees : is_owned_in h key.number ≡ is_owned tree.nodes s
  owned_agrees = is.owned ∙ ap (λ b. b && not s.removed) node where
    node : is_open h s.node.number ≡ is_some (find tree.nodes s.node)
    node = same_test _ _ is.home (λ some. let f = some_of (find tree.nodes s.node) some in (tied.records.each s.node f.0 f.1).alive)

  pub lent_agrees : is_leased h key.number ≡ is_lent s
  lent_agrees = ap (λ b. b && nat_lt 0 (leases_of h key.number)) is.made ∙ ap (nat_lt 0) (sym is.lent) ∙ some_are s.leases

  pub held_agrees : is_held_in h key.number ≡ is_held tree.nodes s
  held_agrees = held_is h key.number ∙ (λ i. owned_agrees i || lent_agrees i)
