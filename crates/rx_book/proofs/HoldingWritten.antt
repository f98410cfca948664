-- A fresh resource is held at an open node, for which there is room: it is accepted, and forces nothing.
use Rattle.rx_book.proofs.Common.{◌≡◌, ◌+◌, ◌≤◌, true, List, [], ◌∷◌, length, None, is_some, refl, sym, ap, subst, ◌∙◌, Ghosts, Event, Accept}
use Rattle.rx_book.proofs.Common.{Kept, is_open, debt, accepted_by, IsSettled, stays, first_cause, closes_none_kept, settled_on, find}
use Rattle.rx_book.proofs.Common.{accepted_by_new, is_held_at, some_of, Writes, Ground, closes_none, gathers_nothing, gathers_quiet, IsStanding, IsReady}
use Rattle.rx_book.proofs.Common.{Key, ResKey, has_key, Request, stands, is_fresh_in, hold_request, Accepts, IsNewResKey}
use Rattle.rx_book.proofs.Common.{keys_of, state_of, IsLetIn}
use Rattle.rx_register.specs.State.{IsPromised}
use Rattle.rx_book.proofs.ShownKeys.{has_key_is}
use Rattle.rx_book.proofs.CallWithoutCause.{let_in, one_ready, pays, accepts}
use Rattle.rx_ground.specs.Settling.{Settles}
use Rattle.rx_ground.specs.Wrote.{Wrote}
use Rattle.rx_ground.proofs.Laws.WroteInTurn.{no_change, wrote_begun}
use Rattle.rx_book.proofs.MadeKeyIsListed.{res_key_listed}
use Rattle.rx_book.proofs.HoldingUnstood.{holding_unstood}
use Rattle.rx_book.proofs.ListOfClosed.{standing_begun, accepts_begun}
use Rattle.std.proofs.Common.{rules}

module _ {T : Type 0} (g : Ghosts T) (b : Ground T) (node : Key) (x : T) (standing : IsStanding g b) (promised : IsPromised b.register)
    (listed : has_key (keys_of b.tree) node ≡ true) (fresh : is_fresh_in g x ≡ true)
    (events : debt b.register.base b.register.history + 3 ≤ b.register.room) where
  abbrev h : List Event
  h = b.register.history

  abbrev asked : Request
  asked = hold_request g (state_of g b) node x

  pub holding_there : is_some (find b.tree.nodes node) ≡ true
  holding_there = sym (has_key_is b.tree node) ∙ listed

  alive : is_open b.register.history node.number ≡ true
  alive = let at_key = some_of (find b.tree.nodes node) holding_there in
      (standing.tied.of_tree.records.each node at_key.0 at_key.1).alive

  unstood : first_cause (stands (state_of g b) asked) ≡ None
  unstood = search (rules, is_fresh_in, holding_unstood, alive)

  -- as where the list of what is closed was begun
  holding_let_in : IsLetIn g (record b { closed = [] }) (hold_request g (state_of g b) node x)
  holding_let_in = search (rules, let_in, standing_begun, unstood)

  pub holding_ready : IsReady b.register (Accept node.number (g.tag_of x))
  holding_ready = one_ready g (record b { closed = [] }) asked holding_let_in (Accept node.number (g.tag_of x)) refl

  module _ (new : Ground T) (wrote : Wrote g b (Accept node.number (g.tag_of x) ∷ []) new) where
    abbrev w : Writes b.register (Accept node.number (g.tag_of x) ∷ []) new.register
    w = wrote.written

    settled : IsSettled new.register.base new.register.history
    settled =
        let e = Accept node.number (g.tag_of x) in
        let rests = settled_on promised.lawful holding_ready.next standing.settled refl (λ n. refl) (closes_none_kept h e refl) refl in
        subst (λ (k : Kept). IsSettled k new.register.history) (sym w.base) (subst (IsSettled b.register.base) (sym w.history) rests)

    pub holding_standing : IsStanding g new
    holding_standing = record { tied = wrote.between.tied; leased = wrote.between.leased; settled = settled; paid = pays g (record b { closed = [] }) asked holding_let_in new.register w }

    settles : Settles g (record new { closed = [] }) (record new { closed = [] })
    settles = record {
      standing = standing_begun holding_standing;
      base = refl;
      forced = stays;
      nodes = record { from = λ key there l. there; still = λ key there o. there };
      resources = refl;
      limit = refl;
      given = refl;
      leases = refl;
      hubs = refl;
      closed = closes_none refl (gathers_nothing new.register.history []);
      memory = no_change (record new { closed = [] });
    }

    pub holding_accepted : Accepts (state_of g b) (hold_request g (state_of g b) node x) (record (state_of g new) { closed = [] })
    holding_accepted = accepts_begun (accepts g (record b { closed = [] }) asked holding_let_in (record new { closed = [] })
        (wrote_begun (gathers_quiet (Accept node.number (g.tag_of x)) holding_ready.next refl w refl) wrote) settles)

    pub held_key : (res : ResKey) → res.number ≡ length b.register.history → is_held_at new.tree res ≡ true →
        IsNewResKey (state_of g new) (length b.register.history) res
    held_key res number held =
        let e = Accept node.number (g.tag_of x) in
        let accepted = ap (λ (c : Kept). accepted_by c new.register.history (length h)) w.base ∙
        ap (λ (k : List Event). accepted_by b.register.base k (length h)) w.history ∙ accepted_by_new b.register.base h e promised.lawful in
        let still = ap (λ (k : List Event). is_open k node.number) w.history ∙ closes_none_kept h e refl node.number alive in
        res_key_listed g new new settles.nodes (length h) wrote.between.tied.of_tree res refl number held accepted still
