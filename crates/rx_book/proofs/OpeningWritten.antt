-- An opening that was let in is written, and then what it forces: it is accepted, its node is open, and so is the connection that
-- came with it; and room that was gotten beside is still there.
use Rattle.rx_book.proofs.Common.{◌≡◌, ℕ, ◌+◌, ◌≤◌, Bool, true, false, List, [], ◌∷◌, ◌++◌, length, Option, None, option_map, refl, sym, ap, ◌∙◌, arith, Kind}
use Rattle.rx_book.proofs.Common.{length-append, option_to_list, Ghosts, Sub, Event, Open, open_connections, debt, IsLawful, Opening, added_by, IsLawful-push}
use Rattle.rx_book.proofs.Common.{forces_connect, opened_stays, IsPlaced, notes_added, call_fits, Ground, TakesNoMemory, IsReady, At}
use Rattle.rx_book.proofs.Common.{IsNewNode, Key, place_of, open_request, Accepts, IsNewKey, connection_made, key_above}
use Rattle.rx_book.proofs.Common.{state_of, IsAdmitted}
use Rattle.rx_ground.specs.Settling.{Settles}
use Rattle.rx_ground.specs.Wrote.{Wrote}
use Rattle.rx_book.proofs.ShownKeys.{is_known_place_is}
use Rattle.rx_book.proofs.CallWithoutCause.{known, one_ready, accepts}
use Rattle.rx_book.proofs.Openings.{placed_at}
use Rattle.rx_book.proofs.Connections.{connection_answered}
use Rattle.rx_book.proofs.MadeKeyIsListed.{key_listed}
use Rattle.rx_book.proofs.SpareRoom.{call_within}

module _ {T : Type 0} (g : Ghosts T) (b : Ground T) (at : At) (kind : Kind) (a : IsAdmitted g b (open_request (state_of g b) at kind)) where
  abbrev h : List Event
  h = b.register.history

  pub opening_ready : IsReady b.register (Open (place_of at) kind)
  opening_ready = one_ready g b (open_request (state_of g b) at kind) a.let_in (Open (place_of at) kind) refl

  pub opening_placed : IsPlaced b.tree.nodes (length b.register.history) (Open (place_of at) kind) (key_above at)
  opening_placed =
      let there = sym (is_known_place_is b.tree at) ∙ known g b (open_request (state_of g b) at kind) a.let_in in
      placed_at b.register.base g b.register.history b.tree a.let_in.standing.tied.of_tree kind at there

  module _ (mid new : Ground T) (x : Wrote g b (Open (place_of at) kind ∷ []) mid) (s : Settles g mid new) where
    pub opening_accepted : Accepts (state_of g b) (open_request (state_of g b) at kind) (state_of g new)
    opening_accepted = accepts g b (open_request (state_of g b) at kind) a.let_in mid x s

    pub opened_key : (key : Key) → IsNewNode b.tree.nodes mid.tree.nodes (length b.register.history) key → IsNewKey (state_of g new) (length b.register.history) key
    opened_key key made =
        let law = a.let_in.may.lawful in
        let alive = opened_stays b.register.base h new.register.history (place_of at) kind law opening_ready.next opening_accepted.step.forced in
        key_listed g mid new s.nodes (length h) key made.numbered made.found alive

    pub opened_connection : {o : Option Key} (connects : Bool) → connects ≡ forces_connect b.register.history kind →
        ((hub : ℕ) → kind ≡ Sub hub → connects ≡ true → option_to_list (option_map (λ x. x.number) o) ≡ open_connections new.register.history hub) →
        (connects ≡ false → o ≡ None) → option_map (λ x. x.number) o ≡ connection_made b.register.history new.register.history
    opened_connection {o} connects is forced quiet =
        let step = opening_accepted.step in
        connection_answered b.register.base h (place_of at) a.let_in.may.lawful new.register.history step.lawful step.settled kind connects
        (option_map (λ (x : Key). x.number) o) opening_ready.next step.forced is forced (λ none. ap (option_map (λ (x : Key). x.number)) (quiet none))

    pub opening_spares : TakesNoMemory mid new → (more : ℕ) →
        debt b.register.base b.register.history + added_by b.register.history (Opening (place_of at) kind) + more ≤ b.register.room →
        debt new.register.base new.register.history + more ≤ new.register.room
    opening_spares memory more enough =
        let call = Opening (place_of at) kind in
        let fits = call_fits b.register.base h b.register.limit true call a.let_in.may in
        let law : IsLawful b.register.base (h ++ Open (place_of at) kind ∷ []) =
        IsLawful-push b.register.base h (Open (place_of at) kind) a.let_in.may.lawful opening_ready.next in
        let needed = call_within b.register.base h (added_by h call) (notes_added h call) fits law opening_accepted.step.forced in
        let w = x.written in
        let written = w.room in
        let taken = memory.events in
        let longer : length mid.register.history ≡ length h + 1 =
        ap (λ (k : List Event). length k) w.history ∙ length-append h (Open (place_of at) kind ∷ []) in rw (s.base ∙ w.base) (omega arith)
