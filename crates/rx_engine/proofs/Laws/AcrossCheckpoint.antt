-- What an engine promises holds behind a checkpoint: the history and what stands in its place agree.
use Rattle.std.proofs.Common.{◌≡◌, ℕ, ◌+◌, ◌&&◌, ◌||◌, ◌⊎◌, inl, inr, not, Bool, true, false, List, [], length, slice_get, Some, refl, sym, ap, ◌∙◌}
use Rattle.std.proofs.lemmas.Bool.{false≢true}
use Rattle.rx_event.specs.declared.event.Event.{Event}
use Rattle.rx_event.specs.Events.{makes_resource, is_root, is_merging}
use Rattle.rx_event.specs.Kept.{Kept, shown}
use Rattle.rx_event.specs.Lawful.{IsLawful}
use Rattle.rx_event.specs.Notes.{notes}
use Rattle.rx_event.specs.Resources.{is_held, is_waiting, is_taken}
use Rattle.rx_event.specs.Tree.{at, is_open}
use Rattle.rx_event.proofs.Laws.CheckpointMarks.{base_untold}
use Rattle.rx_event.proofs.Laws.Resources.{held_resource, held_not_taken}
use Rattle.rx_event.proofs.Laws.SameTree.{Alike, alike_of, at_alike, subscribers_alike, connections_alike}
use Rattle.rx_book.specs.Checkpoints.{Checkpoints}
use Rattle.rx_book.specs.State.{State as BookState, IsPromised as IsBookPromised, is_kept}
use Rattle.rx_pool.specs.declared.search.PooledHub.{PooledHub}
use Rattle.rx_pool.specs.Counts.{names, is_made}
use Rattle.rx_pool.specs.Moves.{is_place}
use Rattle.rx_roles.specs.declared.roles.Role.{Role}
use Rattle.rx_roles.proofs.Laws.RolesTaken.{roles_same}
use Rattle.rx_pool.specs.Places.{names_hub, place_in, AreShared}
use Rattle.rx_roles.proofs.Laws.NodesAfterStep.{is_new_none}
use Rattle.rx_engine.specs.States.{State, IsTied}
use Rattle.rx_engine.proofs.WishesKept.{wishes_same}

-- who is open and passes a test does so in both
pub both_alike : {h k : List Event} → Alike h k → (p : Event → Bool) (n : ℕ) → (is_open h n && at p h n) ≡ (is_open k n && at p k n)
both_alike {h} {k} alike p n = by_open (is_open h n) refl where
  by_open : (b : Bool) → is_open h n ≡ b → (b && at p h n) ≡ (is_open k n && at p k n)
  by_open true o = rw (sym (alike.same_open n) ∙ o) (at_alike h k alike p n o)
  by_open false o = rw (sym (alike.same_open n) ∙ o) refl

-- what is kept is held or waits
pub kept_untaken : (base : Kept) (h : List Event) → IsLawful base h → (r : ℕ) → is_kept h r ≡ (is_held h r || is_waiting h r)
unfolding is_kept is_waiting is_taken
kept_untaken base h law r = shape (at makes_resource h r) _ (is_held h r) (held_resource h r) (held_not_taken base h law r) where
  shape : (m x d : Bool) → (d ≡ true → m ≡ true) → (d ≡ true → (m && x) ≡ false) → (m && not x) ≡ (d || (m && not d && not (m && x)))
  shape true true true made untaken = absurd (false≢true (sym (untaken refl)))
  shape true false true made untaken = refl
  shape false x true made untaken = absurd (false≢true (made refl))
  shape true true false made untaken = refl
  shape true false false made untaken = refl
  shape false x false made untaken = refl

pub shared_alike : {h k : List Event} {list : List Role} {hubs : List PooledHub} → Alike h k → AreShared h list hubs → AreShared k list hubs
shared_alike {h} {k} {list} {hubs} alike shared = record {
  places = roles_same shared.places (both_alike alike names_hub);
  pool = record {
    made = λ i hub there. alike.same_hub hub.number hub.mode (shared.pool.made i hub there);
    counted = λ i hub there. shared.pool.counted i hub there ∙
        (λ j. length (subscribers_alike h k alike hub.number j) + length (connections_alike h k alike hub.number j));
  };
  known = record { within = shared.known.within; named = λ n o i hub there. named n o i hub there };
} where
  named : (n : ℕ) → (is_open k n ≡ true) ⊎ (is_made k k n ≡ true) → (i : ℕ) (hub : PooledHub) → slice_get hubs i ≡ Some hub →
      at (names hub.number) k n ≡ is_place i (place_in list n)
  named n (inl o) i hub there =
      let was = alike.same_open n ∙ o in sym (at_alike h k alike (names hub.number) n was) ∙ shared.known.named n (inl was) i hub there
  named n (inr new) i hub there = absurd (false≢true (sym (is_new_none k n) ∙ new))

-- the base has told nothing
pub checkpoint_untold : (s b : BookState) → IsBookPromised s → Checkpoints s b → notes b.history ≡ []
checkpoint_untold s b was c = ap notes (c.history ∙ ap shown c.base) ∙ base_untold s.base s.history was.lawful was.settled

pub tied_checkpointed : (s : State) (b : BookState) → IsTied s → IsBookPromised s.book → IsBookPromised b → Checkpoints s.book b →
    IsTied (record s { book = b })
tied_checkpointed s b tied was still c = record {
  given = c.given ∙ sym (ap length (checkpoint_untold s.book b was c));
  none_waits = c.waiting ∙ tied.none_waits;
  homes = roles_same tied.homes alike.same_open;
  hears = roles_same tied.hears (both_alike alike is_root);
  merges = roles_same tied.merges (both_alike alike is_merging);
  holds = roles_same tied.holds (λ r. kept_untaken s.book.base s.book.history was.lawful r ∙ (λ i. c.agree.held r i || c.agree.waiting r i)
      ∙ sym (kept_untaken b.base b.history still.lawful r));
  shared = shared_alike alike tied.shared;
  ready = tied.ready;
  wishes = wishes_same tied.wishes (λ n o. sym (alike.same_open n) ∙ o);
} where
  alike : Alike s.book.history b.history
  alike = alike_of c.agree
