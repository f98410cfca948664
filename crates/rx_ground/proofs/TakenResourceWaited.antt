-- What is known of a resource that is taken out of a tree.
use Rattle.rx_ground.proofs.Common.{◌≡◌, ℕ, Bool, true, false, List, [], ◌∷◌, map, Some, refl, sym, ap, subst, ◌∙◌, not, ◌&&◌, IsTrue, Contains, Ghosts}
use Rattle.rx_ground.proofs.Common.{list_any, false≢true, Live, Event, makes_resource, is_take_of, at, Key, find, Stowed, Tree, Takes, is_owned, is_lent}
use Rattle.rx_ground.proofs.Common.{is_held, IsTied, IsStored, IsListed}
use Rattle.rx_event.specs.Kept.{Kept as Base}
use Rattle.rx_event.specs.Resources.{is_held as is_held_in, is_waiting, is_taken}
use Rattle.rx_ground.specs.Shown.{Label, label_of, Kept, kept_in, waiting_in, label_in}
use Rattle.rx_ground.proofs.Laws.Members.{Contains-head, Contains-map}
use Rattle.rx_ground.proofs.TreeAgreesOnResource.{owned_agrees, held_agrees as stored_held, is_alone}
use Rattle.rx_ground.proofs.FoundIsListed.{filter_member, filter_has, kept_found, kept_listed}
use Rattle.std.proofs.Common.{rules}

module _ (base : Base) {T : Type 0} (g : Ghosts T) (h : List Event) (tree : Tree T) (tied : IsTied base g h tree) where
  -- a stored resource is held in the tree just where it is in the history
  pub held_agrees : (k : Kept (Stowed T)) → Contains (kept_in tree.resources) k → is_held_in h k.key.number ≡ is_held tree.nodes k.value
  held_agrees k c = stored_held base g h tree tied k.key k.value (kept_found tree.resources k c)

  -- and leases alone hold it there just where they do in the history
  pub alone_agrees : (k : Kept (Stowed T)) → Contains (kept_in tree.resources) k →
      is_alone h k.key.number ≡ (is_lent k.value && not (is_owned tree.nodes k.value))
  alone_agrees k c = search (rules, held_agrees, not, is_lent, owned_agrees, kept_found)

  pub waits_agrees : (k : Kept (Stowed T)) → Contains (kept_in tree.resources) k → is_waiting h k.key.number ≡ not (is_held tree.nodes k.value)
  unfolding is_waiting is_taken
  waits_agrees k c =
      shape (at makes_resource h k.key.number) (is_held_in h k.key.number) (list_any (is_take_of k.key.number) h) (is_held tree.nodes k.value) is.made
      is.untaken (held_agrees k c)
    where
      is : IsStored base g h tree.nodes k.key.number k.value
      is = tied.stored.each k.key k.value (kept_found tree.resources k c)

      shape : (a b d e : Bool) → a ≡ true → d ≡ false → b ≡ e → (a && not b && not (a && d)) ≡ not e
      shape true true false true x y z = refl
      shape true false false false x y z = refl
      shape true true false false x y z = absurd (false≢true (sym z))
      shape true false false true x y z = absurd (false≢true z)
      shape false b d e x y z = absurd (false≢true x)
      shape true b true e x y z = absurd (false≢true (sym y))

module _ {T : Type 0} (g : Ghosts T) (h : List Event) (old new : Tree T) (number : ℕ) (x : T) where
  -- it waits in the history too
  pub takes_waiting : (base : Base) → IsTied base g h old → Takes old new number x → is_waiting h number ≡ true
  takes_waiting base tied t = ap (is_waiting h) (sym t.numbered) ∙
      waits_agrees base g h old tied (record { key = t.key; value = t.stowed }) (kept_listed old.resources t.key t.stowed t.found) ∙ ap not t.waited

  pub takes_live : (base : Base) → IsTied base g h old → Takes old new number x → g.life_of x ≡ Live
  takes_live base tied t = ap g.life_of (sym t.handed) ∙ (tied.stored.each t.key t.stowed t.found).live

-- it is listed among those that wait
pub takes_listed : {T : Type 0} (g : Ghosts T) (old new : Tree T) (number : ℕ) (x : T) → Takes old new number x → IsListed g old (number, x)
takes_listed {T = T} g old new number x t = record {
  listed = subst (λ (l : Label). Contains (map (label_in g) (waiting_in old)) l) same
      (Contains-map (label_in g) (waiting_in old) here (filter_has (λ (k : Kept (Stowed T)). not (is_held old.nodes k.value)) (kept_in old.resources)
      here (kept_listed old.resources t.key t.stowed t.found) (ap not t.waited)));
}
  where
    here : Kept (Stowed T)
    here = record { key = t.key; value = t.stowed }

    same : label_in g here ≡ label_of g number x
    same = ap (λ (n : ℕ). label_of g n t.stowed.resource) t.numbered ∙ ap (label_of g number) t.handed

-- where all that is stored is held none waits
pub none_waits : {T : Type 0} (old : Tree T) → ((key : Key) (s : Stowed T) → find old.resources key ≡ Some s → IsTrue (is_held old.nodes s)) →
    waiting_in old ≡ []
none_waits {T = T} old held = by_list (waiting_in old) refl where
  by_list : (ks : List (Kept (Stowed T))) → waiting_in old ≡ ks → ks ≡ []
  by_list [] e = refl
  by_list (k ∷ ks) e =
      let m = filter_member (λ (j : Kept (Stowed T)). not (is_held old.nodes j.value)) (kept_in old.resources) k
      (subst (λ (l : List (Kept (Stowed T))). Contains l k) (sym e) (Contains-head k ks)) in
      absurd (false≢true (sym (ap not (held k.key k.value (kept_found old.resources k m.0))) ∙ m.1))
