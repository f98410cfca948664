-- A resource that is taken waited, and then one fewer waits.
use Rattle.rx_book.proofs.Common.{◌≡◌, ℕ, ◌<◌, true, List, [], ◌∷◌, ◌++◌, length, map, sym, ap, ◌∙◌, length-map, All-contains, Ghosts, Event, Take}
use Rattle.rx_book.proofs.Common.{is_waiting, MayFollow, IsLawful, waiting_count-take, Stowed, Tree, AreApart, waiting_in, label_in, IsTied}
use Rattle.rx_book.proofs.Common.{IsListed, just_waiting, length-waiting, Contains-map, Contains-from_map}
use Rattle.rx_event.specs.Kept.{Kept as Base}
use Rattle.rx_ground.specs.Shown.{Label, Kept, label_of}
use Rattle.std.proofs.Common.{rules}

module _ {T : Type 0} (g : Ghosts T) where
  -- a resource that is shown among those that wait does
  pub listed_waits : (base : Base) → (h : List Event) (tree : Tree T) → IsTied base g h tree → AreApart tree.resources → (handed : ℕ × T) →
      IsListed g tree handed → is_waiting h handed.0 ≡ true
  listed_waits base h tree tied apart handed is =
      let m = Contains-from_map (label_in g) (waiting_in tree) (label_of g handed.0 handed.1) is.listed in
      let number = λ (k : Kept (Stowed T)). k.key.number in
      sym (ap (λ (l : Label). is_waiting h l.number) m.2) ∙ All-contains (λ (n : ℕ). is_waiting h n ≡ true) (map number (waiting_in tree)) m.0.key.number
      (just_waiting base g h tree tied apart).each (Contains-map number (waiting_in tree) m.0 m.1)

  -- and once it is taken, one fewer of those that are shown waits
  pub fewer_wait : {base after : Base} {h k : List Event} {old new : Tree T} {r : ℕ} → IsTied base g h old → IsTied after g k new →
      AreApart old.resources → AreApart new.resources → IsLawful base h → MayFollow base h (Take r) → k ≡ h ++ Take r ∷ [] →
      length (map (label_in g) (waiting_in new)) < length (map (label_in g) (waiting_in old))
  fewer_wait {base} {after} {h} {k} {old} {new} {r} tied tied_after apart apart_after law next grown =
      search (rules, length-map, waiting_in, label_in, length-waiting, waiting_count-take)
