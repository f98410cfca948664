-- What comes next, and what is left, is the same however the items are seen.
use Rattle.std.proofs.Common.{◌≡◌, ℕ, ◌∷◌, [], Bool, true, false, cond, nat_eq, nat_le, List, map, Option, Some, None, refl, ap, ◌∙◌, rules}
use Rattle.std.specs.Option.{option_map}
use Rattle.rx_time.specs.declared.work.Work.{Work}
use Rattle.rx_time.specs.Schedule.{earlier, next_of, if_due, next_due, item_of, without, entry_seen}

module _ {T U : Type 0} (f : T → U) where
  earlier-seen : (e : ℕ × Work T) (o : Option (ℕ × Work T)) → earlier (entry_seen f e) (option_map (entry_seen f) o) ≡ option_map (entry_seen f) (earlier e o)
  earlier-seen e x1 = search (rules, nat_le, Bool, cond, Some)

  next_of-seen : (work : List (ℕ × Work T)) → next_of (map (entry_seen f) work) ≡ option_map (entry_seen f) (next_of work)
  next_of-seen [] = refl
  next_of-seen (e ∷ es) = ap (earlier (entry_seen f e)) (next_of-seen es) ∙ earlier-seen e (next_of es)

  if_due-seen : (until : ℕ) (o : Option (ℕ × Work T)) → if_due until (option_map (entry_seen f) o) ≡ option_map (entry_seen f) (if_due until o)
  if_due-seen until x1 = search (rules, nat_le, Bool, cond, Some, None)

  pub next_due-seen : (until : ℕ) (work : List (ℕ × Work T)) → next_due until (map (entry_seen f) work) ≡ option_map (entry_seen f) (next_due until work)
  next_due-seen until work = ap (if_due until) (next_of-seen work) ∙ if_due-seen until (next_of work)

  pub without-seen : (ticket : ℕ) (work : List (ℕ × Work T)) → without ticket (map (entry_seen f) work) ≡ map (entry_seen f) (without ticket work)
  without-seen ticket [] = refl
  without-seen ticket (e ∷ es) = by_test (without-seen ticket es) (nat_eq ticket e.0) where
    by_test : without ticket (map (entry_seen f) es) ≡ map (entry_seen f) (without ticket es) → (b : Bool)
        → cond b (map (entry_seen f) es) (entry_seen f e ∷ without ticket (map (entry_seen f) es)) ≡ map (entry_seen f) (cond b es (e ∷ without ticket es))
    by_test rest true = refl
    by_test rest false = ap (λ (l : List (ℕ × Work U)). entry_seen f e ∷ l) rest

  pub item_of-seen : (ticket : ℕ) (work : List (ℕ × Work T)) → item_of ticket (map (entry_seen f) work) ≡ option_map f (item_of ticket work)
  item_of-seen ticket [] = refl
  item_of-seen ticket (e ∷ es) = search (rules, nat_eq, map, Bool, cond, Some, item_of-seen ticket es)
