-- Labels that were seen, as a set and as a list.
use Rattle.std.proofs.Common.{◌≡◌, ℕ, ◌+◌, ◌<◌, Bool, true, false, List, [], ◌∷◌, length, drop, get_or, Option, Some}
use Rattle.std.proofs.Common.{None, option_map, string_bytes, String, Global, cond, refl, sym, ◌∙◌, Bor, add-one, drop-cons, rules}
use Rattle.std.specs.Prelude.{◌||◌, not}
use Rattle.std.specs.HashSet.{HashSet, contains, Updates}
use Rattle.std.specs.Str.{bytes_eq}
use Rattle.rx_scenario.specs.Scenario.{Name, labels_meant}
use Rattle.rx_scenario.specs.Reading.{are_new, is_one_of}

abbrev pub same_text : Bor (List ℕ) → Bor (List ℕ) → Bool
same_text x y = bytes_eq x.now y.now

pub record AreSeen {S : Type 0} (seen : HashSet (Bor (List ℕ)) S) (known : List Name) : Type 0 where
  pub listed : (q : Bor (List ℕ)) → contains same_text seen q ≡ is_one_of known q.now

-- what a loop over the labels keeps, where these are left
pub record IsHalfway {S : Type 0} (seen : HashSet (Bor (List ℕ)) S) (all left : List (Option Name)) : Type 0 where
  pub known : List Name
  pub seen_is : AreSeen seen known
  pub same : are_new [] all ≡ are_new known left

absent_if : (fresh there : Bool) → fresh ≡ not there → fresh ≡ true → there ≡ false
absent_if fresh x1 told is_true = search rules

present_if : (fresh there : Bool) → fresh ≡ not there → fresh ≡ false → there ≡ true
present_if fresh x1 told is_false = search rules

module _ {S : Type 0} where
  pub halfway-start : (seen : HashSet (Bor (List ℕ)) S) (all : List (Option Name)) → seen.keys ≡ [] → IsHalfway seen all all
  unfolding is_one_of
  halfway-start seen all none = record { known = []; seen_is = record { listed = λ q. rw none refl }; same = refl }

  pub halfway-none : (seen new : HashSet (Bor (List ℕ)) S) (all left : List (Option Name)) (label : Option Name) → IsHalfway seen all (label ∷ left)
      → label ≡ None → new ≡ seen → IsHalfway new all left
  halfway-none seen new all left label half is same =
      let here : IsHalfway seen all (None ∷ left) = rw is at half in
      rw same (record { known = here.known; seen_is = here.seen_is; same = here.same })

  pub halfway-some : {seen new : HashSet (Bor (List ℕ)) S} {all left : List (Option Name)} (label : Option Name) (k : Bor (List ℕ)) (fresh : Bool)
      → IsHalfway seen all (label ∷ left) → label ≡ Some k.now → fresh ≡ not (contains same_text seen k) → fresh ≡ true → Updates same_text seen new k true
      → IsHalfway new all left
  unfolding is_one_of
  halfway-some {seen} {all} {left} label k fresh half is told is_true added =
      let here : IsHalfway seen all (Some k.now ∷ left) = rw is at half in
      let absent : is_one_of here.known k.now ≡ false = sym (here.seen_is.listed k) ∙ absent_if fresh _ told is_true in
      record {
        known = k.now ∷ here.known;
        seen_is = record { listed = λ q. rw (added.0 q, here.seen_is.listed q) (either (bytes_eq k.now q.now) _) };
        same = here.same ∙ rw absent refl;
      } where
        either : (a b : Bool) → cond a true b ≡ (a || b)
        either true b = refl
        either false b = refl

  pub halfway-twice : {seen : HashSet (Bor (List ℕ)) S} {all : List (Option Name)} (left : List (Option Name)) (label : Option Name) (k : Bor (List ℕ))
      (fresh : Bool)
      → IsHalfway seen all (label ∷ left) → label ≡ Some k.now → fresh ≡ not (contains same_text seen k) → fresh ≡ false → false ≡ are_new [] all
  halfway-twice {seen} {all} left label k fresh half is told is_false =
      search (rules, Some, present_if)

pub labels_meant-drop : (labels : List (Option (String Global))) (i : ℕ) (label : Option (String Global)) → i < length labels
    → label ≡ get_or labels i label → labels_meant (drop i labels) ≡ option_map string_bytes label ∷ labels_meant (drop (i + 1) labels)
labels_meant-drop labels i label within is = rw (add-one, drop-cons labels i label within, ← is) refl
