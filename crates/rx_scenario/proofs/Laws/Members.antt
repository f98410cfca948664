-- Tests on members' names: on one, and on all through the views of a map and of a list of texts.
use Rattle.std.proofs.Common.{◌≡◌, ◌≢◌, ℕ, List, [], ◌∷◌, Bool, true, false, Decides, map, refl, sym, ap, ◌∙◌, Global, rules}
use Rattle.std.specs.Prelude.{◌&&◌, ◌||◌}
use Rattle.std.specs.Str.{bytes_eq}
use Rattle.std.specs.List.{list_all, list_any}
use Rattle.std.proofs.lemmas.Slice.Eq.{bytes_eq-Decides}
use Rattle.std.specs.Ordering.{nat_cmp, match_ordering}
use Rattle.std.specs.Cmp.Lexicographic.{slice_cmp}
use Rattle.std.specs.declared.cmp.Ordering.{Ordering}
use Rattle.std.specs.declared.cmp.Ordering.TheVariants.{Less, Equal, Greater}
use Rattle.std.proofs.lemmas.Map.Lookups.{exact_bytes}
use Rattle.std.specs.Borrow.{Bor}
use Rattle.json.specs.Value.{value_view, members_view}
use Rattle.json.specs.declared.value.Value.{Value}
use Rattle.serde_json.specs.Data.{Data, Members, no_members, member, put}
use Rattle.rx_device.specs.Part.{data_of, members_data}
use Rattle.rx_scenario.specs.Reading.{keys}

in_turn : (a b c : Bool) → (b && (a && c)) ≡ ((a && b) && c)
in_turn x0 b c = search rules

swapped : (a b c : Bool) → (b && (a && c)) ≡ (a && (b && c))
swapped x0 b c = search rules

pub and_all : (b : Bool) → (b && true) ≡ b
and_all x0 = search rules

twice : (a c : Bool) → (a && c) ≡ (a && (a && c))
twice x0 c = search rules

placed : (p : List ℕ → Bool) (k l : List ℕ) (d e : Data) (ms : Members) (o : Ordering) → slice_cmp nat_cmp k l ≡ o
    → list_all p (keys (put k d ms)) ≡ (p k && list_all p (keys ms))
    → list_all p (keys (match_ordering o (member k d (member l e ms)) (member l d ms) (member l e (put k d ms)))) ≡ (p k && (p l && list_all p (keys ms)))
placed p k l d e ms Less is rest = refl
placed p k l d e ms Equal is rest =
    ap (λ (name : List ℕ). p name && list_all p (keys ms)) (sym (exact_bytes k l is)) ∙ twice (p k) (list_all p (keys ms))
    ∙ ap (λ (name : List ℕ). p k && (p name && list_all p (keys ms))) (exact_bytes k l is)
placed p k l d e ms Greater is rest = ap (λ (b : Bool). p l && b) rest ∙ swapped (p k) (p l) (list_all p (keys ms))

pub list_any_map : {A B : Type 0} (p : B → Bool) (f : A → B) (xs : List A) → list_any p (map f xs) ≡ list_any (λ x. p (f x)) xs
list_any_map p f [] = refl
list_any_map p f (x ∷ xs) = ap (λ (b : Bool). p (f x) || b) (list_any_map p f xs)

-- putting a member tests its name beside those that are there
all_put : (p : List ℕ → Bool) (k : List ℕ) (d : Data) (ms : Members) → list_all p (keys (put k d ms)) ≡ (p k && list_all p (keys ms))
all_put p k d no_members = refl
all_put p k d (member l e ms) = placed p k l d e ms (slice_cmp nat_cmp k l) refl (all_put p k d ms)

pub list_all_keys : (p : List ℕ → Bool) (ms : List (Bor (List ℕ) × Value Global)) (found : Members)
    → list_all p (keys (members_data (members_view ms) found)) ≡ (list_all (λ (m : Bor (List ℕ) × Value Global). p m.0.now) ms && list_all p (keys found))
list_all_keys p [] found = refl
list_all_keys p (m ∷ ms) found =
    list_all_keys p ms (put m.0.now (data_of (value_view m.1)) found)
    ∙ ap (λ (b : Bool). list_all (λ (m : Bor (List ℕ) × Value Global). p m.0.now) ms && b) (all_put p m.0.now (data_of (value_view m.1)) found)
    ∙ in_turn (p m.0.now) (list_all (λ (m : Bor (List ℕ) × Value Global). p m.0.now) ms) (list_all p (keys found))

pub bytes_eq-other : (xs ys : List ℕ) → ys ≢ xs → bytes_eq xs ys ≡ false
bytes_eq-other xs ys other = search (rules, bytes_eq-Decides, Bool, Decides)

pub bytes_eq-none : (xs ys : List ℕ) → xs ≢ ys → bytes_eq xs ys ≡ false
bytes_eq-none xs ys other = bytes_eq-other xs ys (λ same. other (sym same))
