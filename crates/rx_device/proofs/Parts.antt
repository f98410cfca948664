-- A value that is read in place, and the value of serde_json that it stands for.
use Rattle.std.proofs.Common.{◌≡◌, ℕ, ◌+◌, ◌<◌, List, [], ◌∷◌, ◌++◌, length, take, get_or, Option, Some, None}
use Rattle.std.proofs.Common.{Bool, true, false, cond, option_map, option_and_then, refl, ap, sym, ◌∙◌}
use Rattle.std.specs.Str.{bytes_eq}
use Rattle.std.specs.Ordering.{is_eq, nat_cmp, match_ordering}
use Rattle.std.specs.Borrow.{Bor}
use Rattle.std.specs.declared.alloc.Global.{Global}
use Rattle.std.specs.Cmp.Lexicographic.{slice_cmp, nat_list_eq_equiv}
use Rattle.std.proofs.Common.{rules}
use Rattle.std.specs.declared.cmp.Ordering.{Ordering}
use Rattle.std.specs.declared.cmp.Ordering.TheVariants.{Less, Equal, Greater}
use Rattle.std.proofs.lemmas.Map.Text.{is_eq-slice_cmp}
use Rattle.std.proofs.lemmas.Map.Lookups.{exact_bytes}
use Rattle.std.proofs.lemmas.Slice.Eq.{bytes_eq-Decides}
use Rattle.std.proofs.lemmas.Bool.{false≢true}
use Rattle.std.proofs.lemmas.List.{take_more}
use Rattle.json.specs.Json as text
use Rattle.json.specs.Value.{value_view, members_view}
use Rattle.json.specs.declared.value.Value.{Value}
use Rattle.json.specs.Find as find
use Rattle.serde_json.specs.Data.{Num, Data, null, boolean, number, string, array, object, Members, no_members, member, put}
use Rattle.serde_json.specs.Find.{get, get_member, as_str, as_number, as_array, as_object}
use Rattle.serde_json.specs.Read.{number_of}
use Rattle.rx_device.specs.Part.{data_of, items_data, members_data, number_or_null}

-- members -----------------------------------------------------------------------------------------

by_order : {A : Type 0} (o : Ordering) (other here : A) → match_ordering o other here other ≡ cond (is_eq o) here other
by_order x0 other here = search rules

get_first : (k l : List ℕ) (e : Data) (ms : Members) → get_member k (member l e ms) ≡ cond (bytes_eq k l) (Some e) (get_member k ms)
get_first k l e ms =
    search (rules, by_order, Some, cond, is_eq-slice_cmp)

twice : {A : Type 0} (b : Bool) (x y z : A) → cond b x z ≡ cond b x (cond b y z)
twice x0 x y z = search rules

-- two orders are not one
greater_apart : (j l : List ℕ) → slice_cmp nat_cmp j l ≡ Greater → j ≡ l → ⊥
greater_apart j l is same =
    false≢true (sym (ap is_eq is) ∙ is_eq-slice_cmp j l ∙ (bytes_eq-Decides j l).1 same)

bytes_eq-sym : (k l : List ℕ) → bytes_eq k l ≡ bytes_eq l k
bytes_eq-sym k l = nat_list_eq_equiv.symm k l

in_turn : {A : Type 0} (a b : Bool) (x y z : A) → (a ≡ true → b ≡ true → ⊥) → cond a x (cond b y z) ≡ cond b y (cond a x z)
in_turn x0 x1 x y z apart = search rules

-- a member that is put under a key is found there, and every other one as before
placed : (k j l : List ℕ) (d e : Data) (ms : Members) (o : Ordering) → slice_cmp nat_cmp j l ≡ o
    → get_member k (put j d ms) ≡ cond (bytes_eq k j) (Some d) (get_member k ms)
    → get_member k (match_ordering o (member j d (member l e ms)) (member l d ms) (member l e (put j d ms)))
    ≡ cond (bytes_eq k j) (Some d) (get_member k (member l e ms))
placed k j l d e ms Less is rest = get_first k j d (member l e ms)
placed k j l d e ms Equal is rest =
    let same : j ≡ l = exact_bytes j l is in
    let here : get_member k (member l d ms) ≡ cond (bytes_eq k l) (Some d) (get_member k ms) = get_first k l d ms in
    let before : cond (bytes_eq k l) (Some e) (get_member k ms) ≡ get_member k (member l e ms) = sym (get_first k l e ms) in
    here ∙ twice (bytes_eq k l) (Some d) (Some e) (get_member k ms) ∙ ap (cond (bytes_eq k l) (Some d)) before
    ∙ ap (λ (name : List ℕ). cond (bytes_eq k name) (Some d) (get_member k (member l e ms))) (sym same)
placed k j l d e ms Greater is rest =
    let apart : bytes_eq k l ≡ true → bytes_eq k j ≡ true → ⊥ =
    λ at_l at_j. greater_apart j l is (sym ((bytes_eq-Decides k j).0 at_j) ∙ (bytes_eq-Decides k l).0 at_l) in
    get_first k l e (put j d ms) ∙ ap (cond (bytes_eq k l) (Some e)) rest ∙ in_turn (bytes_eq k l) (bytes_eq k j) (Some e) (Some d) (get_member k ms) apart
    ∙ ap (cond (bytes_eq k j) (Some d)) (sym (get_first k l e ms))

get_put : (k j : List ℕ) (d : Data) (ms : Members) → get_member k (put j d ms) ≡ cond (bytes_eq k j) (Some d) (get_member k ms)
get_put k j d no_members = get_first k j d no_members
get_put k j d (member l e ms) = placed k j l d e ms (slice_cmp nat_cmp j l) refl (get_put k j d ms)

-- the last one of two
abbrev last_of : Option Data → Option Data → Option Data
last_of None earlier = earlier
last_of (Some d) earlier = Some d

one_more : (o : Option text.Json) (b : Bool) (j : text.Json) (earlier : Option Data)
    → last_of (option_map data_of o) (cond b (Some (data_of j)) earlier) ≡ last_of (option_map data_of (find.later_or o (cond b (Some j) None))) earlier
one_more x0 x1 j earlier = search rules

get_data : (k : List ℕ) (ms : text.Members) (found : Members)
    → get_member k (members_data ms found) ≡ last_of (option_map data_of (find.get_member k ms)) (get_member k found)
get_data k text.no_members found = refl
get_data k (text.member l j ms) found =
    search (rules, cond, Some, get_put, bytes_eq-sym, option_map, get_data k ms (put l (data_of j) found))

last_or_none : (o : Option Data) → last_of o None ≡ o
last_or_none x0 = search rules

-- values ------------------------------------------------------------------------------------------

word_of_number : (o : Option Num) → as_str (number_or_null o) ≡ None
word_of_number x0 = search rules

pub word_found : (j : text.Json) → as_str (data_of j) ≡ find.as_str j
word_found x0 = search (rules, word_of_number)

number_itself : (o : Option Num) → as_number (number_or_null o) ≡ o
number_itself x0 = search rules

pub number_found : (j : text.Json) → as_number (data_of j) ≡ option_and_then number_of (find.as_number j)
number_found x0 = search (rules, number_itself)

array_of_number : (o : Option Num) → as_array (number_or_null o) ≡ None
array_of_number x0 = search rules

pub array_found : (j : text.Json) → as_array (data_of j) ≡ option_map items_data (find.as_array j)
array_found x0 = search (rules, array_of_number)

object_of_number : (o : Option Num) → as_object (number_or_null o) ≡ None
object_of_number x0 = search rules

pub object_found : (j : text.Json) → as_object (data_of j) ≡ option_map (λ ms. members_data ms no_members) (find.as_object j)
object_found x0 = search (rules, object_of_number)

-- a value with members has just those, and any other has none
get_of_object : (k : List ℕ) (d : Data) (ms : Members) → as_object d ≡ Some ms → get k d ≡ get_member k ms
get_of_object k null ms is = absurd (cc)
get_of_object k (boolean b) ms is = absurd (cc)
get_of_object k (number n) ms is = absurd (cc)
get_of_object k (string s) ms is = absurd (cc)
get_of_object k (array ds) ms is = absurd (cc)
get_of_object k (object there) ms is = let same : there ≡ ms = cc in ap (get_member k) same

pub get_of_other : (k : List ℕ) (d : Data) → as_object d ≡ None → None ≡ get k d
get_of_other k null is = refl
get_of_other k (boolean b) is = refl
get_of_other k (number n) is = refl
get_of_other k (string s) is = refl
get_of_other k (array ds) is = refl
get_of_other k (object there) is = absurd (cc)

-- what was found in the text stands for what is found in the value
pub get_part : (k : List ℕ) (d : Data) (ms : text.Members) (r : Option (Bor (Value Global))) → as_object d ≡ Some (members_data ms no_members)
    → option_map (λ v. value_view v.now) r ≡ find.get_member k ms → option_map (λ v. data_of (value_view v.now)) r ≡ get k d
get_part k d ms r there is =
    search (rules, option_map, get_data, last_or_none, get_of_object, Option, None, Some)

-- the last member of a name --------------------------------------------------------------------------

later : (b : Bool) (j : text.Json) (earlier : Option text.Json) (o : Bool) (i : text.Json)
    → find.later_or (cond b (Some j) earlier) (cond o (Some i) None) ≡ cond b (Some j) (find.later_or earlier (cond o (Some i) None))
later x0 j earlier o i = search rules

find_push : (k : List ℕ) (ms : List (Bor (List ℕ) × Value Global)) (m : Bor (List ℕ) × Value Global)
    → find.get_member k (members_view (ms ++ m ∷ [])) ≡ cond (bytes_eq m.0.now k) (Some (value_view m.1)) (find.get_member k (members_view ms))
find_push k [] m = refl
find_push k (n ∷ ms) m =
    search (rules, cond, Some, None, later, find_push k ms m)

module _ (k : List ℕ) (ms : List (Bor (List ℕ) × Value Global)) (i left : ℕ) (m : Bor (List ℕ) × Value Global)
    (within : i < length ms) (next : left ≡ i + 1) (is : m ≡ get_or ms i m) where
  front : take left ms ≡ take i ms ++ m ∷ []
  front = ap (λ n. take n ms) next ∙ take_more ms i m within ∙ ap (λ x. take i ms ++ x ∷ []) (sym is)

  one_more_member : find.get_member k (members_view (take left ms)) ≡ cond (bytes_eq m.0.now k) (Some (value_view m.1)) (find.get_member k (members_view (take i ms)))
  one_more_member = ap (λ ns. find.get_member k (members_view ns)) front ∙ find_push k (take i ms) m

  pub found_last : bytes_eq m.0.now k ≡ true → find.get_member k (members_view (take left ms)) ≡ Some (value_view m.1)
  found_last same = search (rules, one_more_member, cond, Some, take)

  pub found_before : bytes_eq m.0.now k ≡ false → find.get_member k (members_view (take left ms)) ≡ find.get_member k (members_view (take i ms))
  found_before other = search (rules, one_more_member, cond, Some, take)
