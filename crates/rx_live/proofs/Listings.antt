-- All names that are bound, as a session ends.
use Rattle.rx_live.proofs.Common.{◌≡◌, ℕ, ◌+◌, ◌<◌, ◌≤◌, zero, suc, Bool, true, false, cond, List, [], ◌∷◌, ◌++◌, codes, length, take, map, filter, get_or}
use Rattle.rx_live.proofs.Common.{Option, Some, None, option_map, refl, sym, ap, ◌∙◌, arith, subst, append_assoc, add-one, is_some, nat_lt}
use Rattle.rx_live.proofs.Common.{not, ◌&&◌, filter_map, cons_option, range_with_len, bytes_eq, option_map_or, option_to_list, lt-ltb, ltb-false, le-ltb}
use Rattle.rx_live.proofs.Common.{cases_order, append-nil, map-append, take_more, take_all, filter_map-append, none-some, same_Some, bytes_eq-Decides, Name}
use Rattle.rx_live.proofs.Common.{Spot, spot_of, name_of_number, name_text, joined, is_kept, Session, IsSound, has_resource, released, with_held, LeadsNames}
use Rattle.rx_live.proofs.Common.{no_act}
use Rattle.rx_live.proofs.Common.{releases, all_names, kept_past}
use Rattle.rx_live.specs.Listed.{names_below, has_no_names, led_name_text, open_text}
use Rattle.rx_live.proofs.AcceptedBindsNames.{none_of}
use Rattle.rx_live.proofs.Tellings.{joined_more}
use Rattle.rx_live.proofs.Laws.HeldStaysHeld.{leads_on, leads_same}
use Rattle.rx_live.proofs.Drops.{dropped_unnamed, or_none}
use Rattle.std.proofs.Common.{rules}

-- text -----------------------------------------------------------------------------------------------

pub nil_more : (names : List Name) (o : Option Name) → has_no_names (names ++ option_to_list o) ≡ (has_no_names names && not (is_some o))
nil_more x0 x1 = search rules

pub text_more : (names : List Name) (o : Option Name) → open_text (names ++ option_to_list o) ≡ open_text names ++ led_name_text (has_no_names names) o
text_more names None = ap open_text (append-nil names) ∙ sym (append-nil (open_text names))
text_more [] (Some n) = ap (λ (t : List ℕ). codes ",\"release\":[" ++ t) (append-nil (name_text n))
text_more (name ∷ names) (Some n) = ap (λ (ps : List (List ℕ)). codes ",\"release\":[" ++ joined (name_text name ∷ ps)) (map-append name_text names (n ∷ []))
    ∙ ap (λ (t : List ℕ). codes ",\"release\":[" ++ t) (sym (joined_more (name_text name) (map name_text names) (name_text n))
    ∙ append_assoc (joined (map name_text (name ∷ names))) (codes ",") (name_text n))
    ∙ sym (append_assoc (codes ",\"release\":[") (joined (map name_text (name ∷ names))) (codes "," ++ name_text n))

-- the names of numbers
abbrev pub names_at : Session → List ℕ → List Name
names_at s ns = filter_map (name_of_number s.resources) ns

one_name : (o : Option Name) → cons_option o [] ≡ option_to_list o
one_name x0 = search rules

-- a number more
pub names_more : (s : Session) (before : List Name) (ns : List ℕ) (i d : ℕ) → i < length ns →
    before ++ names_at s (take (i + 1) ns) ≡ (before ++ names_at s (take i ns)) ++ option_to_list (name_of_number s.resources (get_or ns i d))
names_more s before ns i d within =
    let n = get_or ns i d in
    ap (λ (ms : List ℕ). before ++ names_at s ms) (take_more ns i d within)
    ∙ ap (λ (names : List Name). before ++ names) (filter_map-append (name_of_number s.resources) (take i ns) (n ∷ [])
    ∙ ap (λ (names : List Name). names_at s (take i ns) ++ names) (one_name (name_of_number s.resources n)))
    ∙ sym (append_assoc before (names_at s (take i ns)) (option_to_list (name_of_number s.resources n)))

pub range_more : (a n : ℕ) → range_with_len a (suc n) ≡ range_with_len a n ++ (a + n) ∷ []
range_more a zero = ap (λ (k : ℕ). k ∷ []) (let e : a ≡ a + 0 = omega arith in e)
range_more a (suc n) = search (rules, range_with_len, range_more (a + 1) n)

below_is : (s : Session) (k : ℕ) → names_at s (range_with_len 0 k) ≡ names_below s k
below_is s zero = refl
below_is s (suc k) = ap (names_at s) (range_more 0 k ∙ ap (λ (n : ℕ). range_with_len 0 k ++ n ∷ []) (let e : 0 + k ≡ k = omega arith in e))
    ∙ filter_map-append (name_of_number s.resources) (range_with_len 0 k) (k ∷ []) ∙ (λ i. below_is s k i ++ one_name (name_of_number s.resources k) i)

-- numbers without a name may be left out
named_alone : (s : Session) (ns : List ℕ) → names_at s (filter (λ n. is_some (name_of_number s.resources n)) ns) ≡ names_at s ns
named_alone s [] = refl
named_alone s (n ∷ ns) = search (rules, filter, is_some, cond, cons_option, named_alone s ns)

-- all numbers that have names
placed_resources : (s : Session) → IsSound s → (n : ℕ) → length s.book.history ≤ n → name_of_number s.resources n ≡ None
placed_resources s sound n past = none_of (name_of_number s.resources n) (sound.resources n ∙ kept_past s.book.history n past)

pub names_all : (s : Session) (before : List Name) (ns : List ℕ) (i : ℕ) → IsSound s → length ns ≤ i →
    ((len : ℕ) → ((n : ℕ) → len ≤ n → name_of_number s.resources n ≡ None) → ns ≡ filter (λ n. is_some (name_of_number s.resources n)) (range_with_len 0 len)) →
    before ++ names_at s (take i ns) ≡ before ++ names_below s (length s.book.history)
names_all s before ns i sound past are = search (rules, length, take_all, placed_resources, named_alone, range_with_len, below_is)

pub text_step : (names : List Name) {more : List Name} (o : Option Name) (begun : List ℕ) {text new : List ℕ} (first : Bool) →
    more ≡ names ++ option_to_list o → first ≡ has_no_names names → text ≡ begun ++ open_text names → new ≡ text ++ led_name_text first o
    → new ≡ begun ++ open_text more
text_step names o begun first longer is written next = search (rules, append_assoc, text_more)

pub first_step : (names more : List Name) (o : Option Name) (first new : Bool) → more ≡ names ++ option_to_list o → first ≡ has_no_names names →
    new ≡ (first && not (is_some o)) → new ≡ has_no_names more
first_step names more o first new longer is next = next ∙ ap (λ (b : Bool). b && not (is_some o)) is ∙ sym (nil_more names o) ∙ ap has_no_names (sym longer)

-- what is held ---------------------------------------------------------------------------------------

-- bound, to this number or a later one
abbrev bound_from : Session → ℕ → Name → Bool
bound_from s k n = option_map_or (λ (spot : Spot). not (nat_lt spot.number k)) (spot_of s.resources n) false

lt_other : (m k : ℕ) → (m ≡ k → ⊥) → nat_lt m (suc k) ≡ nat_lt m k
lt_other m k apart = search (rules, cases_order, nat_lt, lt-ltb, add-one, le-ltb)

module _ (s : Session) (sound : IsSound s) where
  -- a number without a name
  none_step : (k : ℕ) → name_of_number s.resources k ≡ None → (n : Name) → bound_from s (suc k) n ≡ bound_from s k n
  none_step k none n = search (rules, option_map_or, not, nat_lt, lt_other, none-some)

  -- one with a name
  name_spot : (k : ℕ) (name : Name) → name_of_number s.resources k ≡ Some name → (n : Name) (spot : Spot) → spot_of s.resources n ≡ Some spot
      → spot.number ≡ k →
      name ≡ n
  name_spot k name known n spot found same = search (rules, same_Some)

  here : (k : ℕ) (name : Name) → name_of_number s.resources k ≡ Some name → bound_from s k name ≡ true
  here k name known = by_spot (spot_of s.resources name) (sound.resource_pairs.numbered k name known) where
    by_spot : (o : Option Spot) → option_map (λ (spot : Spot). spot.number) o ≡ Some k →
        option_map_or (λ (spot : Spot). not (nat_lt spot.number k)) o false ≡ true
    by_spot None is = absurd (none-some k is)
    by_spot (Some spot) is = let number : spot.number ≡ k = same_Some spot.number k is in ap not (le-ltb spot.number k (omega arith))

  gone_here : (k : ℕ) (name : Name) → name_of_number s.resources k ≡ Some name → bound_from s (suc k) name ≡ false
  gone_here k name known = by_spot (spot_of s.resources name) (sound.resource_pairs.numbered k name known) where
    by_spot : (o : Option Spot) → option_map (λ (spot : Spot). spot.number) o ≡ Some k →
        option_map_or (λ (spot : Spot). not (nat_lt spot.number (suc k))) o false ≡ false
    by_spot None is = refl
    by_spot (Some spot) is = let number : spot.number ≡ k = same_Some spot.number k is in ap not (lt-ltb spot.number (suc k) (omega (arith, add-one k)))

  some_step : (k : ℕ) (name : Name) → name_of_number s.resources k ≡ Some name → (n : Name) → bound_from s (suc k) n ≡ with_held false name (bound_from s k) n
  some_step k name known n = search (rules, bytes_eq, cond, bytes_eq-Decides, gone_here, option_map_or, not, nat_lt, lt_other, name_spot)

  leads_one : (k : ℕ) (o : Option Name) → name_of_number s.resources k ≡ o
      → LeadsNames (bound_from s k) (map released (option_to_list o)) (bound_from s (suc k))
  leads_one k x1 none = search (rules, no_act, none_step, releases, here, some_step)

  leads_below : (k : ℕ) → LeadsNames (bound_from s 0) (map released (names_below s k)) (bound_from s k)
  leads_below zero = no_act (λ n. refl)
  leads_below (suc k) = search (rules, map-append, option_to_list, leads_on, leads_one, leads_below k)

  from_zero : (n : Name) → bound_from s 0 n ≡ is_some (spot_of s.resources n)
  from_zero n = search (rules, option_map_or, not, nat_lt, is_some, le-ltb)

  none_left : (n : Name) → bound_from s (length s.book.history) n ≡ false
  none_left n = by_spot (spot_of s.resources n) refl where
    by_spot : (o : Option Spot) → spot_of s.resources n ≡ o → option_map_or (λ (spot : Spot). not (nat_lt spot.number (length s.book.history))) o false ≡ false
    by_spot None found = refl
    by_spot (Some spot) found = by_place (nat_lt spot.number (length s.book.history)) refl where
      by_place : (b : Bool) → nat_lt spot.number (length s.book.history) ≡ b → not b ≡ false
      by_place true within = refl
      by_place false past =
          let gone : is_kept s.book.history spot.number ≡ false = kept_past s.book.history spot.number (ltb-false spot.number (length s.book.history) past) in
          let there : is_kept s.book.history spot.number ≡ true = sym (sound.resources spot.number) ∙ ap is_some (sound.resource_pairs.named n spot found) in
          let e : false ≡ true = sym gone ∙ there in absurd (cc)

  leads_bound : (held : Name → Bool) → ((n : Name) → is_some (spot_of s.resources n) ≡ held n) →
      LeadsNames held (map released (names_below s (length s.book.history))) (λ n. false)
  leads_bound held same =
      let start : (n : Name) → bound_from s 0 n ≡ held n = λ n. from_zero n ∙ same n in
      let all = leads_same held (bound_from s 0) (bound_from s (length s.book.history)) (map released (names_below s (length s.book.history))) start
      (leads_below (length s.book.history)) in
      subst (λ (last : Name → Bool). LeadsNames held (map released (names_below s (length s.book.history))) last) (λ i n. none_left n i) all

  by_unnamed : (o : Option Name) → s.unnamed ≡ o →
      LeadsNames (has_resource s) (map released (option_to_list o ++ names_below s (length s.book.history))) (λ n. false)
  by_unnamed x0 none = search (rules, leads_bound, or_none, is_some, option_map_or, bytes_eq, dropped_unnamed, releases)

  pub leads_all : LeadsNames (has_resource s) (map released (all_names s)) (λ n. false)
  leads_all = by_unnamed s.unnamed refl
