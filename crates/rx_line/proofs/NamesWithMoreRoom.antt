-- The same names are bound where more room was made.
use Rattle.std.proofs.Common.{◌≡◌, ℕ, List, [], ◌∷◌, Bool, true, false, cond, Option, Some, None, option_map, refl, sym, ap, ◌∙◌, String, Global, string_bytes}
use Rattle.std.proofs.lemmas.Option.{none-some}
use Rattle.std.proofs.lemmas.Slice.Eq.{bytes_eq-Decides}
use Rattle.std.specs.Bool.{nat_eq}
use Rattle.std.specs.Str.{bytes_eq}
use Rattle.std.specs.String.{string_eq}
use Rattle.std.specs.HashMap.{HashMap, get, get_by_text, IsReordered}
use Rattle.std.specs.Map.{lookup}
use Rattle.rx_line.specs.declared.names.Names.{Names}
use Rattle.rx_line.specs.Names.{IsPaired, AreSameNames}
use Rattle.std.proofs.Common.{rules}

-- what is found stands at a key
found_at : {K X : Type 0} (test : K → Bool) (es : List (K × X)) (x : X) → lookup test es ≡ Some x → (k : K) × (test k ≡ true)
found_at test [] x found = absurd (none-some x found)
found_at {K = K} {X = X} test (e ∷ es) x found = by_test (test e.0) refl (λ there. found_at test es x there) found where
  by_test : (b : Bool) → test e.0 ≡ b → (lookup test es ≡ Some x → (k : K) × (test k ≡ true))
      → cond b (Some e.1) (lookup test es) ≡ Some x → (k : K) × (test k ≡ true)
  by_test true passes later found = (e.0, passes)
  by_test false fails later found = later found

module _ {X S : Type 0} (m n : HashMap (String Global) X S) (same : (q : String Global) → get string_eq n q ≡ get string_eq m q) where
  at_key : (cs : List ℕ) (k : String Global) → bytes_eq cs (string_bytes k) ≡ true → get_by_text n cs ≡ get_by_text m cs
  at_key cs k is =
      let here : cs ≡ string_bytes k = (bytes_eq-Decides cs (string_bytes k)).0 is in
      let there : get_by_text n (string_bytes k) ≡ get_by_text m (string_bytes k) = same k in
      ap (get_by_text n) here ∙ there ∙ ap (get_by_text m) (sym here)

  -- so at any bytes
  pub reordered_text : (cs : List ℕ) → get_by_text n cs ≡ get_by_text m cs
  reordered_text cs = search (rules, Option, None, Some, found_at, String, Global, string_bytes, at_key)

pub same_names : (old new : Names) → IsReordered string_eq old.by_name new.by_name → IsReordered nat_eq old.by_number new.by_number → AreSameNames old new
same_names old new by_name by_number = search (rules, reordered_text, option_map, string_bytes)

pub still_paired : (old new : Names) → AreSameNames old new → IsPaired old → IsPaired new
still_paired old new same paired = search (rules, option_map)
