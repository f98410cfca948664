-- What is bound after a name more, and after one less.
use Rattle.std.proofs.Common.{◌≡◌, ℕ, ◌==◌, List, Bool, cond, Option, Some, None, option_map, ap, ◌∙◌, String, Global, string_bytes, rules}
use Rattle.std.proofs.lemmas.Map.Text.{hash_map_updates_text}
use Rattle.std.specs.Bool.{nat_eq}
use Rattle.std.specs.Str.{bytes_eq}
use Rattle.std.specs.String.{string_eq}
use Rattle.std.specs.HashMap.{UpdatesBy}
use Rattle.rx_line.specs.declared.names.Spot.{Spot}
use Rattle.rx_line.specs.declared.names.Names.{Names}
use Rattle.rx_line.specs.Names.{spot_of, name_of_number, IsPaired, Binds, Forgets}
use Rattle.rx_line.proofs.NamesStayPaired.{paired-bind, paired-forget}

by_bytes : (b : Bool) (x : Option (String Global)) (y : Option (String Global))
    → option_map string_bytes (cond b x y) ≡ cond b (option_map string_bytes x) (option_map string_bytes y)
by_bytes x0 x y = search rules

pub bound_names : (old new : Names) (one other : String Global) (spot : Spot) → string_bytes other ≡ string_bytes one →
    UpdatesBy string_eq (λ (k : String Global). bytes_eq (string_bytes one) (string_bytes k)) old.by_name new.by_name (Some spot) →
    UpdatesBy nat_eq (nat_eq spot.number) old.by_number new.by_number (Some other) → Binds old (string_bytes one) spot new
bound_names old new one other spot twice by_name by_number = record {
  spots = λ n. hash_map_updates_text (string_bytes one) old.by_name new.by_name (Some spot) by_name n;
  names = λ k. ap (option_map string_bytes) (by_number.0 k) ∙ by_bytes (nat_eq spot.number k) (Some other) _
      ∙ ap (λ (name : List ℕ). cond (spot.number == k) (Some name) (name_of_number old k)) twice;
}

pub bound_paired : (old new : Names) (name : List ℕ) (spot : Spot) → spot_of old name ≡ None
    → name_of_number old spot.number ≡ None → Binds old name spot new → IsPaired old → IsPaired new
bound_paired old new name spot free unnamed binds paired =
    search (rules, paired-bind)

pub forgotten_names : (old new : Names) (number : ℕ) (name : List ℕ) →
    UpdatesBy string_eq (λ (k : String Global). bytes_eq name (string_bytes k)) old.by_name new.by_name None →
    UpdatesBy nat_eq (nat_eq number) old.by_number new.by_number None → Forgets old number name new
forgotten_names old new number name by_name by_number = search (rules, hash_map_updates_text, None, option_map, string_bytes, by_bytes)

pub forgotten_paired : (old new : Names) (number : ℕ) (name : List ℕ)
    → name_of_number old number ≡ Some name → Forgets old number name new → IsPaired old → IsPaired new
forgotten_paired old new number name known forgets paired =
    search (rules, paired-forget)
