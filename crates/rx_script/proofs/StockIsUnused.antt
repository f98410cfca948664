-- A stock of fresh resources is live, and was never applied.
use Rattle.std.proofs.Common.{◌≡◌, List, map, refl, sym, subst}
use Rattle.std.proofs.lemmas.List.Elements.{All-map}
use Rattle.std.specs.List.{All, range_with_len}
use Rattle.rx_resource.specs.declared.Life.TheVariants.{Live}
use Rattle.rx_script.specs.Boxes.{Box, fresh_by}

pub all_live : (xs : List Box) → xs ≡ map fresh_by (range_with_len 0 256) → All (λ (s : Box). s.life ≡ Live) xs
all_live xs is = subst (λ (l : List Box). All (λ (s : Box). s.life ≡ Live) l) (sym is)
    (All-map (λ (s : Box). s.life ≡ Live) fresh_by (range_with_len 0 256) (λ k d within. refl))

pub all_unused : (xs : List Box) → xs ≡ map fresh_by (range_with_len 0 256) → All (λ (s : Box). s.uses ≡ 0) xs
all_unused xs is = subst (λ (l : List Box). All (λ (s : Box). s.uses ≡ 0) l) (sym is)
    (All-map (λ (s : Box). s.uses ≡ 0) fresh_by (range_with_len 0 256) (λ k d within. refl))
