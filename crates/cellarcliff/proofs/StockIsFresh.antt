-- The program's stock is, as a book takes it, of fresh resources of the tags from 0 on.
use Rattle.std.proofs.Common.{◌≡◌, ◌∙◌, List, map, ap}
use Rattle.std.proofs.lemmas.Simd.{map-map}
use Rattle.std.specs.List.{range_with_len}
use Rattle.rx_resource.specs.declared.Resource.{Ghosts}
use Rattle.rx_script.specs.Boxes.{Box, fresh_by}
use Rattle.rx_script.specs.Stage.{ware_of}
use Rattle.cellarcliff.specs.Ran.{stock}

abbrev of_stocked : Ghosts Box
of_stocked = record { tag_of = λ s. s.tag; life_of = λ s. s.life; uses_of = λ s. s.uses }

pub wares : (xs : List Box) → xs ≡ map fresh_by (range_with_len 0 256) → map (ware_of of_stocked) xs ≡ stock
wares xs is = ap (λ l. map (ware_of of_stocked) l) is ∙ map-map (ware_of of_stocked) fresh_by (range_with_len 0 256)
