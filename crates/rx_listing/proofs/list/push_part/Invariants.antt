use Rattle.rx_listing.proofs.Common.{◌≡◌, ◌++◌, take, filter_map, string_bytes, joined, counted_of, has_no_texts, part_object}
use Rattle.rx_listing.proofs.list.push_part.Given as goal

abbrev pub invariant-numbers : goal.invariant-numbers
invariant-numbers g l = record {
  first : l.is_first ≡ has_no_texts (filter_map (part_object l.book l.known (counted_of l.sight) l.part) (take l.number-index l.number-items));
  written : string_bytes l.text ≡ string_bytes l.fn.text
      ++ joined (filter_map (part_object l.book l.known (counted_of l.sight) l.part) (take l.number-index l.number-items));
}
