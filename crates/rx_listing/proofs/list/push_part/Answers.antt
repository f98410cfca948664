use Rattle.rx_listing.proofs.Common.{◌≡◌, ℕ, ◌++◌, ◌<◌, List, Option, Some, option_map, length, string_bytes, slice_index_or, sym, ap, ◌∙◌, is_some}
use Rattle.rx_listing.proofs.Common.{name_of_number}
use Rattle.rx_listing.proofs.Common.{joined, counted_of, has_no_texts, led_text, names_of_part, part_object}
use Rattle.rx_listing.proofs.Objects.{object_same, object_nil, object_text, objects_all, no_object, placed_part}
use Rattle.rx_listing.proofs.list.push_part.Goals.{in-Some+in_ok-push_object, in_default}
use Rattle.rx_listing.proofs.list.push_part.Goals as goal

pub numbers-preserved : goal.numbers-preserved
numbers-preserved g c =
    let object : ℕ → Option (List ℕ) = part_object c.args.book.now c.args.known.now (counted_of c.args.sight.now) c.args.part in
    let ns : List ℕ = c.deref-number-items.result.now in
    let i = c.numbers.number-index in
    let begun = string_bytes c.args.text.now in
    let within : i < length ns = c.numbers-test.true in
    elim c.match-branch-3.branch [
      | in-Some+in_ok-push_object w ↦
          let there : object (slice_index_or ns i 0) ≡ Some (string_bytes w.in-Some.object) =
          sym c.in_ok-object.ensures ∙ ap (option_map string_bytes) w.in-Some.is in
          record {
            first = w.is_first-is ∙ object_nil object ns i 0 within there;
            written = ap string_bytes w.text-is ∙ object_text object ns i 0 within c.numbers.is_first begun there
                c.numbers.invariant.first c.numbers.invariant.written
                (w.in_ok-push_object.ensures ∙ ap (λ (o : List ℕ). string_bytes c.numbers.text ++ led_text c.numbers.is_first o) w.as_str.ensures.value);
          }
      | in_default w ↦
          let same = object_same object ns i 0 within (sym c.in_ok-object.ensures ∙ ap (option_map string_bytes) w.in_default.is) in
          record {
            first = w.is_first-is ∙ c.numbers.invariant.first ∙ ap has_no_texts same;
            written = ap string_bytes w.text-is ∙ c.numbers.invariant.written ∙ ap (λ (objects : List (List ℕ)). begun ++ joined objects) same;
          }
    ]

pub returns : goal.returns
returns g c = λ placed.
    let book = c.args.book.now in
    let known = c.args.known.now in
    let part = c.args.part in
    let counted = counted_of c.args.sight.now in
    let len = length book.history in
    let object : ℕ → Option (List ℕ) = part_object book known counted part in
    let names = names_of_part known part in
    c.numbers.invariant.written
    ∙ ap (λ (objects : List (List ℕ)). string_bytes c.args.text.now ++ joined objects)
    (objects_all object (λ n. is_some (name_of_number names n)) c.deref-number-items.result.now c.numbers.number-index len c.numbers-test.false
    (c.deref-number-items.ensures.value
    ∙ rw (sym c.names_of_part.ensures) (c.in_ok-numbers.ensures len (rw c.names_of_part.ensures (placed_part len known part placed))))
    (λ n. no_object book known n counted part))
