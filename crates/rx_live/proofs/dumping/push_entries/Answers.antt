use Rattle.rx_live.proofs.Common.{◌≡◌, ℕ, ◌++◌, List, Option, Some, option_map, length, string_bytes, sym, ap, ◌∙◌, joined, has_no_texts, led_text}
use Rattle.rx_live.proofs.Common.{name_entry_at}
use Rattle.rx_live.proofs.Common.{session_of}
use Rattle.rx_live.proofs.EntriesWritten.{entry_same, entry_nil, entry_written}
use Rattle.rx_live.proofs.dumping.push_entries.Goals.{in-Some+in_ok-push_entry, in_default}
use Rattle.rx_live.proofs.dumping.push_entries.Goals as goal
use Rattle.std.proofs.Common.{rules}

pub places-preserved : goal.places-preserved
places-preserved c =
    let entry : ℕ → Option (List ℕ) = name_entry_at (session_of c.args.engine.now) in
    let k = c.places.place in
    let begun = string_bytes c.args.text.now in
    elim c.match-branch-2.branch [
      | in-Some+in_ok-push_entry w ↦
          let there : entry k ≡ Some (string_bytes w.in-Some.entry) = sym c.in_ok-entry.ensures ∙ ap (option_map string_bytes) w.in-Some.is in
          record {
            first = w.is_first-is ∙ entry_nil entry k there;
            written = ap string_bytes w.text-is ∙ entry_written entry k c.places.is_first begun there c.places.invariant.first c.places.invariant.written
                (w.in_ok-push_entry.ensures ∙ ap (λ (o : List ℕ). string_bytes c.places.text ++ led_text c.places.is_first o) w.as_str.ensures.value);
          }
      | in_default w ↦
          let same = entry_same entry k (sym c.in_ok-entry.ensures ∙ ap (option_map string_bytes) w.in_default.is) in
          record {
            first = w.is_first-is ∙ c.places.invariant.first ∙ ap has_no_texts same;
            written = ap string_bytes w.text-is ∙ c.places.invariant.written ∙ ap (λ (texts : List (List ℕ)). begun ++ joined texts) same;
          }
    ]

pub returns : goal.returns
returns c = search (rules, length, string_bytes)
