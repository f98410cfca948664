use Rattle.rx_live.proofs.Common.{◌≡◌, ℕ, ◌++◌, List, Option, Some, option_map, length, string_bytes, sym, ap, ◌∙◌, name_text, joined, has_no_texts}
use Rattle.rx_live.proofs.Common.{session_of, closed_at}
use Rattle.rx_live.proofs.EntriesWritten.{entry_same, entry_nil, entry_written}
use Rattle.rx_live.proofs.closed.push_names.Goals.{in-Some+in_ok-push_led, in_default}
use Rattle.rx_live.proofs.closed.push_names.Goals as goal
use Rattle.std.proofs.Common.{rules}

pub places-preserved : goal.places-preserved
places-preserved c =
    let s = session_of c.args.engine.now in
    let entry : ℕ → Option (List ℕ) = λ n. option_map name_text (closed_at s c.args.asked n) in
    let k = c.places.place in
    let begun = string_bytes c.args.text.now in
    elim c.match-closed_at.branch [
      | in-Some+in_ok-push_led w ↦
          let there : entry k ≡ Some (name_text w.in-Some.name.now) =
          ap (option_map name_text) (sym c.closed_at.ensures ∙ ap (option_map (λ s. s.now)) w.in-Some.is) in
          record {
            first = w.is_first-is ∙ entry_nil entry k there;
            written = ap string_bytes w.text-is ∙ entry_written entry k c.places.is_first begun there
                c.places.invariant.first c.places.invariant.written w.in_ok-push_led.ensures;
          }
      | in_default w ↦
          let same = entry_same entry k (ap (option_map name_text) (sym c.closed_at.ensures ∙ ap (option_map (λ s. s.now)) w.in_default.is)) in
          record {
            first = w.is_first-is ∙ c.places.invariant.first ∙ ap has_no_texts same;
            written = ap string_bytes w.text-is ∙ c.places.invariant.written ∙ ap (λ (texts : List (List ℕ)). begun ++ joined texts) same;
          }
    ]

pub returns-clause-first : goal.returns-clause-first
returns-clause-first c = search (rules, length)

pub returns-clause-text : goal.returns-clause-text
returns-clause-text c = search (rules, length, string_bytes)
