use Rattle.rx_live.proofs.Common.{◌≡◌, ℕ, List, Option, Some, option_map, length, sym, ap, ◌∙◌, name_text, has_no_texts, session_of, closed_at}
use Rattle.rx_live.proofs.EntriesWritten.{entry_same, entry_nil}
use Rattle.rx_live.proofs.closed.names_none.Goals.{in-Some, in_default}
use Rattle.rx_live.proofs.closed.names_none.Goals as goal
use Rattle.std.proofs.Common.{rules}

pub places-preserved : goal.places-preserved
places-preserved c =
    let entry : ℕ → Option (List ℕ) = λ n. option_map name_text (closed_at (session_of c.args.engine.now) c.args.asked n) in
    let k = c.places.place in
    elim c.match-closed_at.branch [
      | in-Some w ↦
          let there : entry k ≡ Some (name_text w.in-Some._name.now) =
          ap (option_map name_text) (sym c.closed_at.ensures ∙ ap (option_map (λ s. s.now)) w.in-Some.is) in
          record { none = w.is_none-is ∙ entry_nil entry k there }
      | in_default w ↦
          let same = entry_same entry k (ap (option_map name_text) (sym c.closed_at.ensures ∙ ap (option_map (λ s. s.now)) w.in_default.is)) in
          record { none = w.is_none-is ∙ c.places.invariant.none ∙ ap has_no_texts same }
    ]

pub returns : goal.returns
returns c = search (rules, length)
