use Rattle.rx_live.proofs.Common.{◌++◌, ◌+◌, ℕ, List, take, option_map, string_bytes, arith, ap, ◌∙◌, option_to_list, Name, session_of}
use Rattle.rx_live.specs.Listed.{has_no_names, open_text}
use Rattle.rx_live.proofs.Listings.{names_at, names_more, names_all, first_step, text_step}
use Rattle.rx_live.proofs.closing.push_all.Goals as goal

pub numbers-preserved : goal.numbers-preserved
numbers-preserved c =
    let s = session_of c.args.engine.now in
    let before : List Name = option_to_list (option_map string_bytes c.args.engine.now.unnamed) in
    let ns : List ℕ = c.deref-number-items.result.now in
    let i = c.numbers.number-index in
    let so_far : List Name = before ++ names_at s (take i ns) in
    let more : List Name = before ++ names_at s (take (i + 1) ns) in
    record {
      first = first_step so_far more _ c.numbers.is_first c.in_ok-is_first-2.is_first (names_more s before ns i _ (omega arith))
          c.numbers.invariant.first c.in_ok-is_first-2.ensures.first;
      written = text_step so_far _ (string_bytes c.args.text.now) c.numbers.is_first
          (names_more s before ns i _ (omega arith)) c.numbers.invariant.first c.numbers.invariant.written c.in_ok-is_first-2.ensures.text;
    }

pub returns-clause-first : goal.returns-clause-first
returns-clause-first c =
    let s = session_of c.args.engine.now in
    let before : List Name = option_to_list (option_map string_bytes c.args.engine.now.unnamed) in
    c.numbers.invariant.first ∙ ap has_no_names (names_all s before c.deref-number-items.result.now c.numbers.number-index c.requires (omega arith)
    (λ len placed. c.deref-number-items.ensures.value ∙ c.in_ok-numbers.ensures len placed))

pub returns-clause-text : goal.returns-clause-text
returns-clause-text c =
    let s = session_of c.args.engine.now in
    let before : List Name = option_to_list (option_map string_bytes c.args.engine.now.unnamed) in
    c.numbers.invariant.written ∙ ap (λ (names : List Name). string_bytes c.args.text.now ++ open_text names)
    (names_all s before c.deref-number-items.result.now c.numbers.number-index c.requires (omega arith)
    (λ len placed. c.deref-number-items.ensures.value ∙ c.in_ok-numbers.ensures len placed))
