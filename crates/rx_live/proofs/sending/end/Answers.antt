use Rattle.rx_live.proofs.Common.{◌≡◌, ℕ, Bool, List, ◌++◌, codes, map, ap, ◌∙◌, rules, string_bytes, name_text, member_text, session_of, late_text}
use Rattle.rx_live.proofs.Common.{all_names}
use Rattle.rx_live.proofs.AnswerToEachLine.{ended}
use Rattle.rx_live.proofs.sending.end.Goals as goal

pub returns-clause-ok : goal.returns-clause-ok
returns-clause-ok c =
    let s = session_of c.args.engine.now in
    let begun : string_bytes c.in_ok-text.text ≡ codes "{\"closed\":true" = search rules in
    let front : string_bytes c.reserve.new.self ≡ string_bytes c.push_names.new.text = search rules in
    let is : string_bytes c.reserve.new.self ≡ codes "{\"closed\":true" ++ member_text (codes "release") (map name_text (all_names s)) =
    front ∙ c.in_ok-push_names.ensures ∙ ap (λ (t : List ℕ). t ++ member_text (codes "release") (map name_text (all_names s))) begun in
    ended (session_of c.tell_notes.new.engine) (session_of c.close.new.engine) (string_bytes c.reserve.new.self) (string_bytes c.tell_notes.new.text)
    (string_bytes c.close_text.new.text) c.requires is c.tell_notes.ensures.told
    (c.close_text.ensures.text ∙ ap (λ (b : Bool). string_bytes c.tell_notes.new.text ++ late_text b ++ codes "}") c.is_some.ensures) c.close.ensures.closed
