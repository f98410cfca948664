use Rattle.rx_listing.proofs.Common.{◌≡◌, ◌++◌, List, ℕ, Some, codes, string_bytes, sym, ◌∙◌, append_assoc, front_text, member_of, mode_word, hub_text}
use Rattle.std.specs.Fmt.{decimal}
use Rattle.rx_listing.proofs.object.hub_object.Goals as goal

nested : (a b c d e f : List ℕ) → a ++ (b ++ (c ++ (d ++ (e ++ f)))) ≡ a ++ b ++ c ++ d ++ e ++ f
nested a b c d e f =
    sym (append_assoc a b (c ++ (d ++ (e ++ f))))
    ∙ sym (append_assoc (a ++ b) c (d ++ (e ++ f))) ∙ sym (append_assoc (a ++ b ++ c) d (e ++ f)) ∙ sym (append_assoc (a ++ b ++ c ++ d) e f)

pub returns : goal.returns
unfolding hub_text
returns c =
    let begun : string_bytes c.push_member.new.text ≡ front_text c.args.name.now c.args.number ++ member_of (codes "mode") (Some (mode_word c.args.is_manual)) =
    c.in_ok-push_member.ensures ∙ (λ i. c.in_ok-text.ensures i ++ member_of (codes "mode") (Some (c.mode_word.ensures i))) in
    let word = c.bool_word-connected.result.now in
    c.in_ok-write.ensures.bytes
    ∙ nested (string_bytes c.push_member.new.text) (codes ",\"connected\":") word (codes ",\"subscribers\":") (decimal c.args.subscribers) (codes "}")
    ∙ (λ i. begun i ++ codes ",\"connected\":" ++ c.bool_word-connected.ensures i ++ codes ",\"subscribers\":" ++ decimal c.args.subscribers ++ codes "}")
