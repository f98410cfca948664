use Rattle.rx_agenda.proofs.Common.{◌≡◌, ◌++◌, ◌∷◌, [], ◌∙◌, ℕ, List, Some, false, string_bytes, subst, sym, ap, is_some, bytes_eq, update, get_by_text, Named}
use Rattle.rx_agenda.proofs.Common.{key_named, IsTied}
use Rattle.std.proofs.Common.{rules}
use Rattle.std.proofs.lemmas.Map.Text.{hash_map_updates_text}
use Rattle.rx_agenda.proofs.NamesStayTied.{still_tied}
use Rattle.rx_agenda.proofs.names.Names.bind.Goals as goal

pub invariant_of-self-2 : goal.invariant_of-self-2
invariant_of-self-2 g c =
    let before = c.self.inside.in_order.items in
    let named : Named g.row.K.Denot = record { name = c.args.name; key = c.args.key } in
    let pushed : c.push.new.self.items ≡ before ++ named ∷ [] = search rules in
    let free : is_some (key_named before (string_bytes c.args.name)) ≡ false =
    ap (λ l. is_some (key_named l (string_bytes c.args.name))) c.self.view_is ∙ c.requires in
    let copied : string_bytes c.in_ok-clone.field-0 ≡ string_bytes c.args.name = search rules in
    let updated : (q : List ℕ) → get_by_text c.insert.new.self q
    ≡ update bytes_eq (get_by_text c.self.inside.by_name) (string_bytes c.args.name) (Some c.args.key) q =
    λ q. hash_map_updates_text (string_bytes c.in_ok-clone.field-0) c.self.inside.by_name c.insert.new.self (Some c.args.key) c.in-Ok.ensures.updates q
    ∙ ap (λ bytes. update bytes_eq (get_by_text c.self.inside.by_name) bytes (Some c.args.key) q) copied in
    subst (λ l. IsTied l c.insert.new.self) (sym pushed) (still_tied before named c.self.inside.by_name c.insert.new.self c.self.invariant free updated)
