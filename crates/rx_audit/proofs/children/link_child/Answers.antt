use Rattle.rx_audit.proofs.Common.{◌≡◌, suc, ◌+◌, length, ap, ◌∙◌, arith, table_with, link_with}
use Rattle.rx_audit.proofs.Latest.{children_more}
use Rattle.rx_audit.proofs.children.link_child.Goals as goal

pub returns : goal.returns
returns c =
    let h = c.args.past.now in
    let old = c.args.children.now in
    let more : length h + 1 ≡ suc (length h) = omega arith in
    let next : c.one_more-next.result ≡ suc (length h) = c.one_more-next.ensures ∙ more in
    children_more c.args.event old _ c.requires.children c.requires.room
    (c.put_link.ensures ∙ ap (λ o. link_with old.older.items old.youngest.items o (length h)) c.parent_of_new-above.ensures)
    (c.put.ensures ∙ ap (λ o. table_with old.youngest.items o c.one_more-next.result) c.parent_of_new-above.ensures ∙ ap (table_with old.youngest.items _) next)
    (c.put-2.ensures ∙ ap (λ o. table_with old.inner.items o c.one_more-next.result) c.inner_of.ensures ∙ ap (table_with old.inner.items _) next)
