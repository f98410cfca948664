use Rattle.rx_audit.proofs.Common.{◌≡◌, ℕ, suc, ◌+◌, length, cond, ap, ◌∙◌, arith, option_or, table_with}
use Rattle.rx_audit.proofs.HubsAfter.{hubs_more, hub_count_few, one_at_most}
use Rattle.rx_audit.proofs.hubs.note_hubs.Goals as goal
use Rattle.std.proofs.Common.{rules}

pub overflow_add-known : goal.overflow_add-known
overflow_add-known c = search (rules, hub_count_few, one_at_most)

pub returns : goal.returns
returns c =
    let h = c.args.past.now in
    let old = c.args.known.now in
    let more : length h + 1 ≡ suc (length h) = omega arith in
    let next : c.one_more-next.result ≡ suc (length h) = c.one_more-next.ensures ∙ more in
    hubs_more _ c.requires.lawful c.requires.next c.requires.known
    (c.put.ensures ∙ ap (λ o. table_with old.connection.items o c.one_more-next.result) c.connects.ensures ∙ ap (table_with old.connection.items _) next)
    (c.put-2.ensures ∙ ap (λ o. table_with old.ended.items o c.one_more-next.result) c.hub_ended.ensures ∙ ap (table_with old.ended.items _) next)
    (c.or-known.ensures ∙ ap (λ o. option_or o old.waiting) c.subscribes_to.ensures)
    (ap (λ (k : ℕ). old.count + k) (c.one_if.ensures ∙ ap (λ b. cond {A = ℕ} b 1 0) c.makes_hub.ensures))
