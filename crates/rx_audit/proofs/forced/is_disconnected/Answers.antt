use Rattle.rx_audit.proofs.Common.{length, sym, ◌∙◌}
use Rattle.rx_audit.proofs.KnownNodesAndHubs.{ended_word}
use Rattle.rx_audit.proofs.HubWords.{past_word, cut_word, uncut}
use Rattle.rx_audit.proofs.forced.is_disconnected.Goals as goal

pub returns-in-Some : goal.returns-in-Some
returns-in-Some c = let h = c.args.past.now in let k = c.requires in c.leads_past.ensures ∙ past_word _ c.value_at.result ∙ cut_word h _ _ _ (sym
    c.hub_subscribed_at.ensures ∙ c.in-Some.is) (ended_word h k.lawful (length _) _ k.followed.hubs k.room _ _ c.value_at.ensures)

pub returns-in-None : goal.returns-in-None
returns-in-None c = uncut c.args.past.now c.args.s (sym c.hub_subscribed_at.ensures ∙ c.in-None.is)
