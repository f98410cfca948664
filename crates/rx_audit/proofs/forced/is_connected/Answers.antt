use Rattle.rx_audit.proofs.Common.{length, ◌∙◌}
use Rattle.rx_audit.proofs.KnownNodesAndHubs.{connection_word}
use Rattle.rx_audit.proofs.HubWords.{connected_word}
use Rattle.rx_audit.proofs.forced.is_connected.Goals as goal

pub returns : goal.returns
returns c = let h = c.args.past.now in let k = c.requires in c.leads_to_marked.ensures ∙ connected_word h _ _ _ k.lawful k.tied (connection_word h
    k.lawful (length _) _ k.followed.hubs k.room _ _ c.value_at.ensures)
