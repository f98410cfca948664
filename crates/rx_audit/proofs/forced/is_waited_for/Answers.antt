use Rattle.rx_audit.proofs.Common.{length, ◌∙◌}
use Rattle.rx_audit.proofs.KnownNodesAndHubs.{ended_word}
use Rattle.rx_audit.proofs.HubWords.{waited_word}
use Rattle.rx_audit.proofs.forced.is_waited_for.Goals as goal

pub returns : goal.returns
returns c = let h = c.args.past.now in let k = c.requires in let size = length _ in c.leads_no_less.ensures ∙ waited_word _ _ _ _ k.followed.linked
    k.followed.listed c.value_at-last.ensures (ended_word h k.lawful size _ k.followed.hubs k.room _ _ c.value_at-ended.ensures)
