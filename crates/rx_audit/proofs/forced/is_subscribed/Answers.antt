use Rattle.rx_audit.proofs.Common.{length}
use Rattle.rx_audit.proofs.HubWords.{subscribed_word}
use Rattle.rx_audit.proofs.forced.is_subscribed.Goals as goal
use Rattle.std.proofs.Common.{rules}

pub returns : goal.returns
returns c = search (rules, subscribed_word, length)
