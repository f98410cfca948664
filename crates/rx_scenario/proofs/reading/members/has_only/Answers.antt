use Rattle.std.proofs.Common.{◌∙◌, sym}
use Rattle.serde_json.specs.Data.{no_members}
use Rattle.rx_scenario.specs.Reading.{has_only}
use Rattle.rx_scenario.proofs.Laws.Members.{list_all_keys, and_all}
use Rattle.rx_scenario.proofs.reading.members.has_only.Goals as goal

pub returns : goal.returns
unfolding has_only
returns c = c.are_all_of.ensures ∙ sym (list_all_keys _ c.args.members.now.items no_members ∙ and_all _)
