use Rattle.std.proofs.Common.{◌∙◌, sym}
use Rattle.serde_json.specs.Data.{no_members}
use Rattle.rx_scenario.specs.Reading.{has_only_steps}
use Rattle.rx_scenario.proofs.Laws.Members.{list_all_keys, and_all}
use Rattle.rx_scenario.proofs.reading.members.has_only_steps.Goals as goal

pub returns : goal.returns
unfolding has_only_steps
returns c = c.are_all_of_steps.ensures ∙ sym (list_all_keys _ c.args.members.now.items no_members ∙ and_all _)
