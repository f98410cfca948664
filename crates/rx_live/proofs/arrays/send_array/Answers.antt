use Rattle.rx_live.proofs.Common.{codes, rules, string_bytes, items_view, items_data}
use Rattle.rx_live.proofs.AnswersOfArrays.{array_answered}
use Rattle.rx_live.proofs.arrays.send_array.Goals as goal

pub returns-clause-ok : goal.returns-clause-ok
returns-clause-ok c = search (rules, string_bytes, codes, array_answered, items_data, items_view)
