use Rattle.rx_crew.proofs.AllTakenWhereOk.{all_taken}
use Rattle.rx_crew.proofs.finishing.judge.Goals as goal

pub returns-clause-all_taken : goal.returns-clause-all_taken
returns-clause-all_taken g c =
    all_taken c.args.book.now.base c.args.book.now.history c.args.sums c.args.receipts.now c.compare.result c.promise.ensures.lawful c.compare.ensures
