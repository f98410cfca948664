use Rattle.rx_crew.proofs.Common.{subst, IfOk, Sums, AllTaken, IsVerdictOnThreads}
use Rattle.rx_crew.proofs.finishing.finish.Goals as goal

pub returns-clause-verdict : goal.returns-clause-verdict
returns-clause-verdict g c =
    subst (λ (s : Sums). IsVerdictOnThreads c.into_book-book.result.base c.into_book-book.result.history s c.args.receipts.now c.judge-verdict.result)
    c.shares_of-sums.ensures.sums c.judge-verdict.ensures.verdict

pub returns-clause-all_taken : goal.returns-clause-all_taken
returns-clause-all_taken g c =
    subst (λ (s : Sums). IfOk c.judge-verdict.result (λ x. AllTaken c.into_book-book.result.history s))
    c.shares_of-sums.ensures.sums c.judge-verdict.ensures.all_taken
