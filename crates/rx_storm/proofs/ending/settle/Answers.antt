use Rattle.rx_storm.proofs.Common.{◌≡◌, refl, ap, rules, together, sums_in, Figures, IsStormEnd}
use Rattle.rx_storm.proofs.OutcomeTellsFigures.{outcome_tells, outcome_done, outcome_lacks, own_figures}
use Rattle.rx_storm.proofs.ending.settle.Goals as goal

pub returns-clause-told : goal.returns-clause-told
returns-clause-told g c =
    rw c.storm_outcome.ensures (outcome_tells _ _ _
    (λ told answer. IsStormEnd (sums_in (together c.args.gathered.seats.items)) c.args.gathered.receipts.items told answer)
    (record {
      book = c.finish-book.result.book;
      closed = c.close_book-figures.new.book;
      verdict = c.finish-book.result.verdict;
      promised = search rules;
      judged = search rules;
      agrees = refl;
      figures = own_figures c.close_book-figures.result c.finish-book.result.book _ _ c.close_book-figures.ensures.figures;
      closing = c.close_book-figures.ensures.closing;
    }))

pub returns-clause-released : goal.returns-clause-released
returns-clause-released g c =
    rw c.storm_outcome.ensures (outcome_tells _ _ _ (λ told answer. told.released ≡ c.args.gathered.released)
    (ap (λ (f : Figures). f.released) c.close_book-figures.ensures.figures))

pub returns-clause-faults : goal.returns-clause-faults
returns-clause-faults g c =
    rw c.storm_outcome.ensures (outcome_tells _ _ _ (λ told answer. told.faults ≡ c.args.gathered.faults)
    (ap (λ (f : Figures). f.faults) c.close_book-figures.ensures.figures))

pub returns-clause-done : goal.returns-clause-done
returns-clause-done g c = rw c.storm_outcome.ensures (outcome_done _ _ _)

pub returns-clause-lacked : goal.returns-clause-lacked
returns-clause-lacked g c = rw c.storm_outcome.ensures (outcome_lacks _ _ _)
