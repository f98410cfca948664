use Rattle.rx_book.proofs.Common.{is_some, ◌∙◌}
use Rattle.rx_book.proofs.Admitted.{refused_for, admits}
use Rattle.rx_book.proofs.AnswersOkOrErr.{refused_with, on_refusal}
use Rattle.rx_book.proofs.CallWithoutCause.{state_roomier}
use Rattle.rx_book.proofs.ListOfClosed.{standing_begun}
use Rattle.rx_book.proofs.admit.admit.Goals as goal
use Rattle.std.proofs.Common.{rules}

pub returns-in-Some-clause-err : goal.returns-in-Some-clause-err
returns-in-Some-clause-err g c stand first = refused_for stand (is_some c.args.cost) (first ∙ c.in-Some.is)

pub returns-in_err-get_room-clause-err : goal.returns-in_err-get_room-clause-err
returns-in_err-get_room-clause-err g c stand first = search (rules, refused_with)

pub returns-in_err-get_room-clause-same : goal.returns-in_err-get_room-clause-same
returns-in_err-get_room-clause-same g c = search (rules, on_refusal, state_roomier)

pub returns-clause-standing : goal.returns-clause-standing
returns-clause-standing g c = search (rules, standing_begun)

pub returns-clause-ok : goal.returns-clause-ok
returns-clause-ok g c = search (rules, admits)
