use Rattle.rx_event.proofs.Laws.Finishes.{finishes, one_finish, first_forced_on, finish_settled}
use Rattle.rx_event.proofs.theorems.determined.one_order_comes_to_an_end.Goals as goal

pub returns : goal.returns
returns c = λ base. record {
  leads = λ b law. let f = finishes base b law in record { last = f.last; ordered = f.ordered; over = f.over; law = f.law };
  only = one_finish base;
  is_forced = λ b k on. first_forced_on base on;
  settled = finish_settled base;
}
