-- What nodes remember, and what was told, in two settled histories that agree: so in a history and in its base.
use Rattle.rx_event.proofs.Laws.Common.{◌≡◌, ℕ, true, List, [], sym, Kept, shown, Event, is_open, notes, IsSettled, marks_of, IsLawful, base_of}
use Rattle.rx_event.proofs.Laws.MakingRemovesNothing.{made_untold}
use Rattle.rx_event.proofs.Laws.BaseStarted.{base_started}
use Rattle.rx_event.proofs.Laws.Checkpoints.{kept_agrees}

-- of a history and its base ----------------------------------------------------------------------------

module _ (b : Kept) (h : List Event) (law : IsLawful b h) (settled : IsSettled b h) where
  pub base_settled : IsSettled (base_of b h) (shown (base_of b h))
  base_settled = (base_started b h law settled).settled

  pub base_marks : (n : ℕ) → is_open h n ≡ true → marks_of b h n ≡ marks_of (base_of b h) (shown (base_of b h)) n
  base_marks n o = sym ((kept_agrees b h law settled).there.marks n o)

  -- a base tells nothing
  pub base_untold : notes (shown (base_of b h)) ≡ []
  base_untold = made_untold (shown (base_of b h)) (base_started b h law settled).making
