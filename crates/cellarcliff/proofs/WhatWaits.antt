-- What an answer that waits says of the stage.
use Rattle.std.proofs.Common.{◌≡◌, ℕ, List, length, Some, None, refl, sym}
use Rattle.std.proofs.lemmas.Option.{same_Some}
use Rattle.rx_live.specs.Session.{Session}
use Rattle.cellarcliff.specs.declared.kept.Unread.{Unread}
use Rattle.cellarcliff.specs.declared.kept.Unread.TheVariants.{Nothing, Answer, Last}
use Rattle.cellarcliff.specs.Stages.{stage_by, length_by, opened, HandleStage, Waits, answer_waits, last_waits}

-- an answer of this length waits
pub record HasUnread (stage : HandleStage) (count : ℕ) : Type 0 where
  pub text : List ℕ
  pub waits : Waits text stage
  pub is : count ≡ length text

pub has_unread : (s : Session) (text : List ℕ) (unread : Unread) (count : ℕ) → length_by text unread ≡ Some count → HasUnread (stage_by s text unread) count
has_unread s text Nothing count is = absurd (cc)
has_unread s text Answer count is = record { text = text; waits = answer_waits s; is = sym (same_Some (length text) count is) }
has_unread s text Last count is = record { text = text; waits = last_waits; is = sym (same_Some (length text) count is) }

pub none_unread : (s : Session) (text : List ℕ) (unread : Unread) → length_by text unread ≡ None → stage_by s text unread ≡ opened s
none_unread s text Nothing is = refl
none_unread s text Answer is = absurd (cc)
none_unread s text Last is = absurd (cc)

-- where nothing waited, nothing does, whatever the answer is by now
pub still_none : (s : Session) (text text' : List ℕ) (unread : Unread) → length_by text unread ≡ None → stage_by s text' unread ≡ opened s
still_none s text text' Nothing is = refl
still_none s text text' Answer is = absurd (cc)
still_none s text text' Last is = absurd (cc)
