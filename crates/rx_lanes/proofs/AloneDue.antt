-- Where no lane got something none is due, and a lane that is claimed then is due alone.
use Rattle.std.proofs.Common.{◌≡◌, ℕ, List, [], ◌∷◌, Some, true, false, refl, ap, sym, ◌∙◌, true≢false}
use Rattle.rx_lanes.specs.declared.names.Due.{Due}
use Rattle.std.proofs.Math.Bool.{not}
use Rattle.rx_lanes.specs.declared.names.LaneName.{LaneName}
use Rattle.rx_lanes.specs.Lane.{Lane, is_empty, is_idle, claimed}
use Rattle.rx_lanes.specs.State.{State, lane, Turns, due_of}
use Rattle.rx_lanes.specs.Handings.{ClaimsAlone}

pub none_of : (xs : List ℕ) → not (is_empty xs) ≡ false → xs ≡ []
none_of [] e = refl
none_of (x ∷ xs) e = absurd (true≢false e)

module _ {E : Type 0} where
  -- where no lane got something, none is due
  pub settles_none : (by : ℕ) (s : State E) {due : List Due} → s.fresh ≡ [] → due ≡ [] →
      record s { due = due } ≡ record s { fresh = []; due = due_of by s.places s.fresh }
  settles_none by s fresh due = λ i. record s { fresh = fresh i; due = (due ∙ sym (ap (due_of by s.places) fresh)) i }

  pub claims_alone : (name : LaneName) (by : ℕ) (s m t : State E) (l : Lane E) → lane s name ≡ Some l → is_idle l ≡ true → s.fresh ≡ [] →
      Turns s m name (Some (claimed by l)) → t ≡ record m { due = record { lane = name; inside = false } ∷ [] } → ClaimsAlone name by s t
  claims_alone name by s m t l was idle none_fresh turns is = record {
    before = l;
    was = was;
    idle = idle;
    none_fresh = none_fresh;
    claims = record {
      found = ap (λ (x : State E). lane x name) is ∙ turns.found;
      others = λ other apart. ap (λ (x : State E). lane x other) is ∙ turns.others other apart;
      fresh_is = ap (λ (x : State E). x.fresh) is ∙ turns.fresh_is;
      next_turn = ap (λ (x : State E). x.next_turn) is ∙ turns.next_turn;
      due = refl;
    };
    due = ap (λ (x : State E). x.due) is;
  }
