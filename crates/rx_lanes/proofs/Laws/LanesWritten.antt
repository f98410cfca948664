-- A store of lanes in which the lane of one name is another.
use Rattle.std.proofs.Common.{◌≡◌, ◌≢◌, ℕ, List, Some, None, is_some, IsSome, get_or, set, sym, ◌∙◌, ap, length-set}
use Rattle.std.proofs.Common.{get_or-set_same, get_or-set_other}
use Rattle.rx_lanes.specs.declared.names.LaneName.{LaneName}
use Rattle.rx_lanes.specs.Lane.{Lane}
use Rattle.rx_lanes.specs.State.{State, lane, with_turn}
use Rattle.rx_lanes.proofs.LaneTurns.{some_below, found_opened, with_turn-own, Puts, others_find}

module _ {E : Type 0} where
  -- the name finds this lane, and these are fresh
  abbrev pub written : State E → LaneName → Lane E → List ℕ → State E
  written s name l fresh = record s { places = set s.places name.place (Some (record { turn = name.turn; lane = l })); fresh = fresh }

  module _ (s : State E) (name : LaneName) (was : Lane E) (found : lane s name ≡ Some was) where
    there : IsSome (get_or s.places name.place None)
    there = ap is_some (found_opened name.turn (get_or s.places name.place None) was found)

    pub opened_here : (l : Lane E) (fresh : List ℕ) → get_or (written s name l fresh).places name.place None ≡ Some (record { turn = name.turn; lane = l })
    opened_here l fresh = get_or-set_same s.places name.place (Some (record { turn = name.turn; lane = l })) None (some_below name.place s.places there)

    pub found_here : (l : Lane E) (fresh : List ℕ) → lane (written s name l fresh) name ≡ Some l
    found_here l fresh = ap (with_turn name.turn) (opened_here l fresh) ∙ with_turn-own name.turn l

    puts : (l : Lane E) (fresh : List ℕ) → Puts (record { places = s.places; spare = s.spare })
        (record { places = (written s name l fresh).places; spare = s.spare }) name.place (Some (record { turn = name.turn; lane = l }))
    puts l fresh = record {
      here = opened_here l fresh;
      elsewhere = λ p apart. get_or-set_other s.places name.place p (Some (record { turn = name.turn; lane = l })) None (λ same. apart (sym same));
      places = length-set s.places name.place (Some (record { turn = name.turn; lane = l }));
    }

    pub others_as_before : (l : Lane E) (fresh : List ℕ) (other : LaneName) → other ≢ name → lane (written s name l fresh) other ≡ lane s other
    others_as_before l fresh other apart = others_find {t0 = record { places = s.places; spare = s.spare }}
        {t1 = record { places = (written s name l fresh).places; spare = s.spare }} name was found (Some l) (puts l fresh) other apart
