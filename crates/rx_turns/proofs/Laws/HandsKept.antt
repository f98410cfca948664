-- What is in hand was in hand before, but for what is handed out.
use Rattle.std.proofs.Common.{◌≡◌, ℕ, ◌||◌, ◌==◌, ◌⊎◌, inl, inr, Bool, true, false, cond, List, Option, Some, None, refl, sym, ap, ◌∙◌}
use Rattle.std.proofs.lemmas.Option.{same_Some}
use Rattle.rx_turns.specs.declared.agenda.Turn.{Turn}
use Rattle.rx_turns.specs.declared.agenda.Task.{Task}
use Rattle.rx_turns.specs.Rows.{is_same, begun_by}
use Rattle.rx_cellar.specs.Words.{place_in}
use Rattle.rx_turns.specs.Agendas.{in_hand, lane_word, Holds}
use Rattle.rx_turns.specs.States.{TurnState}
use Rattle.rx_turns.specs.Making.{IsMadeDue, has_claimed, went_astray, AreMadeDue, all_claimed, one_claimed}
use Rattle.rx_turns.specs.Making.{ComesHome, opens_no_inner, is_not_due, is_of_another, is_due_here}
use Rattle.rx_turns.specs.Calls.{HasNoted}
use Rattle.rx_turns.specs.Courses.{WasInHand, HandsFrom}

was_itself : (s : TurnState) (turn : Turn) (h : Task) → in_hand s.agenda turn ≡ Some h → WasInHand s turn h
was_itself s turn h held = record { before = h; was = held; ticket = refl; effect = refl; fresh = λ unbegun. refl }

pub all_stay : (s t : TurnState) (handed : Option Task) → ((u : Turn) → in_hand t.agenda u ≡ in_hand s.agenda u) → HandsFrom s t handed
all_stay s t handed same turn h held = inl (was_itself s turn h (sym (same turn) ∙ held))

-- one after another ----------------------------------------------------------------------------------------

older : (s t : TurnState) (turn : Turn) (h : Task) (was : WasInHand t turn h) → WasInHand s turn was.before ⊎ (None ≡ Some was.before) → WasInHand s turn h
older s t turn h was (inl first) = record {
  before = first.before;
  was = first.was;
  ticket = first.ticket ∙ was.ticket;
  effect = first.effect ∙ was.effect;
  fresh = λ unbegun. first.fresh (ap (λ (x : Task). x.is_begun) (was.fresh unbegun) ∙ unbegun) ∙ was.fresh unbegun;
}
older s t turn h was (inr none) = absurd (cc)

last_one : (s t : TurnState) (turn : Turn) (h : Task) (handed : Option Task) → HandsFrom s t None → WasInHand t turn h ⊎ (handed ≡ Some h) →
    WasInHand s turn h ⊎ (handed ≡ Some h)
last_one s t turn h handed since (inl was) = inl (older s t turn h was (since turn was.before was.was))
last_one s t turn h handed since (inr is) = inr is

pub then_hands : (s t u : TurnState) (handed : Option Task) → HandsFrom s t None → HandsFrom t u handed → HandsFrom s u handed
then_hands s t u handed since later turn h held = last_one s t turn h handed since (later turn h held)

unbegun_before : (s : TurnState) (turn : Turn) (h : Task) → h.is_begun ≡ false → WasInHand s turn h ⊎ (None ≡ Some h) → in_hand s.agenda turn ≡ Some h
unbegun_before s turn h unbegun (inl was) = was.was ∙ ap (λ (x : Task). Some x) (was.fresh unbegun)
unbegun_before s turn h unbegun (inr none) = absurd (cc)

-- what is not begun was in hand, just so
pub was_unbegun : (s t : TurnState) (turn : Turn) (h : Task) → HandsFrom s t None → in_hand t.agenda turn ≡ Some h → h.is_begun ≡ false →
    in_hand s.agenda turn ≡ Some h
was_unbegun s t turn h since held unbegun = unbegun_before s turn h unbegun (since turn h held)

-- one turn has something else ------------------------------------------------------------------------------

held_by : (s : TurnState) (hand : Option Task) (u : Turn) (h : Task) (b : Bool) → cond b hand (in_hand s.agenda u) ≡ Some h →
    WasInHand s u h ⊎ (hand ≡ Some h)
held_by s hand u h true is = inr is
held_by s hand u h false is = inl (was_itself s u h is)

pub one_held : (turn : Turn) (hand : Option Task) (s t : TurnState) → Holds turn hand s.agenda t.agenda → HandsFrom s t hand
one_held turn hand s t holds u h held = held_by s hand u h (is_same turn u) (sym (holds.hands u) ∙ held)

-- what was begun is noted ----------------------------------------------------------------------------------

not_first : (a b : Bool) → (a || b) ≡ false → a ≡ (a || b)
not_first true b is = refl
not_first false b is = sym is

noted_by : (s : TurnState) (ticket : ℕ) (u : Turn) (h : Task) (b : Bool) (o : Option Task) → in_hand s.agenda u ≡ o →
    cond b (begun_by ticket o) o ≡ Some h → WasInHand s u h
noted_by s ticket u h false o held is = was_itself s u h (held ∙ is)
noted_by s ticket u h true None held is = absurd (cc)
noted_by s ticket u h true (Some k) held is =
    let same = same_Some (record k { is_begun = k.is_begun || k.ticket == ticket }) h is in
    record {
      before = k;
      was = held;
      ticket = ap (λ (x : Task). x.ticket) same;
      effect = ap (λ (x : Task). x.effect) same;
      fresh = λ unbegun.
          (λ i. record k { is_begun = not_first k.is_begun (k.ticket == ticket) (ap (λ (x : Task). x.is_begun) same ∙ unbegun) i }) ∙ same;
    }

pub noted_hands : (by ticket : ℕ) (s t : TurnState) → HasNoted by ticket s t → HandsFrom s t None
noted_hands by ticket s t noted u h held =
    inl (noted_by s ticket u h (u.by == by) (in_hand s.agenda u) refl (sym (noted.marks.hands u) ∙ held))

-- lanes are due ----------------------------------------------------------------------------------------------

-- what is due changes, and where something may be astray
pub record ChangesDues (s t : TurnState) : Type 0 where
  pub cellar : t.cellar ≡ s.cellar
  pub tickets : t.tickets ≡ s.tickets
  pub hands : (u : Turn) → in_hand t.agenda u ≡ in_hand s.agenda u

pub claimed_dues : (turn : Turn) (word : ℕ) (s t : TurnState) → IsMadeDue turn word s t → ChangesDues s t
claimed_dues turn word s t (has_claimed claims only) =
    record { cellar = ap (λ (x : TurnState). x.cellar) only; tickets = ap (λ (x : TurnState). x.tickets) only; hands = claims.hands }
claimed_dues turn word s t (went_astray full loses only) =
    record { cellar = ap (λ (x : TurnState). x.cellar) only; tickets = ap (λ (x : TurnState). x.tickets) only; hands = loses.hands }

pub same_dues : (s t : TurnState) → t ≡ s → ChangesDues s t
same_dues s t same = record {
  cellar = ap (λ (x : TurnState). x.cellar) same;
  tickets = ap (λ (x : TurnState). x.tickets) same;
  hands = λ u. ap (λ (x : TurnState). in_hand x.agenda u) same;
}

pub home_dues : (turn : Turn) (s t : TurnState) (home : Option ℕ) → ComesHome turn s t home → ChangesDues s t
home_dues turn s t _ (opens_no_inner same) = same_dues s t same
home_dues turn s t _ (is_not_due word none same) = same_dues s t same
home_dues turn s t _ (is_of_another word others same) = same_dues s t same
home_dues turn s t _ (is_due_here word e stands may claims) = claimed_dues turn (lane_word s.agenda (place_in word)) s t claims

pub all_dues : (turn : Turn) (t : TurnState) (words : List ℕ) (s : TurnState) → AreMadeDue turn t words s → ChangesDues s t
all_dues turn t _ _ all_claimed = record { cellar = refl; tickets = refl; hands = λ u. refl }
all_dues turn t _ _ (one_claimed s u word words claims rest) =
    let first = claimed_dues turn word s u claims in
    let more = all_dues turn t words u rest in
    record { cellar = more.cellar ∙ first.cellar; tickets = more.tickets ∙ first.tickets; hands = λ v. more.hands v ∙ first.hands v }
