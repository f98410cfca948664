-- The whole trace of a scenario.
use Rattle.rx_trace.proofs.Common.{◌≡◌, ◌∙◌, sym, ◌++◌, ap, List, ℕ, Bool, subst, map, not, refl, Answer, Script, with_steps, empty_agenda, Manner, limited}
use Rattle.rx_trace.proofs.Common.{Progress, begin, LeadsBySteps, not_begun, advanced, Ends, Ware, Stage, start, course_in_order, closing_text, Event}
use Rattle.rx_trace.proofs.Common.{nothing_kept}
use Rattle.rx_trace.proofs.Common.{Traces, nothing_done, one_more, TracesTo, IsTraceOf, IsLawful, HandedOut, AreHandedOut, contains, nat_eq, is_left_in, names_where}
use Rattle.rx_trace.proofs.Common.{name_text, member_text, codes, append_assoc, Binding, [], length, length-append, arith, notes, Engine, IsHistoryOf, IsSound, HasToldAll}
use Rattle.rx_trace.proofs.Common.{all_told, moments, Knows, stage_of}
use Rattle.rx_script.specs.Running.{has_refused}
use Rattle.rx_trace.proofs.TakenOne.{taken_is}

-- without the lines that is what leads there
leads_of : {m : Manner} {until : ℕ} {first : Progress} {answers : List Answer} {text : List ℕ} {p : Progress}
    → Traces m until first answers text p → LeadsBySteps m until first answers p
leads_of nothing_done = not_begun
leads_of (one_more before a) = advanced (leads_of before) a

ends_of : {m : Manner} {until : ℕ} {first : Progress} {text : List ℕ} {last : Stage} (t : TracesTo m until first text last)
    → Ends m until first t.answers last
ends_of t = record { left = t.left; leads = leads_of t.traces; over = t.over }

nothing_told : notes [] ≡ []
unfolding notes moments
nothing_told = refl

-- at the beginning nothing was told, and all of that was handed out
pub told_at_first : {R : Type 0} (e : Engine R) → IsSound e → IsHistoryOf [] e.tallies e.book → HasToldAll e
told_at_first e sound w =
    let given = sound.kept.given in
    let parts = length-append (notes w.front) (notes e.book.history) in
    let whole = ap length (all_told w sound.kept ∙ nothing_told) in omega arith

pub known_at_first : {R : Type 0} (e : Engine R) (t : HandedOut) (stock : List Ware) → stage_of e [] ≡ start stock → AreHandedOut t [] → Knows t (stage_of e [])
known_at_first e t stock begun handed = subst (Knows t) (sym begun) (record {
  handed = handed;
  rise = λ i j d le lt. absurd (omega arith);
  within = λ i d lt. absurd (omega arith);
})

-- the line of the closing, behind a text
pub closing_behind : (h : List Event) → IsLawful nothing_kept h → (t : HandedOut) → AreHandedOut t h → (resources : List Binding) (old a b new : List ℕ)
    → a ≡ old ++ codes "{\"closed\":true"
    → b ≡ a ++ member_text (codes "release") (map name_text (names_where (λ r. not (contains nat_eq t.numbers r)) resources)) → new ≡ b ++ codes "}\n"
    → new ≡ old ++ (codes "{\"closed\":true" ++ member_text (codes "release") (map name_text (names_where (is_left_in h) resources)) ++ codes "}\n")
closing_behind h law t taken resources old a b new is_a is_b is_new =
    is_new ∙ ap (λ (l : List ℕ). l ++ codes "}\n") (is_b ∙ (λ i. is_a i ++ left i) ∙ append_assoc old (codes "{\"closed\":true") (left1))
    ∙ append_assoc old (codes "{\"closed\":true" ++ left1) (codes "}\n") where
      left1 : List ℕ
      left1 = member_text (codes "release") (map name_text (names_where (is_left_in h) resources))

      left : member_text (codes "release") (map name_text (names_where (λ r. not (contains nat_eq t.numbers r)) resources)) ≡ left1
      left = λ i. member_text (codes "release") (map name_text (names_where (λ r. not ((taken r ∙ sym (taken_is h law r)) i)) resources))

-- the same, from the beginning of the scenario, with the same answers
abbrev from_begin : (script : Script) (stock : List Ware) (limit : ℕ) (first last : Stage) (lines : List ℕ)
    → TracesTo (limited limit) script.until (record { stage = first; agenda = with_steps script.steps empty_agenda }) lines last
    → limit ≡ script.events → first ≡ start stock → TracesTo (limited script.events) script.until (begin stock script.steps) lines last
from_begin script stock limit first last lines traced same_limit same_first = record {
  answers = traced.answers;
  left = traced.left;
  traces = subst (λ n. Traces (limited n) script.until (begin stock script.steps) traced.answers lines (record { stage = last; agenda = traced.left })) same_limit
      (subst (λ s. Traces (limited limit) script.until (record { stage = s; agenda = with_steps script.steps empty_agenda }) traced.answers lines
      (record { stage = last; agenda = traced.left })) same_first traced.traces);
  over = traced.over;
}

pub whole_trace : (script : Script) (stock : List Ware) (limit : ℕ) (first last : Stage) (lines whole : List ℕ) (refused : Bool)
    → (traced : TracesTo (limited limit) script.until (record { stage = first; agenda = with_steps script.steps empty_agenda }) lines last)
    → limit ≡ script.events → first ≡ start stock → whole ≡ lines ++ closing_text last → refused ≡ has_refused traced.answers
    → (trace : IsTraceOf script stock whole) × (refused ≡ has_refused trace.traced.answers)
whole_trace script stock limit first last lines whole refused traced same_limit same_first is_whole strict = (
  record {
    last = last;
    lines = lines;
    traced = from_begin script stock limit first last lines traced same_limit same_first;
    possible = course_in_order (limited script.events) script stock traced.answers last
        (ends_of (from_begin script stock limit first last lines traced same_limit same_first));
    whole = is_whole;
  },
  strict,
)
