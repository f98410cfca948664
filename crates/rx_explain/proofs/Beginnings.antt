-- A sentence that begins with words of a refusal words it.
use Rattle.std.proofs.Common.{◌≡◌, ℕ, List, [], ◌++◌, sym, ap, ◌∙◌}
use Rattle.std.specs.Prelude.{Result, Ok, Err, IfOk, String, string_bytes, codes}
use Rattle.std.specs.declared.alloc.Global.{Global}
use Rattle.std.proofs.Transfers.{starts_with_of_append}
use Rattle.std.proofs.lemmas.List.{append_assoc, append-nil}
use Rattle.serde_json.specs.Data.{Data}
use Rattle.rx_event.specs.declared.event.Event.{Event}
use Rattle.rx_event.specs.declared.refusal.Refusal.{Refusal}
use Rattle.rx_explain.specs.Worded.{IsBeginning, IsWorded}

-- words, a number, words and the rest
three : (a l p r : List ℕ) → a ++ (l ++ (p ++ r)) ≡ a ++ l ++ p ++ r
three a l p r = sym (append_assoc a l (p ++ r)) ∙ sym (append_assoc (a ++ l) p r)

module _ {E : Type 0} (names : Data) (e : Event) (why : Refusal) where
  pub begins : (a l p r shown : List ℕ) (answer : Result (String Global) E) → IsBeginning names e why (a ++ l ++ p) → shown ≡ l →
      IfOk answer (λ s. string_bytes s ≡ a ++ (shown ++ (p ++ r))) → IfOk answer (λ s. IsWorded names e why (string_bytes s))
  begins a l p r shown (Ok s) known same is = record {
    beginning = a ++ l ++ p;
    known = known;
    begins = starts_with_of_append (string_bytes s ++ codes "\n") (a ++ l ++ p) (r ++ codes "\n")
        (ap (λ k. k ++ codes "\n") (is ∙ ap (λ k. a ++ (k ++ (p ++ r))) same ∙ three a l p r) ∙ append_assoc (a ++ l ++ p) r (codes "\n"));
  }
  begins a l p r shown (Err error) known same is = tt

  -- and with the end of the line
  pub ends : (a l shown : List ℕ) (answer : Result (String Global) E) → IsBeginning names e why (a ++ l ++ codes "\n") → shown ≡ l →
      IfOk answer (λ s. string_bytes s ≡ a ++ shown) → IfOk answer (λ s. IsWorded names e why (string_bytes s))
  ends a l shown (Ok s) known same is = record {
    beginning = a ++ l ++ codes "\n";
    known = known;
    begins = starts_with_of_append (string_bytes s ++ codes "\n") (a ++ l ++ codes "\n") []
        (ap (λ k. k ++ codes "\n") (is ∙ ap (λ k. a ++ k) same) ∙ sym (append-nil (a ++ l ++ codes "\n")));
  }
  ends a l shown (Err error) known same is = tt

  pub alone : (p r : List ℕ) (answer : Result (String Global) E) → IsBeginning names e why p →
      IfOk answer (λ s. string_bytes s ≡ p ++ r) → IfOk answer (λ s. IsWorded names e why (string_bytes s))
  alone p r (Ok s) known is = record {
    beginning = p;
    known = known;
    begins = starts_with_of_append (string_bytes s ++ codes "\n") p (r ++ codes "\n") (ap (λ k. k ++ codes "\n") is ∙ append_assoc p r (codes "\n"));
  }
  alone p r (Err error) known is = tt
