-- The number that a text writes.
use Rattle.rx_cli.proofs.Common.{◌≡◌, ◌∙◌, ◌≤◌, ℕ, Bool, true, false, List, Result, Ok, Err, Some, sym, refl, true≢false, cond, result_unwrap_or, Unsigned}
use Rattle.rx_cli.proofs.Common.{ParsesUnsigned, digits_value, without_leading_plus, IsUnsignedIn, number_by}
use Rattle.clap.specs.ValueTests.{is_unsigned_in}
use Rattle.clap.proofs.ValueTestLemmas.{accepts-Accepts, Accepts-accepts}

module _ {E : Type 0} (least most : ℕ) (text : List ℕ) where
  -- where it writes one in the range, that is what was read
  read_within : (r : Result ℕ E) → ParsesUnsigned 64 10 text r → IsUnsignedIn least most text
      → result_unwrap_or r least ≡ digits_value 10 (without_leading_plus text)
  read_within (Ok n) parsed within = parsed.1
  read_within (Err e) parsed within = absurd (parsed (within.0, within.1))

  -- what was read, where it lies in the range
  read_is : (r : Result ℕ E) → ParsesUnsigned 64 10 text r → (b : Bool) → is_unsigned_in least most text ≡ b
      → least ≤ result_unwrap_or r least → result_unwrap_or r least ≤ most
      → result_unwrap_or r least ≡ cond b (digits_value 10 (without_leading_plus text)) least
  read_is r parsed true is low high = read_within r parsed (accepts-Accepts false (Unsigned least most) text is)
  read_is (Err e) parsed false is low high = refl
  read_is (Ok n) parsed false is low high =
      absurd (true≢false (sym (Accepts-accepts false (Unsigned least most) text (parsed.0.0, parsed.0.1, rw (← parsed.1) low, rw (← parsed.1) high)) ∙ is))

  -- and where it does not
  none_is : (r : Result ℕ E) → ParsesUnsigned 64 10 text r → (b : Bool) → is_unsigned_in least most text ≡ b
      → (least ≤ result_unwrap_or r least → result_unwrap_or r least ≤ most → ⊥)
      → least ≡ cond b (digits_value 10 (without_leading_plus text)) least
  none_is r parsed false is beyond = refl
  none_is r parsed true is beyond =
      let within : IsUnsignedIn least most text = accepts-Accepts false (Unsigned least most) text is in
      let e = read_within r parsed within in
      absurd (beyond (rw e within.2) (rw e within.3))

  pub number_read : (r : Result ℕ E) → ParsesUnsigned 64 10 text r
      → least ≤ result_unwrap_or r least → result_unwrap_or r least ≤ most
      → result_unwrap_or r least ≡ number_by least most (Some text)
  number_read r parsed low high = read_is r parsed (is_unsigned_in least most text) refl low high
