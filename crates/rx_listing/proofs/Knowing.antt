-- A number that has a name is below those that have none.
use Rattle.rx_listing.proofs.Common.{◌≡◌, ℕ, ◌<◌, ◌≤◌, true, None, sym, ap, ◌∙◌, inl, inr, ◌⊎◌, is_some, cases_lt, false≢true, Names, name_of_number}

pub within_of : (names : Names) (len : ℕ) → ((n : ℕ) → len ≤ n → name_of_number names n ≡ None) → (n : ℕ) → is_some (name_of_number names n) ≡ true → n < len
within_of names len placed n named = by_place (cases_lt n len) where
  by_place : (n < len) ⊎ (len ≤ n) → n < len
  by_place (inl l) = l
  by_place (inr g) = absurd (false≢true (sym (ap is_some (placed n g)) ∙ named))
