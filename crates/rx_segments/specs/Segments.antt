-- What a contract sees of `Segments`.
use Rattle.std.specs.Prelude.{ℕ, List, refl}
use Rattle.std.specs.Coded.{Coded, code_by, coded×, coded_ℕ, coded_list}

-- a list, and how many items more need no memory
pub record Segments (T : Type 0) : Type 0 where
  pub items : List T
  pub room : ℕ

-- it is stored as the pair of its fields
abbrev pub segments_code : {T : Type 0} → Coded T → Coded (Segments T)
segments_code {T} code =
    code_by (List T × ℕ) (coded× (coded_list code) coded_ℕ) (λ s. (s.items, s.room)) (λ p. record { items = p.0; room = p.1 }) (λ _. refl)
