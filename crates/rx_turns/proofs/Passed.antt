-- The deeper turns of a stack, one after another, the least deep first.
use Rattle.std.proofs.Common.{◌≡◌, ◌≢◌, ◌<◌, ◌≤◌, ◌==◌, ◌&&◌, true, false, Some, refl, ap, sym, ◌∙◌, subst, arith, ◌⊎◌, inl, inr}
use Rattle.std.specs.Prelude.{nat_lt}
use Rattle.std.proofs.lemmas.Bool.{cases_eq, cases_lt, false_from_ne_true, and_parts, eqb-true, eq-eqb, ltb-true, lt-ltb}
use Rattle.rx_turns.specs.declared.agenda.Turn.{Turn}
use Rattle.rx_turns.specs.Rows.{is_same, is_deeper, is_before}
use Rattle.rx_turns.specs.Agendas.{DueLists, HasNothing}
use Rattle.rx_turns.specs.Promises.{IsLeftAlone}

by_of : (t u : Turn) → is_deeper t u ≡ true → u.by ≡ t.by
by_of t u deep = eqb-true u.by t.by (and_parts (u.by == t.by) (nat_lt t.depth u.depth) deep).0

pub depth_of : (t u : Turn) → is_deeper t u ≡ true → t.depth < u.depth
depth_of t u deep = ltb-true t.depth u.depth (and_parts (u.by == t.by) (nat_lt t.depth u.depth) deep).1

deeper_from : (t u : Turn) → u.by ≡ t.by → t.depth < u.depth → is_deeper t u ≡ true
deeper_from t u same less = ap (λ b. b && nat_lt t.depth u.depth) (eq-eqb u.by t.by same) ∙ lt-ltb t.depth u.depth less

-- of the turns that are deeper than one this holds, up to the last that was looked at
pub record IsPassed (P : DueLists → Turn → Type 0) (turn last : Turn) (a : DueLists) : Type 0 where
  pub same_by : last.by ≡ turn.by
  pub deep : turn.depth ≤ last.depth
  pub all : (u : Turn) → is_deeper turn u ≡ true → u.depth ≤ last.depth → P a u

pub none_passed : (P : DueLists → Turn → Type 0) (turn : Turn) (a : DueLists) → IsPassed P turn turn a
none_passed P turn a = record {
  same_by = refl;
  deep = omega arith;
  all = λ u deep within. let less = depth_of turn u deep in absurd (omega (arith, less, within));
}

pub deeper_on : (P : DueLists → Turn → Type 0) (turn last inner : Turn) (a : DueLists) → IsPassed P turn last a → is_deeper last inner ≡ true →
    is_deeper turn inner ≡ true
deeper_on P turn last inner a passed deep =
    let less = depth_of last inner deep in
    let so_far = passed.deep in
    deeper_from turn inner (by_of last inner deep ∙ passed.same_by) (omega (arith, less, so_far))

module _ (P : DueLists → Turn → Type 0) (keeps : (u : Turn) (a b : DueLists) → IsLeftAlone u a b → P a u → P b u)
    (nothing : (u : Turn) (a : DueLists) → HasNothing a u → P a u) (turn last : Turn) (a : DueLists) (passed : IsPassed P turn last a) where
  between : (u : Turn) → is_deeper turn u ≡ true → last.depth < u.depth → is_deeper last u ≡ true
  between u deep behind = deeper_from last u (by_of turn u deep ∙ sym passed.same_by) behind

  -- behind the last one, all have passed
  behind_by : (u : Turn) → is_deeper turn u ≡ true → ((u : Turn) → is_deeper last u ≡ true → HasNothing a u) → (last.depth < u.depth) ⊎ (u.depth ≤ last.depth) →
      P a u
  behind_by u deep none (inl behind) = nothing u a (none u (between u deep behind))
  behind_by u deep none (inr within) = passed.all u deep within

  pub passed_all : ((u : Turn) → is_deeper last u ≡ true → HasNothing a u) → (u : Turn) → is_deeper turn u ≡ true → P a u
  passed_all none u deep = behind_by u deep none (cases_lt last.depth u.depth)

  module _ (inner : Turn) (b : DueLists) (deeper : is_deeper last inner ≡ true)
      (none_between : (u : Turn) → is_deeper last u ≡ true → is_before u (Some inner) ≡ true → HasNothing a u) (now_so : P b inner)
      (alone : (u : Turn) → is_same inner u ≡ false → IsLeftAlone u a b) where
    apart : (u : Turn) → u.depth ≢ inner.depth → is_same inner u ≡ false
    apart u other =
        false_from_ne_true (is_same inner u)
        (λ same. other (sym (eqb-true inner.depth u.depth (and_parts (inner.by == u.by) (inner.depth == u.depth) same).1)))

    was_so : (u : Turn) → is_deeper turn u ≡ true → u.depth < inner.depth → (last.depth < u.depth) ⊎ (u.depth ≤ last.depth) → P a u
    was_so u deep before (inl behind) = nothing u a (none_between u (between u deep behind) (lt-ltb u.depth inner.depth before))
    was_so u deep before (inr within) = passed.all u deep within

    is_so : (u : Turn) → is_deeper turn u ≡ true → u.depth ≤ inner.depth → (u.depth ≡ inner.depth) ⊎ (u.depth ≢ inner.depth) → P b u
    is_so u deep within (inl at_inner) =
        let same_by : inner.by ≡ u.by = by_of last inner deeper ∙ (passed.same_by ∙ sym (by_of turn u deep)) in
        let same : inner ≡ u = λ i. record { by = same_by i; depth = (sym at_inner) i } in
        subst (λ (v : Turn). P b v) same now_so
    is_so u deep within (inr other) =
        keeps u a b (alone u (apart u other)) (was_so u deep (omega (arith, within, other)) (cases_lt last.depth u.depth))

    pub passed_next : IsPassed P turn inner b
    passed_next = record {
      same_by = by_of last inner deeper ∙ passed.same_by;
      deep = let so_far = passed.deep in let less = depth_of last inner deeper in omega (arith, so_far, less);
      all = λ u deep within. is_so u deep within (cases_eq u.depth inner.depth);
    }
