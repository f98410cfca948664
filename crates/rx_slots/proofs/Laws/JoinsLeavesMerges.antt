-- What a few ties between places make.
use Rattle.rx_slots.proofs.Common.{◌≡◌, cond, Bool, true, false, refl, sym, ap, ◌∙◌, Places, Steps, set_step, Joins, PassesBy, Leaves, Merges}
use Rattle.rx_slots.proofs.Laws.Places.{Tells}
use Rattle.std.proofs.Common.{rules}

module _ {Place : Type 0} (places : Places Place) where
  -- one place is put directly before another
  pub record Ties (old_next old_previous next previous : Steps Place) (a b : Place) : Type 0 where
    pub to : (q : Place) → next q ≡ set_step places a b old_next q
    pub back : (q : Place) → previous q ≡ set_step places b a old_previous q

  pub joins_of : {n p n1 p1 n2 p2 : Steps Place} {e x last : Place} → last ≡ p e → Ties n p n1 p1 last x → Ties n1 p1 n2 p2 x e →
      Joins places n p n2 p2 e x
  joins_of {n} {p} {e} {x} is before after = search (rules, cond, set_step)

  pub leaves_of : {n p n1 p1 n2 p2 : Steps Place} {x : Place} → PassesBy places n p n1 p1 x → Ties n1 p1 n2 p2 x x → Leaves places n p n2 p2 x
  leaves_of {x} passes alone = search (rules, cond)

  pub merges_of : {n p n1 p1 n2 p2 n3 p3 : Steps Place} {from into last first end : Place} → last ≡ p into → first ≡ n from → end ≡ p from →
      Ties n p n1 p1 last first → Ties n1 p1 n2 p2 end into → Ties n2 p2 n3 p3 from from → Merges places n p n3 p3 from into
  merges_of {n} {p} {from} {into} {last} {first} {end} is_l is_f is_e before after alone = search (rules, cond, set_step)

module _ {Place : Type 0} {places : Places Place} (tells : Tells places) where
  -- to take a place off that is on no ring changes nothing
  module _ (n p : Steps Place) (x : Place) where
    same_step : (f : Steps Place) → f x ≡ x → (q : Place) → f q ≡ cond (places.is_place x q) x (cond (places.is_place x q) x (f q))
    same_step f loop q = of (places.is_place x q) refl where
      of : (b : Bool) → places.is_place x q ≡ b → f q ≡ cond b x (cond b x (f q))
      of true e = ap f (sym (tells.same x q e)) ∙ loop
      of false e = refl

    pub leaves_nothing : n x ≡ x → p x ≡ x → Leaves places n p n p x
    leaves_nothing to back =
        let from : x ≡ n x = sym to in
        let after : x ≡ p x = sym back in
        record {
          to = λ q. same_step n to q ∙ (λ i. cond (places.is_place x q) x (cond (places.is_place (after i) q) (from i) (n q)));
          back = λ q. same_step p back q ∙ (λ i. cond (places.is_place x q) x (cond (places.is_place (from i) q) (after i) (p q)));
        }
