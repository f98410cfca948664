-- What rings go over, once a place joined one, left it, or one was put at the end of another.
use Rattle.rx_slots.proofs.Common.{◌≡◌, ◌≢◌, cond, Bool, true, false, List, [], ◌∷◌, ◌++◌, Option, Some, None, is_some, refl, sym, ap, subst, ◌∙◌, inl, inr}
use Rattle.rx_slots.proofs.Common.{true≢false, false≢true, false_from_ne_true, Places, Steps, IsLink, Leads, is_among, AreDifferent, without, set_step, Joins}
use Rattle.rx_slots.proofs.Common.{AreRings, Leaves, Merges}
use Rattle.rx_slots.proofs.Laws.Places.{Tells, place_apart, cases_place, among_here, among_cons, among_append, among_left, among_right, among_without}
use Rattle.rx_slots.proofs.Laws.Places.{without_keeps, different_without, different_append}
use Rattle.rx_slots.proofs.Laws.Links.{IsRound, LeadsOver, set_same, set_other, round, frame, splice, move_ring, cut_out, first_back, first_among, last_among}
use Rattle.rx_slots.proofs.Laws.Links.{last_link}
use Rattle.std.proofs.Common.{rules}

pub some_same : {A : Type 0} (a b : A) → Some a ≡ Some b → a ≡ b
some_same {A = A} a b e = ap (λ o. of o a) e where
  of : Option A → A → A
  of None d = d
  of (Some x) d = x

pub some_none : {A : Type 0} (o : Option A) (a : A) → o ≡ Some a → o ≡ None → ⊥
some_none o a some none = true≢false (ap is_some (sym some ∙ none))

-- with other places on one ring
abbrev pub put_ring : {Place : Type 0} → Places Place → Place → List Place → (Place → List Place) → Place → List Place
put_ring places e ps rings q = cond (places.is_place e q) ps (rings q)

module _ {Place : Type 0} {places : Places Place} (tells : Tells places) where
  pub by_ring : (P : Place → List Place → Type 0) (e : Place) (ps : List Place) (rings : Place → List Place) → P e ps →
      ((q : Place) → e ≢ q → P q (rings q)) →
      (q : Place) → P q (put_ring places e ps rings q)
  by_ring P e ps rings here there q =
      search (rules, cases_place, put_ring, cond, place_apart)

  end_apart : (e x : Place) → places.is_end e ≡ true → places.is_end x ≡ false → e ≢ x
  end_apart e x ends inner same = true≢false (sym ends ∙ ap places.is_end same ∙ inner)

  module _ (n p n' p' : Steps Place) (home home' : Place → Option Place) (rings : Place → List Place) (R : AreRings places n p home rings) where
    end_round : (e : Place) → places.is_end e ≡ true → n (p e) ≡ e
    end_round e ends = last_link tells n p e (rings e) e (R.leads e ends)

    -- no ring has a place without a home
    homeless : (e x item : Place) → home item ≡ None → is_among places x (rings e) ≡ true → item ≢ x
    homeless e x item none i same = some_none (home x) e (R.members e x i) (ap home (sym same) ∙ none)

    inner : (e x : Place) → is_among places x (rings e) ≡ true → places.is_end x ≡ false
    inner e x i = (R.ends e x (R.members e x i)).1

    -- a place with no home is put last on a ring
    module _ (e item : Place) (J : Joins places n p n' p' e item) (ends : places.is_end e ≡ true) (single : places.is_end item ≡ false)
        (none : home item ≡ None)
        (now : home' item ≡ Some e) (others : (q : Place) → item ≢ q → home' q ≡ home q) where
      join_link : (u v : Place) → IsLink n p u v → item ≢ u → (item ≢ v) × (e ≢ v) → IsLink n' p' u v
      join_link u v link iu v_apart =
          let last : p e ≢ u = λ s. v_apart.1 (sym (end_round e ends) ∙ ap n s ∙ link.to) in
          record {
            to = J.to u ∙ set_other tells item e u (set_step places (p e) item n) iu ∙ set_other tells (p e) item u n last ∙ link.to;
            back = J.back v ∙ set_other tells e item v (set_step places item (p e) p) v_apart.1 ∙ set_other tells item (p e) v p v_apart.0 ∙ link.back;
          }

      -- links of a ring stay from each of its places, and to each of them
      join_over : (q : Place) → places.is_end q ≡ true → LeadsOver places n p (λ u. item ≢ u) (λ v. (item ≢ v) × (e ≢ v)) q (rings q) q
      join_over q q_end = record {
        leads = R.leads q q_end;
        inner = λ x i. (homeless q x item none i, (homeless q x item none i, end_apart e x ends (inner q x i)));
      }

      join_at : Leads n' p' e (rings e ++ item ∷ []) e
      join_at =
          let e_item = end_apart e item ends single in
          let item_e : item ≢ e = λ s. e_item (sym s) in
          let loop = R.loose item single none in
          let last : item ≢ p e = λ s. item_e (sym loop.to ∙ ap n s ∙ end_round e ends) in
          splice tells n p n' p' (λ u. item ≢ u) (λ v. (item ≢ v) × (e ≢ v)) join_link (item ∷ []) e (join_over e ends) item_e (
            record {
              to = J.to (p e) ∙ set_other tells item e (p e) (set_step places (p e) item n) last ∙ set_same tells (p e) item n;
              back = J.back item ∙ set_other tells e item item (set_step places item (p e) p) e_item ∙ set_same tells item (p e) p;
            },
            record {
              to = J.to item ∙ set_same tells item e (set_step places (p e) item n);
              back = J.back e ∙ set_same tells e item (set_step places item (p e) p);
            },
          )

      pub rings_joined : AreRings places n' p' home' (put_ring places e (rings e ++ item ∷ []) rings)
      rings_joined = record {
        leads = by_ring (λ q ps. places.is_end q ≡ true → Leads n' p' q ps q) e (rings e ++ item ∷ []) rings (λ _. join_at)
            (λ q apart q_end. frame tells n p n' p' (λ u. item ≢ u) (λ v. (item ≢ v) × (e ≢ v)) join_link (join_over q q_end)
            (λ s. end_apart q item q_end single (sym s)) (λ s. end_apart q item q_end single (sym s), apart));
        differ = by_ring (λ q ps. AreDifferent places ps) e (rings e ++ item ∷ []) rings
            (different_append tells (rings e) (item ∷ []) (R.differ e) (refl, tt)
            (λ x i. false_from_ne_true (is_among places x (item ∷ [])) (λ i2. elim (among_cons tells x item [] i2) [
              | inl same ↦ homeless e x item none i (sym same)
              | inr rest ↦ false≢true rest
            ]))) (λ q apart. R.differ q);
        members = λ q x. by_ring (λ q ps. is_among places x ps ≡ true → home' x ≡ Some q) e (rings e ++ item ∷ []) rings
            (λ i. elim (among_append tells x (rings e) (item ∷ []) i) [
              | inl l ↦ others x (homeless e x item none l) ∙ R.members e x l
              | inr r ↦ elim (among_cons tells x item [] r) [
                | inl same ↦ ap home' same ∙ now
                | inr rest ↦ absurd (false≢true rest)
              ]
            ]) (λ q apart i. others x (homeless q x item none i) ∙ R.members q x i) q;
        listed = λ q x at. elim (cases_place tells item x) [
          | inl same ↦
              let q_is : e ≡ q = some_same e q (sym now ∙ ap home' same ∙ at) in
              by_ring (λ q ps. e ≡ q → is_among places x ps ≡ true) e (rings e ++ item ∷ []) rings
              (λ _. among_right tells x (rings e) (item ∷ []) (subst (λ z. is_among places z (item ∷ []) ≡ true) same (among_here tells item [])))
              (λ q apart s. absurd (apart s)) q q_is
          | inr other ↦
              let was = R.listed q x (sym (others x other) ∙ at) in
              by_ring (λ q ps. is_among places x (rings q) ≡ true → is_among places x ps ≡ true) e (rings e ++ item ∷ []) rings
              (λ i. among_left tells x (rings e) (item ∷ []) i)
              (λ q apart i. i) q was
        ];
        ends = λ q x at. elim (cases_place tells item x) [
          | inl same ↦
              let q_is : e ≡ q = some_same e q (sym now ∙ ap home' same ∙ at) in
              (ap places.is_end (sym q_is) ∙ ends, ap places.is_end (sym same) ∙ single)
          | inr other ↦ R.ends q x (sym (others x other) ∙ at)
        ];
        loose = λ q q_inner at.
            let other : item ≢ q = λ s. some_none (home' q) e (ap home' (sym s) ∙ now) at in
            join_link q q (R.loose q q_inner (sym (others q other) ∙ at)) other (other, end_apart e q ends q_inner);
      }

    -- a place is taken off its ring, if it stands on one
    module _ (item : Place) (L : Leaves places n p n' p' item) (single : places.is_end item ≡ false) (none : home' item ≡ None)
        (others : (q : Place) → item ≢ q → home' q ≡ home q) where
      item_round : IsRound n p item
      item_round = of (home item) refl where
        of : (o : Option Place) → home item ≡ o → IsRound n p item
        of None at = let loop = R.loose item single at in record { after = ap n loop.back ∙ loop.to; before = ap p loop.to ∙ loop.back }
        of (Some e) at = round tells n p e (rings e) e item (R.leads e (R.ends e item at).0) (R.listed e item at)

      leave_link : (u v : Place) → IsLink n p u v → item ≢ u → item ≢ v → IsLink n' p' u v
      leave_link u v link iu iv =
          let around = item_round in
          let last : p item ≢ u = λ s. iv (sym around.after ∙ ap n s ∙ link.to) in
          let first : n item ≢ v = λ s. iu (sym around.before ∙ ap p s ∙ link.back) in
          record {
            to = L.to u ∙ set_other tells item item u (set_step places (p item) (n item) n) iu ∙ set_other tells (p item) (n item) u n last ∙ link.to;
            back = L.back v ∙ set_other tells item item v (set_step places (n item) (p item) p) iv ∙ set_other tells (n item) (p item) v p first ∙ link.back;
          }

      across : IsLink n' p' (p item) (n item)
      across =
          let around = item_round in
          record {
            to = elim (cases_place tells item (p item)) [
              | inl same ↦ ap n' (sym same) ∙ L.to item ∙ set_same tells item item (set_step places (p item) (n item) n) ∙
                  (sym around.after ∙ ap n (sym same))
              | inr apart ↦ L.to (p item) ∙ set_other tells item item (p item) (set_step places (p item) (n item) n) apart ∙
                  set_same tells (p item) (n item) n
            ];
            back = elim (cases_place tells item (n item)) [
              | inl same ↦ ap p' (sym same) ∙ L.back item ∙ set_same tells item item (set_step places (n item) (p item) p) ∙
                  (sym around.before ∙ ap p (sym same))
              | inr apart ↦ L.back (n item) ∙ set_other tells item item (n item) (set_step places (n item) (p item) p) apart ∙
                  set_same tells (n item) (p item) p
            ];
          }

      pub rings_left : AreRings places n' p' home' (λ q. without places item (rings q))
      rings_left = record {
        leads = λ e ends.
            let apart : item ≢ e = λ s. end_apart e item ends single (sym s) in
            cut_out tells n p leave_link across (rings e) (R.leads e ends) (R.differ e) apart apart;
        differ = λ e. different_without tells item (rings e) (R.differ e);
        members = λ e x i. let h = among_without tells item x (rings e) i in others x h.1 ∙ R.members e x h.0;
        listed = λ e x at.
            let other : item ≢ x = λ s. some_none (home' x) e at (ap home' (sym s) ∙ none) in
            without_keeps tells item x (rings e) other (R.listed e x (sym (others x other) ∙ at));
        ends = λ e x at.
            let other : item ≢ x = λ s. some_none (home' x) e at (ap home' (sym s) ∙ none) in
            R.ends e x (sym (others x other) ∙ at);
        loose = λ q q_inner at. elim (cases_place tells item q) [
          | inl same ↦ subst (λ z. IsLink n' p' z z) same
              (record {
                to = L.to item ∙ set_same tells item item (set_step places (p item) (n item) n);
                back = L.back item ∙
                    set_same tells item item (set_step places (n item) (p item) p);
              })
          | inr other ↦ leave_link q q (R.loose q q_inner (sym (others q other) ∙ at)) other other
        ];
      }

    -- a ring that is not empty is put at the end of another
    module _ (from into : Place) (M : Merges places n p n' p' from into) (from_ends : places.is_end from ≡ true)
        (into_ends : places.is_end into ≡ true) (two : from ≢ into)
        (some : n from ≢ from) (moved : (q : Place) → is_among places q (rings from) ≡ true → home' q ≡ Some into)
        (others : (q : Place) → is_among places q (rings from) ≡ false → home' q ≡ home q) where
      first_inner : places.is_end (n from) ≡ false
      first_inner = inner from (n from) (first_among tells n p from (rings from) from (R.leads from from_ends) some)

      last_inner : places.is_end (p from) ≡ false
      last_inner =
          let other : p from ≢ from = λ s. some (ap n (sym s) ∙ end_round from from_ends) in
          inner from (p from) (last_among tells n p from (rings from) from (R.leads from from_ends) other)

      abbrev next_1 : Steps Place
      next_1 = set_step places (p into) (n from) n

      abbrev next_2 : Steps Place
      next_2 = set_step places (p from) into next_1

      abbrev previous_1 : Steps Place
      previous_1 = set_step places (n from) (p into) p

      abbrev previous_2 : Steps Place
      previous_2 = set_step places into (p from) previous_1

      merge_link : (u v : Place) → IsLink n p u v → from ≢ u → (from ≢ v) × (into ≢ v) → IsLink n' p' u v
      merge_link u v link fu v_apart =
          let last : p from ≢ u = λ s. v_apart.0 (sym (end_round from from_ends) ∙ ap n s ∙ link.to) in
          let end : p into ≢ u = λ s. v_apart.1 (sym (end_round into into_ends) ∙ ap n s ∙ link.to) in
          let first : n from ≢ v = λ s. fu (sym (first_back tells n p from (rings from) from (R.leads from from_ends)) ∙ ap p s ∙ link.back) in
          record {
            to = M.to u ∙ set_other tells from from u next_2 fu ∙ set_other tells (p from) into u next_1 last ∙
                set_other tells (p into) (n from) u n end ∙ link.to;
            back = M.back v ∙ set_other tells from from v previous_2 v_apart.0 ∙ set_other tells into (p from) v previous_1 v_apart.1 ∙
                set_other tells (n from) (p into) v p first ∙ link.back;
          }

      -- links of a ring stay from each of its places, and to each of them
      merge_over : (q : Place) → places.is_end q ≡ true → LeadsOver places n p (λ u. from ≢ u) (λ v. (from ≢ v) × (into ≢ v)) q (rings q) q
      merge_over q q_end = record {
        leads = R.leads q q_end;
        inner = λ x i.
            let apart = end_apart from x from_ends (inner q x i) in
            (apart, (apart, end_apart into x into_ends (inner q x i)));
      }

      merge_at : Leads n' p' into (rings into ++ rings from) into
      merge_at =
          let from_last : from ≢ p into = λ s. true≢false (sym into_ends ∙ ap places.is_end (sym (end_round into into_ends) ∙ ap n (sym s)) ∙ first_inner) in
          let lasts : p from ≢ p into = λ s. two (sym (end_round from from_ends) ∙ ap n s ∙ end_round into into_ends) in
          splice tells n p n' p' (λ u. from ≢ u) (λ v. (from ≢ v) × (into ≢ v)) merge_link (rings from) into (merge_over into into_ends) two (
          move_ring tells n p n' p' (λ u. from ≢ u) (λ v. (from ≢ v) × (into ≢ v)) merge_link (merge_over from from_ends) some
          (record {
            to = M.to (p into) ∙ set_other tells from from (p into) next_2 from_last ∙ set_other tells (p from) into (p into) next_1 lasts ∙
                set_same tells (p into) (n from) n;
            back = M.back (n from) ∙ set_other tells from from (n from) previous_2 (end_apart from (n from) from_ends first_inner) ∙
                set_other tells into (p from) (n from) previous_1 (end_apart into (n from) into_ends first_inner) ∙ set_same tells (n from) (p into) p;
          })
          (record {
            to = M.to (p from) ∙ set_other tells from from (p from) next_2 (end_apart from (p from) from_ends last_inner) ∙
                set_same tells (p from) into next_1;
            back = M.back into ∙ set_other tells from from into previous_2 two ∙ set_same tells into (p from) previous_1;
          })
          )

      abbrev pub merged_rings : Place → List Place
      merged_rings = put_ring places from [] (put_ring places into (rings into ++ rings from) rings)

      by_merged : (P : Place → List Place → Type 0) → P from [] → P into (rings into ++ rings from) → ((q : Place) → from ≢ q → into ≢ q → P q (rings q)) →
          (q : Place) → P q (merged_rings q)
      by_merged P f i o = by_ring P from [] (put_ring places into (rings into ++ rings from) rings) f
          (λ q fq. by_ring (λ q ps. from ≢ q → P q ps) into (rings into ++ rings from) rings (λ _. i) (λ q iq fq. o q fq iq) q fq)

      elsewhere : (e x : Place) → from ≢ e → is_among places x (rings e) ≡ true → is_among places x (rings from) ≡ false
      elsewhere e x apart i = false_from_ne_true (is_among places x (rings from)) (λ j. apart (some_same from e (sym (R.members from x j) ∙ R.members e x i)))

      pub rings_merged : AreRings places n' p' home' merged_rings
      rings_merged = record {
        leads = by_merged (λ q ps. places.is_end q ≡ true → Leads n' p' q ps q)
            (λ _. record { to = M.to from ∙ set_same tells from from next_2; back = M.back from ∙ set_same tells from from previous_2 })
            (λ _. merge_at)
            (λ q fq iq q_end. frame tells n p n' p' (λ u. from ≢ u) (λ v. (from ≢ v) × (into ≢ v)) merge_link (merge_over q q_end) fq
            (fq, iq));
        differ = by_merged (λ q ps. AreDifferent places ps) tt
            (different_append tells (rings into) (rings from) (R.differ into) (R.differ from) (λ x i. elsewhere into x two i)) (λ q fq iq. R.differ q);
        members = λ q x. by_merged (λ q ps. is_among places x ps ≡ true → home' x ≡ Some q)
            (λ i. absurd (false≢true i))
            (λ i. elim (among_append tells x (rings into) (rings from) i) [
              | inl l ↦ others x (elsewhere into x two l) ∙ R.members into x l
              | inr r ↦ moved x r
            ])
            (λ q fq iq i. others x (elsewhere q x fq i) ∙ R.members q x i) q;
        listed = λ q x at. is_listed q x at (is_among places x (rings from)) refl;
        ends = λ q x at. has_ends q x at (is_among places x (rings from)) refl;
        loose = λ q q_inner at. stays_loose q q_inner at (is_among places q (rings from)) refl;
      } where
        is_listed : (q x : Place) → home' x ≡ Some q → (b : Bool) → is_among places x (rings from) ≡ b → is_among places x (merged_rings q) ≡ true
        is_listed q x at true i =
            let q_is : into ≡ q = some_same into q (sym (moved x i) ∙ at) in
            by_merged (λ q ps. into ≡ q → is_among places x ps ≡ true) (λ s. absurd (two (sym s))) (λ _. among_right tells x (rings into) (rings from) i)
            (λ q fq iq s. absurd (iq s)) q q_is
        is_listed q x at false i =
            let was = R.listed q x (sym (others x i) ∙ at) in
            by_merged (λ q ps. is_among places x (rings q) ≡ true → is_among places x ps ≡ true) (λ j. absurd (true≢false (sym j ∙ i)))
            (λ j. among_left tells x (rings into) (rings from) j) (λ q fq iq j. j) q was

        has_ends : (q x : Place) → home' x ≡ Some q → (b : Bool) → is_among places x (rings from) ≡ b → (places.is_end q ≡ true) × (places.is_end x ≡ false)
        has_ends q x at true i = (ap places.is_end (sym (some_same into q (sym (moved x i) ∙ at))) ∙ into_ends, inner from x i)
        has_ends q x at false i = R.ends q x (sym (others x i) ∙ at)

        stays_loose : (q : Place) → places.is_end q ≡ false → home' q ≡ None → (b : Bool) → is_among places q (rings from) ≡ b → IsLink n' p' q q
        stays_loose q q_inner at true i = absurd (some_none (home' q) into (moved q i) at)
        stays_loose q q_inner at false i =
            merge_link q q (R.loose q q_inner (sym (others q i) ∙ at)) (end_apart from q from_ends q_inner)
            (end_apart from q from_ends q_inner, end_apart into q into_ends q_inner)
