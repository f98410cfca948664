-- The first cell of a queue becomes a free one, and the queue shows the rest.
use Rattle.std.proofs.Common.{◌≡◌, ◌≢◌, ℕ, ◌+◌, ◌<◌, ◌==◌, cond, List, [], ◌∷◌, length, get_or, set, Option, Some, None, refl}
use Rattle.std.proofs.Common.{sym, ◌∙◌, ap, subst, arith, length-set, get_or-set_same, get_or-set_other}
use Rattle.std.proofs.lemmas.List.{get_or_read}
use Rattle.rx_lanes.specs.declared.queues.Ends.{Ends}
use Rattle.rx_lanes.specs.Chains.{first_of, rest_of, no_cell, next_at, ends_at, LeadsThrough, EndsIn, first_cell_in, AreChained, read_all, AreCells}
use Rattle.rx_lanes.proofs.CellsChained.{by_place, is_list, leads_few, ends_rest, with_list, IsFirstOf, led, on_none, taken_off, IsLoose, put_first}
use Rattle.rx_lanes.proofs.QueuesShown.{at_set, queue_of, shows, shows_none}

module _ {E : Type 0} {cells : List E} {next : List ℕ} {ends : List Ends} {free spare : ℕ} (are : AreCells cells next ends free spare)
    (queue cell : ℕ) where
  -- a queue begins with this cell
  pub record HasFirst : Type 0 where
    pub rest : List ℕ
    pub is_first : IsFirstOf next (first_cell_in free ends) are.lists (Some queue) cell rest

  module _ (has : HasFirst) where
    pub cell_within : cell < length next
    cell_within = (led has.is_first).1

    pub first_shows : (blank : E) → Some (get_or cells cell blank) ≡ first_of (queue_of blank cells next ends queue)
    first_shows blank = sym (ap first_of (shows blank are queue) ∙ ap (λ xs. first_of (read_all blank cells xs)) has.is_first.is)

    module _ (e : Ends) (first_is : e.first ≡ next_at next cell) (last_is : e.last ≡ (ends_at ends queue).last) (within : queue < length ends) where
      abbrev left : Option ℕ → List ℕ
      left = with_list None (cell ∷ are.lists None) (with_list (Some queue) has.rest are.lists)

      loose : IsLoose next (first_cell_in free (set ends queue e)) (with_list (Some queue) has.rest are.lists) cell
      loose = record {
        chained = taken_off has.is_first (first_cell_in free (set ends queue e)) of;
        none = on_none has.is_first;
        within = cell_within;
      } where
        of : (f : Option ℕ) → first_cell_in free (set ends queue e) f ≡ cond (is_list (Some queue) f) (next_at next cell) (first_cell_in free ends f)
        of None = refl
        of (Some q) = ap (λ (e : Ends). e.first) (at_set ends queue e q within)
            ∙ by_place (λ b. (cond b e (ends_at ends q)).first ≡ cond b (next_at next cell) (ends_at ends q).first) queue q (λ same. first_is)
            (λ apart. refl)

      chained : AreChained (set next cell free) (first_cell_in cell (set ends queue e)) left
      chained = put_first loose None (set next cell free) (first_cell_in cell (set ends queue e)) (length-set next cell free) of
          (get_or-set_same next cell free no_cell cell_within) (λ m apart. get_or-set_other next cell m free no_cell apart) refl
        where
          of : (f : Option ℕ) → None ≢ f → first_cell_in cell (set ends queue e) f ≡ first_cell_in free (set ends queue e) f
          of None apart = absurd (apart refl)
          of (Some q) apart = refl

      -- not all cells were free
      pub spare_fits : spare < length next
      spare_fits =
          let n = leads_few (set next cell free) cell (cell ∷ are.lists None) (chained.apart None) (chained.leads None) in
          let s = are.spare_is in
          let l = length-set next cell free in
          omega (arith, n, s, l)

      pub leave_cells : AreCells cells (set next cell free) (set ends queue e) cell (spare + 1)
      leave_cells = record {
        few = let n = are.few in let l = length-set next cell free in omega (arith, n, l);
        within = let n = are.within in let l = length-set next cell free in omega (arith, n, l);
        lists = left;
        chained = chained;
        last = λ q. subst (λ (e : Ends). EndsIn e.last (left (Some q))) (sym (at_set ends queue e q within))
            (by_place (λ b. EndsIn (cond b e (ends_at ends q)).last (cond b has.rest (are.lists (Some q)))) queue q
            (λ same. subst (λ n. EndsIn n has.rest) (sym last_is)
            (ends_rest (ends_at ends queue).last cell has.rest (subst (EndsIn (ends_at ends queue).last) has.is_first.is (are.last queue))))
            (λ apart. are.last q));
        spare_is = let s = are.spare_is in omega (arith, s);
      }

      pub leave_shows : (blank : E) (q : ℕ) → queue_of blank cells (set next cell free) (set ends queue e) q ≡
          cond (queue == q) (rest_of (queue_of blank cells next ends q)) (queue_of blank cells next ends q)
      unfolding leave_cells
      leave_shows blank q =
          shows blank leave_cells q ∙ by_place (λ b. read_all blank cells (cond b has.rest (are.lists (Some q))) ≡
          cond b (rest_of (read_all blank cells (are.lists (Some q)))) (read_all blank cells (are.lists (Some q)))) queue q
          (λ same. subst (λ z. read_all blank cells has.rest ≡ rest_of (read_all blank cells (are.lists (Some z)))) same
          (sym (ap (λ xs. rest_of (read_all blank cells xs)) has.is_first.is)))
          (λ apart. refl)
          ∙ ap (λ es. cond (queue == q) (rest_of es) es) (sym (shows blank are q))

module _ {E : Type 0} {cells : List E} {next : List ℕ} {ends : List Ends} {free spare : ℕ} (are : AreCells cells next ends free spare) (queue : ℕ)
    (within : queue < length ends)
    (e : Ends) (is : e ≡ get_or ends queue e) where
  found : e ≡ ends_at ends queue
  found = get_or_read ends queue e within is _

  pub has_first : e.first ≢ no_cell → HasFirst are queue e.first
  has_first some = of (are.lists (Some queue)) refl (are.chained.leads (Some queue)) where
    of : (xs : List ℕ) → are.lists (Some queue) ≡ xs → LeadsThrough next (ends_at ends queue).first xs → HasFirst are queue e.first
    of [] on l = absurd (some (ap (λ (e : Ends). e.first) found ∙ l))
    of (x ∷ xs) on l = record {
      rest = xs;
      is_first = record
          { chained = are.chained; is = on ∙ ap (λ z. z ∷ xs) (sym (ap (λ (e : Ends). e.first) found ∙ l.0)) };
    }

  module _ (blank : E) (none : e.first ≡ no_cell) where
    is_none : queue_of blank cells next ends queue ≡ []
    is_none = shows_none blank are queue (sym (ap (λ (e : Ends). e.first) found) ∙ none)

    pub none_first : None ≡ first_of (queue_of blank cells next ends queue)
    none_first = sym (ap first_of is_none)

    pub none_leaves : (q : ℕ) → queue_of blank cells next ends q ≡
        cond (queue == q) (rest_of (queue_of blank cells next ends q)) (queue_of blank cells next ends q)
    none_leaves q =
        let s = queue_of blank cells next ends in
        by_place (λ b. s q ≡ cond b (rest_of (s q)) (s q)) queue q
        (λ same. subst (λ z. s z ≡ rest_of (s z)) same (is_none ∙ sym (ap rest_of is_none))) (λ apart. refl)
