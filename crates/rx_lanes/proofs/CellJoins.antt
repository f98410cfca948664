-- A free cell goes to the end of a queue, which shows what stands in it.
use Rattle.std.proofs.Common.{◌≡◌, ◌≢◌, ℕ, ◌-◌, ◌<◌, ◌==◌, Bool, true, false, cond, List, [], ◌∷◌, ◌++◌, length, get_or, set, Option, Some, None, refl}
use Rattle.std.proofs.Common.{true≢false, sym, ◌∙◌, ap, subst, arith, length-set, get_or-set_same, get_or-set_other}
use Rattle.rx_slots.specs.Lists.{is_in}
use Rattle.rx_lanes.specs.declared.queues.Ends.{Ends}
use Rattle.rx_lanes.specs.Chains.{no_cell, next_at, ends_at, LeadsThrough, EndsIn, first_cell_in, AreChained, last_cell_or, joined_next, joined_ends, read_all, AreCells}
use Rattle.rx_lanes.proofs.NumbersOnLists.{eq_self, eq_not, read_same}
use Rattle.rx_lanes.proofs.CellsChained.{by_place, is_list, leads_below, ends_on, ends_last, with_list, IsFirstOf, led, elsewhere, unlike, on_none}
use Rattle.rx_lanes.proofs.CellsChained.{taken_off, IsLoose, put_first, put_last}
use Rattle.rx_lanes.proofs.QueuesShown.{at_set, queue_of, shows}

-- the links that are written where a cell comes after another, or is the first
module _ (next : List ℕ) (cell l : ℕ) (is_first : Bool) where
  abbrev wrote : List ℕ
  wrote = set (set next (cond is_first cell l) cell) cell no_cell

  wrote_many : length wrote ≡ length next
  wrote_many = length-set (set next (cond is_first cell l) cell) cell no_cell ∙ length-set next (cond is_first cell l) cell

  wrote_own : cell < length next → next_at wrote cell ≡ no_cell
  wrote_own within =
      let n = length-set next (cond is_first cell l) cell in
      get_or-set_same (set next (cond is_first cell l) cell) cell no_cell no_cell (omega (arith, n, within))

  wrote_last : is_first ≡ false → l ≢ cell → l < length next → next_at wrote l ≡ cell
  wrote_last no_first apart within =
      get_or-set_other (set next (cond is_first cell l) cell) cell l no_cell no_cell apart
      ∙ ap (λ b. next_at (set next (cond b cell l) cell) l) no_first ∙ get_or-set_same next l cell no_cell within

  wrote_other : (m : ℕ) → m ≢ cell → (is_first ≡ false → m ≢ l) → next_at wrote m ≡ next_at next m
  wrote_other m apart other = get_or-set_other (set next (cond is_first cell l) cell) cell m no_cell no_cell apart ∙ of is_first other where
    of : (b : Bool) → (b ≡ false → m ≢ l) → next_at (set next (cond b cell l) cell) m ≡ next_at next m
    of true other = get_or-set_other next cell m cell no_cell apart
    of false other = get_or-set_other next l m cell no_cell (other refl)

module _ {E : Type 0} {cells : List E} {next : List ℕ} {ends : List Ends} {free spare : ℕ} (are : AreCells cells next ends free spare) where
  -- the cell that is used next, and the other free ones
  pub record HasFree : Type 0 where
    pub rest : List ℕ
    pub is_first : IsFirstOf next (first_cell_in free ends) are.lists None free rest

  pub has_free : 0 < spare → HasFree
  has_free some = of (are.lists None) refl (are.chained.leads None) where
    of : (xs : List ℕ) → are.lists None ≡ xs → LeadsThrough next free xs → HasFree
    of [] is l = let none = are.spare_is ∙ ap length is in absurd (omega (arith, none, some))
    of (x ∷ xs) is l = record { rest = xs; is_first = record { chained = are.chained; is = is ∙ ap (λ z. z ∷ xs) (sym l.0) } }

  module _ (has : HasFree) (queue : ℕ) where
    pub free_within : free < length next
    free_within = (led has.is_first).1

    -- the queue is empty, or its last cell is there
    data Last : Type 0 where
      no_last : are.lists (Some queue) ≡ [] → ((ends_at ends queue).first == no_cell) ≡ true → Last
      its_last : (x : ℕ) (xs : List ℕ) → are.lists (Some queue) ≡ x ∷ xs → ((ends_at ends queue).first == no_cell) ≡ false →
          is_in (ends_at ends queue).last (are.lists (Some queue)) ≡ true → Last

    last : Last
    last = of (are.lists (Some queue)) refl (are.chained.leads (Some queue)) (are.last queue) where
      of : (xs : List ℕ) → are.lists (Some queue) ≡ xs → LeadsThrough next (ends_at ends queue).first xs → EndsIn (ends_at ends queue).last xs → Last
      of [] is l e = no_last is (ap (λ n. n == no_cell) l ∙ eq_self no_cell)
      of (x ∷ xs) is l e =
          let below = l.1 in let few = are.few in
          its_last x xs is (ap (λ n. n == no_cell) l.0 ∙ eq_not x no_cell (λ s. absurd (omega (arith, s, below, few))))
          (ap (is_in (ends_at ends queue).last) is ∙ ends_on (ends_at ends queue).last x xs e)

    pub last_within : last_cell_or free (ends_at ends queue) < length next
    last_within = elim last [
      | no_last is t ↦ subst (λ b. cond b free (ends_at ends queue).last < length next) (sym t) free_within
      | its_last x xs is t on ↦ subst (λ b. cond b free (ends_at ends queue).last < length next) (sym t)
          (leads_below next (ends_at ends queue).first (are.lists (Some queue)) (are.chained.leads (Some queue)) (ends_at ends queue).last on)
    ]

    module _ (within : queue < length ends) where
      abbrev ended : List Ends
      ended = set ends queue (joined_ends free (ends_at ends queue))

      abbrev joined : Option ℕ → List ℕ
      joined = with_list (Some queue) (are.lists (Some queue) ++ free ∷ []) (with_list None has.rest are.lists)

      loose : IsLoose next (first_cell_in (next_at next free) ends) (with_list None has.rest are.lists) free
      loose = record {
        chained = taken_off has.is_first (first_cell_in (next_at next free) ends) of;
        none = on_none has.is_first;
        within = free_within;
      } where
        of : (e : Option ℕ) → first_cell_in (next_at next free) ends e ≡ cond (is_list None e) (next_at next free) (first_cell_in free ends e)
        of None = refl
        of (Some q) = refl

      stays : (e : Option ℕ) → Some queue ≢ e → first_cell_in (next_at next free) ended e ≡ first_cell_in (next_at next free) ends e
      stays None apart = refl
      stays (Some q) apart = ap (λ (e : Ends). e.first) (get_or-set_other ends queue q _ _ (λ s. apart (ap Some (sym s))))

      chained : AreChained (joined_next next free (ends_at ends queue)) (first_cell_in (next_at next free) ended) joined
      chained =
          let e = ends_at ends queue in
          let n = joined_next next free e in
          let f = first_cell_in (next_at next free) ended in
          let many = wrote_many next free e.last (e.first == no_cell) in
          let own = wrote_own next free e.last (e.first == no_cell) free_within in
          let begins : (ends_at ended queue).first ≡
          cond (e.first == no_cell) free e.first = ap (λ (e : Ends). e.first) (get_or-set_same ends queue _ _ within) in
          elim last [
            | no_last is t ↦ subst (λ xs. AreChained n f (with_list (Some queue) (xs ++ free ∷ []) (with_list None has.rest are.lists))) (sym is)
                (subst (λ xs. AreChained n f (with_list (Some queue) (free ∷ xs) (with_list None has.rest are.lists))) is
                (put_first loose (Some queue) n f many stays (own ∙ sym (subst (LeadsThrough next e.first) is (are.chained.leads (Some queue))))
                (λ m apart. wrote_other next free e.last (e.first == no_cell) m apart (λ f. absurd (true≢false (sym t ∙ f))))
                (begins ∙ ap (λ b. cond b free e.first) t)))
            | its_last x xs is t on ↦ put_last loose (Some queue) n f many stays e.last x xs is (are.last queue)
                (wrote_last next free e.last (e.first == no_cell) t
                (unlike e.last free (are.lists (Some queue)) on (elsewhere has.is_first (Some queue) (λ z. cc)))
                (leads_below next e.first (are.lists (Some queue)) (are.chained.leads (Some queue)) e.last on)) own
                (λ m apart other. wrote_other next free e.last (e.first == no_cell) m apart (λ f. other)) (begins ∙ ap (λ b. cond b free e.first) t)
          ]

      module _ (effect : E) {next' : List ℕ} {ends' : List Ends} (next_is : next' ≡ joined_next next free (ends_at ends queue))
          (ends_is : ends' ≡ ended) where
        joined_cells : AreCells (set cells free effect) (joined_next next free (ends_at ends queue)) ended (next_at next free) (spare - 1)
        joined_cells =
            let many = wrote_many next free (ends_at ends queue).last ((ends_at ends queue).first == no_cell) in
            record {
              few = let n = are.few in omega (arith, n, many);
              within = let n = are.within in let l = length-set cells free effect in omega (arith, n, l, many);
              lists = joined;
              chained = chained;
              last = λ q. subst (λ (e : Ends). EndsIn e.last (joined (Some q))) (sym (at_set ends queue (joined_ends free (ends_at ends queue)) q within))
                  (by_place (λ b. EndsIn (cond b (joined_ends free (ends_at ends queue)) (ends_at ends q)).last
                  (cond b (are.lists (Some queue) ++ free ∷ []) (are.lists (Some q)))) queue q
                  (λ same. ends_last free (are.lists (Some queue))) (λ apart. are.last q));
              spare_is = let n = are.spare_is ∙ ap length has.is_first.is in omega (arith, n);
            }

        pub join_cells : {free' : ℕ} → free' ≡ next_at next free → AreCells (set cells free effect) next' ends' free' (spare - 1)
        join_cells {free'} is =
            let s = spare - 1 in
            let cs = set cells free effect in
            subst (λ n. AreCells cs n ends' free' s) (sym next_is)
            (subst (λ e. AreCells cs (joined_next next free (ends_at ends queue)) e free' s) (sym ends_is)
            (subst (λ f. AreCells cs (joined_next next free (ends_at ends queue)) ended f s) (sym is) joined_cells))

        map_last : (blank : E) (cells : List E) (xs : List ℕ) (c : ℕ) → read_all blank cells (xs ++ c ∷ []) ≡
            read_all blank cells xs ++ get_or cells c blank ∷ []
        map_last blank cells [] c = refl
        map_last blank cells (x ∷ xs) c = ap (λ (es : List E). get_or cells x blank ∷ es) (map_last blank cells xs c)

        -- an effect in that cell is the last of its queue
        pub join_shows : (blank : E) (q : ℕ) → queue_of blank (set cells free effect) next' ends' q ≡
            cond (queue == q) (queue_of blank cells next ends q ++ effect ∷ []) (queue_of blank cells next ends q)
        unfolding joined_cells
        join_shows blank q =
            (λ i. queue_of blank (set cells free effect) (next_is i) (ends_is i) q)
            ∙ shows blank joined_cells q ∙ by_place (λ b. read_all blank (set cells free effect)
            (cond b (are.lists (Some queue) ++ free ∷ []) (are.lists (Some q))) ≡
            cond b (read_all blank cells (are.lists (Some q)) ++ effect ∷ []) (read_all blank cells (are.lists (Some q)))) queue q
            (λ same. subst (λ z. read_all blank (set cells free effect) (are.lists (Some queue) ++ free ∷ []) ≡
            read_all blank cells (are.lists (Some z)) ++ effect ∷ []) same
            (map_last blank (set cells free effect) (are.lists (Some queue)) free ∙
            (λ i. stay queue i ++ get_or-set_same cells free effect blank below i ∷ [])))
            (λ apart. stay q)
            ∙ ap (λ es. cond (queue == q) (es ++ effect ∷ []) es) (sym (shows blank are q))
          where
            stay : (q : ℕ) → read_all blank (set cells free effect) (are.lists (Some q)) ≡ read_all blank cells (are.lists (Some q))
            stay q = read_same blank cells free effect (are.lists (Some q)) (elsewhere has.is_first (Some q) (λ z. cc))

            below : free < length cells
            below = let n = are.within in let f = free_within in omega (arith, n, f)
