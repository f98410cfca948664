-- What the queues show of their cells.
use Rattle.std.proofs.Common.{◌≡◌, ℕ, zero, suc, ◌<◌, ◌≤◌, ◌==◌, cond, List, [], ◌∷◌, ◌++◌, map, length, get_or, set, Option, Some, None, refl}
use Rattle.std.proofs.Common.{is_some, true≢false, sym, ◌∙◌, ap, subst, arith, get_or-set_same, get_or-set_other}
use Rattle.std.proofs.lemmas.List.{map_push, length-map}
use Rattle.std.proofs.Math.Bool.{not}
use Rattle.rx_lanes.specs.declared.queues.Ends.{Ends}
use Rattle.rx_lanes.specs.Chains.{first_of, no_cell, ends_at, LeadsThrough, first_cell_in, read_all, queue_in, AreCells}
use Rattle.rx_lanes.proofs.NumbersOnLists.{eq_self, eq_not}
use Rattle.rx_lanes.proofs.CellsChained.{by_place, leads_few, walk_none, walk_is}

-- where a queue begins and ends after a write
pub at_set : (ends : List Ends) (queue : ℕ) (e : Ends) (q : ℕ) → queue < length ends → ends_at (set ends queue e) q ≡ cond (queue == q) e (ends_at ends q)
at_set ends queue e q within = by_place (λ b. ends_at (set ends queue e) q ≡ cond b e (ends_at ends q)) queue q
    (λ same. ap (ends_at (set ends queue e)) (sym same) ∙ get_or-set_same ends queue e _ within)
    (λ apart. get_or-set_other ends queue q e _ (λ s. apart (sym s)))

module _ {E : Type 0} where
  shows_ends : (f : Ends → List E) → f (record { first = no_cell; last = no_cell }) ≡ [] → (ends : List Ends) (q : ℕ) → get_or (map f ends) q [] ≡
      f (ends_at ends q)
  shows_ends f none [] q = sym none
  shows_ends f none (x ∷ xs) zero = refl
  shows_ends f none (x ∷ xs) (suc q) = shows_ends f none xs q

  -- what a queue shows
  abbrev pub queue_of : E → List E → List ℕ → List Ends → ℕ → List E
  queue_of blank cells next ends q = get_or (map (queue_in blank cells next) ends) q []

  pub is_queue : (f : Ends → List E) (ends : List Ends) {q : ℕ} → q < length (map f ends) → q < length ends
  is_queue f ends {q} within = subst (λ n. q < n) (length-map ends f) within

  -- nothing in no queue
  pub no_cells : {cells : List E} {next : List ℕ} {ends : List Ends} → next ≡ [] → ends ≡ [] → AreCells cells next ends no_cell 0
  no_cells {cells} {next} {ends} no_next no_ends =
      let n = ap length no_next in
      record {
        few = omega (arith, n);
        within = omega (arith, n);
        lists = λ e. [];
        chained = record { leads = none; apart = λ e. tt; once = λ e f m i j. absurd (true≢false (sym i)) };
        last = λ q. tt;
        spare_is = refl;
      }
    where
      none : (e : Option ℕ) → first_cell_in no_cell ends e ≡ no_cell
      none None = refl
      none (Some q) = ap (λ es. (ends_at es q).first) no_ends

  pub spare_few : {cells : List E} {next : List ℕ} {ends : List Ends} {free spare : ℕ} → AreCells cells next ends free spare → spare ≤ length next
  spare_few {cells} {next} {ends} {free} are =
      let n = leads_few next free (are.lists None) (are.chained.apart None) (are.chained.leads None) in
      let s = are.spare_is in omega (arith, n, s)

  module _ (blank : E) {cells : List E} {next : List ℕ} {ends : List Ends} {free spare : ℕ} (are : AreCells cells next ends free spare) (q : ℕ) where
    -- a queue shows what stands in its cells
    pub shows : queue_of blank cells next ends q ≡ read_all blank cells (are.lists (Some q))
    shows =
        let leads = are.chained.leads (Some q) in
        shows_ends (queue_in blank cells next) (ap (read_all blank cells) (walk_none (length next) next)) ends q
        ∙ ap (read_all blank cells) (walk_is (length next) next (ends_at ends q).first (are.lists (Some q)) are.few
        (leads_few next (ends_at ends q).first (are.lists (Some q)) (are.chained.apart (Some q)) leads) leads)

    pub shows_some : not ((ends_at ends q).first == no_cell) ≡ is_some (first_of (queue_of blank cells next ends q))
    shows_some = of (are.lists (Some q)) (are.chained.leads (Some q)) ∙ sym (ap (λ es. is_some (first_of es)) shows) where
      of : (xs : List ℕ) → LeadsThrough next (ends_at ends q).first xs → not ((ends_at ends q).first == no_cell) ≡ is_some (first_of (read_all blank cells xs))
      of [] l = ap (λ n. not (n == no_cell)) l ∙ ap not (eq_self no_cell)
      of (x ∷ xs) l =
          let below = l.1 in let few = are.few in
          ap (λ n. not (n == no_cell)) l.0 ∙ ap not (eq_not x no_cell (λ e. absurd (omega (arith, e, below, few))))

    pub shows_none : (ends_at ends q).first ≡ no_cell → queue_of blank cells next ends q ≡ []
    shows_none none = shows ∙ of (are.lists (Some q)) (are.chained.leads (Some q)) where
      of : (xs : List ℕ) → LeadsThrough next (ends_at ends q).first xs → read_all blank cells xs ≡ []
      of [] l = refl
      of (x ∷ xs) l = let below = l.1 in let few = are.few in let is = sym l.0 ∙ none in absurd (omega (arith, below, few, is))

-- a queue more, with no cell
pub shows_added : {E : Type 0} (blank : E) (cells : List E) (next : List ℕ) (ends : List Ends) →
    map (queue_in blank cells next) (ends ++ record { first = no_cell; last = no_cell } ∷ []) ≡ map (queue_in blank cells next) ends ++ [] ∷ []
shows_added blank cells next ends =
    map_push (queue_in blank cells next) ends _ ∙
    ap (λ xs. map (queue_in blank cells next) ends ++ read_all blank cells xs ∷ []) (walk_none (length next) next)
