-- Walking over the cells of a queue, while counting.
use Rattle.std.proofs.Common.{◌≡◌, ◌≢◌, ℕ, suc, ◌+◌, ◌^◌, ◌<◌, ◌≤◌, Some, List, [], ◌∷◌, length, refl, sym, ◌∙◌, ap, subst, arith}
use Rattle.rx_lanes.specs.declared.queues.Ends.{Ends}
use Rattle.rx_lanes.specs.Reports.{at_most_all}
use Rattle.rx_lanes.specs.Chains.{most_slots, no_cell, next_at, ends_at, LeadsThrough, walk_cells, AreCells, read_all}
use Rattle.rx_lanes.proofs.CellsChained.{walk_is, leads_few}
use Rattle.rx_lanes.proofs.QueuesShown.{queue_of, shows}

pub capped : (a b : ℕ) → at_most_all (at_most_all a + b) ≡ at_most_all (a + b)
capped a b = omega arith

pub capped-three : (a r f b : ℕ) → at_most_all (at_most_all (at_most_all (a + r) + f) + b) ≡ at_most_all (a + (r + (f + b)))
capped-three a r f b = ap (λ n. at_most_all (n + b)) (capped (a + r) f) ∙ capped (a + r + f) b ∙ ap at_most_all (omega arith)

-- what is counted and the cells from here on come to this sum
pub record WalksTo (next : List ℕ) (cell many sum : ℕ) : Type 0 where
  pub rest : List ℕ
  pub leads : LeadsThrough next cell rest
  pub fits : length rest ≤ length next
  pub small : many < 2 ^ 64
  pub sum_is : at_most_all (many + length rest) ≡ at_most_all sum

abbrev pub to_go : List ℕ → ℕ → ℕ
to_go next cell = length (walk_cells (length next) next cell)

pub walk_starts : {E : Type 0} (blank : E) {cells : List E} {next : List ℕ} {ends : List Ends} {free spare : ℕ}
    (are : AreCells cells next ends free spare) (queue so_far : ℕ) → so_far < 2 ^ 64 →
    WalksTo next (ends_at ends queue).first so_far (so_far + length (queue_of blank cells next ends queue))
walk_starts {E} blank {cells} {next} {ends} are queue so_far small = record {
  rest = are.lists (Some queue);
  leads = are.chained.leads (Some queue);
  fits = leads_few next (ends_at ends queue).first (are.lists (Some queue)) (are.chained.apart (Some queue)) (are.chained.leads (Some queue));
  small = small;
  sum_is = ap (λ n. at_most_all (so_far + n)) (sym (ap length (shows blank are queue) ∙ of (are.lists (Some queue))));
} where
  of : (xs : List ℕ) → length (read_all blank cells xs) ≡ length xs
  of [] = refl
  of (x ∷ xs) = ap suc (of xs)

-- where there is one more
record Step (next : List ℕ) (cell many sum : ℕ) : Type 0 where
  cs : List ℕ
  within : cell < length next
  leads : LeadsThrough next cell (cell ∷ cs)
  fits : length cs < length next
  sum_is : at_most_all (many + suc (length cs)) ≡ at_most_all sum

step_of : {next : List ℕ} {cell many sum : ℕ} → WalksTo next cell many sum → cell ≢ no_cell → Step next cell many sum
step_of {next} {cell} {many} {sum} w some = of w.rest w.leads w.fits w.sum_is where
  of : (rest : List ℕ) → LeadsThrough next cell rest → length rest ≤ length next → at_most_all (many + length rest) ≡ at_most_all sum → Step next cell many sum
  of [] l f s = absurd (some l)
  of (x ∷ xs) l f s = record {
    cs = xs;
    within = subst (λ z. z < length next) (sym l.0) l.1;
    leads = subst (λ z. LeadsThrough next cell (z ∷ xs)) (sym l.0) l;
    fits = f;
    sum_is = s;
  }

pub walk_within : {next : List ℕ} {cell many sum : ℕ} → WalksTo next cell many sum → cell ≢ no_cell → cell < length next
walk_within w some = (step_of w some).within

pub walk_steps : {next : List ℕ} {cell many sum : ℕ} (many' : ℕ) → WalksTo next cell many sum → cell ≢ no_cell → many' ≡ at_most_all (many + 1) →
    WalksTo next (next_at next cell) many' sum
walk_steps {next} {cell} {many} many' w some more =
    let s = step_of w some in
    let f = s.fits in
    record {
      rest = s.cs;
      leads = s.leads.2;
      fits = omega (arith, f);
      small = omega (arith, more);
      sum_is = ap (λ n. at_most_all (n + length s.cs)) more ∙ capped (many + 1) (length s.cs) ∙ ap at_most_all (omega arith) ∙ s.sum_is;
    }

pub walk_shorter : {next : List ℕ} {cell many sum : ℕ} → length next ≤ most_slots → WalksTo next cell many sum → cell ≢ no_cell →
    to_go next (next_at next cell) < to_go next cell
walk_shorter {next} {cell} few w some =
    let s = step_of w some in
    let f = s.fits in
    let was = ap length (walk_is (length next) next cell (cell ∷ s.cs) few (omega (arith, f)) s.leads) in
    let now = ap length (walk_is (length next) next (next_at next cell) s.cs few (omega (arith, f)) s.leads.2) in
    omega (arith, was, now)

pub walk_ends : {next : List ℕ} {cell many sum : ℕ} → length next ≤ most_slots → WalksTo next cell many sum → cell ≡ no_cell → many ≡ at_most_all sum
walk_ends {next} {cell} {many} {sum} few w none = of w.rest w.leads w.sum_is where
  of : (rest : List ℕ) → LeadsThrough next cell rest → at_most_all (many + length rest) ≡ at_most_all sum → many ≡ at_most_all sum
  of [] l s = let small = w.small in omega (arith, small, s)
  of (x ∷ xs) l s = let below = l.1 in let is = sym l.0 ∙ none in absurd (omega (arith, below, few, is))
