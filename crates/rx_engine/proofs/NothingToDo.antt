-- A call that closed nothing, and after which nothing waits.
use Rattle.std.proofs.Common.{◌≡◌, ℕ, Bool, true, cond, IsTrue, List, [], ◌∷◌, length, refl, ap, sym, arith, subst, append-nil, map}
use Rattle.std.specs.List.{All}
use Rattle.rx_slots.specs.declared.Key.{Key}
use Rattle.rx_event.specs.Resources.{is_waiting}
use Rattle.rx_event.specs.Totals.{waiting_count}
use Rattle.rx_event.proofs.Laws.Resources.{is_waiting_within}
use Rattle.rx_event.proofs.Laws.Sums.{term_in_sum}
use Rattle.rx_ground.specs.Shown.{Label}
use Rattle.rx_book.specs.State.{State as BookState, IsPromised}
use Rattle.rx_lanes.specs.State.{State as LanesState}
use Rattle.rx_roles.specs.declared.effect.Effect.{Effect}
use Rattle.rx_roles.specs.Effects.{copies_in, lasts_at}
use Rattle.rx_engine.specs.declared.parts.Parts.{Parts}
use Rattle.rx_engine.specs.Deliveries.{many_at, none_left, Delivers, none_delivered, settled}
use Rattle.rx_engine.specs.Rooms.{IsReady}
use Rattle.rx_engine.specs.Settlements.{closed_of}
use Rattle.rx_engine.specs.Gatherings.{EndsClosed, Spreads, IsLoaded}

pub none_of_length : {X : Type 0} (xs : List X) → length xs ≡ 0 → xs ≡ []
none_of_length [] none = refl
none_of_length (x ∷ xs) none = absurd (omega (arith, none))

pub nothing_waits : (b : BookState) → IsPromised b → waiting_count b.history ≡ 0 → b.waiting ≡ []
nothing_waits b kept none = by_list b.waiting kept.waiting.each where
  by_list : (ls : List Label) → All (λ (n : ℕ). IsTrue (is_waiting b.history n)) (map (λ (l : Label). l.number) ls) → ls ≡ []
  by_list [] each = refl
  by_list (l ∷ ls) each =
      let waits : is_waiting b.history l.number ≡ true = each 0 0 (omega arith) in
      let counted = term_in_sum (λ n. cond (is_waiting b.history n) 1 0) l.number (length b.history) (is_waiting_within b.history l.number waits) in
      let one = ap (λ (x : Bool). cond {A = ℕ} x 1 0) waits in
      absurd (omega (arith, counted, one, none))

pub none_end : (by : ℕ) (p : Parts) → EndsClosed by [] p p
none_end by p = record {
  homes = refl;
  leaves = none_left (record { lanes = λ name. refl; fresh_is = refl; next_turn = refl; due = refl });
  many = λ name. refl;
  spare = refl;
  shares = refl;
  hubs = refl;
  hears = refl;
  merges = refl;
  effects = sym (append-nil p.effects.list);
  room = omega arith;
  holds = refl;
}

pub nothing_ends : (by : ℕ) (b : BookState) (p : Parts) → length b.closed ≡ 0 → EndsClosed by (closed_of b) p p
nothing_ends by b p none =
    subst (λ (ks : List Key). EndsClosed by (map (λ (k : Key). k.number) ks) p p) (sym (none_of_length b.closed none)) (none_end by p)

pub nothing_spreads : (by : ℕ) (p : Parts) (lanes : LanesState Effect) → p.effects.list ≡ [] → lanes ≡ settled by p.lanes →
    Spreads by p (record p { lanes = lanes; copies = 0 })
nothing_spreads by p lanes none settles = record {
  put = p.lanes;
  delivers = subst (λ (es : List Effect). Delivers by p.lanes es p.lanes) (sym none)
      (none_delivered (record { lanes = λ name. refl; fresh_is = refl; next_turn = refl; due = refl }));
  lanes = settles;
  copies = ap copies_in (sym none);
  only = refl;
}

pub nothing_ready : (by : ℕ) (p : Parts) (lanes : LanesState Effect) → p.effects.list ≡ [] → lanes ≡ settled by p.lanes → IsLoaded p →
    IsReady 0 (record p { lanes = lanes; copies = 0 })
nothing_ready by p lanes none settles loaded = record {
  empty = none;
  many = λ name.
      (let had = loaded.many name in let no = ap (lasts_at name) none in
      let same = ap (λ (x : LanesState Effect). many_at x name) settles in
      omega (arith, had, no, same));
  room = let had = loaded.room in omega (arith, had);
  spare =
      let had = loaded.spare in let same = ap (λ (x : LanesState Effect). x.spare) settles in
      omega (arith, had, same);
}
