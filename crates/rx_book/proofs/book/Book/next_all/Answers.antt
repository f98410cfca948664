use Rattle.rx_book.proofs.Common.{◌≡◌, ℤ, ◌+◌, ◌++◌, ◌∷◌, [], List, take, sym, ap, subst, ◌∙◌, arith, w64, to_z-of_z, take_more, get_or_from_slice_get, State}
use Rattle.rx_book.proofs.Common.{same_Some, next_request, IsCauseOrWant, Emits, none_emitted, next_emitted}
use Rattle.rx_book.proofs.book.Book.next_all.Goals as goal

pub loop-count-init : goal.loop-count-init
loop-count-init g c = record { emits = none_emitted; fits = omega arith }

pub loop-count-preserved : goal.loop-count-preserved
loop-count-preserved g c =
    let xs : List ℤ = c.args.values.now in
    let i = c.loop-count.count in
    let v : ℤ = c.item.result in
    let accepted = rw (to_z-of_z w64 c.item.result (record { sfits = c.item.type_inv })) at c.in-Ok.ensures.accepted in
    let one_more : take (i + 1) xs ≡ take i xs ++ v ∷ [] =
    take_more xs i v c.loop-count-test.true ∙ ap (λ (x : ℤ). take i xs ++ x ∷ []) (get_or_from_slice_get xs i v v c.item.ensures) in
    record {
      emits = subst (λ (values : List ℤ). Emits c.args.leaf c.args.self.now values c.next.new.self) (sym one_more)
          (next_emitted v c.loop-count.invariant.emits c.promise.ensures accepted);
      fits = omega (arith, c.loop-count-test.true);
    }

pub returns-in-Err : goal.returns-in-Err
returns-in-Err g c =
    let v : ℤ = c.item.result in
    let refused = rw (to_z-of_z w64 c.item.result (record { sfits = c.item.type_inv })) at c.in-Err.ensures.refused in
    let same : c.next.new.self ≡ c.loop-count.self = c.in-Err.ensures.kept in
    record {
      emits = subst (λ (s : State). Emits c.args.leaf c.args.self.now (take c.loop-count.count c.args.values.now) s) (sym same) c.loop-count.invariant.emits;
      whole = tt;
      within = c.loop-count-test.true;
      refused = λ value there. subst (λ (s : State). IsCauseOrWant s (next_request s c.args.leaf value) c.in-Err.why) (sym same)
          (subst (λ (x : ℤ). IsCauseOrWant c.loop-count.self (next_request c.loop-count.self c.args.leaf x) c.in-Err.why)
          (same_Some c.item.result value (sym c.item.ensures ∙ there)) refused);
    }
