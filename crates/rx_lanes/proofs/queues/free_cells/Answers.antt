use Rattle.std.proofs.Common.{◌≡◌, ◌+◌, ◌++◌, ◌∷◌, [], ◌∙◌, sym, subst, ap, List, ℕ, length, length-append}
use Rattle.rx_lanes.specs.Chains.{Frees}
use Rattle.rx_lanes.proofs.CellsGrown.{frees_more}
use Rattle.rx_lanes.proofs.queues.free_cells.Goals as goal

pub loop-cell-preserved : goal.loop-cell-preserved
loop-cell-preserved c =
    let i = c.loop-cell.invariant in
    let so_far = i.so_far in
    let items : c.push_reserved.new.self.items ≡ c.loop-cell.next.items ++ c.loop-cell.last ∷ [] = c.push_reserved.ensures.items in
    let many = length-append c.loop-cell.next.items (c.loop-cell.last ∷ []) in
    record {
      frees = subst (λ (xs : List ℕ). Frees c.args.next.now.items xs c.args.free c.loop-cell.cell) (sym items)
          (subst (Frees c.args.next.now.items (c.loop-cell.next.items ++ c.loop-cell.last ∷ []) c.args.free) so_far
          (frees_more c.loop-cell.next.items c.loop-cell.last i.frees));
      so_far = ap length items ∙ many ∙ ap (λ n. n + 1) so_far;
      capacity = c.push_reserved.ensures.capacity ∙ i.capacity;
    }
