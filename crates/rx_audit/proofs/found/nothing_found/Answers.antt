use Rattle.rx_audit.proofs.Common.{false, length, arith, refl, sym, ap, ◌∙◌, length-replicate}
use Rattle.rx_audit.proofs.FoundAfterEvent.{no_table, none_marked, no_tally, nothing_leased, nothing_live}
use Rattle.rx_audit.proofs.found.nothing_found.Goals as goal

pub returns : goal.returns
returns c = record {
  live = rw c.in_ok-unmarked.ensures (no_table c.args.size _ nothing_live);
  live_size = ap length c.in_ok-unmarked.ensures ∙ length-replicate c.args.size false;
  live_count = rw c.in_ok-unmarked.ensures (none_marked c.args.size);
  removed = rw c.in_ok-unmarked-2.ensures (λ n l. no_table c.args.size (λ n. false) (λ n. refl) n);
  removed_size = ap length c.in_ok-unmarked-2.ensures ∙ length-replicate c.args.size false;
  returned = rw c.in_ok-unmarked-3.ensures (λ n l. no_table c.args.size (λ n. false) (λ n. refl) n);
  returned_size = ap length c.in_ok-unmarked-3.ensures ∙ length-replicate c.args.size false;
  leases = rw c.in_ok-zeros.ensures (λ n l. no_tally c.args.size n ∙ sym (nothing_leased n));
  leases_size = ap length c.in_ok-zeros.ensures ∙ length-replicate c.args.size 0;
  leases_few = rw c.in_ok-zeros.ensures (λ n. let e = no_tally c.args.size n in omega arith);
  taken = rw c.in_ok-unmarked-4.ensures (λ n l. no_table c.args.size (λ n. false) (λ n. refl) n);
  taken_size = ap length c.in_ok-unmarked-4.ensures ∙ length-replicate c.args.size false;
}
