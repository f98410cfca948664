use Rattle.rx_audit.proofs.Common.{◌≡◌, length, arith, ap, ◌∙◌, length-append, Event, removed_of, returned_of, taken_of}
use Rattle.rx_audit.proofs.FoundAfterEvent.{back, table_field}
use Rattle.rx_audit.proofs.found.follow.Goals as goal

pub returns-clause-found : goal.returns-clause-found
returns-clause-found c = let h = c.args.past.now in let e = c.args.event in let f = c.args.found.now in let r = c.requires.found in let removed =
    table_field removed_of h e f.removed.items f.removed.ok.0 r.removed_size (rw (c.as_mut_slice-2.ensures.value, c.removed.ensures) at
    c.mark.ensures) r.removed in let returned = table_field returned_of h e f.returned.items f.returned.ok.0 r.returned_size (rw
    (c.as_mut_slice-3.ensures.value, c.returned.ensures) at c.mark-2.ensures) r.returned in let taken = table_field taken_of h e f.taken.items
    f.taken.ok.0 r.taken_size (rw (c.as_mut_slice-5.ensures.value, c.taken.ensures) at c.mark-3.ensures) r.taken in let leases_same : length
    c.find_leases.new.leases ≡ length f.leases.items = c.find_leases.ensures.len ∙ ap length c.as_mut_slice-4.ensures.value in let leases_back = back
    f.leases.len _ f.leases.items f.leases.ok.0 leases_same in let live_same : length c.advance.new.live ≡ length f.live.items = c.advance.auto.live ∙
    ap length c.as_mut_slice.ensures.value in record {
      live = rw (back f.live.len _ f.live.items f.live.ok.0 live_same) c.in_ok-advance.ensures.live;
      live_size = rw (back f.live.len _ f.live.items f.live.ok.0 live_same) (live_same ∙ r.live_size);
      live_count = rw (back f.live.len _ f.live.items f.live.ok.0 live_same) c.in_ok-advance.ensures.live_count;
      removed = removed.0;
      removed_size = removed.1;
      returned = returned.0;
      returned_size = returned.1;
      leases = rw leases_back c.find_leases.ensures.leases;
      leases_size = rw leases_back (leases_same ∙ r.leases_size);
      leases_few = rw leases_back (λ n. let few = c.find_leases.ensures.few n in omega (arith, length-append {A = Event}));
      taken = taken.0;
      taken_size = taken.1;
    }
