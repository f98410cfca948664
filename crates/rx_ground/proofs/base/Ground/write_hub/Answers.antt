use Rattle.rx_ground.proofs.Common.{◌∷◌, [], length, refl, ap, arith, length-append, Event, Hub, new_hub}
use Rattle.rx_ground.proofs.EventWritten.{step, leased_still, wrote_one}
use Rattle.rx_event.specs.declared.event.Event.TheVariants.{Hub as Publish}
use Rattle.rx_ground.proofs.Memory.{written_memory}
use Rattle.rx_ground.proofs.RegisterAfterWrite.{writes_silent}
use Rattle.rx_ground.proofs.StaysTied.{tied_same}
use Rattle.rx_ground.proofs.HubsAfterEvent.{hub_is_older, tied_published}
use Rattle.rx_ground.proofs.Laws.GoneStaysGone.{closes_quiet}
use Rattle.rx_ground.proofs.Laws.KeysKept.{keeps_same, leases_stay}
use Rattle.rx_ground.proofs.base.Ground.write_hub.Goals as goal
use Rattle.std.proofs.Common.{rules}

pub add-requires-clause-newest : goal.add-requires-clause-newest
add-requires-clause-newest g c = search (rules, hub_is_older)

pub returns-clause-wrote : goal.returns-clause-wrote
returns-clause-wrote g c =
    let h = c.self.inside.register.history in
    let e : Event = Publish c.args.mode in
    let law = c.promise.ensures.lawful in
    let w = c.write.ensures in
    let old = c.self.inside.hubs in
    let added = ap (length {A = Hub}) c.add.ensures.hubs in
    let less = c.add.ensures.room in
    let one = length-append old.hubs (new_hub c.len-number.result c.args.mode ∷ []) in
    let s = step g.R.Resource c.self.view_is law c.requires.between c.requires.ready
    (writes_silent refl w.base w.events w.pending w.room w.limit w.given w.mail_room) in
    let tied = tied_same _ g.R.Resource h e law s.next _ s.between.tied.of_tree refl refl refl (λ n. refl)
    (λ r. record { removes = refl; takes = refl; uses = refl; leases = refl; returns = refl }) in
    rw (← c.self.view_is) (wrote_one g.R.Resource s
    (tied_published g.R.Resource _ c.args.mode law s.next s.between.tied tied (rw c.len-number.ensures at c.add.ensures.hubs))
    (leased_still g.R.Resource s refl refl refl (λ l res is. is.stored)) (keeps_same _ _ _ refl) (leases_stay _ _ _ refl)
    (closes_quiet e s.next refl s.written refl) (written_memory (e ∷ []) s.written refl refl refl (omega arith) c.add.ensures.slots))
