use Rattle.rx_event.specs.Marks.{after_source, after_notifier, after_inner}
use Rattle.rx_ground.proofs.MarksMakeNothingDue.{source_undue, notifier_undue, remarks_undue, remarks_none}
use Rattle.rx_ground.proofs.TiedWhileSettling.{found_marked}
use Rattle.rx_ground.proofs.opening.mark_place.Goals as goal

pub returns-in-Root : goal.returns-in-Root
returns-in-Root g c = rw c.in-Root.is (remarks_none c.args.tree.now c.args.key c.requires.open c.requires.quiet)

pub returns-in-Source : goal.returns-in-Source
returns-in-Source g c =
    let m = c.mark_source.ensures in
    rw c.in-Source.is (remarks_undue after_source source_undue c.requires.open c.requires.quiet m.nodes m.chain m.resources)

pub returns-in-Inner : goal.returns-in-Inner
returns-in-Inner g c = let m = c.mark_inner.ensures in rw c.in-Inner.is (found_marked (after_inner _) c.requires.open m.nodes m.chain m.resources)

pub returns-in-Notifier : goal.returns-in-Notifier
returns-in-Notifier g c =
    let m = c.mark_notifier.ensures in
    rw c.in-Notifier.is (remarks_undue after_notifier notifier_undue c.requires.open c.requires.quiet m.nodes m.chain m.resources)
