use Rattle.rx_hub.proofs.Common.{List, Option, Some, None, reverse, sym, ap, subst, ◌∙◌, length-reverse, reverse-append, Key, Frame, GoesOn}
use Rattle.rx_hub.proofs.RouteFrames.{frame_fits, next_frame, turned}
use Rattle.rx_hub.proofs.route.turn_to.Goals as goal
use Rattle.rx_hub.proofs.route.turn_to.Goals.{in-Some, in_default}
use Rattle.std.proofs.Common.{rules}

pub push_reserved-requires : goal.push_reserved-requires
push_reserved-requires c =
    let fits = frame_fits c.args.hubs.now.hubs (reverse c.args.frames.now.items) c.args.frame c.requires.frames c.requires.frame c.requires.behind in
    search (rules, length-reverse)

pub returns-clause-goes_on : goal.returns-clause-goes_on
returns-clause-goes_on c =
    let old : List Frame = reverse c.args.frames.now.items in
    let on = turned c.promise.ensures old c.args.frame c.next_subscriber.result c.requires.frame c.requires.behind c.requires.frames
    c.next_subscriber.ensures in
    let goes_to : List Frame → Type 0 = λ fs. GoesOn c.args.hubs.now.hubs old fs (Some c.args.frame) (Some c.args.frame.key) in
    elim c.match-next_subscriber.branch [
      | in-Some w ↦ subst goes_to (ap (λ (o : Option Key). next_frame c.args.frame o old) w.in-Some.is ∙
          sym (ap (λ v. reverse v.items) w.frames-is ∙ ap reverse w.push_reserved.ensures.items ∙ reverse-append c.args.frames.now.items _)) on
      | in_default w ↦ subst goes_to (sym (ap (λ v. reverse v.items) w.frames-is))
          (turned c.promise.ensures old c.args.frame None c.requires.frame c.requires.behind c.requires.frames w.in_default.ensures)
    ]
