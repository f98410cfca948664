use Rattle.std.proofs.Common.{◌+◌, ◌≤◌, Bool, true, false, if◌then◌else◌, List, [], ◌∷◌, length, drop, refl, sym, ap, ◌∙◌, arith, subst}
use Rattle.std.proofs.lemmas.List.{drop_all}
use Rattle.rx_roles.specs.declared.effect.Effect.{Effect}
use Rattle.rx_roles.specs.Effects.{carries, copies_in, lasts_at}
use Rattle.rx_engine.specs.Deliveries.{many_at, less, Delivers, none_delivered, one_delivered, AreNamed}
use Rattle.rx_engine.proofs.MailLeft.{drop_one, get_within, get_past}
use Rattle.rx_engine.proofs.NamedLanes.{delivered_many, named_same, twice_less}
use Rattle.rx_engine.proofs.Laws.EffectsInLanes.{found_lane, arrives_gets}
use Rattle.rx_engine.proofs.delivering.deliver.Goals as goal

copy_most : (b : Bool) → (if b then 1 else 0) ≤ 1
copy_most true = omega arith
copy_most false = omega arith

pub deliver_one-requires : goal.deliver_one-requires
deliver_one-requires c =
    let i = c.loop-effect.invariant in
    let more = drop_one c.args.effects.now.list c.loop-effect.at c.in-Some.effect (sym c.in-Some.ensures) in
    let named = subst (AreNamed (many_at c.loop-effect.lanes)) more i.named in
    let one = ap (length {A = Effect}) more in let had = i.spare in let enough = c.requires.spare in
    record { named = named.0; spare = omega (arith, one, had, enough) }

pub loop-effect-preserved : goal.loop-effect-preserved
loop-effect-preserved c =
    let i = c.loop-effect.invariant in
    let e = c.in-Some.effect in
    let s = c.loop-effect.lanes in
    let t = c.deliver_one.new.lanes in
    let es = c.args.effects.now.list in
    let rest = drop (c.loop-effect.at + 1) es in
    let carried = c.copies_of-copies.ensures in
    let one = copy_most (carries e.what) in
    let more = drop_one es c.loop-effect.at e (sym c.in-Some.ensures) in
    let named = subst (AreNamed (many_at s)) more i.named in
    let found = found_lane s e.lane named.0 in
    let arrives = c.deliver_one.ensures.arrives found.0 found.1 in
    let many = delivered_many s t c.args.by e found.0 found.1 (arrives_gets s t c.args.by e found.0 arrives) in
    record {
      within = let w = get_within es c.loop-effect.at e (sym c.in-Some.ensures) in omega (arith, w);
      delivers = λ u d. i.delivers u (subst (λ (fs : List Effect). Delivers c.args.by s fs u) (sym more) (one_delivered e found.0 found.1 arrives d));
      named = named_same rest (less (many_at s) (e ∷ [])) (many_at t) (λ name. sym (many name)) named.1;
      many = λ name. (λ j. less (λ n. many n j) rest name) ∙ sym (twice_less (many_at s) (e ∷ []) rest name)
          ∙ sym (ap (λ (fs : List Effect). less (many_at s) fs name) more) ∙ i.many name;
      copies =
          let all = i.copies in let split = ap copies_in more in
          omega (arith, carried, all, split);
      few = let had = i.few in omega (arith, had, carried, one);
      spare =
          let one = ap (length {A = Effect}) more in
          let had = i.spare in let spent = c.deliver_one.ensures.spare in
          omega (arith, one, had, spent);
    }

pub returns-clause-delivers : goal.returns-clause-delivers
returns-clause-delivers c =
    let none = drop_all c.loop-effect.at c.args.effects.now.list (get_past c.args.effects.now.list c.loop-effect.at (sym c.in_default.ensures)) in
    c.loop-effect.invariant.delivers c.loop-effect.lanes
    (subst (λ (es : List Effect). Delivers c.args.by c.loop-effect.lanes es c.loop-effect.lanes) (sym none)
    (none_delivered (record { lanes = λ name. refl; fresh_is = refl; next_turn = refl; due = refl })))

pub returns-clause-copies : goal.returns-clause-copies
returns-clause-copies c =
    let none = drop_all c.loop-effect.at c.args.effects.now.list (get_past c.args.effects.now.list c.loop-effect.at (sym c.in_default.ensures)) in
    let all = c.loop-effect.invariant.copies in let z = ap copies_in none in
    omega (arith, all, z)

pub returns-clause-many : goal.returns-clause-many
returns-clause-many c = λ name.
    let none = drop_all c.loop-effect.at c.args.effects.now.list (get_past c.args.effects.now.list c.loop-effect.at (sym c.in_default.ensures)) in
    let all = c.loop-effect.invariant.many name in let z = ap (lasts_at name) none in
    omega (arith, all, z)

pub returns-clause-spare : goal.returns-clause-spare
returns-clause-spare c =
    let none = drop_all c.loop-effect.at c.args.effects.now.list (get_past c.args.effects.now.list c.loop-effect.at (sym c.in_default.ensures)) in
    let all = c.loop-effect.invariant.spare in let z = ap (length {A = Effect}) none in
    omega (arith, all, z)

pub loop-effect-smaller : goal.loop-effect-smaller
loop-effect-smaller c =
    let w = get_within c.args.effects.now.list c.loop-effect.at c.in-Some.effect (sym c.in-Some.ensures) in omega (arith, w)
