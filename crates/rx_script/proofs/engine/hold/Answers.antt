use Rattle.rx_script.proofs.Common.{◌≡◌, ◌++◌, ◌∷◌, [], true, false, refl, string_bytes, sym, ◌∙◌, is_some, key_named, Ware, ware_of}
use Rattle.rx_script.proofs.EngineCarriesOut.{answered}
use Rattle.rx_script.proofs.Holdings.{hold_nameless, hold_taken, hold_stockless, hold_refused, hold_accepted, put_back}
use Rattle.rx_script.proofs.engine.hold.Goals as goal

pub returns-in_default : goal.returns-in_default
returns-in_default g c = hold_nameless c.args.engine.now c.args.node.now (string_bytes c.args.res) c.requires (sym c.get.ensures ∙ c.in_default.is)

pub returns-then-is_bound : goal.returns-then-is_bound
returns-then-is_bound g c =
    let taken : is_some (key_named c.args.engine.now.resources (string_bytes c.args.res)) ≡ true = cc in
    hold_taken c.args.engine.now c.args.node.now (string_bytes c.args.res) c.requires c.in-Some.key (sym c.get.ensures ∙ c.in-Some.is) taken

pub returns-in_default-take : goal.returns-in_default-take
returns-in_default-take g c =
    let free : is_some (key_named c.args.engine.now.resources (string_bytes c.args.res)) ≡ false = cc in
    hold_stockless c.args.engine.now c.args.node.now (string_bytes c.args.res) c.requires c.in-Some.key
    (sym c.get.ensures ∙ c.in-Some.is) free c.take.new.self c.in_default-take.ensures.none.0 c.in_default-take.ensures.none.1

pub returns-in_ok-bind-in-Ok : goal.returns-in_ok-bind-in-Ok
returns-in_ok-bind-in-Ok g c =
    let free : is_some (key_named c.args.engine.now.resources (string_bytes c.args.res)) ≡ false = cc in
    let pushed : c.bind.new.self ≡ c.args.engine.now.resources ++ record { name = c.args.res; key = c.in-Ok.held } ∷ [] = c.in_ok-bind-in-Ok.ensures in
    hold_accepted c.args.engine.now c.args.node.now (string_bytes c.args.res)
    c.requires c.in-Some.key (sym c.get.ensures ∙ c.in-Some.is) free _ c.take.new.self.wares c.in-Some-take.ensures.some
    c.promise.ensures c.in-Ok.ensures.accepted c.in-Ok.ensures.ok (record { text = c.args.res; spelt = refl; pushed = pushed }) refl

pub returns-in-Err : goal.returns-in-Err
returns-in-Err g c =
    let free : is_some (key_named c.args.engine.now.resources (string_bytes c.args.res)) ≡ false = cc in
    let ware : g.row.R.Denot → Ware = λ r. ware_of g.R.Resource r in
    let same = put_back ware c.take.new.self.wares c.put_back.new.self.wares
    c.in-Some-take.resource c.in-Err.unheld.back c.in-Some-take.ensures.some c.in-Err.ensures.refused.back c.put_back.ensures in
    answered _ _ _ c.refused.ensures.ok (λ other. hold_refused c.args.engine.now c.args.node.now
    (string_bytes c.args.res) c.requires c.in-Some.key (sym c.get.ensures ∙ c.in-Some.is) free (ware c.in-Some-take.resource) c.take.new.self.wares
    c.in-Some-take.ensures.some c.hold.new.self c.put_back.new.self c.in-Err.unheld.why c.in-Err.ensures.kept same c.in-Err.ensures.refused.why other)
