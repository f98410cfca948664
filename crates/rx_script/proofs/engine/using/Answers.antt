use Rattle.rx_script.proofs.Common.{◌≡◌, ◌++◌, ◌∷◌, [], None, true, false, refl, string_bytes, sym, ◌∙◌, is_some, site_of, key_named, at_of, Ware, ware_of}
use Rattle.std.proofs.lemmas.Bool.{or_left, or_right, or_from}
use Rattle.rx_script.proofs.EngineCarriesOut.{answered}
use Rattle.rx_script.proofs.Holdings.{using_nameless, using_taken, using_stockless, using_refused, using_accepted, put_back}
use Rattle.rx_script.proofs.engine.using.Goals as goal

pub returns-in_default : goal.returns-in_default
returns-in_default g c =
    let none : at_of c.args.engine.now.nodes (site_of c.args.site.now) ≡ None = sym c.place_of.ensures ∙ c.in_default.is in
    using_nameless c.args.engine.now (string_bytes c.args.name) (site_of c.args.site.now) (string_bytes c.args.res) c.requires none

pub returns-then-is_bound : goal.returns-then-is_bound
returns-then-is_bound g c =
    let node_taken : is_some (key_named c.args.engine.now.nodes (string_bytes c.args.name)) ≡ true = cc in
    using_taken c.args.engine.now (string_bytes c.args.name) (site_of c.args.site.now)
    (string_bytes c.args.res) c.requires c.in-Some.place (sym c.place_of.ensures ∙ c.in-Some.is) (or_left _ _ node_taken)

pub returns-then-is_bound-2 : goal.returns-then-is_bound-2
returns-then-is_bound-2 g c =
    let res_taken : is_some (key_named c.args.engine.now.resources (string_bytes c.args.res)) ≡ true = cc in
    using_taken c.args.engine.now (string_bytes c.args.name) (site_of c.args.site.now)
    (string_bytes c.args.res) c.requires c.in-Some.place (sym c.place_of.ensures ∙ c.in-Some.is) (or_right _ _ res_taken)

pub returns-in_default-take : goal.returns-in_default-take
returns-in_default-take g c =
    let node_free : is_some (key_named c.args.engine.now.nodes (string_bytes c.args.name)) ≡ false = cc in
    let res_free : is_some (key_named c.args.engine.now.resources (string_bytes c.args.res)) ≡ false = cc in
    using_stockless c.args.engine.now (string_bytes c.args.name) (site_of c.args.site.now)
    (string_bytes c.args.res) c.requires c.in-Some.place (sym c.place_of.ensures ∙ c.in-Some.is) (or_from _ _ node_free res_free) c.take.new.self
    c.in_default-take.ensures.none.0 c.in_default-take.ensures.none.1

pub returns-in_ok-bind-in-Ok-2 : goal.returns-in_ok-bind-in-Ok-2
returns-in_ok-bind-in-Ok-2 g c =
    let node_free : is_some (key_named c.args.engine.now.nodes (string_bytes c.args.name)) ≡ false = cc in
    let res_free : is_some (key_named c.args.engine.now.resources (string_bytes c.args.res)) ≡ false = cc in
    let pushed : c.bind.new.self ≡ c.args.engine.now.nodes ++ record { name = c.args.name; key = c.in-Ok.opened.key } ∷ [] = c.in_ok-bind-in-Ok.ensures in
    let res_pushed : c.bind-in-Ok.new.self ≡ c.args.engine.now.resources ++ record { name = c.args.res; key = c.in-Ok.opened.res } ∷ [] =
    c.in_ok-bind-in-Ok-2.ensures in
    using_accepted c.args.engine.now (string_bytes c.args.name) (site_of c.args.site.now)
    (string_bytes c.args.res) c.requires c.in-Some.place (sym c.place_of.ensures ∙ c.in-Some.is) (or_from _ _ node_free res_free) _ c.take.new.self.wares
    c.in-Some-take.ensures.some c.promise.ensures c.in-Ok.ensures.accepted c.in-Ok.ensures.ok (record { text = c.args.name; spelt = refl; pushed = pushed })
    (record { text = c.args.res; spelt = refl; pushed = res_pushed }) refl

pub returns-in-Err : goal.returns-in-Err
returns-in-Err g c =
    let node_free : is_some (key_named c.args.engine.now.nodes (string_bytes c.args.name)) ≡ false = cc in
    let res_free : is_some (key_named c.args.engine.now.resources (string_bytes c.args.res)) ≡ false = cc in
    let ware : g.row.R.Denot → Ware = λ r. ware_of g.R.Resource r in
    let same = put_back ware c.take.new.self.wares c.put_back.new.self.wares
    c.in-Some-take.resource c.in-Err.unheld.back c.in-Some-take.ensures.some c.in-Err.ensures.refused.back c.put_back.ensures in
    answered _ _ _ c.refused.ensures.ok (λ other. using_refused c.args.engine.now (string_bytes c.args.name) (site_of c.args.site.now) (string_bytes c.args.res)
    c.requires c.in-Some.place (sym c.place_of.ensures ∙ c.in-Some.is) (or_from _ _ node_free res_free) (ware c.in-Some-take.resource) c.take.new.self.wares
    c.in-Some-take.ensures.some c.open_using.new.self c.put_back.new.self c.in-Err.unheld.why c.in-Err.ensures.kept same c.in-Err.ensures.refused.why other)
