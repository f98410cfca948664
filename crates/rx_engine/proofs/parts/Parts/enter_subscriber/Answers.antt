use Rattle.std.proofs.Common.{◌<◌, List, [], ◌∷◌, ◌++◌, Option, option_map, refl, sym, ap, ◌∙◌, arith, subst}
use Rattle.rx_slots.specs.declared.Key.{Key}
use Rattle.rx_pool.specs.Pool.{changed, joined}
use Rattle.rx_pool.specs.declared.search.PooledHub.{PooledHub}
use Rattle.rx_pool.specs.Ties.{IsPlain, MayJoin}
use Rattle.rx_roles.specs.declared.roles.Role.{Role}
use Rattle.rx_roles.specs.Roles.{AreBelow}
use Rattle.rx_pool.specs.Places.{State, place_role}
use Rattle.rx_engine.specs.declared.parts.Parts.{Parts}
use Rattle.rx_pool.proofs.Laws.JoinsAllowed.{second_may}
use Rattle.rx_engine.proofs.SharesGiven.{below_more}
use Rattle.rx_engine.proofs.parts.Parts.enter_subscriber.Goals as goal

pub name_hub-requires : goal.name_hub-requires
name_hub-requires c =
    let same = c.enter-lane.ensures.shares in
    record {
      room = subst (λ (x : State). 0 < x.room) (sym same) (let r = c.requires.room.shares in omega (arith, r));
      below = subst (λ (x : State). AreBelow x.list c.args.opened.key.number) (sym same) c.requires.shares;
      may = subst (λ (x : State). MayJoin x.hubs c.args.place c.args.word) (sym same) c.requires.may;
    }

pub enter_second-requires : goal.enter_second-requires
enter_second-requires c = λ k is.
    (let later = c.requires.later k.number (ap (λ (o : Option Key). option_map (λ (x : Key). x.number) o) is) in
    let same = c.enter-lane.ensures.shares in
    let joins = c.name_hub.ensures.names.joins in
    let only = c.name_hub.ensures.names.only in
    let hubs = joins.hubs ∙ ap (λ (x : State). changed (joined c.args.word) c.args.place x.hubs) same in
    record {
      homes_room = let r = c.requires.room.homes in let l = c.enter-lane.ensures.homes_room in let o = ap (λ (p : Parts). p.homes.room) only in omega (arith, r, l, o);
      lanes_room = let r = c.requires.room.lanes in let l = c.enter-lane.ensures.lanes_room in let o = ap (λ (p : Parts). p.lanes.room) only in omega (arith, r, l, o);
      shares_room = let r = c.requires.room.shares in let l = c.name_hub.ensures.room in let s = ap (λ (x : State). x.room) same in omega (arith, r, l, s);
      homes = subst (λ (rs : List Role). AreBelow rs k.number) (sym (ap (λ (p : Parts). p.homes.list) only ∙ c.enter-lane.ensures.entered.homes_is))
          (below_more c.args.self.now.homes.list _ c.args.opened.key.number k.number c.requires.homes later refl);
      shares = subst (λ (rs : List Role). AreBelow rs k.number) (sym (joins.list ∙ ap (λ (x : State). x.list ++ place_role c.args.opened.key.number c.args.place ∷ []) same))
          (below_more c.args.self.now.shares.list _ c.args.opened.key.number k.number c.requires.shares later refl);
      may = subst (λ (hs : List PooledHub). MayJoin hs c.args.place c.args.word) (sym hubs)
          (second_may c.args.self.now.shares.hubs c.args.place c.args.word (c.requires.may.hub) c.requires.may.there (c.requires.few_many c.requires.may.hub c.requires.may.there)
          (subst IsPlain hubs c.promise.ensures));
    })
