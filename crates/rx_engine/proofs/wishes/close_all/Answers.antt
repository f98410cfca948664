use Rattle.std.proofs.Common.{ℕ, ◌+◌, ◌++◌, List, length, drop, refl, sym, ap, ◌∙◌, arith, append_assoc, append-nil, length-append, option_map}
use Rattle.std.specs.Option.{option_to_list}
use Rattle.std.proofs.lemmas.List.{length-map}
use Rattle.rx_slots.specs.declared.Key.{Key}
use Rattle.rx_roles.specs.declared.roles.Role.{Role}
use Rattle.rx_roles.specs.Roles.{without_all, role_of}
use Rattle.rx_roles.proofs.Laws.RolesTaken.{fewer}
use Rattle.rx_engine.specs.Settlements.{closed_of}
use Rattle.rx_engine.specs.Closings.{words_taken}
use Rattle.rx_engine.proofs.MailLeft.{closed_more, closed_none, get_within}
use Rattle.rx_engine.proofs.WishesKept.{word_of_length}
use Rattle.rx_engine.proofs.wishes.close_all.Goals as goal

pub loop-key-init : goal.loop-key-init
loop-key-init c = record {
  within = omega arith;
  roles = refl;
  closings = ap (λ (ws : List ℕ). ws ++ words_taken c.args.roles.now.list (closed_of c.args.book.now)) c.clear.ensures.items;
  room = let none = ap (length {A = ℕ}) c.clear.ensures.items in let same = c.clear.ensures.capacity in let had = c.requires.room in
      omega (arith, none, same, had);
}

pub close_one-requires : goal.close_one-requires
close_one-requires c =
    let f = fewer c.loop-key.roles.list c.in-Some.key.number in
    let room = c.loop-key.invariant.room in
    record { room = omega (arith, f, room) }

pub loop-key-preserved : goal.loop-key-preserved
loop-key-preserved c =
    let i = c.loop-key.invariant in
    let k = c.in-Some.key in
    let ks = c.args.book.now.closed in
    let at = c.loop-key.at in
    let e = c.close_one.ensures in
    let rest = drop (at + 1) (closed_of c.args.book.now) in
    let roles = c.loop-key.roles.list in
    let left = closed_more ks at k (sym c.in-Some.ensures) in
    record {
      within = let w = get_within ks at k (sym c.in-Some.ensures) in let l = length-map ks (λ (j : Key). j.number) in omega (arith, w, l);
      roles = ap (λ (rs : List Role). without_all rs rest) e.roles ∙ sym (ap (without_all roles) left) ∙ i.roles;
      closings = (λ j. e.closings j ++ words_taken (e.roles j) rest)
          ∙ append_assoc c.loop-key.closings.items _ _
          ∙ ap (λ (ws : List ℕ). c.loop-key.closings.items ++ ws) (sym (ap (words_taken roles) left))
          ∙ i.closings;
      room =
          let f = fewer roles k.number in
          let a = ap (length {A = Role}) e.roles in
          let b = ap (length {A = ℕ}) e.closings in
          let l = length-append c.loop-key.closings.items (option_to_list (option_map (λ (r : Role). r.word) (role_of roles k.number))) in
          let w = word_of_length (role_of roles k.number) in
          let had = i.room in let same = e.capacity in
          omega (arith, f, a, b, l, w, had, same);
    }

pub returns-clause-roles : goal.returns-clause-roles
returns-clause-roles c =
    let none = closed_none c.args.book.now.closed c.loop-key.at (sym c.in_default.ensures) in
    sym (ap (without_all c.loop-key.roles.list) none) ∙ c.loop-key.invariant.roles

pub returns-clause-closings : goal.returns-clause-closings
returns-clause-closings c =
    let none = closed_none c.args.book.now.closed c.loop-key.at (sym c.in_default.ensures) in
    sym (append-nil c.loop-key.closings.items)
    ∙ sym (ap (λ (ns : List ℕ). c.loop-key.closings.items ++ words_taken c.loop-key.roles.list ns) none)
    ∙ c.loop-key.invariant.closings

pub loop-key-smaller : goal.loop-key-smaller
loop-key-smaller c =
    let ks = c.args.book.now.closed in
    let w = get_within ks c.loop-key.at c.in-Some.key (sym c.in-Some.ensures) in let l = length-map ks (λ (j : Key). j.number) in
    omega (arith, w, l)
