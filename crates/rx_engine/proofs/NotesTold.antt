-- What notes come to, where the call closed nothing: it is loaded, and it is all that was gathered.
use Rattle.std.proofs.Common.{◌≡◌, ℕ, ◌≤◌, Bool, true, false, List, [], ◌∷◌, ◌++◌, length, map, Option}
use Rattle.std.proofs.Common.{Some, None, is_some, option_map, refl, sym, ap, ◌∙◌, arith, subst, append_assoc, append-nil, if◌then◌else◌}
use Rattle.rx_resource.specs.declared.Resource.{Ghosts}
use Rattle.rx_resource.specs.declared.token.Token.{Token}
use Rattle.rx_event.specs.declared.mail.Mail.{Mail}
use Rattle.rx_note.specs.Notes.{is_end}
use Rattle.rx_note.specs.declared.note.Note.{Note}
use Rattle.rx_note.specs.declared.note.Note.TheVariants.{Next as NextNote, Project as ProjectNote, End}
use Rattle.rx_note.specs.declared.note.Terminal.{Terminal}
use Rattle.rx_note.specs.declared.note.Terminal.TheVariants.{Completed as Completes, Error}
use Rattle.rx_slots.specs.declared.Key.{Key}
use Rattle.rx_book.specs.State.{State as BookState, IsPromised as IsBookPromised}
use Rattle.rx_roles.specs.declared.roles.Role.{Role}
use Rattle.rx_roles.specs.declared.effect.Effect.{Effect}
use Rattle.rx_roles.specs.declared.effect.What.{What}
use Rattle.rx_roles.specs.declared.effect.What.TheVariants.{Next, Project}
use Rattle.rx_roles.specs.Roles.{Table, role_of, without_all}
use Rattle.rx_roles.specs.Effects.{is_item, carries, effect_for, effects_for, what_told, end_told, role_told, role_of_item}
use Rattle.rx_roles.specs.Effects.{told, after, all_told, after_all, all_last, items_in, names_of, lasts_at, only_item, AllListened}
use Rattle.rx_roles.proofs.Laws.LastEffects.{told_lasts_at}
use Rattle.rx_roles.proofs.Laws.RolesTaken.{listened_told}
use Rattle.rx_engine.specs.declared.parts.Parts.{Parts}
use Rattle.rx_lanes.specs.State.{State as LanesState}
use Rattle.rx_pool.specs.Moves.{left_all}
use Rattle.rx_pool.specs.Places.{places_left}
use Rattle.rx_engine.specs.Deliveries.{many_at, AreNamed, Leaves, none_left}
use Rattle.rx_engine.specs.Rooms.{IsReady}
use Rattle.rx_engine.specs.Settlements.{mail_left, all_given, closed_of, effects_told, taken_out, Releases, none_released}
use Rattle.rx_engine.specs.Gatherings.{Gathers, IsLoaded}
use Rattle.rx_engine.specs.Closings.{WishState, Closes, words_taken}
use Rattle.rx_engine.specs.HandingSteps.{HasTold}
use Rattle.rx_engine.proofs.NamedLanes.{told_named, told_length}

-- no note
pub tells_none : (by value : ℕ) (p : Parts) → HasTold by value [] p p
tells_none by value p = record { hears = refl; effects = sym (append-nil p.effects.list); room = omega arith; only = refl }

-- one note, and then those behind it
pub tells_behind : {by value : ℕ} {m : Mail} {ms : List Mail} {p q r : Parts} → HasTold by value (m ∷ []) p q → HasTold by value ms q r →
    HasTold by value (m ∷ ms) p r
tells_behind {by} {value} {m} {ms} {p} {q} {r} one rest = record {
  hears = rest.hears ∙ ap (λ (rs : List Role). after_all rs ms) one.hears;
  effects = rest.effects
      ∙ (λ i. one.effects i ++ all_told by value (one.hears i) ((ap (λ (x : Parts). x.merges.list) one.only) i) ms)
      ∙ ap (λ (es : List Effect). (p.effects.list ++ es) ++ all_told by value (after p.hears.list m) p.merges.list ms)
      (append-nil (told by value p.hears.list p.merges.list m))
      ∙ append_assoc p.effects.list (told by value p.hears.list p.merges.list m) (all_told by value (after p.hears.list m) p.merges.list ms);
  room = let a = one.room in let b = rest.room in omega (arith, a, b);
  only = rest.only ∙ ap (λ (x : Parts). record x { hears = r.hears; effects = r.effects }) one.only;
}

-- what was told is loaded
pub told_loaded : {by value : ℕ} {ms : List Mail} {p q : Parts} → IsReady (items_in ms) p → HasTold by value ms p q → IsLoaded q
told_loaded {by} {value} {ms} {p} {q} ready tells =
    let is : q.effects.list ≡ all_told by value p.hears.list p.merges.list ms =
    tells.effects ∙ ap (λ (es : List Effect). es ++ all_told by value p.hears.list p.merges.list ms) ready.empty in
    let hears = ap (length {A = Role}) tells.hears in
    let merges = ap (λ (x : Parts). length x.merges.list) tells.only in
    let holds = ap (λ (x : Parts). length x.holds.list) tells.only in
    record {
      are_named = subst (λ (ls : LanesState Effect). AreNamed (many_at ls) q.effects.list) (sym (ap (λ (x : Parts). x.lanes) tells.only))
          (subst (λ (es : List Effect). AreNamed (many_at p.lanes) es) (sym is)
          (told_named (many_at p.lanes) by value p.hears.list p.merges.list ms (λ name. (let m = ready.many name in omega (arith, m)))));
      many = λ name.
          (let m = ready.many name in
          let l = told_lasts_at name by value p.hears.list p.merges.list ms in
          let e = ap (lasts_at name) is in
          let h = ap (names_of name) tells.hears in
          let a = ap (λ (x : Parts). many_at x.lanes name) tells.only in
          let b = ap (λ (x : Parts). names_of name x.merges.list) tells.only in
          let d = ap (λ (x : Parts). names_of name x.holds.list) tells.only in
          let f = ap (λ (x : Parts). names_of name x.homes.list) tells.only in
          omega (arith, m, l, e, h, a, b, d, f));
      room = let had = ready.room in let t = tells.room in omega (arith, had, t, merges, holds);
      spare =
          let had = ready.spare in
          let l = told_length by value p.hears.list p.merges.list ms in
          let e = ap (length {A = Effect}) is in
          let s = ap (λ (x : Parts). x.lanes.spare) tells.only in
          omega (arith, had, l, e, s, hears, merges, holds);
    }

-- and where the call closed nothing, and nothing waits, all that was gathered
pub told_gathers : {g : Ghosts Token} {by value : ℕ} {mid : BookState} {p q : Parts} → p.effects.list ≡ [] → mid.closed ≡ [] → mid.waiting ≡ [] →
    HasTold by value (mail_left mid) p q → Gathers g by value mid p (all_given mid) q
told_gathers {g} {by} {value} {mid} {p} {q} empty none waits tells =
    let closed : closed_of mid ≡ [] = ap (map (λ (k : Key). k.number)) none in
    let told_all : List Effect = all_told by value p.hears.list p.merges.list (mail_left mid) in
    let is : q.effects.list ≡ told_all = tells.effects ∙ ap (λ (es : List Effect). es ++ told_all) empty in
    let gathered : effects_told by value mid p ≡ q.effects.list =
    ap (λ (ns : List ℕ). told_all ++ all_last by (after_all p.hears.list (mail_left mid)) p.merges.list ns) closed ∙ append-nil told_all ∙ sym is in
    record {
      homes = ap (λ (x : Parts). x.homes.list) tells.only ∙ sym (ap (without_all p.homes.list) closed);
      leaves = subst (λ (ns : List ℕ). Leaves p.lanes (taken_out p.homes.list ns) q.lanes) (sym closed)
          (subst (λ (ls : LanesState Effect). Leaves p.lanes [] ls) (sym (ap (λ (x : Parts). x.lanes) tells.only))
          (none_left (record { lanes = λ name. refl; fresh_is = refl; next_turn = refl; due = refl })));
      shares = ap (λ (x : Parts). x.shares.list) tells.only ∙ sym (ap (without_all p.shares.list) closed);
      hubs = ap (λ (x : Parts). x.shares.hubs) tells.only ∙ sym (ap (λ (ns : List ℕ). left_all (places_left p.shares.list ns) p.shares.hubs) closed);
      hears = tells.hears ∙ sym (ap (without_all (after_all p.hears.list (mail_left mid))) closed);
      merges = ap (λ (x : Parts). x.merges.list) tells.only ∙ sym (ap (without_all p.merges.list) closed);
      releases = subst (λ (es : List Effect). Releases g by (all_given mid) p.holds.list (effects_told by value mid p) (all_given mid) q.holds.list es) gathered
          (subst (λ (rs : List Role). Releases g by (all_given mid) p.holds.list (effects_told by value mid p) (all_given mid) rs (effects_told by value mid p))
          (sym (ap (λ (x : Parts). x.holds.list) tells.only)) none_released);
      none_waits = waits;
      base = refl;
      limit = refl;
    }

-- no wish ends
pub none_closes : (mid : BookState) (v w : WishState) → mid.closed ≡ [] → w.roles ≡ v.roles → w.closings ≡ [] → Closes mid v.roles.list w
none_closes mid v w none same empty =
    let closed : closed_of mid ≡ [] = ap (map (λ (k : Key). k.number)) none in
    record {
      roles_are = ap (λ (t : Table). t.list) same ∙ sym (ap (without_all v.roles.list) closed);
      closings_are = empty ∙ sym (ap (words_taken v.roles.list) closed);
    }

-- what is handed out ---------------------------------------------------------------------------------

-- one note comes to its item, where it has one
one_item : (by value : ℕ) (what : What) → is_item what ≡ true → (o : Option Role) →
    only_item (effects_for by value what o ++ []) ≡ option_map (effect_for by value what) o
one_item by value what item None = refl
one_item by value what item (Some r) = ap (λ (b : Bool). if b then Some (effect_for by value what r) else None) item

no_item : (by value : ℕ) (what : What) → is_item what ≡ false → (o : Option Role) → only_item (effects_for by value what o ++ []) ≡ None
no_item by value what none None = refl
no_item by value what none (Some r) = ap (λ (b : Bool). if b then Some (effect_for by value what r) else None) none

end_is_none : (t : Terminal) → is_item (end_told t) ≡ false
end_is_none Completes = refl
end_is_none (Error code) = refl

pub item_of_note : (by value : ℕ) (hears merges : List Role) (m : Mail) →
    only_item (all_told by value hears merges (m ∷ [])) ≡ option_map (effect_for by value (what_told m.note)) (role_of_item hears merges m)
item_of_note by value hears merges m = by_note m.note where
  by_note : (note : Note) → only_item (effects_for by value (what_told note) (role_told hears merges note m.to) ++ []) ≡
      option_map (effect_for by value (what_told note)) (if is_end note then None else role_told hears merges note m.to)
  by_note (NextNote v) = one_item by value Next refl (role_of hears m.to)
  by_note (ProjectNote v) = one_item by value Project refl (role_of merges m.to)
  by_note (End t) = no_item by value (end_told t) (end_is_none t) (role_of hears m.to)

-- and then it is an item
pub record IsItemOf (hears merges : List Role) (m : Mail) (r : Role) : Type 0 where
  pub goes_on : is_end m.note ≡ false
  pub item : is_item (what_told m.note) ≡ true
  pub carried : carries (what_told m.note) ≡ true
  pub told : role_told hears merges m.note m.to ≡ Some r

pub is_item_of : (hears merges : List Role) (m : Mail) (r : Role) → role_of_item hears merges m ≡ Some r → IsItemOf hears merges m r
is_item_of hears merges m r is = by_note m.note refl is where
  by_note : (note : Note) → m.note ≡ note → (if is_end note then None else role_told hears merges note m.to) ≡ Some r → IsItemOf hears merges m r
  by_note (NextNote v) same is = record {
    goes_on = ap is_end same;
    item = ap (λ (n : Note). is_item (what_told n)) same;
    carried = ap (λ (n : Note). carries (what_told n)) same;
    told = ap (λ (n : Note). role_told hears merges n m.to) same ∙ is;
  }
  by_note (ProjectNote v) same is = record {
    goes_on = ap is_end same;
    item = ap (λ (n : Note). is_item (what_told n)) same;
    carried = ap (λ (n : Note). carries (what_told n)) same;
    told = ap (λ (n : Note). role_told hears merges n m.to) same ∙ is;
  }
  by_note (End t) same is = absurd (cc)

-- several come to none alone
none_of_two : (es : List Effect) → 2 ≤ length es → is_some (only_item es) ≡ false
none_of_two [] two = absurd (omega (arith, two))
none_of_two (e ∷ []) two = absurd (omega (arith, two))
none_of_two (e ∷ (f ∷ es)) two = refl

pub none_of_many : (by value : ℕ) (hears merges : List Role) (m n : Mail) (ms : List Mail) → AllListened hears merges (m ∷ (n ∷ ms)) →
    is_some (only_item (all_told by value hears merges (m ∷ (n ∷ ms)))) ≡ false
none_of_many by value hears merges m n ms listened =
    none_of_two (all_told by value hears merges (m ∷ (n ∷ ms))) (let l = listened_told by value hears merges (m ∷ (n ∷ ms)) listened in omega (arith, l))

-- a book whose notes were all handed out promises the same
pub all_promised : (b : BookState) → IsBookPromised b → IsBookPromised (all_given b)
all_promised b k = record {
  lawful = k.lawful;
  settled = k.settled;
  shared = k.shared;
  one_connection = k.one_connection;
  keys = k.keys;
  res_keys = k.res_keys;
  lease_keys = k.lease_keys;
  held = k.held;
  waiting = k.waiting;
  held_labels = k.held_labels;
  waiting_labels = k.waiting_labels;
  few_items = k.few_items;
  few_accepted = k.few_accepted;
  few_taken = k.few_taken;
  in_one_place = k.in_one_place;
  begun = k.begun;
  placed = k.placed;
  room = k.room;
  limited = k.limited;
  given = omega arith;
  in_order = k.in_order;
}
