-- Each item that a call tells has its value, and its caller; so what is handed out is that item.
use Rattle.std.proofs.Common.{◌≡◌, ℕ, Bool, true, false, List, [], ◌∷◌, ◌++◌, Option, Some, None, refl, sym, ap, ◌∙◌, subst, if◌then◌else◌}
use Rattle.std.specs.Prelude.{IfSome}
use Rattle.std.specs.Bool.{⊤}
use Rattle.std.specs.Option.{option_and_then}
use Rattle.std.proofs.lemmas.Bool.{false≢true}
use Rattle.std.proofs.lemmas.Option.{same_Some}
use Rattle.rx_resource.specs.declared.Resource.{Ghosts}
use Rattle.rx_resource.specs.declared.token.Token.{Token}
use Rattle.rx_event.specs.declared.mail.Mail.{Mail}
use Rattle.rx_book.specs.State.{State as BookState}
use Rattle.rx_lanes.specs.State.{State}
use Rattle.rx_roles.specs.declared.roles.Role.{Role}
use Rattle.rx_roles.specs.declared.effect.Effect.{Effect}
use Rattle.rx_roles.specs.declared.effect.What.{What}
use Rattle.rx_roles.specs.declared.effect.What.TheVariants.{Next, Project, Gone, Merged, Release}
use Rattle.rx_roles.specs.Roles.{role_of, without}
use Rattle.rx_roles.specs.Effects.{is_item, carries, effects_for, what_told, role_told, told, after, all_told, after_all, last_of, all_last, released, only_item}
use Rattle.rx_engine.specs.declared.parts.Parts.{Parts}
use Rattle.rx_engine.specs.Settlements.{mail_left, closed_of, Releases, none_released, one_released, Settles}
use Rattle.rx_engine.specs.Handings.{may_hand, handed_of}

abbrev Says : (by value : ℕ) → Effect → Type 0
Says by value e = is_item e.what ≡ true → (e.value ≡ value) × (e.by ≡ by)

abbrev pub AllSay : (by value : ℕ) → List Effect → Type 0
AllSay by value [] = ⊤
AllSay by value (e ∷ es) = Says by value e × AllSay by value es

item_carries : (what : What) → is_item what ≡ true → carries what ≡ true
item_carries Next item = refl
item_carries Project item = refl
item_carries _ item = absurd (false≢true item)

module _ (by value : ℕ) where
  both : (xs ys : List Effect) → AllSay by value xs → AllSay by value ys → AllSay by value (xs ++ ys)
  both [] ys p q = q
  both (x ∷ xs) ys p q = (p.0, both xs ys p.1 q)

  one_says : (what : What) (o : Option Role) → AllSay by value (effects_for by value what o)
  one_says what None = tt
  one_says what (Some r) = (λ item. (ap (λ (b : Bool). if b then value else 0) (item_carries what item), refl), tt)

  none_says : (what : What) → is_item what ≡ false → (o : Option Role) → AllSay by value (effects_for by 0 what o)
  none_says what none None = tt
  none_says what none (Some r) = (λ item. absurd (false≢true (sym none ∙ item)), tt)

  told_say : (hears merges : List Role) (ms : List Mail) → AllSay by value (all_told by value hears merges ms)
  told_say hears merges [] = tt
  told_say hears merges (m ∷ ms) =
      both (told by value hears merges m) (all_told by value (after hears m) merges ms) (one_says (what_told m.note) (role_told hears merges m.note m.to))
      (told_say (after hears m) merges ms)

  last_say : (hears merges : List Role) (ns : List ℕ) → AllSay by value (all_last by hears merges ns)
  last_say hears merges [] = tt
  last_say hears merges (n ∷ ns) =
      both (last_of by hears merges n) (all_last by (without hears n) (without merges n) ns)
      (both (effects_for by 0 Gone (role_of hears n)) (effects_for by 0 Merged (role_of merges n)) (none_says Gone refl (role_of hears n))
      (none_says Merged refl (role_of merges n)))
      (last_say (without hears n) (without merges n) ns)

  released_say : {g : Ghosts Token} {s : BookState} {holds : List Role} {es : List Effect} {t : BookState} {holds' : List Role} {es' : List Effect} → Releases g by s holds es t holds' es' →
      AllSay by value es → AllSay by value es'
  released_say none_released said = said
  released_say (one_released {holds' = holds'} {effects' = effects'} {number = number} before kept handed) said =
      both effects' (released by holds' number) (released_say before said) (none_says Release refl (role_of holds' number))

  pub settled_say : {g : Ghosts Token} {mid t : BookState} {p q : Parts} (d : Settles g by value mid p t q) → AllSay by value d.effects
  settled_say {mid = mid} {p = p} d =
      released_say d.releases
      (both (all_told by value p.hears.list p.merges.list (mail_left mid))
      (all_last by (after_all p.hears.list (mail_left mid)) p.merges.list (closed_of mid))
      (told_say p.hears.list p.merges.list (mail_left mid))
      (last_say (after_all p.hears.list (mail_left mid)) p.merges.list (closed_of mid)))

  -- the only one, where that is an item
  alone_says : (es : List Effect) → AllSay by value es → (e : Effect) → only_item es ≡ Some e → (e.value ≡ value) × (e.by ≡ by)
  alone_says [] said e is = absurd (cc)
  alone_says (x ∷ []) said e is = of (is_item x.what) refl is where
    of : (b : Bool) → is_item x.what ≡ b → (if b then Some x else None) ≡ Some e → (e.value ≡ value) × (e.by ≡ by)
    of true item is = subst (λ (y : Effect). (y.value ≡ value) × (y.by ≡ by)) (same_Some x e is) (said.0 item)
    of false item is = absurd (cc)
  alone_says (x ∷ (y ∷ es)) said e is = absurd (cc)

  handed_is : (lanes : State Effect) (e : Effect) (none_behind : Bool) (o : Option Effect) →
      Some e ≡ (if none_behind then option_and_then (λ (x : Effect). if may_hand lanes x.lane then Some x else None) o else None) → o ≡ Some e
  handed_is lanes e false o is = absurd (cc)
  handed_is lanes e true None is = absurd (cc)
  handed_is lanes e true (Some x) is = of (may_hand lanes x.lane) is where
    of : (b : Bool) → Some e ≡ (if b then Some x else None) → Some x ≡ Some e
    of true is = sym is
    of false is = absurd (cc)

  pub given_says : (es : List Effect) (lanes : State Effect) (none_behind : Bool) (given : Option Effect) → AllSay by value es →
      given ≡ handed_of none_behind es lanes → IfSome given (λ (e : Effect). (e.value ≡ value) × (e.by ≡ by))
  given_says es lanes none_behind None said is = tt
  given_says es lanes none_behind (Some e) said is = alone_says es said e (handed_is lanes e none_behind (only_item es) is)
