-- The law of values.
use Rattle.std.proofs.Common.{◌≡◌, ℕ, ◌+◌, ◌==◌, ◌&&◌, Bool, true, false, List, [], ◌∷◌, ◌++◌, Option, Some, None, refl, sym, ap, ◌∙◌, arith, if◌then◌else◌}
use Rattle.rx_resource.specs.declared.Resource.{Ghosts}
use Rattle.rx_resource.specs.declared.token.Token.{Token}
use Rattle.rx_event.specs.declared.mail.Mail.{Mail}
use Rattle.rx_book.specs.State.{State as BookState}
use Rattle.rx_roles.specs.declared.roles.Role.{Role}
use Rattle.rx_roles.specs.declared.effect.Effect.{Effect}
use Rattle.rx_roles.specs.declared.effect.What.{What}
use Rattle.rx_roles.specs.declared.effect.What.TheVariants.{Gone, Merged, Release}
use Rattle.rx_roles.specs.Roles.{role_of, without}
use Rattle.rx_roles.specs.Effects.{carries, copies_in, effects_for, what_told, role_told, told, after, all_told, after_all, last_of, all_last, released}
use Rattle.rx_engine.specs.declared.parts.Parts.{Parts}
use Rattle.rx_engine.specs.Settlements.{mail_left, all_given, closed_of, effects_told, Releases, none_released, one_released, Settles}
use Rattle.rx_engine.specs.States.{State}
use Rattle.rx_courses.specs.Courses.{IsCommand, is_refused, has_done, has_held, has_used, has_opened, has_put, has_subscribed, has_connected, has_made_hubs, has_checkpointed, begins, commands, takes, gives_up, effects_of, all_effects}
use Rattle.rx_courses.specs.Tellings.{counted}
use Rattle.rx_courses.specs.NotesTold.{value_of}
use Rattle.rx_courses.specs.Values.{is_carrying, copies_of, ValuesOnce}
use Rattle.rx_courses.proofs.LawsOfCourses.{both_given, no_more}
use Rattle.rx_courses.proofs.TellingsOfCourses.{counted-append}

copies-append : (xs ys : List Effect) → copies_in (xs ++ ys) ≡ copies_in xs + copies_in ys
copies-append [] ys = omega arith
copies-append (x ∷ xs) ys = let rest = copies-append xs ys in omega (arith, rest)

module _ (x : ℕ) where
  -- of these effects those that carry x are all that carry, if x is the value, else none
  abbrev pub Carry : ℕ → List Effect → Type 0
  Carry value es = counted (is_carrying x) es ≡ (if value == x then copies_in es else 0)

  carry-append : (value : ℕ) (es fs : List Effect) → Carry value es → Carry value fs → Carry value (es ++ fs)
  carry-append value es fs first second =
      let all = counted-append (is_carrying x) es fs in
      let both = both_given (value == x) (copies_in es) (copies_in fs) in
      let sum = ap (λ (n : ℕ). if value == x then n else 0) (copies-append es fs) in
      omega (arith, all, both, sum, first, second)

  -- who carries nothing
  carry_none : (value : ℕ) (es : List Effect) → counted (is_carrying x) es ≡ 0 → copies_in es ≡ 0 → Carry value es
  carry_none value es none no_copy = none ∙ sym (no_more (value == x)) ∙ sym (ap (λ (n : ℕ). if value == x then n else 0) no_copy)

  carry_one : (by value : ℕ) (what : What) (o : Option Role) → Carry value (effects_for by value what o)
  carry_one by value what None = sym (no_more (value == x))
  carry_one by value what (Some r) = by_tests (carries what) where
    shape : (b : Bool) → (if b then 1 else 0) + 0 ≡ (if b then 1 + 0 else 0)
    shape true = refl
    shape false = refl

    by_tests : (c : Bool) → (if (c && (if c then value else 0) == x) then 1 else 0) + 0 ≡ (if value == x then (if c then 1 else 0) + 0 else 0)
    by_tests true = shape (value == x)
    by_tests false = sym (no_more (value == x))

  carry_other : (by value : ℕ) (what : What) (o : Option Role) → carries what ≡ false → Carry value (effects_for by 0 what o)
  carry_other by value what None is = sym (no_more (value == x))
  carry_other by value what (Some r) is =
      carry_none value (effects_for by 0 what (Some r)) (λ i. (if (is i && (if carries what then 0 else 0) == x) then 1 else 0) + 0)
      (λ i. (if is i then 1 else 0) + 0)

  carry_told : (by value : ℕ) (hears merges : List Role) (ms : List Mail) → Carry value (all_told by value hears merges ms)
  carry_told by value hears merges [] = sym (no_more (value == x))
  carry_told by value hears merges (m ∷ ms) =
      carry-append value (told by value hears merges m) (all_told by value (after hears m) merges ms)
      (carry_one by value (what_told m.note) (role_told hears merges m.note m.to)) (carry_told by value (after hears m) merges ms)

  carry_last : (by value : ℕ) (hears merges : List Role) (ns : List ℕ) → Carry value (all_last by hears merges ns)
  carry_last by value hears merges [] = sym (no_more (value == x))
  carry_last by value hears merges (n ∷ ns) =
      carry-append value (last_of by hears merges n) (all_last by (without hears n) (without merges n) ns)
      (carry-append value (effects_for by 0 Gone (role_of hears n)) (effects_for by 0 Merged (role_of merges n))
      (carry_other by value Gone (role_of hears n) refl) (carry_other by value Merged (role_of merges n) refl))
      (carry_last by value (without hears n) (without merges n) ns)

  carry_released : (g : Ghosts Token) (by value : ℕ) (s : BookState) (holds : List Role) (es : List Effect) (t : BookState) (holds' : List Role)
      (es' : List Effect) →
      Carry value es → Releases g by s holds es t holds' es' → Carry value es'
  carry_released g by value s holds es t holds' es' all none_released = all
  carry_released g by value s holds es t holds' es' all (one_released {t = m} {holds' = held} {effects' = fs} {number = number} before kept says) =
      carry-append value fs (released by held number) (carry_released g by value s holds es m held fs all before)
      (carry_other by value Release (role_of held number) refl)

  settles_carry : (g : Ghosts Token) (by value : ℕ) (mid : BookState) (p : Parts) (t : BookState) (q : Parts) (d : Settles g by value mid p t q) →
      counted (is_carrying x) d.effects ≡ (if value == x then q.copies else 0)
  settles_carry g by value mid p t q d =
      carry_released g by value (all_given mid) p.holds.list (effects_told by value mid p) t q.holds.list d.effects
      (carry-append value (all_told by value p.hears.list p.merges.list (mail_left mid))
      (all_last by (after_all p.hears.list (mail_left mid)) p.merges.list (closed_of mid))
      (carry_told by value p.hears.list p.merges.list (mail_left mid))
      (carry_last by value (after_all p.hears.list (mail_left mid)) p.merges.list (closed_of mid))) d.releases
      ∙ sym (ap (λ (n : ℕ). if value == x then n else 0) d.copies)

  command_carries : (g : Ghosts Token) (s t : State) (c : IsCommand g s t) →
      counted (is_carrying x) (effects_of c) ≡ (if value_of c == x then copies_of c else 0)
  command_carries g s t (is_refused seen) = sym (no_more (0 == x))
  command_carries g s t (has_done by value plain d) = settles_carry g by value d.mid s.parts t.book t.parts d.settles
  command_carries g s t (has_held node tag by d) = settles_carry g by 0 d.mid d.entered t.book t.parts d.settles
  command_carries g s t (has_used at kind user tag by alone d) = settles_carry g by 0 d.mid d.with_tag t.book t.parts d.settles
  command_carries g s t (has_opened at kind user by alone d) = settles_carry g by 0 d.mid d.entered t.book t.parts d.settles
  command_carries g s t (has_put to user value by d) = shape (value == x) ∙ sym (ap (λ (n : ℕ). if value == x then n else 0) d.puts.copies) where
    shape : (b : Bool) → (if b then 1 else 0) + 0 ≡ (if b then 1 else 0)
    shape true = refl
    shape false = refl
  command_carries g s t (has_subscribed at share user by place d) = settles_carry g by 0 d.mid d.entered t.book t.parts d.settles
  command_carries g s t (has_connected share user by place d) = settles_carry g by 0 d.mid d.entered t.book t.parts d.settles
  command_carries g s t (has_made_hubs by makes) = sym (no_more (0 == x))
  command_carries g s t (has_checkpointed c) = sym (no_more (0 == x))

pub values_once : (g : Ghosts Token) → ValuesOnce g
values_once g x s t begins = refl
values_once g x s t (commands {t = m} before kept c) =
    let rest = values_once g x s m before in
    let one = command_carries x g m t c in
    let both = counted-append (is_carrying x) (all_effects before) (effects_of c) in
    omega (arith, rest, one, both)
values_once g x s t (takes {t = m} name inside by before kept taken) = values_once g x s m before
values_once g x s t (gives_up {t = m} name by _ before kept given) = values_once g x s m before
