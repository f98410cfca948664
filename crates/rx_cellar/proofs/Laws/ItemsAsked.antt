-- Which commands ask for an item that is handed out.
use Rattle.std.proofs.Common.{◌≡◌, ℕ, ◌==◌, ◌&&◌, Bool, true, false, Option, Some, None, refl, ap, ◌∙◌, arith}
use Rattle.std.proofs.Math.Bool.{not}
use Rattle.std.proofs.lemmas.Bool.Decides.{nat_tests}
use Rattle.std.specs.Prelude.{option_map, nat_lt, if◌then◌else◌}
use Rattle.std.specs.Option.{option_and_then}
use Rattle.rx_slots.specs.declared.Key.{Key}
use Rattle.rx_book.specs.declared.answer.At.{At}
use Rattle.rx_engine.specs.declared.parts.User.{User}
use Rattle.rx_cellar.specs.Codes.{key_of, place_at}
use Rattle.rx_cellar.specs.declared.shapes.Command.{Command}
use Rattle.rx_cellar.specs.declared.asked.OpenedAs.{OpenedAs}
use Rattle.rx_cellar.specs.declared.asked.OpenedAs.TheVariants.{Own, Of}
use Rattle.rx_cellar.specs.declared.asked.Asked.{Asked}
use Rattle.rx_cellar.specs.declared.asked.Asked.TheVariants.{Next, Using}
use Rattle.rx_cellar.specs.Asking.{opened_as, user_of, opening_as, opening_of, using_of, connect_of, put_of, plain_of, by_code, asked_of}
use Rattle.rx_cellar.specs.Asking.{hands, asks_item, is_emission, asked_as}
use Rattle.rx_cellar.specs.declared.cellar.Cellar.{Cellar}
use Rattle.rx_cellar.specs.Attempts.{IsTidyFor}

-- the numbers of an item -------------------------------------------------------------------------------------

number_is : (n m : ℕ) → n == m ≡ true → n ≡ m
number_is n m e = grind (arith, nat_tests, e)

asked_is : (c : Command) → c.spare ≡ 0 → c.what ≡ 3 → c.flags ≡ 0 → asked_of c ≡ Some (Next (key_of c.node) c.value true)
asked_is c spare what flags = λ i. asked_of (record c { what = what i; flags = flags i; spare = spare i })

pub item_is : (c : Command) → is_emission c ≡ true → asked_of c ≡ Some (Next (key_of c.node) c.value true)
item_is c holds = by_tests (c.what == 3) (c.flags == 0) (c.spare == 0) refl refl refl holds where
  by_tests : (w f s : Bool) → c.what == 3 ≡ w → c.flags == 0 ≡ f → c.spare == 0 ≡ s → (w && f) && s ≡ true →
      asked_of c ≡ Some (Next (key_of c.node) c.value true)
  by_tests true true true what flags spare all = asked_is c (number_is c.spare 0 spare) (number_is c.what 3 what) (number_is c.flags 0 flags)
  by_tests true true false what flags spare all = absurd (cc)
  by_tests true false s what flags spare all = absurd (cc)
  by_tests false f s what flags spare all = absurd (cc)

-- what asks for none -----------------------------------------------------------------------------------------

asks_if : (b : Bool) (x y : Option Asked) → asks_item x ≡ false → asks_item y ≡ false → asks_item (if b then x else y) ≡ false
asks_if true x y p q = p
asks_if false x y p q = q

asks_then : {A : Type 0} (f : A → Option Asked) (o : Option A) → ((a : A) → asks_item (f a) ≡ false) → asks_item (option_and_then f o) ≡ false
asks_then f None p = refl
asks_then f (Some a) p = p a

asks_map : {A : Type 0} (f : A → Asked) (o : Option A) → ((a : A) → hands (f a) ≡ false) → asks_item (option_map f o) ≡ false
asks_map f None p = refl
asks_map f (Some a) p = p a

opening_hands : (c : Command) (at : At) (user : User) (o : OpenedAs) → hands (opening_as c at user o) ≡ false
opening_hands c at user (Own kind) = refl
opening_hands c at user (Of share) = refl

opening_asks : (c : Command) → asks_item (opening_of c) ≡ false
opening_asks c =
    asks_then (λ (at : At). option_and_then (λ (user : User). option_map (opening_as c at user) (opened_as c)) (user_of c)) (place_at c.place c.node)
    (λ (at : At). asks_then (λ (user : User). option_map (opening_as c at user) (opened_as c)) (user_of c)
    (λ (user : User). asks_map (opening_as c at user) (opened_as c) (opening_hands c at user)))

using_asks : (c : Command) → asks_item (using_of c) ≡ false
using_asks c =
    asks_then (λ (at : At). option_map (λ (user : User). Using at user c.value) (user_of c)) (place_at c.place c.node)
    (λ (at : At). asks_map (λ (user : User). Using at user c.value) (user_of c) (λ (user : User). refl))

connect_asks : (c : Command) → asks_item (connect_of c) ≡ false
connect_asks c = asks_if (nat_lt 1 c.flags) _ _ refl refl

put_asks : (c : Command) → asks_item (put_of c) ≡ false
put_asks c = asks_if (c.flags == 0) _ _ refl (asks_if (c.flags == 4) _ _ refl refl)

plain_asks : (c : Command) → asks_item (plain_of c) ≡ false
plain_asks c =
    asks_if (c.what == 2) _ _ refl (asks_if (c.what == 4) _ _ refl (asks_if (c.what == 5) _ _ refl (asks_if (c.what == 6) _ _ refl
    (asks_if (c.what == 7) _ _ refl (asks_if (c.what == 8) _ _ refl (asks_if (c.what == 10) _ _ refl (asks_if (c.what == 12) _ _ refl
    (asks_if (c.what == 13) _ _ refl (asks_if (c.what == 14) _ _ refl (asks_if (c.what == 15) _ _ refl (asks_if (c.what == 16) _ _ refl
    (asks_if (c.what == 17) _ _ refl refl))))))))))))

next_or : (b f q : Bool) (k : Key) (v : ℕ) (rest : Option Asked) → b && f ≡ false → asks_item rest ≡ false →
    asks_item (if b then (if f then Some (Next k v true) else if q then Some (Next k v false) else None) else rest) ≡ false
next_or true true q k v rest fails p = absurd (cc)
next_or true false true k v rest fails p = refl
next_or true false false k v rest fails p = refl
next_or false f q k v rest fails p = p

code_asks : (c : Command) → c.what == 3 && c.flags == 0 ≡ false → asks_item (by_code c) ≡ false
code_asks c fails =
    asks_if (c.what == 0) _ _ (opening_asks c) (asks_if (c.what == 1) _ _ (using_asks c)
    (next_or (c.what == 3) (c.flags == 0) (c.flags == 8) (key_of c.node) c.value _ fails
    (asks_if (c.what == 9) _ _ (connect_asks c) (asks_if (c.what == 11) _ _ (put_asks c) (asks_if (c.flags == 0) _ _ (plain_asks c) refl)))))

pub other_asks : (c : Command) → is_emission c ≡ false → asks_item (asked_of c) ≡ false
other_asks c fails = by_tests (c.what == 3 && c.flags == 0) (c.spare == 0) refl fails where
  by_tests : (item plain : Bool) → (c.what == 3 && c.flags == 0) ≡ item → item && plain ≡ false → asks_item (if plain then by_code c else None) ≡ false
  by_tests item false is other = refl
  by_tests false true is other = code_asks c is
  by_tests true true is other = absurd (cc)

-- what is asked in the end ------------------------------------------------------------------------------------

-- no command but an item asks something else where it is to wait
pub other_as : (waits : Bool) (o : Option Asked) → asks_item o ≡ false → o ≡ asked_as waits o
other_as waits None none = refl
other_as waits (Some (Next leaf value true)) none = absurd (cc)
other_as waits (Some (Next leaf value false)) none = refl
other_as waits (Some asked) none = refl

-- an item does
pub item_as : (waits may_hand : Bool) (c : Command) → is_emission c ≡ true → not waits ≡ may_hand →
    asked_as waits (asked_of c) ≡ Some (Next (key_of c.node) c.value may_hand)
item_as waits may_hand c holds is = ap (asked_as waits) (item_is c holds) ∙ ap (λ (b : Bool). Some (Next (key_of c.node) c.value b)) is

-- and a checkpoint is made before it as before the same
pub tidy_as : (waits : Bool) (o : Option Asked) (s t : Cellar) → IsTidyFor o s t → IsTidyFor (asked_as waits o) s t
tidy_as waits None s t tidy = tidy
tidy_as waits (Some (Next leaf value may_hand)) s t tidy = tidy
tidy_as waits (Some asked) s t tidy = tidy
