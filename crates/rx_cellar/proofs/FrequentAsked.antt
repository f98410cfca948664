-- What the frequent commands ask, each by what is read of it.
use Rattle.std.proofs.Common.{◌≡◌, ◌≢◌, ℕ, ◌==◌, ◌&&◌, Bool, true, false, Option, Some, None, refl, ap, ◌∙◌, arith}
use Rattle.std.proofs.lemmas.Bool.Decides.{nat_tests}
use Rattle.std.specs.Prelude.{option_map, nat_lt, if◌then◌else◌}
use Rattle.std.specs.Option.{option_and_then}
use Rattle.rx_book.specs.declared.answer.At.{At}
use Rattle.rx_pool.specs.declared.search.Share.{Share}
use Rattle.rx_engine.specs.declared.parts.User.{User}
use Rattle.rx_cellar.specs.Codes.{key_of, place_at}
use Rattle.rx_cellar.specs.declared.shapes.Command.{Command}
use Rattle.rx_cellar.specs.declared.asked.Opening.{Opening}
use Rattle.rx_cellar.specs.declared.asked.OwnKind.{OwnKind}
use Rattle.rx_cellar.specs.declared.asked.OpenedAs.{OpenedAs}
use Rattle.rx_cellar.specs.declared.asked.OpenedAs.TheVariants.{Own, Of}
use Rattle.rx_cellar.specs.declared.asked.Asked.{Asked}
use Rattle.rx_cellar.specs.declared.asked.Asked.TheVariants.{Open, Using, Complete, Dispose}
use Rattle.rx_cellar.specs.Asking.{opened_as, user_of, opening_as, opening_of, using_of, connect_of, put_of, plain_of, next_of, by_code, asked_of, asks_item}
use Rattle.rx_cellar.specs.Frequent.{opening_in, has_no_flags, rests}

-- openings ---------------------------------------------------------------------------------------------------

-- where it is, and for whom
abbrev placed_by : (c : Command) → Option User → Option OpenedAs → Option At → Option Asked
placed_by c u o p = option_and_then (λ (at : At). option_and_then (λ (user : User). option_map (opening_as c at user) o) u) p

abbrev placed : Option User → Option At → Option Opening
placed u p = option_and_then (λ (at : At). option_map (λ (user : User). record { at = at; user = user }) u) p

-- by whether its spare field is 0, with how it is opened
abbrev opened_by : (c : Command) → Option OpenedAs → Option Asked
opened_by c o = if c.spare == 0 then placed_by c (user_of c) o (place_at c.place c.node) else None

opening_is : (c : Command) → c.what ≡ 0 → asked_of c ≡ opened_by c (opened_as c)
opening_is c what = λ i. asked_of (record c { what = what i })

opens_own : (c : Command) (b : Bool) (p : Option At) (u : Option User) (k : OwnKind) →
    (if b then placed_by c u (Some (Own k)) p else None) ≡ option_map (λ (o : Opening). Open o.at k o.user) (if b then placed u p else None)
opens_own c true (Some at) (Some user) k = refl
opens_own c true (Some at) None k = refl
opens_own c true None u k = refl
opens_own c false p u k = refl

pub own_asked : (c : Command) (k : OwnKind) → c.what ≡ 0 → opened_as c ≡ Some (Own k) →
    asked_of c ≡ option_map (λ (o : Opening). Open o.at k o.user) (opening_in c)
own_asked c k what own =
    opening_is c what ∙ ap (opened_by c) own ∙ opens_own c (c.spare == 0) (place_at c.place c.node) (user_of c) k

-- of no kind
opens_none : (c : Command) (b : Bool) (p : Option At) (u : Option User) →
    (if b then placed_by c u None p else None) ≡ None
opens_none c true (Some at) (Some user) = refl
opens_none c true (Some at) None = refl
opens_none c true None u = refl
opens_none c false p u = refl

pub none_opened : (c : Command) → c.what ≡ 0 → opened_as c ≡ None → asked_of c ≡ None
none_opened c what none =
    opening_is c what ∙ ap (opened_by c) none ∙ opens_none c (c.spare == 0) (place_at c.place c.node) (user_of c)

-- a subscriber of a share
opens_share : (c : Command) (b : Bool) (p : Option At) (u : Option User) (s : Share) →
    rests (if b then placed_by c u (Some (Of s)) p else None) ≡ true
opens_share c true (Some at) (Some user) s = refl
opens_share c true (Some at) None s = refl
opens_share c true None u s = refl
opens_share c false p u s = refl

share_asks : (c : Command) (b : Bool) (p : Option At) (u : Option User) (s : Share) →
    asks_item (if b then placed_by c u (Some (Of s)) p else None) ≡ false
share_asks c true (Some at) (Some user) s = refl
share_asks c true (Some at) None s = refl
share_asks c true None u s = refl
share_asks c false p u s = refl

pub share_rests : (c : Command) (s : Share) → c.what ≡ 0 → opened_as c ≡ Some (Of s) → rests (asked_of c) ≡ true
share_rests c s what share =
    ap rests (opening_is c what ∙ ap (opened_by c) share) ∙ opens_share c (c.spare == 0) (place_at c.place c.node) (user_of c) s

pub share_is_no_item : (c : Command) (s : Share) → c.what ≡ 0 → opened_as c ≡ Some (Of s) → asks_item (asked_of c) ≡ false
share_is_no_item c s what share =
    ap asks_item (opening_is c what ∙ ap (opened_by c) share) ∙ share_asks c (c.spare == 0) (place_at c.place c.node) (user_of c) s

-- with a resource
uses : (c : Command) (b : Bool) (p : Option At) (u : Option User) →
    (if b then option_and_then (λ (at : At). option_map (λ (user : User). Using at user c.value) u) p else None)
    ≡ option_map (λ (o : Opening). Using o.at o.user c.value) (if b then placed u p else None)
uses c true (Some at) (Some user) = refl
uses c true (Some at) None = refl
uses c true None u = refl
uses c false p u = refl

using_first : (c : Command) → c.what ≡ 1 → asked_of c ≡ (if c.spare == 0 then using_of c else None)
using_first c what = λ i. asked_of (record c { what = what i })

pub using_asked : (c : Command) → c.what ≡ 1 → asked_of c ≡ option_map (λ (o : Opening). Using o.at o.user c.value) (opening_in c)
using_asked c what = using_first c what ∙ uses c (c.spare == 0) (place_at c.place c.node) (user_of c)

-- what has no flags ------------------------------------------------------------------------------------------

both : (f s : Bool) (o : Option Asked) → (if s then (if f then o else None) else None) ≡ (if f && s then o else None)
both true true o = refl
both true false o = refl
both false true o = refl
both false false o = refl

completion_first : (c : Command) → c.what ≡ 4 → asked_of c ≡ (if c.spare == 0 then (if c.flags == 0 then Some (Complete (key_of c.node)) else None) else None)
completion_first c what = λ i. asked_of (record c { what = what i })

pub completion_asked : (c : Command) → c.what ≡ 4 → asked_of c ≡ (if has_no_flags c then Some (Complete (key_of c.node)) else None)
completion_asked c what = completion_first c what ∙ both (c.flags == 0) (c.spare == 0) (Some (Complete (key_of c.node)))

disposal_first : (c : Command) → c.what ≡ 8 → asked_of c ≡ (if c.spare == 0 then (if c.flags == 0 then Some (Dispose (key_of c.node)) else None) else None)
disposal_first c what = λ i. asked_of (record c { what = what i })

pub disposal_asked : (c : Command) → c.what ≡ 8 → asked_of c ≡ (if has_no_flags c then Some (Dispose (key_of c.node)) else None)
disposal_asked c what = disposal_first c what ∙ both (c.flags == 0) (c.spare == 0) (Some (Dispose (key_of c.node)))

-- all others -------------------------------------------------------------------------------------------------

number_is_not : (n m : ℕ) → n ≢ m → n == m ≡ false
number_is_not n m differ = by_test (n == m) refl where
  by_test : (b : Bool) → n == m ≡ b → n == m ≡ false
  by_test false is = is
  by_test true is = absurd (differ (grind (arith, nat_tests, is)))

if_no : (b : Bool) (x y : Option Asked) → b ≡ false → rests y ≡ true → rests (if b then x else y) ≡ true
if_no true x y is p = absurd (cc)
if_no false x y is p = p

rests_if : (b : Bool) (x y : Option Asked) → rests x ≡ true → rests y ≡ true → rests (if b then x else y) ≡ true
rests_if true x y p q = p
rests_if false x y p q = q

connect_rests : (c : Command) → rests (connect_of c) ≡ true
connect_rests c = rests_if (nat_lt 1 c.flags) _ _ refl refl

next_rests : (c : Command) → rests (next_of c) ≡ true
next_rests c = rests_if (c.flags == 0) _ _ refl (rests_if (c.flags == 8) _ _ refl refl)

put_rests : (c : Command) → rests (put_of c) ≡ true
put_rests c = rests_if (c.flags == 0) _ _ refl (rests_if (c.flags == 4) _ _ refl refl)

plain_rests : (c : Command) → rests (plain_of c) ≡ true
plain_rests c =
    rests_if (c.what == 2) _ _ refl (rests_if (c.what == 4) _ _ refl (rests_if (c.what == 5) _ _ refl (rests_if (c.what == 6) _ _ refl
    (rests_if (c.what == 7) _ _ refl (rests_if (c.what == 8) _ _ refl (rests_if (c.what == 10) _ _ refl (rests_if (c.what == 12) _ _ refl
    (rests_if (c.what == 13) _ _ refl (rests_if (c.what == 14) _ _ refl (rests_if (c.what == 15) _ _ refl (rests_if (c.what == 16) _ _ refl
    (rests_if (c.what == 17) _ _ refl refl))))))))))))

code_rests : (c : Command) → c.what ≢ 0 → c.what ≢ 1 → rests (by_code c) ≡ true
code_rests c not_open not_using =
    if_no (c.what == 0) (opening_of c) _ (number_is_not c.what 0 not_open) (if_no (c.what == 1) (using_of c) _ (number_is_not c.what 1 not_using)
    (rests_if (c.what == 3) _ _ (next_rests c) (rests_if (c.what == 9) _ _ (connect_rests c)
    (rests_if (c.what == 11) _ _ (put_rests c) (rests_if (c.flags == 0) _ _ (plain_rests c) refl)))))

pub other_rests : (c : Command) → c.what ≢ 0 → c.what ≢ 1 → rests (asked_of c) ≡ true
other_rests c not_open not_using = rests_if (c.spare == 0) _ _ (code_rests c not_open not_using) refl
