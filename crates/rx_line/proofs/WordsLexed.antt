-- What the JSON reader makes of blanks, marks and words.
use Rattle.std.proofs.Common.{◌≡◌, ℕ, suc, ◌+◌, ◌<◌, ◌≤◌, List, [], ◌∷◌, Bool, true, false, Option, Some, None, option_map, option_and_then, refl, sym, ap, ◌∙◌, subst, arith, inl, inr, ◌⊎◌}
use Rattle.std.specs.Prelude.{◌||◌, ◌==◌, take, drop, nat_le, nat_lt, cond}
use Rattle.std.specs.List.{prefix_len}
use Rattle.std.proofs.lemmas.Bool.{or_cases, eqb-true, false_from_ne_true, false≢true, lt-leb, le-leb, ltb-true, ltb-false}
use Rattle.std.specs.Str.{IsAscii, IsUtf8}
use Rattle.std.proofs.lemmas.Str.{IsUtf8-from_ascii}
use Rattle.std.proofs.lemmas.Str.Ascii.{IsAscii-nil, IsAscii-cons}
use Rattle.json.specs.Word.{is_operator, is_space}
use Rattle.json.specs.Text.{content, plain, after_backslash, prepend}
use Rattle.json.specs.Lex.{token, class, Class, quote, backslash, operator, space, other, operator_lexeme, between, in_string, lex, lex_byte, string_token}
use Rattle.json.specs.Token.{string}
use Rattle.rx_scenario.specs.Reading.{is_name_byte}
use Rattle.rx_line.specs.FreeCommands.{past_blanks, behind, past_mark, word_before, quoted_word_in}

-- a blank is one of four bytes
blank_is : (P : ℕ → Type 0) → P 32 → P 9 → P 10 → P 13 → (b : ℕ) → is_space b ≡ true → P b
blank_is P a t l c b is = by_last (or_cases ((b == 32) || (b == 9) || (b == 10)) (b == 13) is) where
  by_first : ((b == 32) ≡ true) ⊎ ((b == 9) ≡ true) → P b
  by_first (inl e) = subst P (sym (eqb-true b 32 e)) a
  by_first (inr e) = subst P (sym (eqb-true b 9 e)) t

  by_second : (((b == 32) || (b == 9)) ≡ true) ⊎ ((b == 10) ≡ true) → P b
  by_second (inl e) = by_first (or_cases (b == 32) (b == 9) e)
  by_second (inr e) = subst P (sym (eqb-true b 10 e)) l

  by_last : (((b == 32) || (b == 9) || (b == 10)) ≡ true) ⊎ ((b == 13) ≡ true) → P b
  by_last (inl e) = by_second (or_cases ((b == 32) || (b == 9)) (b == 10) e)
  by_last (inr e) = subst P (sym (eqb-true b 13 e)) c

blank_class : (b : ℕ) → is_space b ≡ true → class b ≡ space
blank_class = blank_is (λ b. class b ≡ space) refl refl refl refl

-- a name's byte is no other that has a meaning
apart : (b k : ℕ) → is_name_byte b ≡ true → is_name_byte k ≡ false → (b == k) ≡ false
apart b k is other_byte = false_from_ne_true (b == k) (λ e. false≢true (sym other_byte ∙ subst (λ x. is_name_byte x ≡ true) (eqb-true b k e) is))

no_operator : (b : ℕ) → is_name_byte b ≡ true → is_operator b ≡ false
unfolding is_name_byte
no_operator b is = rw (apart b 123 is refl, apart b 125 is refl, apart b 91 is refl, apart b 93 is refl, apart b 58 is refl, apart b 44 is refl) refl

no_space : (b : ℕ) → is_name_byte b ≡ true → is_space b ≡ false
unfolding is_name_byte
no_space b is = rw (apart b 32 is refl, apart b 9 is refl, apart b 10 is refl, apart b 13 is refl) refl

no_quote : (b : ℕ) → is_name_byte b ≡ true → (b == 34) ≡ false
unfolding is_name_byte
no_quote b is = apart b 34 is refl

no_backslash : (b : ℕ) → is_name_byte b ≡ true → (b == 92) ≡ false
unfolding is_name_byte
no_backslash b is = apart b 92 is refl

name_class : (b : ℕ) → is_name_byte b ≡ true → class b ≡ other
name_class b is = λ i. cond (no_quote b is i) quote (cond (no_backslash b is i) backslash (cond (no_operator b is i) operator (cond (no_space b is i) space other)))

low_name : (b : ℕ) → b < 32 → is_name_byte b ≡ false
unfolding is_name_byte
low_name b low =
    let p : nat_le 48 b ≡ false = lt-leb 48 b (omega arith) in
    let q : nat_le 65 b ≡ false = lt-leb 65 b (omega arith) in
    let r : nat_le 97 b ≡ false = lt-leb 97 b (omega arith) in
    let s : (b == 45) ≡ false = false_from_ne_true (b == 45) (λ e. let f = eqb-true b 45 e in absurd (omega arith)) in
    let t : (b == 95) ≡ false = false_from_ne_true (b == 95) (λ e. let f = eqb-true b 95 e in absurd (omega arith)) in
    rw (p, q, r, s, t) refl

no_control : (b : ℕ) → is_name_byte b ≡ true → nat_lt b 32 ≡ false
no_control b is = false_from_ne_true (nat_lt b 32) (λ e. false≢true (sym (low_name b (ltb-true b 32 e)) ∙ is))

-- blanks ---------------------------------------------------------------------------------------------

blank_byte : (blank : Bool) (b n : ℕ) (bs : List ℕ) → is_space b ≡ blank → lex between (drop n bs) ≡ lex between bs
    → lex between (drop (cond blank (1 + n) 0) (b ∷ bs)) ≡ lex between (b ∷ bs)
unfolding lex
blank_byte true b n bs e more =
    let next : 1 + n ≡ suc n = omega arith in
    ap (λ k. lex between (drop k (b ∷ bs))) next ∙ more ∙ ap (λ c. lex_byte between c b bs (λ mode. lex mode bs)) (sym (blank_class b e))
blank_byte false b n bs e more = refl

pub lex_blanks : (t : List ℕ) → lex between (past_blanks t) ≡ lex between t
unfolding past_blanks
lex_blanks [] = refl
lex_blanks (b ∷ bs) = blank_byte (is_space b) b (prefix_len is_space bs) bs refl (lex_blanks bs)

-- marks ----------------------------------------------------------------------------------------------

pub same_rest : {A : Type 0} (a b : A) → Some a ≡ Some b → a ≡ b
same_rest a b is = cc

is_mark : (same : Bool) (b m : ℕ) (bs r : List ℕ) → (b == m) ≡ same → cond same (Some bs) None ≡ Some r → (b ≡ m) × (bs ≡ r)
is_mark true b m bs r e is = (eqb-true b m e, same_rest bs r is)
is_mark false b m bs r e is = absurd (cc)

mark_first : (m : ℕ) (c : Class) (u r : List ℕ) → class m ≡ c → behind m u ≡ Some r → lex between u ≡ lex_byte between c m r (λ mode. lex mode r)
unfolding lex
mark_first m c [] r e is = absurd (cc)
mark_first m c (b ∷ bs) r e is =
    let both = is_mark (b == m) b m bs r refl is in
    ap (λ x. lex_byte between (class x) x bs (λ mode. lex mode bs)) both.0 ∙ ap (λ xs. lex_byte between (class m) m xs (λ mode. lex mode xs)) both.1
    ∙ ap (λ k. lex_byte between k m r (λ mode. lex mode r)) e

pub lex_mark : (m : ℕ) (t r : List ℕ) → class m ≡ operator → past_mark m t ≡ Some r → lex between t ≡ operator_lexeme m ∷ lex between r
unfolding past_mark
lex_mark m t r e is = sym (lex_blanks t) ∙ mark_first m operator (past_blanks t) r e is

-- words ----------------------------------------------------------------------------------------------

word_byte : (named : Bool) (x n : ℕ) (xs r : List ℕ) → is_name_byte x ≡ named
    → (behind 34 (drop n xs) ≡ Some r → content plain xs ≡ Some (take n xs))
    → behind 34 (drop (cond named (1 + n) 0) (x ∷ xs)) ≡ Some r → content plain (x ∷ xs) ≡ Some (take (cond named (1 + n) 0) (x ∷ xs))
unfolding content
word_byte true x n xs r e more is =
    let next : 1 + n ≡ suc n = omega arith in
    let rest : content plain xs ≡ Some (take n xs) = more (subst (λ k. behind 34 (drop k (x ∷ xs)) ≡ Some r) next is) in
    (λ i. cond (no_quote x e i) (Some []) (cond (no_backslash x e i) (content after_backslash xs) (cond (no_control x e i) None (prepend (x ∷ []) (rest i)))))
    ∙ ap (λ k. Some (take k (x ∷ xs))) (sym next)
word_byte false x n xs r e more is =
    let both = is_mark (x == 34) x 34 xs r refl is in
    ap (λ y. content plain (y ∷ xs)) both.0

content_word : (q r : List ℕ) → behind 34 (drop (prefix_len is_name_byte q) q) ≡ Some r → content plain q ≡ Some (take (prefix_len is_name_byte q) q)
content_word [] r is = absurd (cc)
content_word (x ∷ xs) r is = word_byte (is_name_byte x) x (prefix_len is_name_byte xs) xs r refl (content_word xs r) is

over_byte : (named : Bool) (x n : ℕ) (xs r : List ℕ) → is_name_byte x ≡ named
    → (behind 34 (drop n xs) ≡ Some r → lex in_string xs ≡ lex between r)
    → behind 34 (drop (cond named (1 + n) 0) (x ∷ xs)) ≡ Some r → lex in_string (x ∷ xs) ≡ lex between r
unfolding lex
over_byte true x n xs r e more is =
    let next : 1 + n ≡ suc n = omega arith in
    let rest : lex in_string xs ≡ lex between r = more (subst (λ k. behind 34 (drop k (x ∷ xs)) ≡ Some r) next is) in
    ap (λ c. lex_byte in_string c x xs (λ mode. lex mode xs)) (name_class x e) ∙ rest
over_byte false x n xs r e more is =
    let both = is_mark (x == 34) x 34 xs r refl is in
    ap (λ y. lex in_string (y ∷ xs)) both.0 ∙ ap (lex between) both.1

over_word : (q r : List ℕ) → behind 34 (drop (prefix_len is_name_byte q) q) ≡ Some r → lex in_string q ≡ lex between r
over_word [] r is = absurd (cc)
over_word (x ∷ xs) r is = over_byte (is_name_byte x) x (prefix_len is_name_byte xs) xs r refl (over_word xs r) is

-- the word of a text that begins with a quote
record Word (t w r : List ℕ) : Type 0 where
  quoted : List ℕ
  begins : past_mark 34 t ≡ Some quoted
  is : take (prefix_len is_name_byte quoted) quoted ≡ w
  ends : behind 34 (drop (prefix_len is_name_byte quoted) quoted) ≡ Some r

abbrev with_front : List ℕ → Option (List ℕ) → Option (List ℕ × List ℕ)
with_front q o = option_map (λ rest. (take (prefix_len is_name_byte q) q, rest)) o

word_ends : (q w r : List ℕ) (o : Option (List ℕ)) → with_front q o ≡ Some (w, r)
    → (take (prefix_len is_name_byte q) q ≡ w) × (o ≡ Some r)
word_ends q w r None is = absurd (cc)
word_ends q w r (Some x) is =
    let one : List ℕ × List ℕ = (take (prefix_len is_name_byte q) q, x) in
    let other : List ℕ × List ℕ = (w, r) in
    let pair : one ≡ other = same_rest one other is in
    (ap (λ p. p.0) pair, ap (λ p. Some p.1) pair)

word_begins : (t w r : List ℕ) (o : Option (List ℕ)) → past_mark 34 t ≡ o → option_and_then word_before o ≡ Some (w, r) → Word t w r
word_begins t w r None e is = absurd (cc)
word_begins t w r (Some q) e is =
    let both = word_ends q w r (behind 34 (drop (prefix_len is_name_byte q) q)) is in
    record { quoted = q; begins = e; is = both.0; ends = both.1 }

word_of : (t w r : List ℕ) → quoted_word_in t ≡ Some (w, r) → Word t w r
unfolding quoted_word_in
word_of t w r is = word_begins t w r (past_mark 34 t) refl is

pub lex_word : (t w r : List ℕ) → quoted_word_in t ≡ Some (w, r) → lex between t ≡ token (string w) ∷ lex between r
unfolding past_mark
lex_word t w r is =
    let word = word_of t w r is in
    sym (lex_blanks t) ∙ mark_first 34 quote (past_blanks t) word.quoted refl word.begins
    ∙ (λ i. token (string_token (content_word word.quoted r word.ends i)) ∷ over_word word.quoted r word.ends i)
    ∙ ap (λ s. token (string s) ∷ lex between r) word.is

-- the bytes of a word are text --------------------------------------------------------------------------

high_name : (b : ℕ) → 128 ≤ b → is_name_byte b ≡ false
unfolding is_name_byte
high_name b high =
    let p : nat_le 48 b ≡ true = le-leb 48 b (omega arith) in
    let q : nat_le 65 b ≡ true = le-leb 65 b (omega arith) in
    let r : nat_le 97 b ≡ true = le-leb 97 b (omega arith) in
    let u : nat_le b 57 ≡ false = lt-leb b 57 (omega arith) in
    let v : nat_le b 90 ≡ false = lt-leb b 90 (omega arith) in
    let w : nat_le b 122 ≡ false = lt-leb b 122 (omega arith) in
    let s : (b == 45) ≡ false = false_from_ne_true (b == 45) (λ e. let f = eqb-true b 45 e in absurd (omega arith)) in
    let t : (b == 95) ≡ false = false_from_ne_true (b == 95) (λ e. let f = eqb-true b 95 e in absurd (omega arith)) in
    rw (p, q, r, u, v, w, s, t) refl

below_by : (b : ℕ) (low : Bool) → nat_lt b 128 ≡ low → is_name_byte b ≡ true → b < 128
below_by b true e is = ltb-true b 128 e
below_by b false e is = absurd (false≢true (sym (high_name b (ltb-false b 128 e)) ∙ is))

name_ascii : (b : ℕ) → is_name_byte b ≡ true → b < 128
name_ascii b is = below_by b (nat_lt b 128) refl is

ascii_byte : (named : Bool) (x n : ℕ) (xs : List ℕ) → is_name_byte x ≡ named → IsAscii (take n xs) → IsAscii (take (cond named (1 + n) 0) (x ∷ xs))
ascii_byte true x n xs e more =
    let next : suc n ≡ 1 + n = omega arith in
    subst (λ k. IsAscii (take k (x ∷ xs))) next (IsAscii-cons x (take n xs) (name_ascii x e) more)
ascii_byte false x n xs e more = IsAscii-nil

word_ascii : (q : List ℕ) → IsAscii (take (prefix_len is_name_byte q) q)
word_ascii [] = IsAscii-nil
word_ascii (x ∷ xs) = ascii_byte (is_name_byte x) x (prefix_len is_name_byte xs) xs refl (word_ascii xs)

pub word_utf8 : (q : List ℕ) → IsUtf8 (take (prefix_len is_name_byte q) q)
word_utf8 q = IsUtf8-from_ascii _ (word_ascii q)
