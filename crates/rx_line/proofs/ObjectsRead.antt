-- What the JSON reader makes of an object of words.
use Rattle.std.proofs.Common.{◌≡◌, ℕ, suc, List, [], ◌∷◌, true, false, Option, Some, None, option_map, option_and_then, refl, sym, ap, ◌∙◌, subst, arith, length}
use Rattle.std.specs.Prelude.{◌==◌}
use Rattle.std.specs.Option.{option_map_or}
use Rattle.std.proofs.lemmas.Bool.{eqb-true}
use Rattle.json.specs.Lex.{Lexeme, token, colon, comma, between, lex, fresh, punctuate}
use Rattle.json.specs.Token.{begin_object, end_object, string, key}
use Rattle.json.specs.Json.{value, members, items, if_last}
use Rattle.serde_json.specs.Data as json
use Rattle.serde_json.specs.Read.{read, of_json, max_depth}
use Rattle.rx_line.specs.FreeCommands.{past_blanks, past_mark, quoted_word_in, Said, said_by, member_in, is_blank, is_end}
use Rattle.rx_line.proofs.WordsLexed.{same_rest, lex_blanks, lex_mark, lex_word}

-- the end of an object -------------------------------------------------------------------------------

no_more : (t : List ℕ) → (length t == 0) ≡ true → t ≡ []
no_more [] is = refl
no_more (b ∷ bs) is = let e : suc (length bs) ≡ 0 = eqb-true (suc (length bs)) 0 is in absurd (omega arith)

lex_nothing : lex between [] ≡ []
unfolding lex
lex_nothing = refl

lex_blank : (t : List ℕ) → is_blank t ≡ true → lex between t ≡ []
lex_blank t is = sym (lex_blanks t) ∙ ap (lex between) (no_more (past_blanks t) is) ∙ lex_nothing

end_by : (t : List ℕ) (o : Option (List ℕ)) → past_mark 125 t ≡ o → option_map_or is_blank o false ≡ true → lex between t ≡ token end_object ∷ []
end_by t None e is = absurd (cc)
end_by t (Some r) e is = lex_mark 125 t r refl e ∙ ap (λ ls. token end_object ∷ ls) (lex_blank r is)

pub lex_end : (t : List ℕ) → is_end t ≡ true → lex between t ≡ token end_object ∷ []
unfolding is_end
lex_end t is = end_by t (past_mark 125 t) refl is

-- a member -------------------------------------------------------------------------------------------

record Member (t : List ℕ) (said : Said) : Type 0 where
  after_key : List ℕ
  key_is : quoted_word_in t ≡ Some (said.key, after_key)
  after_colon : List ℕ
  colon_is : past_mark 58 after_key ≡ Some after_colon
  value_is : quoted_word_in after_colon ≡ Some (said.value, said.rest)

member_ends : (t : List ℕ) (said : Said) (k a c : List ℕ) → quoted_word_in t ≡ Some (k, a) → past_mark 58 a ≡ Some c → (o : Option (List ℕ × List ℕ))
    → quoted_word_in c ≡ o → option_map (said_by (k, a)) o ≡ Some said → Member t said
member_ends t said k a c e f None g is = absurd (cc)
member_ends t said k a c e f (Some v) g is =
    let made : Said = said_by (k, a) v in
    let same : made ≡ said = same_rest made said is in
    subst (Member t) same (record { after_key = a; key_is = e; after_colon = c; colon_is = f; value_is = g })

member_goes : (t : List ℕ) (said : Said) (k a : List ℕ) → quoted_word_in t ≡ Some (k, a) → (o : Option (List ℕ)) → past_mark 58 a ≡ o
    → option_map (said_by (k, a)) (option_and_then quoted_word_in o) ≡ Some said → Member t said
member_goes t said k a e None f is = absurd (cc)
member_goes t said k a e (Some c) f is = member_ends t said k a c e f (quoted_word_in c) refl is

member_begins : (t : List ℕ) (said : Said) (o : Option (List ℕ × List ℕ)) → quoted_word_in t ≡ o
    → option_and_then (λ key. option_map (said_by key) (option_and_then quoted_word_in (past_mark 58 key.1))) o ≡ Some said → Member t said
member_begins t said None e is = absurd (cc)
member_begins t said (Some p) e is = member_goes t said p.0 p.1 e (past_mark 58 p.1) refl is

member_of : (t : List ℕ) (said : Said) → member_in t ≡ Some said → Member t said
unfolding member_in
member_of t said is = member_begins t said (quoted_word_in t) refl is

pub lex_member : (t : List ℕ) (said : Said) → member_in t ≡ Some said
    → lex between t ≡ token (string said.key) ∷ colon ∷ token (string said.value) ∷ lex between said.rest
lex_member t said is =
    let m = member_of t said is in
    lex_word t said.key m.after_key m.key_is
    ∙ ap (λ ls. token (string said.key) ∷ ls) (lex_mark 58 m.after_key m.after_colon refl m.colon_is
    ∙ ap (λ ls. colon ∷ ls) (lex_word m.after_colon said.value said.rest m.value_is))

-- an object of one member, and one of two ------------------------------------------------------------

abbrev pub of_one : (k v : List ℕ) → json.Data
of_one k v = json.object (json.put k (json.string v) json.no_members)

abbrev pub of_two : (k v l w : List ℕ) → json.Data
of_two k v l w = json.object (json.put l (json.string w) (json.put k (json.string v) json.no_members))

abbrev read_lexemes : List Lexeme → Option json.Data
read_lexemes ls = option_and_then of_json (option_and_then (λ p. if_last p.0 p.1) (value max_depth (punctuate fresh ls)))

read_one : (k v : List ℕ) → read_lexemes (token begin_object ∷ token (string k) ∷ colon ∷ token (string v) ∷ token end_object ∷ []) ≡ Some (of_one k v)
unfolding punctuate value items members
read_one k v = refl

read_two : (k v l w : List ℕ) → read_lexemes (token begin_object ∷ token (string k) ∷ colon ∷ token (string v) ∷ comma ∷ token (string l) ∷ colon
    ∷ token (string w) ∷ token end_object ∷ []) ≡ Some (of_two k v l w)
unfolding punctuate value items members
read_two k v l w = refl

pub reads_one : (t r : List ℕ) (said : Said) → past_mark 123 t ≡ Some r → member_in r ≡ Some said → is_end said.rest ≡ true → read t ≡ Some (of_one said.key said.value)
reads_one t r said begins first ends =
    ap read_lexemes (lex_mark 123 t r refl begins ∙ ap (λ ls. token begin_object ∷ ls) (lex_member r said first
    ∙ ap (λ ls. token (string said.key) ∷ colon ∷ token (string said.value) ∷ ls) (lex_end said.rest ends)))
    ∙ read_one said.key said.value

pub reads_two : (t r s : List ℕ) (one other : Said) → past_mark 123 t ≡ Some r → member_in r ≡ Some one → past_mark 44 one.rest ≡ Some s
    → member_in s ≡ Some other → is_end other.rest ≡ true → read t ≡ Some (of_two one.key one.value other.key other.value)
reads_two t r s one other begins first goes second ends =
    ap read_lexemes (lex_mark 123 t r refl begins ∙ ap (λ ls. token begin_object ∷ ls) (lex_member r one first
    ∙ ap (λ ls. token (string one.key) ∷ colon ∷ token (string one.value) ∷ ls) (lex_mark 44 one.rest s refl goes
    ∙ ap (λ ls. comma ∷ ls) (lex_member s other second
    ∙ ap (λ ls. token (string other.key) ∷ colon ∷ token (string other.value) ∷ ls) (lex_end other.rest ends)))))
    ∙ read_two one.key one.value other.key other.value
