-- The names of what was closed, as they are written.
use Rattle.rx_live.proofs.Common.{◌≡◌, ℕ, zero, suc, ◌+◌, ◌≤◌, ◌<◌, Bool, true, false, List, [], ◌∷◌, ◌++◌, codes, length, take, map, get_or, Option, Some}
use Rattle.rx_live.proofs.Common.{option_map, refl, sym, ap, ◌∙◌, arith, slice_get, if◌then◌else◌, filter_map, cons_option, range_with_len, append-nil}
use Rattle.rx_live.proofs.Common.{map-append, take_more, take_all, filter_map-append, Name, Key, name_text, member_text, joined, has_no_texts, Session}
use Rattle.rx_live.proofs.Common.{closed_at}
use Rattle.rx_live.proofs.Common.{closed_texts}
use Rattle.std.proofs.lemmas.Option.{slice_get-get_or}
use Rattle.rx_live.specs.Closings.{name_beside, names_closed, WritesClosed, none_said}
use Rattle.rx_live.proofs.Listings.{range_more}
use Rattle.rx_live.proofs.Common.{not}
use Rattle.std.proofs.Common.{rules}

quoted : (o : Option Name) → cons_option (option_map name_text o) [] ≡ map name_text (cons_option o [])
quoted x0 = search rules

module _ (s : Session) (asked : Option ℕ) where
  abbrev text_at : ℕ → Option (List ℕ)
  text_at n = option_map name_text (closed_at s asked n)

  one_text : (n : ℕ) (k : Key) → slice_get s.book.closed n ≡ Some k →
      cons_option (text_at n) [] ≡ map name_text (filter_map (name_beside s.nodes asked) (k ∷ []))
  one_text n k there = search (rules, cons_option, option_map, quoted)

  texts_are : (n : ℕ) → n ≤ length s.book.closed → closed_texts s asked n ≡ map name_text (filter_map (name_beside s.nodes asked) (take n s.book.closed))
  texts_are zero within = refl
  texts_are (suc n) within =
      let none : Key = record { slot = 0; number = 0 } in
      let k = get_or s.book.closed n none in
      let before = take n s.book.closed in
      let inside : n < length s.book.closed = omega arith in
      let next : take (suc n) s.book.closed ≡ before ++ k ∷ [] =
      ap (λ (m : ℕ). take m s.book.closed) (let e : suc n ≡ n + 1 = omega arith in e) ∙ take_more s.book.closed n none inside in
      ap (filter_map text_at) (range_more 0 n ∙ ap (λ (m : ℕ). range_with_len 0 n ++ m ∷ []) (let e : 0 + n ≡ n = omega arith in e))
      ∙ filter_map-append text_at (range_with_len 0 n) (n ∷ [])
      ∙ (λ i. texts_are n (let w : n ≤ length s.book.closed = omega arith in w) i ++ one_text n k (slice_get-get_or s.book.closed n none inside) i)
      ∙ sym (map-append name_text (filter_map (name_beside s.nodes asked) before) (filter_map (name_beside s.nodes asked) (k ∷ [])))
      ∙ ap (map name_text) (sym (filter_map-append (name_beside s.nodes asked) before (k ∷ [])) ∙ ap (filter_map (name_beside s.nodes asked)) (sym next))

  pub all_texts : closed_texts s asked (length s.book.closed) ≡ map name_text (names_closed s asked)
  all_texts = search (rules, texts_are, length, map, filter_map, take_all)

-- the member, of what was written of it
none_named : (ps : List (List ℕ)) → true ≡ has_no_texts ps → [] ≡ member_text (codes "closed") ps
none_named x0 none = search rules

some_named : (ps : List (List ℕ)) → false ≡ has_no_texts ps → codes ",\"closed\":[" ++ joined ps ++ codes "]" ≡ member_text (codes "closed") ps
some_named x0 some = search rules

pub no_member : (s : Session) (asked : Option ℕ) {first : Bool} (text : List ℕ) → first ≡ true → text ≡ [] →
    first ≡ has_no_texts (closed_texts s asked (length s.book.closed)) → text ≡ member_text (codes "closed") (map name_text (names_closed s asked))
no_member s asked text is empty first = search (rules, none_named, length, codes, all_texts)

pub whole_member : (s : Session) (asked : Option ℕ) {first : Bool} (text begun before : List ℕ) → first ≡ false →
    first ≡ has_no_texts (closed_texts s asked (length s.book.closed)) → before ≡ codes ",\"closed\":[" →
    begun ≡ before ++ joined (closed_texts s asked (length s.book.closed)) → text ≡ begun ++ codes "]" →
    text ≡ member_text (codes "closed") (map name_text (names_closed s asked))
whole_member s asked text begun before is first lead names closing = search (rules, codes, length, some_named, all_texts)

-- where nothing is to be named
same_nil : (names : List Name) → has_no_texts (map name_text names) ≡ has_no_texts names
same_nil [] = refl
same_nil (name ∷ names) = refl

nil_is : (names : List Name) → has_no_texts names ≡ true → names ≡ []
nil_is [] is = refl
nil_is (name ∷ names) is = absurd (cc)

is_nil_closed : (s : Session) (asked : Option ℕ) → has_no_texts (closed_texts s asked (length s.book.closed)) ≡ has_no_texts (names_closed s asked)
is_nil_closed s asked = ap has_no_texts (all_texts s asked) ∙ same_nil (names_closed s asked)

pub says_nothing : {names : List Name} (begun : List ℕ) → names ≡ [] → WritesClosed names begun begun
says_nothing begun none = search (rules, codes, map, append-nil)

pub none_at_all : (is_call : Bool) (s : Session) (asked : Option ℕ) → has_no_texts (closed_texts s asked (length s.book.closed)) ≡ true →
    (if is_call then names_closed s asked else []) ≡ []
none_at_all true s asked none = nil_is (names_closed s asked) (sym (is_nil_closed s asked) ∙ none)
none_at_all false s asked none = refl

pub says_all : {names : List Name} (begun text : List ℕ) → text ≡ begun ++ member_text (codes "closed") (map name_text names) → WritesClosed names begun text
says_all {names} begun text is = search (rules, codes, map)

some_at_all : (s : Session) (asked : Option ℕ) → has_no_texts (closed_texts s asked (length s.book.closed)) ≡ false → names_closed s asked ≡ [] → ⊥
some_at_all s asked some none =
    let nil : has_no_texts (names_closed s asked) ≡ true = ap has_no_texts none in
    let not : has_no_texts (names_closed s asked) ≡ false = sym (is_nil_closed s asked) ∙ some in absurd (cc)

pub says_null : (is_call : Bool) (s : Session) (asked : Option ℕ) (begun mid text : List ℕ) → not is_call ≡ false →
    has_no_texts (closed_texts s asked (length s.book.closed)) ≡ false → mid ≡ begun → text ≡ mid ++ codes ",\"closed\":null" →
    WritesClosed (if is_call then names_closed s asked else []) begun text
says_null true s asked begun mid text is some same written = record {
  said = codes ",\"closed\":null";
  says = none_said (some_at_all s asked some) refl;
  written = written ∙ ap (λ (t : List ℕ). t ++ codes ",\"closed\":null") same;
}
says_null false s asked begun mid text is some same written = absurd (cc)
