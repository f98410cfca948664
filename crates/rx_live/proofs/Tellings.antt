-- Notes that are told one after another.
use Rattle.rx_live.proofs.Common.{◌≡◌, ℕ, ◌+◌, ◌<◌, ◌≤◌, suc, List, [], ◌∷◌, ◌++◌, codes, length, map, drop, Option, Some, None, refl, sym, ap, ◌∙◌, add-one}
use Rattle.rx_live.proofs.Common.{append_assoc, drop-cons, IfSome, IfNone, is_some, slice_get, get_or, if◌then◌else◌, flat_map, option_to_list}
use Rattle.rx_live.proofs.Common.{flat_map-append, append-nil, map-append, drop_all, slice_get_within, slice_get_cases, none-some, get_or_from_slice_get}
use Rattle.rx_live.proofs.Common.{Mail, notes, State, Names, joined, Session, told_text, to_tell, WritesNotes, AreNotesWritten}
use Rattle.rx_live.specs.Answers.{Told, told_of, IsTelling}
use Rattle.rx_live.specs.Steps.{TellsOne, WritesNote, WritesNoNote}
use Rattle.std.proofs.Common.{rules}

pub dropped_one : (xs : List Mail) (k : ℕ) (x : Mail) → slice_get xs k ≡ Some x → drop k xs ≡ x ∷ drop (k + 1) xs
dropped_one xs k x at_k =
    let within : k < length xs = slice_get_within xs k x at_k in
    drop-cons xs k x within ∙ ap (λ (y : Mail). y ∷ drop (suc k) xs) (get_or_from_slice_get xs k x x at_k) ∙ ap (λ (j : ℕ). x ∷ drop j xs) (sym (add-one k))

-- the next note of the book
pub next_told : (s : Session) (result : Option Mail) (book : State) (untold : Option Mail) → s.untold ≡ None → untold ≡ None →
    result ≡ slice_get (notes s.book.history) s.book.given → book ≡ record s.book { given = if is_some result then s.book.given + 1 else s.book.given } →
    IfSome result (λ m. TellsOne s m (record s { book = book; untold = untold }))
next_told s x1 book untold none gone next given = search (rules, drop, option_to_list, dropped_one)

past_all : (xs : List Mail) (k : ℕ) → slice_get xs k ≡ None → length xs ≤ k
past_all xs k none = search (rules, slice_get_cases, length, slice_get, get_or, none-some)

-- none is left
pub none_told : (s : Session) (result : Option Mail) → s.untold ≡ None → result ≡ slice_get (notes s.book.history) s.book.given → IfNone result (to_tell s ≡ [])
none_told s x1 none next = search (rules, option_to_list, drop, drop_all, past_all)

-- nothing but what is told changes
telling_on : (a b c : Session) → IsTelling a b → IsTelling b c → IsTelling a c
telling_on a b c p q = search rules

telling_names : (a b : Session) → IsTelling a b → b.nodes ≡ a.nodes
telling_names a b p = ap (λ (s : Session). s.nodes) p

-- one piece more
pub joined_more : (p : List ℕ) (ps : List (List ℕ)) (q : List ℕ) → joined (p ∷ ps) ++ codes "," ++ q ≡ joined (p ∷ (ps ++ q ∷ []))
joined_more p ps q = search (rules, codes, flat_map, append-nil, append_assoc, flat_map-append)

pub array_more : {A : Type 0} (f : A → List ℕ) (begun front : List ℕ) (first : A) (more : List A) (x : A) (text : List ℕ) →
    text ≡ begun ++ front ++ joined (map f (first ∷ more)) → text ++ codes "," ++ f x ≡ begun ++ front ++ joined (map f (first ∷ (more ++ x ∷ [])))
array_more f begun front first more x text is = search (rules, map, codes, append_assoc, joined_more, map-append)

pub array_end : (begun front body : List ℕ) (text : List ℕ) → text ≡ begun ++ front ++ body → text ++ codes "]" ≡ begun ++ (front ++ body ++ codes "]")
array_end begun front body text is = search (rules, codes, append_assoc)

-- the loop of a telling: its first note, one more, and its end
pub notes_begun : (old now : Session) (begun text : List ℕ) → WritesNote old begun (codes ",\"notes\":[") now text → AreNotesWritten old begun now text
notes_begun old now begun text one =
    let first = told_of old.nodes one.mail in
    record {
      first = first;
      more = [];
      tells = record { mails = one.mail ∷ []; are = refl; left = one.tells.next; rest = one.tells.rest };
      written = one.written ∙ ap (λ (t : List ℕ). begun ++ codes ",\"notes\":[" ++ t) (sym (append-nil (told_text first)));
    }

pub notes_more : (old mid now : Session) (begun before text : List ℕ) → AreNotesWritten old begun mid before → WritesNote mid before (codes ",") now text →
    AreNotesWritten old begun now text
notes_more old mid now begun before text so_far one =
    let names : mid.nodes ≡ old.nodes = telling_names old mid so_far.tells.rest in
    let next : Told = told_of old.nodes one.mail in
    let mails = so_far.tells.mails in
    let same : told_of mid.nodes one.mail ≡ next = ap (λ (t : Names). told_of t one.mail) names in
    record {
      first = so_far.first;
      more = so_far.more ++ next ∷ [];
      tells = record {
        mails = mails ++ one.mail ∷ [];
        are = ap (λ (ts : List Told). ts ++ next ∷ []) so_far.tells.are ∙ sym (map-append (told_of old.nodes) mails (one.mail ∷ []));
        left = so_far.tells.left ∙ ap (λ (ms : List Mail). mails ++ ms) one.tells.next ∙ sym (append_assoc mails (one.mail ∷ []) (to_tell now));
        rest = telling_on old mid now so_far.tells.rest one.tells.rest;
      };
      written = one.written ∙ ap (λ (t : Told). before ++ codes "," ++ told_text t) same
          ∙ array_more told_text begun (codes ",\"notes\":[") so_far.first so_far.more next before so_far.written;
    }

pub notes_ended : (old mid now : Session) (begun before text : List ℕ) → AreNotesWritten old begun mid before → WritesNoNote mid before now text →
    WritesNotes old begun now (text ++ codes "]")
notes_ended old mid now begun before text so_far none =
    let all = so_far.first ∷ so_far.more in
    record {
      told = all;
      tells = record {
        mails = so_far.tells.mails;
        are = so_far.tells.are;
        left = so_far.tells.left ∙ ap (λ (ms : List Mail). so_far.tells.mails ++ ms) (sym none.left);
        rest = telling_on old mid now so_far.tells.rest none.rest;
      };
      all = none.all;
      written = ap (λ (t : List ℕ). t ++ codes "]") none.written ∙ array_end begun (codes ",\"notes\":[") (joined (map told_text all)) before so_far.written;
    }
