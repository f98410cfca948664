-- What the answer to an array says of the session, and what that to a line.
use Rattle.rx_live.proofs.Common.{◌≡◌, ℕ, Bool, true, false, List, [], ◌∷◌, ◌++◌, codes, Option, Some, None, refl, sym, ap, ◌∙◌, subst, append_assoc, Result}
use Rattle.rx_live.proofs.Common.{Ok, Err, String, Global, string_bytes, IfOk, OnErr, AllocError, append-nil, none-some, Data, Items, no_items, item, Order}
use Rattle.rx_live.proofs.Common.{as_array, IsJsonOf, NoMemory, order_in, IsOrderOf, refused_text, faulty_text, joined, Book, Session, IsSound, has_resource}
use Rattle.rx_live.proofs.Common.{NameAct, LeadsNames, no_act, as_it_was, WaitsFor, is_put_off, IsPutOff, WritesAnswer, AnsweredOne, AreAnswering}
use Rattle.rx_live.specs.Lines.{AnswersAsked, AnswersOne, is_taken, AnswersEach, none_left, one_more, one_asked, many_asked, no_json, is_json, Sends}
use Rattle.rx_live.specs.Listed.{has_no_names}
use Rattle.rx_live.specs.Taken.{WritesEach, comma_if, AnsweredArray, AnsweredValue}
use Rattle.rx_live.proofs.Laws.HeldStaysHeld.{leads_on, waits_held}
use Rattle.rx_live.proofs.AcceptedBindsNames.{alike_same}
use Rattle.rx_live.proofs.Tellings.{joined_more}
use Rattle.std.proofs.Common.{rules}

-- an element ------------------------------------------------------------------------------------------

pub element_taken : (old new : Session) (asked : Option Order) (begun text : List ℕ) → WritesAnswer (λ t. AnswersAsked old asked t new) begun text →
    WritesAnswer (AnsweredOne old asked new) begun text
element_taken old new asked begun text wrote =
    record { answer = wrote.answer; is = record { acts = wrote.is.acts; one = is_taken wrote.is }; written = wrote.written }

no_memory : codes "{\"refused\":\"NoMemory\"}" ≡ refused_text (Book NoMemory)
unfolding refused_text
no_memory = refl

pub element_put_off : (old new : Session) (asked : Option Order) (begun mid text : List ℕ) → WaitsFor asked old new → mid ≡ begun →
    text ≡ mid ++ codes "{\"refused\":\"NoMemory\"}" → WritesAnswer (AnsweredOne old asked new) begun text
element_put_off old new asked begun mid text waits same written = search (rules, is_put_off, no_memory)

-- the elements ----------------------------------------------------------------------------------------

pub answering_begun : (s : Session) (ds : Items) (begun : List ℕ) → AreAnswering s s ds ds begun begun true
answering_begun s ds begun = record { texts = []; acts = []; later = λ new more done each. each; written = sym (append-nil begun); first = refl }

-- one piece more
joined_on : (begun : List ℕ) (texts : List (List ℕ)) (first : Bool) (t : List ℕ) → first ≡ has_no_names texts →
    ((begun ++ joined texts) ++ comma_if first) ++ t ≡ begun ++ joined (texts ++ t ∷ [])
joined_on begun x1 x2 t is = search (rules, append-nil, append_assoc, codes, joined_more)

not_nil : (texts : List (List ℕ)) (t : List ℕ) → false ≡ has_no_names (texts ++ t ∷ [])
not_nil [] t = refl
not_nil (p ∷ ps) t = refl

pub answering_on : {old now mid : Session} {all left : Items} (d : Data) (rest : Items) (begun before led text : List ℕ) (first : Bool) →
    AreAnswering old now all left begun before first → left ≡ item d rest → led ≡ before ++ comma_if first →
    WritesAnswer (AnsweredOne now (order_in d) mid) led text → AreAnswering old mid all rest begun text false
answering_on {old} {now} {mid} {all} {left} d rest begun before led text first so_far next leads wrote =
    let t = wrote.answer in
    let texts = so_far.texts in
    let acts = so_far.acts in
    record {
      texts = texts ++ t ∷ [];
      acts = acts ++ wrote.is.acts;
      later = λ new more done each.
          let all_of : AnswersEach now left (t ∷ more) (wrote.is.acts ++ done) new =
          subst (λ (ds : Items). AnswersEach now ds (t ∷ more) (wrote.is.acts ++ done) new) (sym next) (one_more mid wrote.is.one each) in
          subst (λ (ts : List (List ℕ)). AnswersEach old all ts ((acts ++ wrote.is.acts) ++ done) new) (sym (append_assoc texts (t ∷ []) more))
          (subst (λ (bs : List NameAct). AnswersEach old all (texts ++ t ∷ more) bs new) (sym (append_assoc acts wrote.is.acts done)) (so_far.later new (t ∷
          more) (wrote.is.acts ++ done) all_of));
      written = wrote.written ∙ ap (λ (u : List ℕ). u ++ t) (leads ∙ ap (λ (u : List ℕ). u ++ comma_if first) so_far.written)
          ∙ joined_on begun texts first t so_far.first;
      first = not_nil texts t;
    }

pub answering_ended : {old now : Session} {all left : Items} (begun text : List ℕ) (first : Bool) → AreAnswering old now all left begun text first →
    left ≡ no_items → WritesEach old all begun now text
answering_ended {old} {now} {all} {left} begun text first so_far none =
    let last : AnswersEach now left [] [] now = subst (λ (ds : Items). AnswersEach now ds [] [] now) (sym none) none_left in
    record {
      texts = so_far.texts;
      acts = so_far.acts;
      each = subst (λ (ts : List (List ℕ)). AnswersEach old all ts so_far.acts now) (append-nil so_far.texts)
          (subst (λ (bs : List NameAct). AnswersEach old all (so_far.texts ++ []) bs now) (append-nil so_far.acts) (so_far.later now [] [] last));
      written = so_far.written;
    }

pub array_answered : (old new : Session) (ds : Items) (front mid text : List ℕ) → front ≡ codes "[" → WritesEach old ds front new mid → text ≡ mid ++ codes "]" →
    AnsweredArray old ds new text
array_answered old new ds front mid text begins wrote ends = search (rules, codes)

-- what they hand in and release
one_leads : {old new : Session} {asked : Option Order} {text : List ℕ} {acts : List NameAct} → AnswersOne old asked text acts new →
    LeadsNames (has_resource old) acts (has_resource new)
one_leads x0 = search (rules, no_act, waits_held)

each_leads : {old new : Session} {ds : Items} {texts : List (List ℕ)} {acts : List NameAct} → AnswersEach old ds texts acts new →
    LeadsNames (has_resource old) acts (has_resource new)
each_leads none_left = no_act (λ n. refl)
each_leads (one_more mid one rest) = leads_on (one_leads one) (each_leads rest)

-- a value ---------------------------------------------------------------------------------------------

pub value_one : (old new : Session) (d : Data) (result : Result (String Global) AllocError) → as_array d ≡ None →
    IfOk result (λ s. AnswersAsked old (order_in d) (string_bytes s) new) → IfOk result (λ s. AnsweredValue old d new (string_bytes s))
value_one old new d (Err e) single one = one
value_one old new d (Ok s) single one = record { acts = one.acts; answers = one_asked single one; leads = one.leads }

pub value_many : (old new : Session) (d : Data) (ds : Items) (result : Result (String Global) AllocError) → as_array d ≡ Some ds →
    IfOk result (λ s. AnsweredArray old ds new (string_bytes s)) → IfOk result (λ s. AnsweredValue old d new (string_bytes s))
value_many old new d ds (Err e) several array = array
value_many old new d ds (Ok s) several array =
    record { acts = array.acts; answers = many_asked ds array.texts several array.each array.is; leads = each_leads array.each }

waits_same : (asked : Option Order) (old new : Session) → new ≡ old → WaitsFor asked old new
waits_same asked old new same = subst (λ (s : Session). WaitsFor asked old s) (sym same) (record { aged = old; ages = as_it_was; alike = alike_same old })

pub array_waits : (asked : Option Order) (old new : Session) (result : Result (String Global) AllocError) → OnErr result (new ≡ old) →
    OnErr result (WaitsFor asked old new)
array_waits asked old new x3 same = search (rules, waits_same)

-- a line ----------------------------------------------------------------------------------------------

pub line_sent : (old new : Session) (line : List ℕ) (d : Data) (result : Result (String Global) AllocError) → IsJsonOf line d → IsSound new →
    IfOk result (λ s. AnsweredValue old d new (string_bytes s)) → IfOk result (λ s. Sends old line (string_bytes s) new)
line_sent old new line d (Err e) json sound value = value
line_sent old new line d (Ok s) json sound value = record { acts = value.acts; answer = is_json d json value.answers; leads = value.leads; sound = sound }

pub line_waits : (old new : Session) (line : List ℕ) (d : Data) (result : Result (String Global) AllocError) → IsJsonOf line d →
    OnErr result (WaitsFor (order_in d) old new) → OnErr result (IsPutOff line old new)
line_waits old new line d x4 json waits = search rules

pub line_faulty : (s : Session) (line told : List ℕ) (result : Result (String Global) AllocError) → ((d : Data) → ¬ IsJsonOf line d) → IsSound s →
    IfOk result (λ t. string_bytes t ≡ faulty_text told) → IfOk result (λ t. Sends s line (string_bytes t) s)
line_faulty s line told (Err e) none sound is = is
line_faulty s line told (Ok t) none sound is = record { acts = []; answer = no_json told none is; leads = no_act (λ n. refl); sound = sound }

none_asked : (line : List ℕ) (o : Order) → None ≡ Some o → IsOrderOf line o
none_asked line o is = absurd (none-some o is)

pub line_unread : (s : Session) (line : List ℕ) → IsPutOff line s s
line_unread s line = record { asked = None; order = none_asked line; waits = waits_same None s s refl }
