-- The notes of a session's events, and those that its answers tell.
use Rattle.rx_live.proofs.Common.{◌≡◌, ℕ, ◌≤◌, Bool, List, [], ◌∷◌, ◌++◌, drop, length, Option, Some, None, refl, sym, ap, ◌∙◌, arith, subst, append_assoc}
use Rattle.rx_live.proofs.Common.{is_some, option_to_list, append-nil, drop_at, drop-append-le, Mail, Event, Kept, notes, mail_of, moments, Call, outside_of}
use Rattle.rx_live.proofs.Common.{IsStepOf, IsForcedOn, stays, more, notes-push, Data, Items, Task, plain, open_holding, Order, Command, using, open_node, hold}
use Rattle.rx_live.proofs.Common.{lease, give_back, make_hub, connect, drain, CarriesSoundly, checkpoint, State, Request, stands, hub_request, Accepts}
use Rattle.rx_live.proofs.Common.{Accepted, Session}
use Rattle.rx_live.proofs.Common.{hub_by_name, Carries, IsAlike, Gives, BindsHub, to_tell, Takes, none_taken, one_taken, Renews, holder_causes, OpensHolder}
use Rattle.rx_live.proofs.Common.{RunsCommand}
use Rattle.rx_live.proofs.Common.{DoesTask, IsCarried, SendsLines, no_line, one_line, IsNewSession, IsAged, as_it_was, renewed, is_put_off, NameAct}
use Rattle.rx_live.specs.Lines.{IsAnswer, is_faulty, is_refused, is_carried, is_queried, is_listed, is_dumped, AnswersAsked, AnswersOne, is_taken, none_left}
use Rattle.rx_live.specs.Lines.{AnswersEach, one_more, AnswersValue, one_asked, many_asked, AnswersLine, no_json, is_json}
use Rattle.rx_live.specs.Sessions.{told_by, written_of, written_by, told_one, written_one, told_each, written_each, told_value, written_value, told_line}
use Rattle.rx_live.specs.Sessions.{written_line, told_in, written_in}
use Rattle.rx_live.proofs.Acts.{gave, gave_by, refused_alike}
use Rattle.rx_live.proofs.OpenedNodesHold.{opening, holding}
use Rattle.std.proofs.Common.{rules}

-- a history that goes on ------------------------------------------------------------------------------

-- its notes go on
record GoesOnNoted (h k : List Event) : Type 0 where
  pub rest : List Mail
  pub is : notes k ≡ notes h ++ rest

noted_none : (h : List Event) → GoesOnNoted h h
noted_none h = record { rest = []; is = sym (append-nil (notes h)) }

noted_on : {h k l : List Event} → GoesOnNoted h k → GoesOnNoted k l → GoesOnNoted h l
noted_on {h} p q = record { rest = p.rest ++ q.rest; is = q.is ∙ ap (λ (ms : List Mail). ms ++ q.rest) p.is ∙ append_assoc (notes h) p.rest q.rest }

noted_events : (h es : List Event) → GoesOnNoted h (h ++ es)
noted_events h [] = record { rest = []; is = ap notes (append-nil h) ∙ sym (append-nil (notes h)) }
noted_events h (e ∷ es) =
    let first : GoesOnNoted h (h ++ e ∷ []) = record { rest = mail_of h e; is = notes-push h e } in
    subst (λ (k : List Event). GoesOnNoted h k) (append_assoc h (e ∷ []) es) (noted_on first (noted_events (h ++ e ∷ []) es))

noted_forced : (base : Kept) → {h k : List Event} → IsForcedOn base h k → GoesOnNoted h k
noted_forced base {h} stays = noted_none h
noted_forced base (more {h} {k} {e} before is_forced) = noted_on (noted_forced base before) (record { rest = mail_of k e; is = notes-push k e })

noted_step : (base : Kept) (h k : List Event) (call : Call) → IsStepOf base h call k → GoesOnNoted h k
noted_step base h k call step = noted_on (noted_events h (outside_of h call)) (noted_forced base step.forced)

-- a session that goes on ------------------------------------------------------------------------------

-- no more notes were handed out than there are
abbrev IsBehind : Session → Type 0
IsBehind s = s.book.given ≤ length (notes s.book.history)

-- the notes of its events are to be told behind those that were
record Owes (old new : Session) : Type 0 where
  pub goes : GoesOnNoted old.book.history new.book.history
  pub owed : to_tell new ≡ to_tell old ++ goes.rest

owes_more : (old new : Session) → GoesOnNoted old.book.history new.book.history → new.book.given ≡ old.book.given → new.untold ≡ old.untold → IsBehind old →
    Owes old new
owes_more old new goes given untold behind =
    let before : List Mail = notes old.book.history in
    let front : List Mail = option_to_list old.untold in
    record {
      goes = goes;
      owed = (λ i. option_to_list (untold i) ++ drop (given i) (goes.is i))
          ∙ ap (λ (ms : List Mail). front ++ ms) (drop-append-le old.book.given before goes.rest behind)
          ∙ sym (append_assoc front (drop old.book.given before) goes.rest);
    }

owes_call : (old new : Session) (asked : Request) → Accepts old.book asked new.book → new.untold ≡ old.untold → IsBehind old → Owes old new
owes_call old new asked accepts untold behind = search (rules, owes_more, noted_step, behind)

-- a command -------------------------------------------------------------------------------------------

owes_given : (old new : Session) (asked : Option Request) (taken : Bool) (bound : Session → Type 0) →
    Gives stands Accepts old asked taken bound Accepted new → (bound new → new.untold ≡ old.untold) → IsBehind old → Owes old new
owes_given old new asked taken bound gives untold behind =
    let given = gave old new asked taken bound gives in owes_call old new given.call given.does (untold given.binds) behind

owes_carried : (old new : Session) (asked : Option Request) → CarriesSoundly old asked Accepted new → IsBehind old → Owes old new
owes_carried old new asked goes = by_asked asked goes.carries where
  by_asked : (o : Option Request) → Carries old o Accepted new → IsBehind old → Owes old new
  by_asked None carries behind = let e = carries.0 in absurd (cc)
  by_asked (Some call) carries behind = owes_call old new call carries.0 (ap (λ (s : Session). s.untold) carries.1) behind

owes_same : (old new : Session) → new ≡ old → IsBehind old → Owes old new
owes_same old new same behind =
    owes_more old new (subst (λ (s : Session). GoesOnNoted old.book.history s.book.history) (sym same) (noted_none old.book.history))
    (ap (λ (s : Session). s.book.given) same) (ap (λ (s : Session). s.untold) same) behind

-- a task goes on with the notes, or begins anew behind a checkpoint
data DoesNoted (old new : Session) (t : Task) : Type 0 where
  goes_on : ((before after : List Mail) → written_of t before after ≡ drop (length before) after) → Owes old new → DoesNoted old new t
  begins : ((before after : List Mail) → written_of t before after ≡ after) → Renews old new → DoesNoted old new t

noted_run : (old new : Session) (c : Command) → RunsCommand old c Accepted new → IsBehind old → DoesNoted old new (plain c)
noted_run old new (using name site res) runs behind =
    goes_on (λ b a. refl) (owes_given old new _ _ _ runs.gives (λ binds. ap (λ (s : Session). s.untold) binds.rest) behind)
noted_run old new (hold node res) runs behind =
    goes_on (λ b a. refl) (owes_given old new _ _ _ runs.gives (λ binds. ap (λ (s : Session). s.untold) binds.rest) behind)
noted_run old new (open_node name site sort) runs behind =
    goes_on (λ b a. refl) (owes_given old new _ _ _ runs.gives (λ binds. ap (λ (s : Session). s.untold) binds.rest) behind)
noted_run old new (lease res name) runs behind =
    goes_on (λ b a. refl) (owes_given old new _ _ _ runs.gives (λ binds. ap (λ (s : Session). s.untold) binds.rest) behind)
noted_run old new (give_back name) runs behind =
    goes_on (λ b a. refl) (owes_given old new _ _ _ runs.gives (λ binds. ap (λ (s : Session). s.untold) binds.rest) behind)
noted_run old new (make_hub name mode) runs behind =
    goes_on (λ b a. refl) (owes_given old new (Some (hub_request mode)) (is_some (hub_by_name old name)) (BindsHub old name) runs.gives
    (λ binds. ap (λ (s : Session). s.untold) binds.rest) behind)
noted_run old new (connect hub name) runs behind =
    goes_on (λ b a. refl) (owes_given old new _ _ _ runs.gives (λ binds. ap (λ (s : Session). s.untold) binds.rest) behind)
noted_run old new drain runs behind = goes_on (λ b a. refl) (owes_same old new runs.1 behind)
noted_run old new checkpoint runs behind = begins (λ b a. refl) runs
noted_run old new _ runs behind = goes_on (λ b a. refl) (owes_carried old new _ runs behind)

noted_do : (old new : Session) (t : Task) → DoesTask old t Accepted new → IsBehind old → DoesNoted old new t
noted_do old new (plain c) does behind = noted_run old new c does behind
noted_do old new (open_holding name site sort res) does behind =
    let given = gave_by holder_causes OpensHolder old new _ _ _ does.gives in
    let did = given.does in
    let goes : GoesOnNoted old.book.history new.book.history =
    noted_on (noted_step old.book.base old.book.history did.middle.history (opening did) did.opens.step)
    (noted_step did.middle.base did.middle.history new.book.history (holding did) did.holds.step) in
    goes_on (λ b a. refl) (owes_more old new goes (did.holds.given ∙ did.opens.given) (ap (λ (s : Session). s.untold) given.binds.opened.rest) behind)

-- what is released -----------------------------------------------------------------------------------

noted_takes : {a b : State} → Takes a b → GoesOnNoted a.history b.history
noted_takes {a} none_taken = noted_none a.history
noted_takes {a} {b} (one_taken mid r before accepts) = search (rules, noted_on, noted_step, noted_takes before)

given_takes : {a b : State} → Takes a b → b.given ≡ a.given
given_takes none_taken = refl
given_takes (one_taken mid r before accepts) = accepts.given ∙ given_takes before

-- a line ----------------------------------------------------------------------------------------------

-- of what was to be told and what it wrote an answer tells the front
record Balances (old new : Session) (written told : List Mail) : Type 0 where
  pub is : to_tell old ++ written ≡ told ++ to_tell new

alike_tells : (old new : Session) → IsAlike old new → to_tell new ≡ to_tell old
alike_tells old new alike = λ i. option_to_list (alike.untold i) ++ drop (alike.book i).given (notes (alike.book i).history)

nil_last : (xs ys : List Mail) → xs ++ ys ≡ [] → ys ≡ []
nil_last [] ys is = is
nil_last (x ∷ xs) ys is = absurd (cc)

-- behind a checkpoint there are no notes yet
begun_silent : (old new : Session) → Renews old new → notes new.book.history ≡ []
begun_silent old new renews = search (rules, nil_last, option_to_list, drop)

-- what was told and released after the task was carried out
module _ (old new : Session) (t : Task) (text : List ℕ) (acts : List NameAct) (carried : IsCarried old t text acts new) where
  later : Owes carried.tells.mid carried.left
  later = owes_more carried.tells.mid carried.left (noted_takes carried.tells.releases.takes) (given_takes carried.tells.releases.takes)
      (ap (λ (s : Session). s.untold) carried.tells.releases.rest) carried.tells.sound.kept.given

  all_notes : notes new.book.history ≡ notes carried.done.book.history ++ later.goes.rest
  all_notes = search rules

  last_told : (front : List Mail) → to_tell carried.done ≡ front → front ++ later.goes.rest ≡ carried.tells.tells.mails ++ to_tell new
  last_told front is = search (rules, is, append_assoc, alike_tells)

  carried_balances : IsBehind old → Balances old new (written_of t (notes old.book.history) (notes new.book.history)) carried.tells.tells.mails
  carried_balances behind = by_run (noted_do old carried.done t carried.does behind) where
    before : List Mail
    before = notes old.book.history

    by_run : DoesNoted old carried.done t → Balances old new (written_of t (notes old.book.history) (notes new.book.history)) carried.tells.tells.mails
    by_run (goes_on is one) =
        let all : notes new.book.history ≡ before ++ (one.goes.rest ++ later.goes.rest) =
        all_notes ∙ ap (λ (ms : List Mail). ms ++ later.goes.rest) one.goes.is ∙ append_assoc before one.goes.rest later.goes.rest in
        let wrote : written_of t before (notes new.book.history) ≡ one.goes.rest ++ later.goes.rest =
        is before (notes new.book.history) ∙ ap (drop (length before)) all ∙ drop_at before (one.goes.rest ++ later.goes.rest) (length before) refl in
        record {
          is = ap (λ (ms : List Mail). to_tell old ++ ms) wrote ∙ sym (append_assoc (to_tell old) one.goes.rest later.goes.rest)
              ∙ last_told (to_tell old ++ one.goes.rest) one.owed;
        }
    by_run (begins is renews) =
        let wrote : written_of t before (notes new.book.history) ≡ later.goes.rest =
        is before (notes new.book.history) ∙ all_notes ∙ ap (λ (ms : List Mail). ms ++ later.goes.rest) (begun_silent old carried.done renews) in
        record { is = (λ i. renews.told i ++ wrote i) ∙ last_told [] renews.untold }

-- where nothing was written or told
idle : (old new : Session) → to_tell new ≡ to_tell old → Balances old new [] []
idle old new same = record { is = append-nil (to_tell old) ∙ sym same }

answer_balances : (old new : Session) (asked : Option Order) (text : List ℕ) (acts : List NameAct) → IsBehind old
    → (answer : IsAnswer old asked text acts new) →
    Balances old new (written_by old new asked text acts answer) (told_by old new asked text acts answer)
answer_balances old new asked text acts behind (is_faulty told faulty is) = idle old old refl
answer_balances old new asked text acts behind (is_refused t why order does by_open is) = idle old new (alike_tells old new (refused_alike old new t why does))
answer_balances old new asked text acts behind (is_carried t order carried) = carried_balances old new t text acts carried behind
answer_balances old new asked text acts behind (is_queried node order is) = idle old old refl
answer_balances old new asked text acts behind (is_listed order) = idle old old refl
answer_balances old new asked text acts behind (is_dumped order is) = idle old old refl

-- a checkpoint before it
aged_tells : {asked : Option Order} (old aged : Session) → IsAged asked old aged → to_tell aged ≡ to_tell old
aged_tells {asked} old aged as_it_was = refl
aged_tells {asked} old aged (renewed mid c order full renews) = renews.untold ∙ sym renews.told ∙ alike_tells old mid full.alike

aged_behind : {asked : Option Order} (old aged : Session) → IsAged asked old aged → IsBehind old → IsBehind aged
aged_behind {asked} old aged as_it_was behind = behind
aged_behind {asked} old aged (renewed mid c order full renews) behind = let none = renews.book.given in omega (arith, none)

balances_aged : {asked : Option Order} (old new : Session) (text : List ℕ) → IsBehind old → (one : AnswersAsked old asked text new) →
    Balances old new (written_by one.aged new asked text one.acts one.answer) (told_by one.aged new asked text one.acts one.answer)
balances_aged {asked} old new text behind one =
    let wrote : List Mail = written_by one.aged new asked text one.acts one.answer in
    let balances = answer_balances one.aged new asked text one.acts (aged_behind old one.aged one.ages behind) one.answer in
    record { is = ap (λ (ms : List Mail). ms ++ wrote) (sym (aged_tells old one.aged one.ages)) ∙ balances.is }

-- an array -------------------------------------------------------------------------------------------

-- what balances, and goes on
record BalancesOn (old new : Session) (written told : List Mail) : Type 0 where
  pub balances : Balances old new written told
  pub behind : IsBehind new

alike_behind : (old new : Session) → IsAlike old new → IsBehind old → IsBehind new
alike_behind old new alike behind = subst (λ (b : State). b.given ≤ length (notes b.history)) (sym alike.book) behind

one_balances : {old new : Session} {asked : Option Order} {text : List ℕ} {acts : List NameAct} → IsBehind old → (one : AnswersOne old asked text acts new) →
    BalancesOn old new (written_one one) (told_one one)
one_balances {old} {new} {asked} {text} behind (is_taken one) = record { balances = balances_aged old new text behind one; behind = one.sound.kept.given }
one_balances {old} {new} {asked} behind (is_put_off waits) = record {
  balances = idle old new (alike_tells waits.aged new waits.alike ∙ aged_tells old waits.aged waits.ages);
  behind = alike_behind waits.aged new waits.alike (aged_behind old waits.aged waits.ages behind);
}

both_balance : (a b c : Session) (xs ys us vs : List Mail) → Balances a b xs us → Balances b c ys vs → Balances a c (xs ++ ys) (us ++ vs)
both_balance a b c xs ys us vs p q = record {
  is = sym (append_assoc (to_tell a) xs ys) ∙ ap (λ (ms : List Mail). ms ++ ys) p.is ∙ append_assoc us (to_tell b) ys
      ∙ ap (λ (ms : List Mail). us ++ ms) q.is ∙ sym (append_assoc us vs (to_tell c));
}

each_balances : {old new : Session} {ds : Items} {texts : List (List ℕ)} {acts : List NameAct} → IsBehind old → (each : AnswersEach old ds texts acts new) →
    BalancesOn old new (written_each each) (told_each each)
each_balances {old} behind none_left = record { balances = idle old old refl; behind = behind }
each_balances {old} {new} behind (one_more mid one rest) =
    let first : BalancesOn old mid (written_one one) (told_one one) = one_balances behind one in
    let later : BalancesOn mid new (written_each rest) (told_each rest) = each_balances first.behind rest in
    record {
      balances = both_balance old mid new (written_one one) (written_each rest) (told_one one) (told_each rest) first.balances later.balances;
      behind = later.behind;
    }

-- a line
value_balances : {old new : Session} {d : Data} {text : List ℕ} {acts : List NameAct} → IsBehind old → (answers : AnswersValue old d text acts new) →
    Balances old new (written_value answers) (told_value answers)
value_balances {old} {new} {d} {text} behind (one_asked single one) = balances_aged old new text behind one
value_balances behind (many_asked ds texts several each is) = (each_balances behind each).balances

line_balances : {old new : Session} {line text : List ℕ} {acts : List NameAct} → IsBehind old → (answer : AnswersLine old line text acts new) →
    Balances old new (written_line answer) (told_line answer)
line_balances {old} behind (no_json told none is) = idle old old refl
line_balances behind (is_json d json answers) = value_balances behind answers

-- many lines ------------------------------------------------------------------------------------------

all_balance : {first last : Session} {acts : List NameAct} → IsBehind first → (goes : SendsLines first acts last)
    → Balances first last (written_in goes) (told_in goes)
all_balance {first} behind no_line = idle first first refl
all_balance {first} {last} behind (one_line line text new sent rest) =
    both_balance first new last (written_line sent.answer) (written_in rest) (told_line sent.answer) (told_in rest)
    (line_balances behind sent.answer) (all_balance sent.sound.kept.given rest)

no_notes : notes [] ≡ []
unfolding notes moments
no_notes = refl

pub session_told : (first last : Session) (acts : List NameAct) → IsNewSession first → (goes : SendsLines first acts last)
    → written_in goes ≡ told_in goes ++ to_tell last
session_told first last acts fresh goes =
    let silent : notes first.book.history ≡ [] = ap notes fresh.history ∙ no_notes in
    let behind : IsBehind first = let g = fresh.given in omega (arith, g) in
    let nothing : to_tell first ≡ [] = λ i. option_to_list (fresh.untold i) ++ drop (fresh.given i) (silent i) in
    ap (λ (ms : List Mail). ms ++ written_in goes) (sym nothing) ∙ (all_balance behind goes).is
