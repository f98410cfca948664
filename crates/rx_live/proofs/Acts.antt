-- What a command hands in, and what the lines of a session come to.
use Rattle.rx_live.proofs.Common.{◌≡◌, ℕ, Bool, true, false, cond, List, [], ◌++◌, map, Option, Some, None, refl, sym, ap, subst, is_some, ◌||◌, Name, bytes_eq}
use Rattle.rx_live.proofs.Common.{option_map_or, Command, Refusal, State, Request, stands, Accepts, Task, NameAct, plain, Cause, Accepted, Refused, spot_of}
use Rattle.rx_live.proofs.Common.{Session, has_resource, Carries, CarriesSoundly, IsAlike, Gives, NamesOne, released, with_held, LeadsNames, no_act, hands_in}
use Rattle.rx_live.proofs.Common.{IsKept, RunsCommand}
use Rattle.rx_live.proofs.Common.{DoesTask, handed_by, IsCarried, EndsSession, SendsLines, no_line, one_line, IsNewSession}
use Rattle.rx_live.proofs.AcceptedBindsNames.{or_false, alike_same}
use Rattle.rx_live.proofs.Laws.HeldStaysHeld.{leads_on, leads_same, alike_held, fresh_held}
use Rattle.rx_live.proofs.SessionAfterCheckpoint.{refused_same}
use Rattle.std.proofs.Common.{rules}

-- what an accepted command says -----------------------------------------------------------------------

pub record HasGiven {A : Type 0} (did : A → Type 0) (taken : Bool) (bound : Type 0) : Type 0 where
  pub call : A
  pub does : did call
  pub free : taken ≡ false
  pub binds : bound

module _ {A : Type 0} (stand : State → A → Refusal → Bool) (accepts : State → A → State → Type 0) where
  pub gave_by : (old new : Session) (asked : Option A) (taken : Bool) (bound : Session → Type 0) → Gives stand accepts old asked taken bound Accepted new →
      HasGiven (λ call. accepts old.book call new.book) taken (bound new)
  gave_by old new None taken bound gives = let e = gives.0 in absurd (cc)
  gave_by old new (Some call) true bound gives = let e = gives.0 in absurd (cc)
  gave_by old new (Some call) false bound gives = record { call = call; does = gives.0; free = refl; binds = gives.1 }

  gave_none_by : (old new : Session) (asked : Option A) (taken : Bool) (bound : Session → Type 0) (why : Cause) →
      Gives stand accepts old asked taken bound (Refused why) new → IsAlike old new
  gave_none_by old new x2 taken bound why gives = search rules

pub gave : (old new : Session) (asked : Option Request) (taken : Bool) (bound : Session → Type 0) → Gives stands Accepts old asked taken bound Accepted new →
    HasGiven (λ call. Accepts old.book call new.book) taken (bound new)
gave = gave_by stands Accepts

gave_none : (old new : Session) (asked : Option Request) (taken : Bool) (bound : Session → Type 0) (why : Cause) →
    Gives stands Accepts old asked taken bound (Refused why) new → IsAlike old new
gave_none = gave_none_by stands Accepts

went : (old new : Session) (asked : Option Request) → Carries old asked Accepted new → new ≡ record old { book = new.book }
went old new x2 carries = search rules

-- the same names are held -----------------------------------------------------------------------------

pub same_held : (old new : Session) → new.resources ≡ old.resources → new.unnamed ≡ old.unnamed → (n : Name) → has_resource new n ≡ has_resource old n
same_held old new resources unnamed n = λ i. is_some (spot_of (resources i) n) || option_map_or (bytes_eq n) (unnamed i) false

one_held : (old new : Session) (name : Name) (number : ℕ) → NamesOne old.resources name number new.resources → new.unnamed ≡ old.unnamed →
    (n : Name) → has_resource new n ≡ with_held true name (has_resource old) n
one_held old new name number one unnamed n = search (rules, is_some, option_map_or, bytes_eq, cond)

keeps : (old new : Session) → ((n : Name) → has_resource new n ≡ has_resource old n) → LeadsNames (has_resource old) [] (has_resource new)
keeps old new same = no_act same

by_goes : (old new : Session) (asked : Option Request) → CarriesSoundly old asked Accepted new → LeadsNames (has_resource old) [] (has_resource new)
by_goes old new asked goes = search (rules, went, no_act, same_held)

-- a command that is carried out hands in what it is to hand in, which was not held
runs_hands : (old new : Session) (c : Command) → RunsCommand old c Accepted new → LeadsNames (has_resource old) (handed_by (plain c)) (has_resource new)
runs_hands old new x2 runs = search (rules, gave, or_false, hands_in, no_act, one_held, same_held, is_some, by_goes)

-- and so does a task
does_hands : (old new : Session) (t : Task) → DoesTask old t Accepted new → LeadsNames (has_resource old) (handed_by t) (has_resource new)
does_hands old new x2 does = search (rules, runs_hands, gave_by, or_false, hands_in, no_act, one_held)

-- all of a carried line
pub carried_leads : (old new : Session) (t : Task) (text : List ℕ) (acts : List NameAct) → IsCarried old t text acts new →
    LeadsNames (has_resource old) acts (has_resource new)
carried_leads old new t text acts carried =
    let tells = carried.tells in
    let told : (n : Name) → has_resource tells.mid n ≡ has_resource carried.done n = λ n. ap (λ (s : Session). has_resource s n) tells.tells.rest in
    let after =
    leads_same (has_resource carried.done) (has_resource tells.mid) (has_resource carried.left) (map released tells.names) told tells.releases.leads in
    let all = leads_on (does_hands old carried.done t carried.does) after in
    subst (λ (done : List NameAct). LeadsNames (has_resource old) done (has_resource new)) (sym carried.acts_are)
    (subst (λ (last : Name → Bool). LeadsNames (has_resource old) (handed_by t ++ map released tells.names) last)
    (λ i n. sym (alike_held carried.left new carried.alike n) i) all)

-- sessions --------------------------------------------------------------------------------------------

pub goes_leads : {old last : Session} {acts : List NameAct} → SendsLines old acts last → LeadsNames (has_resource old) acts (has_resource last)
goes_leads no_line = no_act (λ n. refl)
goes_leads (one_line line text new sent rest) = leads_on sent.leads (goes_leads rest)

-- every name that is handed in is released once, to the last line
pub session_kept : (first last new : Session) (acts : List NameAct) (text : List ℕ) → IsNewSession first → SendsLines first acts last
    → (ends : EndsSession last text new) →
    IsKept (acts ++ map released ends.names)
session_kept first last new acts text fresh goes ends = search (rules, leads_same, map, fresh_held, leads_on, goes_leads)

-- a refused command ----------------------------------------------------------------------------------

went_none : (old new : Session) (asked : Option Request) (why : Cause) → Carries old asked (Refused why) new → new ≡ old
went_none old new x2 why carries = search rules

same_alike : (old new : Session) → new ≡ old → IsAlike old new
same_alike old new same = subst (λ (s : Session). IsAlike old s) (sym same) (alike_same old)

command_alike : (old new : Session) (c : Command) (why : Cause) → RunsCommand old c (Refused why) new → IsAlike old new
command_alike old new x2 why runs = search (rules, gave_none, is_some, same_alike, refused_same, went_none)

pub refused_alike : (old new : Session) (t : Task) (why : Cause) → DoesTask old t (Refused why) new → IsAlike old new
refused_alike old new x2 why does = search (rules, command_alike, gave_none_by)
