-- A command that takes no memory is never refused Full.
use Rattle.rx_live.proofs.Common.{◌≡◌, ℕ, inl, inr, Bool, true, false, List, [], ◌∷◌, Option, None, Some, option_map, refl, sym, ◌∙◌, subst, Refusal, Full, NoMemory, IsRefusal}
use Rattle.rx_live.proofs.Common.{if◌then◌else◌, State, Request, stands, Cause, Book, NoName, NameTaken, Refused, Session, Carries, CarriesSoundly, RunsCommand}
use Rattle.rx_live.proofs.Common.{GivesNames, FreesLease}
use Rattle.rx_live.proofs.Common.{node_by_name, resource_by_name, hub_by_name, lease_by_name, give_back_request, is_full_cause, same_Some, LeaseKey}
use Rattle.rx_event.specs.Refusals.{first_of_these, refusal_order}
use Rattle.rx_event.specs.Causes.{by_key, by_res_key, by_lease_key, causes}
use Rattle.rx_book.specs.Requests.{remove_request, end_request, decline_request, dispose_request, disconnect_request}
use Rattle.rx_note.specs.declared.note.Terminal.TheVariants.{Completed}
use Rattle.rx_line.specs.declared.free.FreeCommand.{FreeCommand}
use Rattle.rx_line.specs.declared.free.FreeCommand.TheVariants.{Remove, Return, End, Decline, Dispose, Disconnect, Drain}
use Rattle.rx_line.specs.FreeCommands.{free_command_of}

-- the first cause stands
stands_here : (stand : Refusal → Bool) (cause why : Refusal) (rest : List Refusal) (b : Bool) → stand cause ≡ b
    → (first_of_these stand rest ≡ Some why → stand why ≡ true) → (if b then Some cause else first_of_these stand rest) ≡ Some why → stand why ≡ true
stands_here stand cause why rest true here more is = subst (λ (r : Refusal). stand r ≡ true) (same_Some cause why is) here
stands_here stand cause why rest false here more is = more is

stands_first : (stand : Refusal → Bool) (why : Refusal) (causes : List Refusal) → first_of_these stand causes ≡ Some why → stand why ≡ true
stands_first stand why [] is = absurd (cc)
stands_first stand why (cause ∷ rest) is = stands_here stand cause why rest (stand cause) refl (stands_first stand why rest) is

-- what is not full
abbrev IsNotFull : Refusal → Type 0
IsNotFull r = r ≡ Full → ⊥

full_by : (r : Refusal) → IsNotFull r → is_full_cause (Book r) ≡ false
full_by Full differs = absurd (differs refl)
full_by _ differs = refl

not_full : (stand : Refusal → Bool) (why : Refusal) → stand Full ≡ false → IsRefusal stand why → is_full_cause (Book why) ≡ false
not_full stand why none refusal = full_by why (λ e. by_case e refusal) where
  by_case : why ≡ Full → IsRefusal stand why → ⊥
  by_case e (inl first) = let there : stand Full ≡ true = subst (λ (r : Refusal). stand r ≡ true) e (stands_first stand why refusal_order first) in absurd (cc)
  by_case e (inr want) = let other : NoMemory ≡ Full = sym want.1 ∙ e in absurd (cc)

-- where no key is known, no more stands
by_key_full : (known : Bool) (stand : Refusal → Bool) → stand Full ≡ false → by_key known stand Full ≡ false
by_key_full true stand none = none
by_key_full false stand none = refl

by_res_full : (known : Bool) (stand : Refusal → Bool) → stand Full ≡ false → by_res_key known stand Full ≡ false
by_res_full true stand none = none
by_res_full false stand none = refl

by_lease_full : (known : Bool) (stand : Refusal → Bool) → stand Full ≡ false → by_lease_key known stand Full ≡ false
by_lease_full true stand none = none
by_lease_full false stand none = refl

-- of a call with a key
abbrev NeverFull : State → Request → Type 0
NeverFull s asked = stands s asked Full ≡ false

-- its causes, where the key is known
abbrev causes_of : State → Request → Refusal → Bool
causes_of s asked = causes s.base s.history s.limit asked.is_fresh asked.call

cause_by : (w : Cause) → Refused w ≡ Refused NoName → is_full_cause w ≡ false
cause_by NoName is = refl
cause_by NameTaken is = refl
cause_by (Book r) is = absurd (cc)

carried_by : (old new : Session) (asked : Option Request) (why : Cause) → ((r : Request) → asked ≡ Some r → NeverFull old.book r)
    → Carries old asked (Refused why) new → is_full_cause why ≡ false
carried_by old new None why never carries = cause_by why carries.0
carried_by old new (Some r) NoName never carries = refl
carried_by old new (Some r) NameTaken never carries = refl
carried_by old new (Some r) (Book why) never carries = not_full (stands old.book r) why (never r refl) carries.0

by_name : {K : Type 0} (old new : Session) (f : K → Request) (key : Option K) (why : Cause) → ((k : K) → NeverFull old.book (f k))
    → CarriesSoundly old (option_map f key) (Refused why) new → is_full_cause why ≡ false
by_name old new f None why never goes = carried_by old new None why (λ r is. absurd (cc)) goes.carries
by_name old new f (Some k) why never goes =
    carried_by old new (Some (f k)) why (λ r is. subst (NeverFull old.book) (same_Some (f k) r is) (never k)) goes.carries

returned : (old new : Session) (name : List ℕ) (key : Option Request) (why : Cause) → ((r : Request) → key ≡ Some r → NeverFull old.book r)
    → GivesNames old key false (FreesLease old name) (Refused why) new → is_full_cause why ≡ false
returned old new name None why never gives = cause_by why gives.gives.0
returned old new name (Some r) NoName never gives = refl
returned old new name (Some r) NameTaken never gives = refl
returned old new name (Some r) (Book why) never gives = not_full (stands old.book r) why (never r refl) gives.gives.0

lease_never : (s : State) (key : Option LeaseKey) (r : Request) → option_map (give_back_request s) key ≡ Some r → NeverFull s r
lease_never s None r is = absurd (cc)
lease_never s (Some k) r is = subst (λ (q : Request). NeverFull s q) (same_Some (give_back_request s k) r is)
    (by_lease_full (give_back_request s k).is_known (causes_of s (give_back_request s k)) refl)

pub never_full : (old new : Session) (c : FreeCommand) (why : Cause) → RunsCommand old (free_command_of c) (Refused why) new → is_full_cause why ≡ false
never_full old new (Remove res) why runs =
    by_name old new (remove_request old.book) (resource_by_name old res.now) why
    (λ k. by_res_full (remove_request old.book k).is_known (causes_of old.book (remove_request old.book k)) refl) runs
never_full old new (End node) why runs =
    by_name old new (λ k. end_request old.book k Completed) (node_by_name old node.now) why
    (λ k. by_key_full (end_request old.book k Completed).is_known (causes_of old.book (end_request old.book k Completed)) refl) runs
never_full old new (Decline node) why runs =
    by_name old new (decline_request old.book) (node_by_name old node.now) why
    (λ k. by_key_full (decline_request old.book k).is_known (causes_of old.book (decline_request old.book k)) refl) runs
never_full old new (Dispose node) why runs =
    by_name old new (dispose_request old.book) (node_by_name old node.now) why
    (λ k. by_key_full (dispose_request old.book k).is_known (causes_of old.book (dispose_request old.book k)) refl) runs
never_full old new (Disconnect hub) why runs =
    by_name old new disconnect_request (hub_by_name old hub.now) why
    (λ k. by_key_full (disconnect_request k).is_known (causes_of old.book (disconnect_request k)) refl) runs
never_full old new (Return lease) why runs =
    returned old new lease.now (option_map (give_back_request old.book) (lease_by_name old lease.now)) why
    (lease_never old.book (lease_by_name old lease.now)) runs
never_full old new Drain why runs = absurd (cc)
