-- A register after one more event, and after a note that was handed out.
use Rattle.std.proofs.Common.{◌≡◌, ℕ, zero, suc, ◌+◌, ◌-◌, ◌<◌, ◌≤◌, Bool, List, [], ◌∷◌, ◌++◌, length, take, drop, Option, Some}
use Rattle.std.proofs.Common.{None, cond, refl, sym, ap, subst, ◌∙◌, arith, slice_get, length-append, length-drop, take-append-drop, rules}
use Rattle.std.specs.Option.{option_to_list}
use Rattle.std.specs.VecDeque.{deque_len, deque_capacity}
use Rattle.std.specs.declared.collections.VecDeque.{VecDeque}
use Rattle.std.specs.declared.alloc.Global.{Global}
use Rattle.std.proofs.lemmas.List.{drop-append-le, drop_all, take_all}
use Rattle.rx_event.specs.declared.event.Event.{Event}
use Rattle.rx_event.specs.declared.mail.Mail.{Mail}
use Rattle.rx_event.specs.Events.{makes_resource, is_item, is_take}
use Rattle.rx_event.specs.Notes.{notes, mail_of}
use Rattle.rx_event.specs.Moments.{moments}
use Rattle.rx_event.specs.Kept.{Kept}
use Rattle.rx_event.specs.Kept.{nothing_kept, shown}
use Rattle.rx_event.specs.Totals.{debt}
use Rattle.rx_event.specs.Lawful.{MayFollow}
use Rattle.rx_event.specs.Forced.{IsSettled}
use Rattle.rx_event.specs.Bases.{base_of, Agree}
use Rattle.rx_event.proofs.Laws.Bases.{base_length, length_base}
use Rattle.rx_event.proofs.Laws.Checkpoints.{base_lawful, kept_agrees, same_debt}
use Rattle.rx_event.proofs.Laws.CheckpointMarks.{base_untold}
use Rattle.rx_event.proofs.Laws.Counts.{notes-push}
use Rattle.rx_event.proofs.Laws.Begin.{shown_nothing, IsLawful_nothing}
use Rattle.rx_event.proofs.Laws.Lawful.{IsLawful-push}
use Rattle.rx_event.proofs.Laws.Totals.{item_count-push, accepted_count-push, taken_count-push}
use Rattle.rx_register.specs.declared.register.Register.TheInside.{Inside}
use Rattle.rx_register.specs.State.{State, Rebases, greatest_limit}
use Rattle.rx_register.specs.Ties.{state_of, IsTied}
use Rattle.rx_register.proofs.Laws.Empty.{debt_empty}

-- so many notes are behind those that were told
pub told_length : (items : List Mail) (told : ℕ) (ms : List Mail) → told ≤ length items → drop told items ≡ ms → length items ≡ told + length ms
told_length items told ms l same =
    let d = length-drop told items in
    let e = ap (length {A = Mail}) same in
    omega arith

-- the queue is of the notes that were not handed out
queue_after : (ns ms items : List Mail) (told : ℕ) → told ≤ length ns → take told items ≡ drop (length ns - told) ns → drop told items ≡ ms →
    items ≡ drop (length ns - told) (ns ++ ms)
queue_after ns ms items told l front behind =
    sym (take-append-drop told items) ∙
    ap (λ (x : List Mail). x ++ drop told items) front ∙
    ap (λ (x : List Mail). drop (length ns - told) ns ++ x) behind ∙
    sym (drop-append-le (length ns - told) ns ms (omega arith))

-- how many were handed out stays
pub given_after : (ns ms : List Mail) (told items : ℕ) → told ≤ length ns → items ≡ told + length ms → length (ns ++ ms) - items ≡ length ns - told
given_after ns ms told items l is = omega (arith, length-append ns ms)

-- b is a after the event
pub record IsWritten (a b : Inside) (e : Event) : Type 0 where
  pub next : MayFollow a.history.base a.history.events e
  pub told : drop a.told a.mail.items ≡ mail_of a.history.events e
  pub base : b.history.base ≡ a.history.base
  pub events : b.history.events ≡ a.history.events ++ e ∷ []
  pub limit : b.history.limit ≡ a.history.limit
  pub own_limit : b.limit ≡ a.limit
  pub items : b.item_total ≡ a.item_total + cond (is_item e) 1 0
  pub accepted : b.accepted_total ≡ a.accepted_total + cond (makes_resource e) 1 0
  pub taken : b.taken_total ≡ a.taken_total + cond (is_take e) 1 0
  pub room : b.history.room + 1 ≡ a.history.room
  pub spare : b.spare ≡ a.spare
  pub set_aside : a.spare < a.history.room
  pub mail : b.mail.items ≡ a.mail.items
  pub all_told : b.told ≡ length a.mail.items

at_most_one : (test : Bool) → cond {A = ℕ} test 1 0 ≤ 1
at_most_one x0 = search rules

pub written : (a b : Inside) (e : Event) → IsTied a → IsWritten a b e → IsTied b
written a b e r w = record {
  lawful = rw (w.base, w.events) (IsLawful-push a.history.base h e r.lawful w.next);
  limited = rw w.limit r.limited;
  limit = w.own_limit ∙ r.limit ∙ sym w.limit;
  begun = rw (w.base, w.events) (let l = r.begun in omega (arith, length-append h (e ∷ [])));
  placed = rw w.base r.placed;
  closing = rw (w.base, w.limit) r.closing;
  within = rw (w.base, w.events, w.limit) (let l = r.within in let one = w.room in omega (arith, length-append h (e ∷ [])));
  spare = let one = w.room in let same = w.spare in let l = w.set_aside in omega arith;
  item_total = rw (w.base, w.events) (w.items ∙ ap (λ (n : ℕ). n + cond (is_item e) 1 0) r.item_total ∙ sym (item_count-push a.history.base h e));
  accepted_total = rw (w.base, w.events) (w.accepted ∙ ap (λ (n : ℕ). n + cond (makes_resource e) 1 0) r.accepted_total ∙
      sym (accepted_count-push a.history.base h e));
  taken_total = rw (w.base, w.events) (w.taken ∙ ap (λ (n : ℕ). n + cond (is_take e) 1 0) r.taken_total ∙ sym (taken_count-push a.history.base h e));
  few_items = rw (w.base, w.events) (let p = item_count-push a.history.base h e in let few = r.few_items in let one = at_most_one (is_item e) in
      omega (arith, length-append h (e ∷ [])));
  few_accepted = rw (w.base, w.events) (let p = accepted_count-push a.history.base h e in let few = r.few_accepted in
      let one = at_most_one (makes_resource e) in omega (arith, length-append h (e ∷ [])));
  few_taken = rw (w.base, w.events) (let p = taken_count-push a.history.base h e in let few = r.few_taken in let one = at_most_one (is_take e) in
      omega (arith, length-append h (e ∷ [])));
  some_told = rw (w.events, w.all_told, notes-push h e) (let s = r.some_told in let n = count in omega (arith, length-append (notes h) (mail_of h e)));
  queued = rw (w.all_told, w.mail) (omega arith);
  mail =
      rw (
        w.mail,
        w.all_told,
        take_all (length a.mail.items) a.mail.items (omega arith),
        w.events,
        notes-push h e,
        given_after (notes h) (mail_of h e) a.told (length a.mail.items) r.some_told count,
      )
      (queue_after (notes h) (mail_of h e) a.mail.items a.told r.some_told r.mail w.told);
}
  where
    h : List Event
    h = a.history.events

    count : length a.mail.items ≡ a.told + length (mail_of h e)
    count = told_length a.mail.items a.told (mail_of h e) r.queued w.told

-- handed out ----------------------------------------------------------------------------------------

pub at_drop : {X : Type 0} (xs : List X) (i : ℕ) → i < length xs → (x : X) × (slice_get xs i ≡ Some x) × (drop i xs ≡ x ∷ drop (suc i) xs)
at_drop [] i l = absurd (omega arith)
at_drop (x ∷ xs) zero l = (x, refl, refl)
at_drop (x ∷ xs) (suc i) l = at_drop xs i (omega arith)

same_parts : {X : Type 0} (x y : X) (xs ys : List X) → x ∷ xs ≡ y ∷ ys → (x ≡ y) × (xs ≡ ys)
same_parts x y xs ys e = (cc, cc)

-- what the first of the queue is
pub record IsPopped (ns items rest : List Mail) (told : ℕ) (o : Option Mail) : Type 0 where
  pub value : o ≡ slice_get ns (length ns - told)
  pub given : length ns - (told - 1) ≡ (length ns - told) + 1
  pub queued : told - 1 ≤ length rest
  pub mail : take (told - 1) rest ≡ drop (length ns - (told - 1)) ns
  pub pending : drop (told - 1) rest ≡ drop told items

pub popped : {ns items : List Mail} (rest : List Mail) (told : ℕ) (x : Mail) → items ≡ x ∷ rest → 0 < told → told ≤ length items → told ≤ length ns →
    take told items ≡ drop (length ns - told) ns → IsPopped ns items rest told (Some x)
popped rest zero x is some l m same = absurd (omega arith)
popped {ns} rest (suc t) x is some l m same = record {
  value = ap (λ (y : Mail). Some y) first ∙ sym here.1;
  given = omega arith;
  queued = let k = ap (length {A = Mail}) is in omega arith;
  mail = rw less (behind ∙ ap (λ (g : ℕ). drop g ns) next);
  pending = rw less (ap (drop (suc t)) (sym is));
}
  where
    less : suc t - 1 ≡ t
    less = omega arith

    here : (y : Mail) × (slice_get ns (length ns - suc t) ≡ Some y) × (drop (length ns - suc t) ns ≡ y ∷ drop (suc (length ns - suc t)) ns)
    here = at_drop ns (length ns - suc t) (omega arith)

    both : x ∷ take t rest ≡ here.0 ∷ drop (suc (length ns - suc t)) ns
    both = ap (take (suc t)) (sym is) ∙ same ∙ here.2

    first : x ≡ here.0
    first = (same_parts _ _ _ _ both).0

    behind : take t rest ≡ drop (suc (length ns - suc t)) ns
    behind = (same_parts _ _ _ _ both).1

    next : suc (length ns - suc t) ≡ length ns - t
    next = omega arith

-- the same, of what a queue answers
pub popped_first : {ns items rest : List Mail} (told : ℕ) (o : Option Mail) → items ≡ option_to_list o ++ rest → rest ≡ drop 1 items → 0 < told →
    told ≤ length items → told ≤ length ns → take told items ≡ drop (length ns - told) ns → IsPopped ns items rest told o
popped_first {rest} told (Some x) is next some l m same = popped rest told x is some l m same
popped_first {items} told None is next some l m same =
    absurd (let d = length-drop 1 items in let a = ap (length {A = Mail}) is in let b = ap (length {A = Mail}) next in omega arith)

-- and what is left of the notes once the first of them was handed out
pub popped_inside : (a : Inside) (mail : VecDeque Mail Global) {o : Option Mail} → IsTied a →
    IsPopped (notes a.history.events) a.mail.items mail.items a.told o → 0 < a.told → IsTied (record a { mail = mail; told = a.told - 1 })
popped_inside a mail r p some = record {
  lawful = r.lawful;
  limited = r.limited;
  begun = r.begun;
  placed = r.placed;
  closing = r.closing;
  within = r.within;
  limit = r.limit;
  spare = r.spare;
  item_total = r.item_total;
  accepted_total = r.accepted_total;
  taken_total = r.taken_total;
  few_items = r.few_items;
  few_accepted = r.few_accepted;
  few_taken = r.few_taken;
  some_told = let s = r.some_told in omega arith;
  queued = p.queued;
  mail = p.mail;
}

-- with no events
debt_nothing : debt nothing_kept (shown nothing_kept) ≡ 0
debt_nothing = ap (debt nothing_kept) shown_nothing ∙ debt_empty nothing_kept

pub tied_empty : {a : Inside} → a.history.limit ≤ greatest_limit → a.limit ≡ a.history.limit → a.history.base ≡ nothing_kept → a.history.events ≡ [] →
    a.history.room ≡ 0 → a.item_total ≡ 0 → a.accepted_total ≡ 0 → a.taken_total ≡ 0 → a.spare ≡ 0 → a.told ≡ 0 → IsTied a
unfolding shown
tied_empty {a} few own base events room i r t spare told = record {
  lawful = rw (base, events) IsLawful_nothing;
  limited = few;
  within = rw (events, room) (omega arith);
  limit = own;
  spare = omega (arith, spare);
  begun = rw base (omega arith);
  placed = rw base (omega arith);
  closing = rw base (let d = debt_nothing in omega arith);
  item_total = rw (base, events) i;
  accepted_total = rw (base, events) r;
  taken_total = rw (base, events) t;
  few_items = rw (base, events) (omega arith);
  few_accepted = rw (base, events) (omega arith);
  few_taken = rw (base, events) (omega arith);
  some_told = rw told (omega arith);
  queued = rw told (omega arith);
  mail = rw told (sym (drop_all (length (notes a.history.events) - 0) (notes a.history.events) (omega arith)));
}

pub no_notes : length (notes []) ≡ 0
unfolding notes moments
no_notes = refl

-- a base in place of the events ---------------------------------------------------------------------

-- a may be given this base, with room for so many events
pub record MayRebase (a : Inside) (base : Kept) (reserved : ℕ) : Type 0 where
  pub base_is : base ≡ base_of a.history.base a.history.events
  pub settled : IsSettled a.history.base a.history.events
  pub handed : (state_of a).given ≡ length (notes a.history.events)
  pub pending : drop a.told a.mail.items ≡ []
  pub placed : length a.history.events ≤ 9223372036854775807
  pub closing : debt a.history.base a.history.events ≤ reserved
  pub within : reserved ≤ a.history.limit

pub may_rebase : {a : Inside} {s : State} {base : Kept} {reserved : ℕ} → state_of a ≡ s → base ≡ base_of s.base s.history → IsSettled s.base s.history →
    s.given ≡ length (notes s.history) → s.pending ≡ [] → length s.history ≤ 9223372036854775807 → debt s.base s.history ≤ reserved → reserved ≤ s.limit →
    MayRebase a base reserved
may_rebase {base} {reserved} same is settled handed pending placed closing within = record {
  base_is = is ∙ ap (λ (t : State). base_of t.base t.history) (sym same);
  settled = subst (λ (t : State). IsSettled t.base t.history) (sym same) settled;
  handed = subst (λ (t : State). t.given ≡ length (notes t.history)) (sym same) handed;
  pending = subst (λ (t : State). t.pending ≡ []) (sym same) pending;
  placed = subst (λ (t : State). length t.history ≤ 9223372036854775807) (sym same) placed;
  closing = subst (λ (t : State). debt t.base t.history ≤ reserved) (sym same) closing;
  within = subst (λ (t : State). reserved ≤ t.limit) (sym same) within;
}

-- b is a over its own base, which it may be given, with nothing but that base in its history
pub record IsRebased (a b : Inside) (reserved : ℕ) : Type 0 where
  pub may : MayRebase a b.history.base reserved
  pub events : b.history.events ≡ shown b.history.base
  pub room : b.history.room ≡ reserved
  pub limit : b.history.limit ≡ a.history.limit
  pub own_limit : b.limit ≡ a.limit
  pub items : b.item_total ≡ a.item_total
  pub accepted : b.accepted_total ≡ a.accepted_total
  pub taken : b.taken_total ≡ a.taken_total
  pub spare : b.spare ≡ 0
  pub told : b.told ≡ a.told
  pub mail : b.mail ≡ a.mail

pub rebased : (a b : Inside) (room : ℕ) → IsTied a → IsRebased a b room → IsTied b
rebased a b room r w = record {
  lawful = rw (over, events) (base_lawful base h r.lawful w.may.settled);
  limited = rw w.limit r.limited;
  begun = rw (over, events) (let a = as_long in let s = shown_long in omega arith);
  placed = rw over (let p = w.may.placed in let a = as_long in omega arith);
  closing = rw (over, w.limit) (let c = w.may.closing in let l = w.may.within in let d = same_debts in omega arith);
  within = rw (over, events) (let a = as_long in let s = shown_long in let n = w.room in let m = w.may.within in let l = w.limit in omega arith);
  limit = w.own_limit ∙ r.limit ∙ sym w.limit;
  spare = let none = w.spare in omega arith;
  item_total = rw (over, events) (w.items ∙ r.item_total ∙ same.item_total);
  accepted_total = rw (over, events) (w.accepted ∙ r.accepted_total ∙ same.accepted_total);
  taken_total = rw (over, events) (w.taken ∙ r.taken_total ∙ same.taken_total);
  few_items = rw (over, events) (let f = r.few_items in let s = same.item_total in let l = shown_long in omega arith);
  few_accepted = rw (over, events) (let f = r.few_accepted in let s = same.accepted_total in let l = shown_long in omega arith);
  few_taken = rw (over, events) (let f = r.few_taken in let s = same.taken_total in let l = shown_long in omega arith);
  some_told = rw all_told (omega arith);
  queued = rw all_told (omega arith);
  mail = rw (all_told, events, base_untold base h r.lawful w.may.settled) refl;
}
  where
    base : Kept
    base = a.history.base

    h : List Event
    h = a.history.events

    over : b.history.base ≡ base_of base h
    over = w.may.base_is

    events : b.history.events ≡ shown (base_of base h)
    events = w.events ∙ ap shown over

    all_told : b.told ≡ 0
    all_told =
        w.told ∙ (let given : length (notes h) - a.told ≡ length (notes h) = w.may.handed in let some = r.some_told in omega arith)

    same : Agree base h (base_of base h) (shown (base_of base h))
    same = kept_agrees base h r.lawful w.may.settled

    as_long : (base_of base h).at_length ≡ length h
    as_long = base_length base h

    shown_long : length (shown (base_of base h)) ≡ length h
    shown_long = length_base base h

    same_debts : debt base h ≡ debt (base_of base h) (shown (base_of base h))
    same_debts = same_debt base h (base_of base h) (shown (base_of base h)) same

-- what callers see of it
pub rebases : (a b : Inside) (room : ℕ) → IsTied a → IsRebased a b room → Rebases (state_of a) (state_of b) room
rebases a b room r w = record {
  base = w.may.base_is;
  history = w.events;
  limit = w.limit;
  room = let all = w.room in let none = w.spare in omega arith;
  given = rw (w.events, w.may.base_is, base_untold a.history.base a.history.events r.lawful w.may.settled) (omega arith);
  pending = rw (w.told, w.mail) w.may.pending;
  mail_room = ap (λ q. deque_capacity q - deque_len q) w.mail;
}

-- what a caller asks for, of a register and of what it shows ------------------------------------------

pub base_long : (a : Inside) (s : State) (base : Kept) → state_of a ≡ s → base ≡ base_of s.base s.history → base.at_length ≡ length a.history.events
base_long a s base same is = search (rules, base_length, length)

pub placed_base : (a : Inside) (s : State) (base : Kept) → state_of a ≡ s → base ≡ base_of s.base s.history → length s.history ≤ 9223372036854775807 →
    base.at_length ≤ 9223372036854775807
placed_base a s base same is placed = let l = ap (λ (b : Kept). b.at_length) is ∙ base_length s.base s.history in omega arith

-- what callers see of it, of a register that they saw as this
pub rebases_seen : (a b : Inside) (s : State) (reserved : ℕ) → state_of a ≡ s → IsTied a → IsRebased a b reserved → Rebases s (state_of b) reserved
rebases_seen a b s reserved same r w = subst (λ (t : State). Rebases t (state_of b) reserved) same (rebases a b reserved r w)
