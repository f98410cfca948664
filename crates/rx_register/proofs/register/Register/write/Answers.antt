use Rattle.std.proofs.Common.{◌≡◌, ◌+◌, ◌-◌, ◌<◌, ℕ, ℤ, Bool, false, cond, refl, ap, ◌∙◌, length, drop, arith}
use Rattle.rx_event.specs.declared.event.Event.{Event}
use Rattle.rx_event.specs.declared.event.Event.TheVariants.{Item, Accept, Take}
use Rattle.rx_event.specs.Events.{is_item, makes_resource, is_take}
use Rattle.rx_event.specs.Notes.{notes, mail_of}
use Rattle.rx_event.specs.Lawful.{MayFollow}
use Rattle.rx_event.proofs.Laws.Counts.{notes-push}
use Rattle.rx_register.specs.State.{State}
use Rattle.rx_register.specs.Ties.{state_of, IsTied}
use Rattle.rx_register.proofs.RegisterStaysTied.{written, given_after, told_length}
use Rattle.rx_register.proofs.register.Register.write.Goals as goal
use Rattle.rx_register.proofs.register.Register.write.Goals.{After-len-self-inside}

-- an event takes a place of what was set aside
set_aside : (room spare : ℕ) → 0 < room - spare → spare < room
set_aside room spare some = omega arith

told : (c : After-len-self-inside) → drop c.self.inside.told c.self.inside.mail.items ≡ mail_of c.self.inside.history.events c.args.event
told c = rw (← c.self.view_is) at c.requires.told

tied : (c : After-len-self-inside) (items accepted taken : ℕ) → items ≡ c.self.inside.item_total + cond (is_item c.args.event) 1 0 →
    accepted ≡ c.self.inside.accepted_total + cond (makes_resource c.args.event) 1 0 → taken ≡ c.self.inside.taken_total + cond (is_take c.args.event) 1 0 →
    IsTied (record c.self.inside {
      history = c.push_reserved.new.self;
      item_total = items;
      accepted_total = accepted;
      taken_total = taken;
      told = c.len-self-inside.result;
    })
tied c items accepted taken more_items more_accepted more_taken =
    let next : MayFollow c.self.inside.history.base c.self.inside.history.events c.args.event = rw (← c.self.view_is) at c.requires.next in
    written c.self.inside _ c.args.event c.self.invariant (record {
      next = next;
      told = told c;
      base = c.push_reserved.ensures.base;
      events = c.push_reserved.ensures.events;
      limit = c.push_reserved.ensures.limit;
      own_limit = refl;
      items = more_items;
      accepted = more_accepted;
      taken = more_taken;
      room = c.push_reserved.ensures.room;
      spare = refl;
      set_aside = set_aside c.self.inside.history.room c.self.inside.spare (rw (← c.self.view_is) at c.requires.room);
      mail = refl;
      all_told = c.len-self-inside.ensures ∙ c.self.inside.mail.ok.0;
    })

given : (c : After-len-self-inside) → length (notes c.push_reserved.new.self.events) - c.len-self-inside.result ≡ c.args.self.now.given
given c =
    let h = c.self.inside.history.events in
    let r = c.self.invariant in
    let count = told_length c.self.inside.mail.items c.self.inside.told (mail_of h c.args.event) r.queued (told c) in
    let all = c.len-self-inside.ensures ∙ c.self.inside.mail.ok.0 in
    let shown : (state_of c.self.inside).given ≡ c.args.self.now.given = ap (λ (s : State). s.given) c.self.view_is in
    rw (c.push_reserved.ensures.events, notes-push h c.args.event, all)
    (given_after (notes h) (mail_of h c.args.event) c.self.inside.told (length c.self.inside.mail.items) r.some_told count) ∙
    shown

-- what is not counted
no_item : (e : Event) → ((n : ℕ) (v : ℤ) → e ≡ Item n v → ⊥) → is_item e ≡ false
no_item (Item n v) other = absurd (other n v refl)
no_item _ other = refl

no_accept : (e : Event) → ((n tag : ℕ) → e ≡ Accept n tag → ⊥) → makes_resource e ≡ false
no_accept (Accept n tag) other = absurd (other n tag refl)
no_accept _ other = refl

no_take : (e : Event) → ((r : ℕ) → e ≡ Take r → ⊥) → is_take e ≡ false
no_take (Take r) other = absurd (other r refl)
no_take _ other = refl

none_more : (n : ℕ) (test : Bool) → test ≡ false → n ≡ n + cond test 1 0
none_more n test unmet = rw unmet (omega arith)

pub invariant_of-self : goal.invariant_of-self
invariant_of-self c =
    let e = c.in-Item.is in
    tied (goal.at.invariant_of-self c).After-len-self-inside _ _ _ (rw e refl) (rw e (omega arith)) (rw e (omega arith))

pub invariant_of-self-in-Accept : goal.invariant_of-self-in-Accept
invariant_of-self-in-Accept c =
    let e = c.in-Accept.is in
    tied (goal.at.invariant_of-self-in-Accept c).After-len-self-inside _ _ _ (rw e (omega arith)) (rw e refl) (rw e (omega arith))

pub invariant_of-self-in-Take : goal.invariant_of-self-in-Take
invariant_of-self-in-Take c =
    let e = c.in-Take.is in
    tied (goal.at.invariant_of-self-in-Take c).After-len-self-inside _ _ _ (rw e (omega arith)) (rw e (omega arith)) (rw e refl)

pub invariant_of-self-in_default : goal.invariant_of-self-in_default
invariant_of-self-in_default c =
    let e = c.args.event in
    let other = c.in_default in
    tied (goal.at.invariant_of-self-in_default c).After-len-self-inside _ _ _ (none_more _ _ (no_item e other.not-Item))
    (none_more _ _ (no_accept e other.not-Accept)) (none_more _ _ (no_take e other.not-Take))

pub returns-in-Item-clause-given : goal.returns-in-Item-clause-given
returns-in-Item-clause-given c = given (goal.at.returns-in-Item-clause-given c).After-len-self-inside

pub returns-in-Accept-clause-given : goal.returns-in-Accept-clause-given
returns-in-Accept-clause-given c = given (goal.at.returns-in-Accept-clause-given c).After-len-self-inside

pub returns-in-Take-clause-given : goal.returns-in-Take-clause-given
returns-in-Take-clause-given c = given (goal.at.returns-in-Take-clause-given c).After-len-self-inside

pub returns-in_default-clause-given : goal.returns-in_default-clause-given
returns-in_default-clause-given c = given (goal.at.returns-in_default-clause-given c).After-len-self-inside
