-- What a command tells is what it adds to the book's notes.
use Rattle.std.proofs.Common.{◌≡◌, ℕ, suc, zero, Bool, true, false, List, [], ◌∷◌, ◌++◌, length, drop, Option, Some, None, refl, sym, ap, ◌∙◌, subst, if◌then◌else◌}
use Rattle.std.proofs.Math.Seq.{drop-length, drop-append_seam}
use Rattle.std.proofs.lemmas.Bool.{false≢true}
use Rattle.std.proofs.lemmas.List.{append-nil}
use Rattle.rx_resource.specs.declared.Resource.{Ghosts}
use Rattle.rx_resource.specs.declared.token.Token.{Token}
use Rattle.rx_slots.specs.declared.Key.{Key}
use Rattle.rx_note.specs.declared.note.Note.{Note}
use Rattle.rx_note.specs.declared.note.Note.TheVariants.{Next as NextNote, Project as ProjectNote, End}
use Rattle.rx_note.specs.declared.note.Terminal.{Terminal}
use Rattle.rx_note.specs.declared.note.Terminal.TheVariants.{Completed as Completes, Error}
use Rattle.rx_event.specs.declared.event.Event.{Event}
use Rattle.rx_event.specs.declared.event.Event.TheVariants.{Accept, Take}
use Rattle.rx_event.specs.declared.event.Kind.{Kind}
use Rattle.rx_event.specs.declared.mail.Mail.{Mail}
use Rattle.rx_event.specs.Calls.{outside_of}
use Rattle.rx_event.specs.Kept.{Kept, shown}
use Rattle.rx_event.proofs.Laws.CheckpointMarks.{base_untold}
use Rattle.rx_event.proofs.Laws.Common.{notes, makes_node, IsLawful, IsSettled, IsForcedOn}
use Rattle.rx_event.proofs.Laws.Counts.{notes-push}
use Rattle.rx_book.specs.declared.answer.At.{At}
use Rattle.rx_book.specs.State.{State as BookState}
use Rattle.rx_book.specs.Requests.{Request}
use Rattle.rx_book.specs.Answers.{Accepts}
use Rattle.rx_roles.specs.declared.roles.Role.{Role}
use Rattle.rx_roles.specs.declared.effect.Effect.{Effect}
use Rattle.rx_roles.specs.declared.effect.What.{What}
use Rattle.rx_roles.specs.declared.effect.What.TheVariants.{Gone, Merged, Release}
use Rattle.rx_roles.specs.Roles.{role_of, without}
use Rattle.rx_roles.specs.Effects.{effects_for, end_told, what_told, role_told, told, after, all_told, after_all, last_of, all_last, released, AllListened}
use Rattle.rx_roles.proofs.Laws.NodesAfterStep.{first_follows, taken_forces_none}
use Rattle.rx_roles.proofs.Laws.NodesMade.{IsMaking, made_silent}
use Rattle.rx_roles.proofs.Laws.AcceptedAlone.{accepted_alone}
use Rattle.rx_pool.specs.declared.search.Share.{Share}
use Rattle.rx_engine.specs.declared.parts.Parts.{Parts}
use Rattle.rx_engine.specs.declared.parts.User.{User}
use Rattle.rx_engine.specs.Commands.{IsDone}
use Rattle.rx_engine.specs.Plain.{IsPlain}
use Rattle.rx_engine.specs.Checkpoints.{IsCheckpointed}
use Rattle.rx_engine.specs.Holdings.{IsHoldDone}
use Rattle.rx_engine.specs.Openings.{IsOpenDone}
use Rattle.rx_engine.specs.Sharings.{IsSubscribeDone, IsConnectDone}
use Rattle.rx_engine.specs.Usings.{IsUsingDone}
use Rattle.rx_engine.specs.Settlements.{mail_left, all_given, closed_of, effects_told, Releases, none_released, one_released, Settles}
use Rattle.rx_engine.specs.States.{State, IsPromised}
use Rattle.rx_courses.specs.Courses.{IsCommand, is_refused, has_done, has_held, has_used, has_opened, has_put, has_subscribed, has_connected, has_made_hubs, has_checkpointed, effects_of}
use Rattle.rx_courses.specs.Serving.{maker}
use Rattle.rx_courses.specs.NotesTold.{tells, notes_only, notes_added, value_of, TellsItsNotes, TellsEachNote}
use Rattle.rx_courses.specs.RootsTold.{is_checkpoint}
use Rattle.rx_engine.proofs.Laws.PlainCalls.{plain_call, tells as call_tells}
use Rattle.rx_courses.proofs.LawsOfCourses.{no_note_is_lost}
use Rattle.rx_courses.proofs.HubsTellNone.{calm, quiet_hubs}

-- which effects tell ---------------------------------------------------------------------------------

only-append : (xs ys : List Effect) → notes_only (xs ++ ys) ≡ notes_only xs ++ notes_only ys
only-append [] ys = refl
only-append (x ∷ xs) ys = by_test (tells x.what) (only-append xs ys) where
  by_test : (b : Bool) → notes_only (xs ++ ys) ≡ notes_only xs ++ notes_only ys →
      (if b then x ∷ notes_only (xs ++ ys) else notes_only (xs ++ ys)) ≡ (if b then x ∷ notes_only xs else notes_only xs) ++ notes_only ys
  by_test true rest = ap (λ (zs : List Effect). x ∷ zs) rest
  by_test false rest = rest

for_note : (by value : ℕ) (what : What) (o : Option Role) → tells what ≡ true → notes_only (effects_for by value what o) ≡ effects_for by value what o
for_note by value what None is = refl
for_note by value what (Some r) is = ap (λ (b : Bool). if b then effects_for by value what (Some r) else []) is

for_other : (by value : ℕ) (what : What) (o : Option Role) → tells what ≡ false → notes_only (effects_for by value what o) ≡ []
for_other by value what None is = refl
for_other by value what (Some r) is = ap (λ (b : Bool). if b then effects_for by value what (Some r) else []) is

end_tells : (t : Terminal) → tells (end_told t) ≡ true
end_tells Completes = refl
end_tells (Error code) = refl

note_tells : (note : Note) → tells (what_told note) ≡ true
note_tells (NextNote v) = refl
note_tells (ProjectNote v) = refl
note_tells (End t) = end_tells t

told_only : (by value : ℕ) (hears merges : List Role) (ms : List Mail) → notes_only (all_told by value hears merges ms) ≡ all_told by value hears merges ms
told_only by value hears merges [] = refl
told_only by value hears merges (m ∷ ms) =
    only-append (told by value hears merges m) (all_told by value (after hears m) merges ms)
    ∙ (λ i. for_note by value (what_told m.note) (role_told hears merges m.note m.to) (note_tells m.note) i ++ told_only by value (after hears m) merges ms i)

last_only : (by : ℕ) (hears merges : List Role) (ns : List ℕ) → notes_only (all_last by hears merges ns) ≡ []
last_only by hears merges [] = refl
last_only by hears merges (n ∷ ns) =
    only-append (last_of by hears merges n) (all_last by (without hears n) (without merges n) ns)
    ∙ (λ i. only-append (effects_for by 0 Gone (role_of hears n)) (effects_for by 0 Merged (role_of merges n)) i ++ last_only by (without hears n) (without
    merges n) ns i)
    ∙ (λ i. (for_other by 0 Gone (role_of hears n) refl i ++ for_other by 0 Merged (role_of merges n) refl i) ++ [])

releases_only : (g : Ghosts Token) (by : ℕ) (s : BookState) (holds : List Role) (es : List Effect) (t : BookState) (holds' : List Role) (es' : List Effect) →
    Releases g by s holds es t holds' es' → notes_only es' ≡ notes_only es
releases_only g by s holds es t holds' es' none_released = refl
releases_only g by s holds es t holds' es' (one_released {t = m} {holds' = held} {effects' = fs} {number = number} before kept says) =
    only-append fs (released by held number)
    ∙ ap (λ (zs : List Effect). notes_only fs ++ zs) (for_other by 0 Release (role_of held number) refl) ∙ append-nil (notes_only fs)
    ∙ releases_only g by s holds es m held fs before

settles_only : (g : Ghosts Token) (by value : ℕ) (mid : BookState) (p : Parts) (t : BookState) (q : Parts) (d : Settles g by value mid p t q) →
    notes_only d.effects ≡ all_told by value p.hears.list p.merges.list (mail_left mid)
settles_only g by value mid p t q d =
    releases_only g by (all_given mid) p.holds.list (effects_told by value mid p) t q.holds.list d.effects d.releases
    ∙ only-append (all_told by value p.hears.list p.merges.list (mail_left mid)) (all_last by (after_all p.hears.list (mail_left mid)) p.merges.list (closed_of
    mid))
    ∙ (λ i. told_only by value p.hears.list p.merges.list (mail_left mid) i
    ++ last_only by (after_all p.hears.list (mail_left mid)) p.merges.list (closed_of mid) i)
    ∙ append-nil (all_told by value p.hears.list p.merges.list (mail_left mid))

-- which events add notes -----------------------------------------------------------------------------

-- taking a resource adds none
releases_same : (g : Ghosts Token) (by : ℕ) (s : BookState) (holds : List Role) (es : List Effect) (t : BookState) (holds' : List Role) (es' : List Effect) →
    Releases g by s holds es t holds' es' → notes t.history ≡ notes s.history
releases_same g by s holds es t holds' es' none_released = refl
releases_same g by s holds es t holds' es' (one_released {t = m} {holds' = held} {effects' = fs} {number = number} before kept says) =
    let step = says.accepted.step in
    ap notes (taken_forces_none m.base m.history number t.history kept.lawful kept.settled
    (first_follows m.base m.history (Take number) t.history kept.lawful step.lawful step.forced) step.forced)
    ∙ notes-push m.history (Take number) ∙ append-nil (notes m.history)
    ∙ releases_same g by s holds es m held fs before

-- nor does an event that makes a node, with all that it forces
made_same : (s mid : BookState) (asked : Request) (e : Event) → IsLawful s.base s.history → IsSettled s.base s.history → Accepts s asked mid →
    outside_of s.history asked.call ≡ e ∷ [] → makes_node e ≡ true → notes mid.history ≡ notes s.history
made_same s mid asked e lawful settled accepts one node =
    let steps = subst (λ (es : List Event). IsForcedOn s.base (s.history ++ es) mid.history) one accepts.step.forced in
    let making : IsMaking s.base s.history e mid.history = record {
      law = lawful;
      rests = settled;
      next = first_follows s.base s.history e mid.history lawful accepts.step.lawful steps;
      node = node;
      steps = steps;
      settled = accepts.step.settled;
    } in
    made_silent making

-- nor one that accepts a resource
held_same : (s mid : BookState) (asked : Request) (node tag : ℕ) → IsLawful s.base s.history → IsSettled s.base s.history → Accepts s asked mid →
    outside_of s.history asked.call ≡ Accept node tag ∷ [] → notes mid.history ≡ notes s.history
held_same s mid asked node tag lawful settled accepts one =
    let steps = subst (λ (es : List Event). IsForcedOn s.base (s.history ++ es) mid.history) one accepts.step.forced in
    ap notes (accepted_alone s.base s.history node tag mid.history lawful settled
    (first_follows s.base s.history (Accept node tag) mid.history lawful accepts.step.lawful steps) steps)
    ∙ notes-push s.history (Accept node tag) ∙ append-nil (notes s.history)

-- so these commands add none
pub held_quiet : (g : Ghosts Token) (s t : State) (node : Key) (tag by : ℕ) → IsPromised s → (d : IsHoldDone g node tag by s t) →
    notes d.mid.history ≡ notes s.book.history
held_quiet g s t node tag by kept d = held_same s.book d.mid _ node.number _ kept.book.lawful kept.book.settled d.accepts refl

pub used_quiet : (g : Ghosts Token) (s t : State) (at : At) (kind : Kind) (user : User) (tag by : ℕ) → IsPromised s →
    (d : IsUsingDone g at kind user tag by s t) →
    notes d.mid.history ≡ notes s.book.history
used_quiet g s t at kind user tag by kept d =
    let law : IsLawful d.middle.base d.middle.history = subst (λ (b : Kept). IsLawful b d.middle.history) (sym d.opens.base) d.opens.step.lawful in
    let rests : IsSettled d.middle.base d.middle.history = subst (λ (b : Kept). IsSettled b d.middle.history) (sym d.opens.base) d.opens.step.settled in
    held_same d.middle (record d.mid { closed = [] }) _ d.node.number _ law rests d.holds refl
    ∙ made_same s.book d.middle _ _ kept.book.lawful kept.book.settled d.opens refl refl

pub opened_quiet : (g : Ghosts Token) (s t : State) (at : At) (kind : Kind) (user : User) (by : ℕ) → IsPromised s → (d : IsOpenDone g at kind user by s t) →
    notes d.mid.history ≡ notes s.book.history
opened_quiet g s t at kind user by kept d = made_same s.book d.mid _ _ kept.book.lawful kept.book.settled d.accepts refl refl

pub subscribed_quiet : (g : Ghosts Token) (s t : State) (at : At) (share : Share) (user : User) (by place : ℕ) → IsPromised s →
    (d : IsSubscribeDone g at share user by place s t) → notes d.mid.history ≡ notes s.book.history
subscribed_quiet g s t at share user by place kept d = made_same s.book d.mid _ _ kept.book.lawful kept.book.settled d.accepts refl refl

pub connected_quiet : (g : Ghosts Token) (s t : State) (share : Share) (user : User) (by place : ℕ) → IsPromised s →
    (d : IsConnectDone g share user by place s t) →
    notes d.mid.history ≡ notes s.book.history
connected_quiet g s t share user by place kept d = made_same s.book d.mid _ _ kept.book.lawful kept.book.settled d.accepts refl refl

-- nothing is left of nothing
drop_none : (n : ℕ) → ◌≡◌ {A = List Mail} (drop n []) []
drop_none zero = refl
drop_none (suc n) = refl

-- commands -------------------------------------------------------------------------------------------

-- of a command that adds none
module _ (g : Ghosts Token) (s t : State) (kept : IsPromised s) where
  pub none_added : notes t.book.history ≡ notes s.book.history → notes_added s t ≡ []
  none_added same = ap (drop (length (notes s.book.history))) same ∙ drop-length (notes s.book.history)

  pub settled_none : (by : ℕ) (mid : BookState) (p : Parts) → Settles g by 0 mid p t.book t.parts → notes mid.history ≡ notes s.book.history →
      notes_added s t ≡ []
  settled_none by mid p d same =
      none_added (releases_same g by (all_given mid) p.holds.list (effects_told by 0 mid p) t.book t.parts.holds.list d.effects d.releases ∙ same)

  tells_none : (c : IsCommand g s t) → notes_only (effects_of c) ≡ [] → notes_added s t ≡ [] → TellsItsNotes s t c
  tells_none c none added = record {
    told = none ∙ sym (ap (all_told (maker c) (value_of c) s.parts.hears.list s.parts.merges.list) added);
    listened = subst (AllListened s.parts.hears.list s.parts.merges.list) (sym added) tt;
  }

  settles_none : (by : ℕ) (mid : BookState) (p : Parts) (c : IsCommand g s t) (d : Settles g by 0 mid p t.book t.parts) → effects_of c ≡ d.effects →
      mid.given ≡ s.book.given → notes mid.history ≡ notes s.book.history → TellsItsNotes s t c
  settles_none by mid p c d are given same =
      let left : mail_left mid ≡ [] = (λ i. drop ((given ∙ kept.tied.given) i) (same i)) ∙ drop-length (notes s.book.history) in
      tells_none c (ap notes_only are ∙ settles_only g by 0 mid p t.book t.parts d ∙ ap (all_told by 0 p.hears.list p.merges.list) left)
      (settled_none by mid p d same)

  grows_none : notes t.book.history ≡ notes s.book.history → notes t.book.history ≡ notes s.book.history ++ notes_added s t
  grows_none same = same ∙ sym (append-nil (notes s.book.history)) ∙ ap (λ (ms : List Mail). notes s.book.history ++ ms) (sym (none_added same))

  grows_settled : (by : ℕ) (mid : BookState) (p : Parts) (d : Settles g by 0 mid p t.book t.parts) → notes mid.history ≡ notes s.book.history →
      notes t.book.history ≡ notes s.book.history ++ notes_added s t
  grows_settled by mid p d same =
      grows_none (releases_same g by (all_given mid) p.holds.list (effects_told by 0 mid p) t.book t.parts.holds.list d.effects d.releases ∙ same)

-- those that a plain command adds were left to be told
pub done_added : (g : Ghosts Token) (s t : State) (asked : Request) (by value : ℕ) → IsPromised s → IsPlain s.book asked → (d : IsDone g asked by value s t) →
    notes_added s t ≡ mail_left d.mid
done_added g s t asked by value kept plain d =
    ap (drop (length (notes s.book.history)))
    (releases_same g by (all_given d.mid) s.parts.holds.list (effects_told by value d.mid s.parts) t.book t.parts.holds.list d.settles.effects
    d.settles.releases)
    ∙ sym (no_note_is_lost g s t asked by value kept plain d).notes_are

-- and a checkpoint adds none
pub checkpoint_added : (s t : State) → IsPromised s → IsCheckpointed s t → notes_added s t ≡ []
checkpoint_added s t kept c =
    ap (drop (length (notes s.book.history)))
    (ap notes (c.book.history ∙ ap shown c.book.base) ∙ base_untold s.book.base s.book.history kept.book.lawful kept.book.settled)
    ∙ drop_none (length (notes s.book.history))

-- and those behind a command are those before it, and these
pub notes_grow : (g : Ghosts Token) (s t : State) → IsPromised s → (c : IsCommand g s t) → is_checkpoint c ≡ false →
    notes t.book.history ≡ notes s.book.history ++ notes_added s t
notes_grow g s t kept (is_refused seen) none = grows_none g s t kept (ap (λ (b : BookState). notes b.history) seen.book)
notes_grow g s t kept (has_done by value plain d) none =
    let told = call_tells (plain_call s.book _ d.mid kept.book plain d.accepts).call in
    let same : notes t.book.history ≡ notes s.book.history ++ told.rest =
    releases_same g by (all_given d.mid) s.parts.holds.list (effects_told by value d.mid s.parts) t.book t.parts.holds.list d.settles.effects d.settles.releases
    ∙ told.is in
    same ∙ ap (λ (ms : List Mail). notes s.book.history ++ ms)
    (sym (ap (drop (length (notes s.book.history))) same ∙ drop-append_seam (notes s.book.history) told.rest))
notes_grow g s t kept (has_held node tag by d) none = grows_settled g s t kept by d.mid d.entered d.settles (held_quiet g s t node tag by kept d)
notes_grow g s t kept (has_used at kind user tag by alone d) none =
    grows_settled g s t kept by d.mid d.with_tag d.settles (used_quiet g s t at kind user tag by kept d)
notes_grow g s t kept (has_opened at kind user by alone d) none =
    grows_settled g s t kept by d.mid d.entered d.settles (opened_quiet g s t at kind user by kept d)
notes_grow g s t kept (has_put to user value by d) none = grows_none g s t kept (ap (λ (b : BookState). notes b.history) d.book)
notes_grow g s t kept (has_subscribed at share user by place d) none =
    grows_settled g s t kept by d.mid d.entered d.settles (subscribed_quiet g s t at share user by place kept d)
notes_grow g s t kept (has_connected share user by place d) none =
    grows_settled g s t kept by d.mid d.entered d.settles (connected_quiet g s t share user by place kept d)
notes_grow g s t kept (has_made_hubs by makes) none = grows_none g s t kept (quiet_hubs g by s t (calm s kept) makes).notes_same
notes_grow g s t kept (has_checkpointed c) none = absurd (false≢true (sym none))

pub tells_each_note : (g : Ghosts Token) → TellsEachNote g
tells_each_note g s t kept (is_refused seen) = tells_none g s t kept (is_refused seen) refl (none_added g s t kept (ap (λ (b : BookState). notes b.history)
    seen.book))
tells_each_note g s t kept (has_done by value plain d) =
    let none_lost = no_note_is_lost g s t _ by value kept plain d in
    let same = done_added g s t _ by value kept plain d in
    record {
      told = settles_only g by value d.mid s.parts t.book t.parts d.settles ∙ sym (ap (all_told by value s.parts.hears.list s.parts.merges.list) same);
      listened = subst (AllListened s.parts.hears.list s.parts.merges.list) (sym same) none_lost.listened;
    }
tells_each_note g s t kept (has_held node tag by d) =
    settles_none g s t kept by d.mid d.entered (has_held node tag by d) d.settles refl d.accepts.given
    (held_quiet g s t node tag by kept d)
tells_each_note g s t kept (has_used at kind user tag by alone d) =
    settles_none g s t kept by d.mid d.with_tag (has_used at kind user tag by alone d) d.settles refl (d.holds.given ∙ d.opens.given)
    (used_quiet g s t at kind user tag by kept d)
tells_each_note g s t kept (has_opened at kind user by alone d) =
    settles_none g s t kept by d.mid d.entered (has_opened at kind user by alone d) d.settles refl d.accepts.given
    (opened_quiet g s t at kind user by kept d)
tells_each_note g s t kept (has_put to user value by d) =
    tells_none g s t kept (has_put to user value by d) refl (none_added g s t kept (ap (λ (b : BookState). notes b.history) d.book))
tells_each_note g s t kept (has_subscribed at share user by place d) =
    settles_none g s t kept by d.mid d.entered (has_subscribed at share user by place d) d.settles refl d.accepts.given
    (subscribed_quiet g s t at share user by place kept d)
tells_each_note g s t kept (has_connected share user by place d) =
    settles_none g s t kept by d.mid d.entered (has_connected share user by place d) d.settles refl d.accepts.given
    (connected_quiet g s t share user by place kept d)
tells_each_note g s t kept (has_made_hubs by makes) =
    tells_none g s t kept (has_made_hubs by makes) refl (none_added g s t kept (quiet_hubs g by s t (calm s kept) makes).notes_same)
tells_each_note g s t kept (has_checkpointed c) =
    tells_none g s t kept (has_checkpointed c) refl (checkpoint_added s t kept c)
