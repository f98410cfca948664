-- What a step adds to the totals.
use Rattle.rx_crew.proofs.Common.{◌≡◌, ◌+◌, List, length, refl, sym, ap, ◌∙◌, arith, ℕ, Kept, Event, Pass, is_item, Sums, sums_of, counting}
use Rattle.rx_event.proofs.Laws.Common.{true, false, [], ◌∷◌, ◌++◌, append_assoc, cond, map, makes_resource, is_take, open_connections, stays, more, IsStepOf}
use Rattle.rx_event.proofs.Laws.Common.{IsForcedOn, Opening, OpeningUsing, Holding, Removing, Leasing, Publishing, Taking, append-nil}
use Rattle.rx_event.specs.declared.event.Event.TheVariants.{Open, Hub, Connect, Accept, Use, Remove, Lease, Return, Item, Decline, End, Close, Take}
use Rattle.rx_note.specs.declared.note.Terminal.TheVariants.{Error}
use Rattle.rx_event.specs.Calls.{Call, outside_of, Applying, GivingBack, Emitting, Ending, Aborting, Declining, Failing, Disposing, Connecting, Disconnecting}
use Rattle.rx_event.specs.Totals.{item_count, accepted_count, taken_count}
use Rattle.rx_event.proofs.Laws.Steps.{forced_kind, may_be_forced}
use Rattle.rx_event.proofs.Laws.Totals.{item_count-push, accepted_count-push, taken_count-push}

abbrev counts : Event → Sums → Sums
counts e s = record { items = s.items + cond (is_item e) 1 0; accepted = s.accepted + cond (makes_resource e) 1 0; taken = s.taken + cond (is_take e) 1 0 }

pub same_sums : (a b : Sums) → a.items ≡ b.items → a.accepted ≡ b.accepted → a.taken ≡ b.taken → a ≡ b
same_sums a b i j k = rw (i, j, k) refl

sums-push : (base : Kept) → (h : List Event) (e : Event) → sums_of base (h ++ e ∷ []) ≡ counts e (sums_of base h)
sums-push base h e =
    same_sums (sums_of base (h ++ e ∷ [])) (counts e (sums_of base h)) (item_count-push base h e) (accepted_count-push base h e) (taken_count-push base h e)

plain : (e : Event) (s : Sums) → is_item e ≡ false → makes_resource e ≡ false → is_take e ≡ false → counts e s ≡ s
plain e s i a k = same_sums (counts e s) s (rw i (omega arith)) (rw a (omega arith)) (rw k (omega arith))

counts_none : (e : Event) (s : Sums) → may_be_forced e ≡ true → counts e s ≡ s
counts_none (Connect g) s m = plain (Connect g) s refl refl refl
counts_none (End n t) s m = plain (End n t) s refl refl refl
counts_none (Close n) s m = plain (Close n) s refl refl refl
counts_none _ s m = cc

-- what is forced counts nothing
sums-forced : (base : Kept) → {h k : List Event} → IsForcedOn base h k → sums_of base k ≡ sums_of base h
sums-forced base stays = refl
sums-forced base (more {h} {k} {e} before is_forced) =
    sums-push base k e ∙ counts_none e (sums_of base k) (forced_kind base is_forced) ∙ sums-forced base before

one_more : (base : Kept) → (h : List Event) (e : Event) (s : Sums) → counts e (sums_of base h) ≡ s → sums_of base (h ++ e ∷ []) ≡ s
one_more base h e s counted = sums-push base h e ∙ counted

sums-closed : (base : Kept) → (h : List Event) (cs : List ℕ) → sums_of base (h ++ map (λ c. Close c) cs) ≡ sums_of base h
sums-closed base h [] = ap (sums_of base) (append-nil h)
sums-closed base h (c ∷ cs) =
    ap (sums_of base) (sym (append_assoc h (Close c ∷ []) (map (λ d. Close d) cs)))
    ∙ sums-closed base (h ++ Close c ∷ []) cs ∙ one_more base h (Close c) (sums_of base h) (plain (Close c) (sums_of base h) refl refl refl)

sums-outside : (base : Kept) → (h : List Event) (call : Call) → sums_of base (h ++ outside_of h call) ≡ counting call (sums_of base h)
sums-outside base h (Opening place kind) = one_more base h (Open place kind) (sums_of base h) (plain (Open place kind) (sums_of base h) refl refl refl)
sums-outside base h (OpeningUsing place tag) =
    let opened : sums_of base (h ++ Open place Pass ∷ []) ≡ sums_of base h =
    one_more base h (Open place Pass) (sums_of base h) (plain (Open place Pass) (sums_of base h) refl refl refl) in
    let accept = Accept (length h) tag in
    let both : h ++ Open place Pass ∷ accept ∷ [] ≡ (h ++ Open place Pass ∷ []) ++ accept ∷ [] = sym (append_assoc h (Open place Pass ∷ []) (accept ∷ [])) in
    ap (sums_of base) both ∙ sums-push base (h ++ Open place Pass ∷ []) accept ∙ ap (counts accept) opened
    ∙ same_sums (counts accept (sums_of base h)) (record (sums_of base h) { accepted = accepted_count base h + 1 }) (omega arith) refl (omega arith)
sums-outside base h (Holding node tag) =
    let more : Sums = record (sums_of base h) { accepted = accepted_count base h + 1 } in
    one_more base h (Accept node tag) more (same_sums (counts (Accept node tag) (sums_of base h)) more (omega arith) refl (omega arith))
sums-outside base h (Applying r) = one_more base h (Use r) (sums_of base h) (plain (Use r) (sums_of base h) refl refl refl)
sums-outside base h (Removing r) = one_more base h (Remove r) (sums_of base h) (plain (Remove r) (sums_of base h) refl refl refl)
sums-outside base h (Leasing r) = one_more base h (Lease r) (sums_of base h) (plain (Lease r) (sums_of base h) refl refl refl)
sums-outside base h (GivingBack l) = one_more base h (Return l) (sums_of base h) (plain (Return l) (sums_of base h) refl refl refl)
sums-outside base h (Emitting leaf value) =
    let more : Sums = record (sums_of base h) { items = item_count base h + 1 } in
    one_more base h (Item leaf value) more (same_sums (counts (Item leaf value) (sums_of base h)) more refl (omega arith) (omega arith))
sums-outside base h (Ending leaf t) = one_more base h (End leaf t) (sums_of base h) (plain (End leaf t) (sums_of base h) refl refl refl)
sums-outside base h (Aborting n code) = one_more base h (End n (Error code)) (sums_of base h) (plain (End n (Error code)) (sums_of base h) refl refl refl)
sums-outside base h (Declining f) = one_more base h (Decline f) (sums_of base h) (plain (Decline f) (sums_of base h) refl refl refl)
sums-outside base h (Failing f code) = one_more base h (End f (Error code)) (sums_of base h) (plain (End f (Error code)) (sums_of base h) refl refl refl)
sums-outside base h (Disposing root) = one_more base h (Close root) (sums_of base h) (plain (Close root) (sums_of base h) refl refl refl)
sums-outside base h (Publishing mode) = one_more base h (Hub mode) (sums_of base h) (plain (Hub mode) (sums_of base h) refl refl refl)
sums-outside base h (Connecting g) = one_more base h (Connect g) (sums_of base h) (plain (Connect g) (sums_of base h) refl refl refl)
sums-outside base h (Disconnecting g) = sums-closed base h (open_connections h g)
sums-outside base h (Taking r) =
    let more : Sums = record (sums_of base h) { taken = taken_count base h + 1 } in
    one_more base h (Take r) more (same_sums (counts (Take r) (sums_of base h)) more (omega arith) (omega arith) refl)

-- a step adds to the totals just what its call counts
pub sums-step : (base : Kept) → (h k : List Event) (call : Call) → IsStepOf base h call k → sums_of base k ≡ counting call (sums_of base h)
sums-step base h k call step = sums-forced base step.forced ∙ sums-outside base h call
