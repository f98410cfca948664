-- Checkpoints: a stored history and its base agree, and go on by the same events.
use Rattle.rx_event.proofs.Laws.Common.{◌≡◌, ℕ, length, Bool, true, false, List, [], ◌∷◌, ◌++◌, map, cond, Option, refl, sym, ap, subst, ◌∙◌}
use Rattle.rx_event.proofs.Laws.Common.{slice_get, filter, append_assoc, append-nil, drop, AllByRecursion, range_with_len, filter_map, option_map_or}
use Rattle.rx_event.proofs.Laws.Common.{false≢true, Event, Item, End, Close, makes_hub, is_root, is_out, at, places, Moment}
use Rattle.rx_event.proofs.Laws.Common.{moments_after, mail_of, IsSettled, MayFollow, IsLawful, Kept, shown, base_of, Agree, AreRead, debt}
use Rattle.std.proofs.Common.{sum_by, rules}
use Rattle.rx_event.specs.Tree.{hubs}
use Rattle.rx_event.specs.Notes.{told}
use Rattle.rx_event.specs.Bases.{keep_hub, keep_lease, mode_of}
use Rattle.rx_event.specs.Claims.Checkpoints.{EachRule, AgreeingGoOn, CheckpointsAgree}
use Rattle.rx_event.proofs.Laws.Lawful.{IsLawful-push, IsLawful_empty, may_end}
use Rattle.rx_event.proofs.Laws.Sums.{sum_by-same}
use Rattle.rx_event.proofs.Laws.SameTree.{Alike, alike_of, alike_back, at_alike, open_nodes_alike, stops_of_alike}
use Rattle.rx_event.proofs.Laws.ReadDue.{read_back, connect_due_read}
use Rattle.rx_event.proofs.Laws.SameForcedAndAllowed.{agree_back, reads_of, forced_too, allowed_too, follows_too, hubs_alike, hub_is}
use Rattle.rx_event.proofs.Laws.SameRules.{mirrors_too, fires_too, fails_too, completes_too, cuts_too, leaves_too}
use Rattle.rx_event.proofs.Laws.AgreeAfterEvent.{emits, agree-push}
use Rattle.rx_event.proofs.Laws.BaseAgrees.{base_agrees}
use Rattle.rx_event.proofs.Laws.BaseStarted.{base_started}
use Rattle.rx_event.proofs.Laws.Begin.{empty_base}
use Rattle.std.proofs.Math.Seq.{drop-append_seam}

-- these events may follow one after the other
abbrev Continues : Kept → List Event → List Event → Type 0
Continues b h es = AllByRecursion (λ (m : Moment). MayFollow b m.before m.event) (moments_after h es)

-- going on ------------------------------------------------------------------------------------------

pub record GoesOn (b : Kept) (h : List Event) (c : Kept) (k es : List Event) : Type 0 where
  pub continues : Continues c k es
  pub agree : Agree b (h ++ es) c (k ++ es)

pub goes_on : {b : Kept} (h : List Event) (c : Kept) (k es : List Event) → IsLawful b h → IsLawful c k → Agree b h c k → Continues b h es → GoesOn b h c k es
goes_on h c k [] law law_k a each = record { continues = tt; agree = rw (append-nil h, append-nil k) a }
goes_on {b} h c k (e ∷ es) law law_k a each =
    let next : MayFollow c k e = follows_too b h c k a law law_k each.0 in
    let further : GoesOn b (h ++ e ∷ []) c (k ++ e ∷ []) es =
    goes_on (h ++ e ∷ []) c (k ++ e ∷ []) es (IsLawful-push b h e law each.0) (IsLawful-push c k e law_k next)
    (agree-push b h c k e law law_k each.0 next a) each.1 in
    record { continues = (next, further.continues); agree = rw (← append_assoc h (e ∷ []) es, ← append_assoc k (e ∷ []) es) further.agree }

mail_alike : (b : Kept) (h : List Event) (c : Kept) (k : List Event) → Agree b h c k → IsLawful b h → (e : Event) → MayFollow b h e → mail_of h e ≡ mail_of k e
mail_alike b h c k a law (Item l v) f =
    (λ i. filter_map (told (a.same_length i) v) (stops_of_alike b h k (Item l v) law (emits b h (Item l v) f) (alike_of a) i))
mail_alike b h c k a law (End n t) f = (λ i. cond (at_alike h k (alike_of a) is_root n (may_end b f) i)
    ((record { place = a.same_length i; to = n; note = Rattle.rx_note.specs.declared.note.Note.TheVariants.End t }) ∷ []) [])
mail_alike b h c k a law _ f = refl

agreeing : (b : Kept) (h : List Event) (c : Kept) (k : List Event) → IsLawful b h → IsLawful c k → Agree b h c k → (e : Event) → AgreeingGoOn b h c k e
agreeing b h c k law law_c a e =
    let back : Agree c k b h = agree_back b h c k a in
    record {
      forced = (forced_too b h c k a law law_c, forced_too c k b h back law_c law);
      allowed = (allowed_too b h c k a law law_c, allowed_too c k b h back law_c law);
      follows = (follows_too b h c k a law law_c, follows_too c k b h back law_c law);
      stops = λ next. stops_of_alike b h k e law (emits b h e next) (alike_of a);
      notes = λ next. mail_alike b h c k a law e next;
      agree = λ next. agree-push b h c k e law law_c next (follows_too b h c k a law law_c next) a;
    }

-- bases of histories that agree -----------------------------------------------------------------------

map_filter_same : {X : Type 0} (f g : ℕ → X) (p : ℕ → Bool) → ((n : ℕ) → p n ≡ true → f n ≡ g n) → (ns : List ℕ) → map f (filter p ns) ≡ map g (filter p ns)
map_filter_same f g p same [] = refl
map_filter_same {X = X} f g p same (n ∷ ns) = search (rules, map, filter, cond, map_filter_same f g p same ns)

module _ (b : Kept) (h : List Event) (c : Kept) (k : List Event) (a : Agree b h c k) where
  alike : Alike h k
  alike = alike_of a

  same_hubs : map (keep_hub h) (hubs h) ≡ map (keep_hub k) (hubs k)
  same_hubs = map_filter_same (keep_hub h) (keep_hub k) (at makes_hub h) same (places h) ∙ ap (map (keep_hub k)) (hubs_alike h k alike) where
    by_event : (n : ℕ) (o : Option Event) → slice_get h n ≡ o → option_map_or makes_hub o false ≡ true → slice_get h n ≡ slice_get k n
    by_event n x1 at_n x3 = search (rules, false≢true, hub_is)

    same : (n : ℕ) → at makes_hub h n ≡ true → keep_hub h n ≡ keep_hub k n
    same n makes = ap (λ o. record { number = n; mode = mode_of (option_map_or (λ e. e) o (Close n)) }) (by_event n (slice_get h n) refl makes)

  same_leases : map (keep_lease h) (filter (is_out h) (places h)) ≡ map (keep_lease k) (filter (is_out k) (places k))
  same_leases = search (rules, map_filter_same, option_map_or, map, filter, range_with_len)

  -- are the same
  pub same_base : base_of b h ≡ base_of c k
  unfolding base_of
  same_base = search (rules, same_hubs, map_filter_same, open_nodes_alike, alike, same_leases)

pub same_debt : (b : Kept) (h : List Event) (c : Kept) (k : List Event) → Agree b h c k → debt b h ≡ debt c k
unfolding debt
same_debt b h c k a = search (rules, sum_by-same, length, sum_by, range_with_len, alike, Alike, alike_of, cond, at_alike)

lawful_on : (b : Kept) (h es : List Event) → IsLawful b h → Continues b h es → IsLawful b (h ++ es)
lawful_on b h [] law each = rw (append-nil h) law
lawful_on b h (e ∷ es) law each = rw (← append_assoc h (e ∷ []) es) (lawful_on b (h ++ e ∷ []) es (IsLawful-push b h e law each.0) each.1)

continues_list : (b : Kept) (before h es : List Event) → Continues b before (h ++ es) → Continues b (before ++ h) es
continues_list b before [] es each = rw (append-nil before) each
continues_list b before (x ∷ h) es each = rw (← append_assoc before (x ∷ []) h) (continues_list b (before ++ x ∷ []) h es each.1)

same_rest : (xs ys zs : List Event) → xs ++ ys ≡ xs ++ zs → ys ≡ zs
same_rest xs ys zs same = sym (drop-append_seam xs ys) ∙ ap (drop (length xs)) same ∙ drop-append_seam xs zs

list_continues : (b : Kept) (h es : List Event) → IsLawful b h → IsLawful b (h ++ es) → Continues b h es
list_continues b h es law longer =
    let whole : shown b ++ longer.since ≡ shown b ++ (law.since ++ es) = sym longer.reads ∙ ap (λ k. k ++ es) law.reads ∙ append_assoc (shown b) law.since es in
    let since : longer.since ≡ law.since ++ es = same_rest (shown b) longer.since (law.since ++ es) whole in
    subst (λ k. Continues b k es) (sym law.reads) (continues_list b (shown b) law.since es (subst (λ k. Continues b (shown b) k) since longer.each))

pub kept_agrees : (b : Kept) (h : List Event) → IsLawful b h → IsSettled b h → Agree b h (base_of b h) (shown (base_of b h))
kept_agrees b h law settled = base_agrees b h law settled

pub base_lawful : (b : Kept) (h : List Event) → IsLawful b h → IsSettled b h → IsLawful (base_of b h) (shown (base_of b h))
base_lawful b h law settled = IsLawful_empty (base_of b h) (base_started b h law settled)

after_base : (b : Kept) (h es : List Event) → IsLawful b h → IsSettled b h → IsLawful b (h ++ es) → GoesOn b h (base_of b h) (shown (base_of b h)) es
after_base b h es law settled longer = search (rules, goes_on, base_lawful, kept_agrees, list_continues)

before_base : (b : Kept) (h es : List Event) → IsLawful b h → IsSettled b h → IsLawful (base_of b h) (shown (base_of b h) ++ es) → IsLawful b (h ++ es)
before_base b h es law settled longer =
    let based = base_lawful b h law settled in
    let agree = agree_back b h (base_of b h) (shown (base_of b h)) (kept_agrees b h law settled) in
    let from_base = list_continues (base_of b h) (shown (base_of b h)) es based longer in
    lawful_on b h es law (goes_on (shown (base_of b h)) b h es based law agree from_base).continues

each_rule : (b : Kept) (h : List Event) (c : Kept) (k : List Event) → IsLawful b h → IsLawful c k → Agree b h c k → EachRule b h c k
each_rule b h c k law law_k a =
    let alike : Alike h k = alike_of a in
    let other : Alike k h = alike_back h k alike in
    let there : AreRead b c (λ n. n) (λ n. n) h k = reads_of a law law_k in
    let back : AreRead c b (λ n. n) (λ n. n) k h = read_back there in
    record {
      mirrors = λ p t. (mirrors_too b c h k alike there p t, mirrors_too c b k h other back p t);
      fires = λ u. (fires_too b c h k alike there u, fires_too c b k h other back u);
      fails = λ f code. (fails_too b c h k alike there f code, fails_too c b k h other back f code);
      completes = λ f. (completes_too b c h k alike there (fails_too c b k h other back) f, completes_too c b k h other back (fails_too b c h k alike there) f);
      cuts = λ s t. (cuts_too b c h k alike there s t, cuts_too c b k h other back s t);
      leaves = λ n. (leaves_too b c h k alike there n, leaves_too c b k h other back n);
      connects = λ g. (connect_due_read there g, connect_due_read back g);
    }

pub checkpoints_agree : CheckpointsAgree
checkpoints_agree =
    record {
      rules = each_rule;
      debts = same_debt;
      one_base = same_base;
      empty = empty_base;
      started = base_started;
      kept = kept_agrees;
      alike = agreeing;
      continued = λ b h es law settled. (
        (λ longer. lawful_on (base_of b h) (shown (base_of b h)) es (base_lawful b h law settled) (after_base b h es law settled longer).continues),
        before_base b h es law settled,
      );
      after = λ b h es law settled longer. (after_base b h es law settled longer).agree;
    }
