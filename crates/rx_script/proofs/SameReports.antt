-- Stages that are the same but for numbers are reported the same, line by line.
use Rattle.rx_script.proofs.Common.{◌≡◌, ℕ, Bool, true, false, List, [], ◌∷◌, ◌++◌, length, Option, Some, cond, map, filter, slice_get, refl, sym, ap, ◌∙◌}
use Rattle.rx_script.proofs.Common.{flat_map, unwrap_or, option_and_then, option_map_or, false≢true, length-map, nothing_kept, Event, Accept, makes_node}
use Rattle.rx_script.proofs.Common.{makes_resource, at, places, is_held, held_count, waiting_count, event_by, is_named, AreSameBy, accepted_count-parts}
use Rattle.rx_script.proofs.Common.{accepted_tag, Answer, Binding, node_line, res_line, Held, Waiting, Taken, is_told, line_of_node, node_lines, account_of}
use Rattle.rx_script.proofs.Common.{res_lines, totals_reported, Stage, unclosed_report, report}
use Rattle.std.proofs.lemmas.List.Sums.{length-filter}
use Rattle.rx_event.specs.Resources.{held_resources}
use Rattle.rx_event.specs.Claims.Seen.{CallersSeeTheSame}
use Rattle.rx_event.proofs.Laws.Resources.{is_held_within, held_resource}
use Rattle.rx_event.proofs.Laws.ReadShown.{made_at, resource_named, resource_made}
use Rattle.rx_event.proofs.Laws.TreeRead.{node_named}
use Rattle.rx_event.proofs.Laws.RisingLists.{same_list}
use Rattle.rx_event.proofs.Laws.ReadSeen.{callers_see}
use Rattle.rx_script.proofs.NamesForOtherNumbers.{renamed, AllNumbers}
use Rattle.rx_script.proofs.SameStages.{AreSameStages}
use Rattle.std.proofs.Common.{rules}

told_by : (r : ℕ → ℕ) (e : Event) → is_told (event_by r e) ≡ is_told e
told_by r x1 = search rules

node_made : (h : List Event) (n : ℕ) → at makes_node h n ≡ true → (e : Event) × (slice_get h n ≡ Some e) × (makes_node e ≡ true)
node_made h n holds = search (rules, slice_get, option_map_or, false≢true)

module _ (r s : ℕ → ℕ) (h c : List Event) (a : AreSameBy nothing_kept r s h c) where
  seen : CallersSeeTheSame nothing_kept r s h c
  seen = callers_see nothing_kept r s h c a

  -- nodes ------------------------------------------------------------------------------------------------------------------------

  told_same : (n : ℕ) → at makes_node h n ≡ true → at is_told c (r n) ≡ at is_told h n
  told_same n made =
      let w = node_made h n made in
      ap (λ (o : Option Event). option_map_or is_told o false) (a.shown.kept n w.0 (node_named w.0 w.2) w.1) ∙ told_by r w.0 ∙
      ap (λ (o : Option Event). option_map_or is_told o false) (sym w.1)

  node_line_same : (b : Binding) → at makes_node h b.number ≡ true → line_of_node c (renamed r b) ≡ line_of_node h b
  node_line_same b made = λ i. node_line b.name (seen.same_open b.number made i) (a.shown.told b.number made i)

  pub node_lines_same : (bindings : List Binding) → AllNumbers (λ n. at makes_node h n ≡ true) bindings
      → node_lines c (map (renamed r) bindings) ≡ node_lines h bindings
  node_lines_same [] all = refl
  node_lines_same (b ∷ bindings) all = ap (λ (t : Bool). flat_map (line_of_node c)
      (cond t (renamed r b ∷ filter (λ x. at is_told c x.number) (map (renamed r) bindings))
      (filter (λ x. at is_told c x.number) (map (renamed r) bindings))))
      (told_same b.number all.0) ∙ by_test (at is_told h b.number) (node_lines_same bindings all.1)
    where
      by_test : (t : Bool) → node_lines c (map (renamed r) bindings) ≡ node_lines h bindings
          → flat_map (line_of_node c) (cond t (renamed r b ∷ filter (λ x. at is_told c x.number) (map (renamed r) bindings))
          (filter (λ x. at is_told c x.number) (map (renamed r) bindings)))
          ≡ flat_map (line_of_node h) (cond t (b ∷ filter (λ x. at is_told h x.number) bindings) (filter (λ x. at is_told h x.number) bindings))
      by_test true rest = λ i. node_line_same b all.0 i ++ rest i
      by_test false rest = rest

  -- resources --------------------------------------------------------------------------------------------------------------------

  tag_same : (n : ℕ) → at makes_resource h n ≡ true → option_and_then accepted_tag (slice_get c (r n)) ≡ option_and_then accepted_tag (slice_get h n)
  tag_same n made =
      let w = resource_made h n made in
      ap (option_and_then accepted_tag) (a.shown.kept n (Accept w.0 w.1) refl w.2) ∙ ap (option_and_then accepted_tag) (sym w.2)

  account_same : (n : ℕ) → at makes_resource h n ≡ true → account_of c (r n) ≡ account_of h n
  account_same n made = λ i. record {
    tag = unwrap_or (tag_same n made i) 0;
    uses = a.shown.used n made i;
    whereabouts = cond (a.shown.held n made i) Held (cond (a.shown.taken n made i) Taken Waiting);
    leases = a.shown.leases n made i;
  }

  pub res_lines_same : (bindings : List Binding) → AllNumbers (λ n. at makes_resource h n ≡ true) bindings
      → res_lines c (map (renamed r) bindings) ≡ res_lines h bindings
  res_lines_same [] all = refl
  res_lines_same (b ∷ bindings) all = λ i. res_line b.name (account_same b.number all.0 i) ++ res_lines_same bindings all.1 i

  -- totals -----------------------------------------------------------------------------------------------------------------------

  held_back : (p : ℕ) → is_held c p ≡ true → (is_held h (s p) ≡ true) × (r (s p) ≡ p)
  held_back p held =
      let made : at makes_resource c p ≡ true = held_resource c p held in
      (a.shown_back.held p made ∙ held, a.shown_back.apart p (made_at makes_resource is_named resource_named c p made))

  held_same : held_resources c ≡ map r (held_resources h)
  held_same = same_list r s (is_held h) (is_held c) (length h) (length c) (record {
    within = is_held_within h;
    within_there = is_held_within c;
    there = λ p held. a.shown.held p (held_resource h p held) ∙ held;
    back = held_back;
    grows = λ m n held also l. a.shown.in_order m n (made_at makes_resource is_named resource_named h m (held_resource h m held))
        (made_at makes_resource is_named resource_named h n (held_resource h n also)) l;
  })

  held_count_same : held_count c ≡ held_count h
  held_count_same = sym (length-filter (is_held c) (places c)) ∙ ap length held_same ∙ length-map (held_resources h) r ∙ length-filter (is_held h) (places h)

  waiting_count_same : waiting_count c ≡ waiting_count h
  waiting_count_same = search (rules, held_count_same, accepted_count-parts)

  pub totals_same : totals_reported nothing_kept c ≡ totals_reported nothing_kept h
  totals_same = λ i. record {
    nodes = a.shown.node_total i;
    open_nodes = seen.open_total i;
    accepted = a.shown.accepted_total i;
    held = held_count_same i;
    waiting = waiting_count_same i;
    taken = a.shown.taken_total i;
  }

-- the whole text
pub report_same : (r s : ℕ → ℕ) (answers : List Answer) (x y : Stage) (faults : ℕ) → AreSameStages r s x y
    → report (record { answers = answers; last = y }) faults ≡ report (record { answers = answers; last = x }) faults
unfolding report unclosed_report
report_same r s answers x y faults a = search (rules, totals_same, node_lines_same, res_lines_same, held_count_same, waiting_count_same)
