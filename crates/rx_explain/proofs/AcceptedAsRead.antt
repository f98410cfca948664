-- What is accepted, by what was read.
use Rattle.std.proofs.Common.{◌≡◌, ℕ, ◌<◌, ◌≤◌, ◌⊎◌, inl, inr, List, length, take, Option, Some, None}
use Rattle.std.proofs.Common.{Bool, true, false, refl, ap, sym, subst, ◌∙◌, arith, slice_get}
use Rattle.std.specs.Prelude.{is_some, is_none, Result, Ok, Err, IfOk, IsUtf8, codes, unwrap_or, ◌||◌, ◌&&◌, if◌then◌else◌}
use Rattle.std.specs.List.{list_all}
use Rattle.std.specs.Ordering.{nat_cmp, match_ordering}
use Rattle.std.specs.Cmp.Lexicographic.{slice_cmp}
use Rattle.std.specs.declared.cmp.Ordering.{Ordering}
use Rattle.std.specs.declared.cmp.Ordering.TheVariants.{Less, Equal, Greater}
use Rattle.std.proofs.lemmas.Map.Lookups.{exact_bytes}
use Rattle.std.proofs.lemmas.Bool.{false≢true}
use Rattle.std.proofs.lemmas.Option.{same_Some, none-some}
use Rattle.serde_json.specs.Data.{Data, null, boolean, number, string, array, object, Members, no_members, member}
use Rattle.serde_json.specs.Find.{as_array, get, get_member}
use Rattle.serde_json.specs.Read.{read}
use Rattle.rx_event.specs.declared.event.Event.{Event}
use Rattle.rx_event.specs.Kept.{nothing_kept}
use Rattle.rx_event.specs.Forced.{IsSettled}
use Rattle.rx_event.specs.Lawful.{IsLawful, MayFollow}
use Rattle.rx_event.proofs.Laws.Begin.{shown_nothing}
use Rattle.rx_event.proofs.Laws.Lawful.{FoundAt, in_base, since_base, found_at}
use Rattle.rx_audit.specs.declared.verdict.Verdict.{Verdict}
use Rattle.rx_audit.specs.declared.verdict.Verdict.TheVariants.{Lawful, Unlawful, Unsettled}
use Rattle.rx_audit.specs.Verdict.{IsVerdict}
use Rattle.rx_device.specs.Input.{IsJsonOf, most_bytes}
use Rattle.rx_scenario.specs.Scenario.{Script}
use Rattle.rx_scenario.specs.Reading.{scenario_of, has_only, is_one_of, keys}
use Rattle.rx_dump.specs.History.{history_of}
use Rattle.rx_dump.specs.Verdict.{is_lawful}
use Rattle.rx_dump.specs.Names.{dump_in}
use Rattle.rx_explain.specs.Accepted.{IsScenario, IsLawfulDump, IsTaken, IsAccepted, SaysNothingWhere}

-- one verdict -------------------------------------------------------------------------------------

-- in a lawful history each event may follow those before it
follows : (h : List Event) (i : ℕ) (e : Event) → FoundAt nothing_kept h i e → MayFollow nothing_kept (take i h) e
follows h i e (in_base found same) = absurd (none-some e (subst (λ k. slice_get k i ≡ Some e) shown_nothing found))
follows h i e (since_base next) = next

pub not_lawful : (h : List Event) (i : ℕ) (e : Event) → slice_get h i ≡ Some e → ¬ MayFollow nothing_kept (take i h) e → ¬ IsLawful nothing_kept h
not_lawful h i e found breaks law = breaks (follows h i e (found_at nothing_kept h law i e found))

-- of a history that is lawful and settled no other verdict is true
pub lawful_alone : (h : List Event) → IsLawful nothing_kept h → IsSettled nothing_kept h → (v : Verdict) → IsVerdict h v → is_lawful v ≡ true
lawful_alone h law settled (Lawful live held waiting) is = refl
lawful_alone h law settled (Unlawful place) is = absurd (not_lawful h place is.event is.found is.breaks law)
lawful_alone h law settled Unsettled is = absurd (is.unsettled settled)

one_verdict : (h : List Event) (v w : Verdict) → IsVerdict h v → IsVerdict h w → is_lawful v ≡ true → is_lawful w ≡ true
one_verdict h (Lawful live held waiting) w is that e = lawful_alone h is.lawful is.settled w that
one_verdict h (Unlawful place) w is that e = absurd (false≢true e)
one_verdict h Unsettled w is that e = absurd (false≢true e)

-- dumps and scenarios -----------------------------------------------------------------------------

pub no_dump : (d : Data) → history_of d ≡ None → ¬ IsLawfulDump d
no_dump d e is = none-some is.is_verdict.history (sym e ∙ is.is_verdict.reading)

pub no_scenario : (d : Data) → scenario_of d ≡ None → ¬ IsScenario d
no_scenario d e is = none-some is.script (sym e ∙ is.reading)

-- a text that is read in place
pub scenario_in_place : (input : List ℕ) (d : Data) (r : Option Script) (is : Bool) → IsJsonOf input d → r ≡ scenario_of d → is ≡ is_some r
    → (e : Data) → IsJsonOf input e → is ≡ is_some (scenario_of e)
scenario_in_place input d r is json reading same e other =
    same ∙ ap is_some reading ∙ ap (λ (v : Data). is_some (scenario_of v)) (same_Some _ _ (sym json.value ∙ other.value))

-- what is read as a script is a scenario
scenario_some : (d : Data) (r : Option Script) → true ≡ is_some r → scenario_of d ≡ r → IsScenario d
scenario_some d None is reading = absurd (false≢true (sym is))
scenario_some d (Some script) is reading = record { script = script; reading = reading }

pub scenario_read : (d : Data) → true ≡ is_some (scenario_of d) → IsScenario d
scenario_read d is = scenario_some d (scenario_of d) is refl

-- nothing is said of a dump where the verdict on its history is `lawful`
dump_told : {X : Type 0} (d : Data) (h : List Event) (v : Verdict) (told : Option X) → history_of d ≡ Some h → IsVerdict h v → is_none told ≡ is_lawful v →
    SaysNothingWhere (IsLawfulDump d) told
dump_told d h v None reading is e = record { verdict = v; is_verdict = record { history = h; reading = reading; verdict = is }; lawful = sym e }
dump_told d h v (Some told) reading is e = λ other.
    let same : other.is_verdict.history ≡ h = same_Some _ _ (sym other.is_verdict.reading ∙ reading) in
    false≢true (e ∙ one_verdict h other.verdict v (subst (λ k. IsVerdict k other.verdict) same other.is_verdict.verdict) is other.lawful)

pub dump_answer : {X E : Type 0} (d : Data) (h : List Event) (v : Verdict) (answer : Result (Option X) E) → history_of d ≡ Some h → IsVerdict h v →
    IfOk answer (λ told. is_none told ≡ is_lawful v) → IfOk answer (SaysNothingWhere (IsLawfulDump d))
dump_answer d h v (Ok told) reading is e = dump_told d h v told reading is e
dump_answer d h v (Err error) reading is e = tt

-- an array is no scenario
scenario_no_array : (d : Data) → is_some (as_array d) ≡ true → ¬ IsScenario d
unfolding scenario_of
scenario_no_array null e is = false≢true e
scenario_no_array (boolean b) e is = false≢true e
scenario_no_array (number n) e is = false≢true e
scenario_no_array (string s) e is = false≢true e
scenario_no_array (array ds) e is = none-some is.script is.reading
scenario_no_array (object ms) e is = false≢true e

-- and nothing else a dump
dump_array : (d : Data) → is_some (as_array d) ≡ false → ¬ IsLawfulDump d
unfolding history_of
dump_array null e is = none-some is.is_verdict.history is.is_verdict.reading
dump_array (boolean b) e is = none-some is.is_verdict.history is.is_verdict.reading
dump_array (number n) e is = none-some is.is_verdict.history is.is_verdict.reading
dump_array (string s) e is = none-some is.is_verdict.history is.is_verdict.reading
dump_array (array ds) e is = false≢true (sym e)
dump_array (object ms) e is = none-some is.is_verdict.history is.is_verdict.reading

and_none : (b : Bool) → (b && false) ≡ false
and_none true = refl
and_none false = refl

none_where : {A : Type 0} (b : Bool) (o : Option A) → b ≡ false → (if b then o else None) ≡ None
none_where false o e = refl
none_where true o e = absurd (false≢true (sym e))

-- a value without the member `dump` is the dump that is in it
pub itself : (d : Data) → get (codes "dump") d ≡ None → dump_in d ≡ d
itself d e = ap (λ (o : Option Data). unwrap_or o d) e

-- a name that the test refuses is not among those that pass it
refused_name : (p : List ℕ → Bool) (k l : List ℕ) (e : Data) (ms : Members) (o : Ordering) → slice_cmp nat_cmp k l ≡ o → p k ≡ false
    → (is_some (get_member k ms) ≡ true → list_all p (keys ms) ≡ false)
    → is_some (match_ordering o (get_member k ms) (Some e) (get_member k ms)) ≡ true → (p l && list_all p (keys ms)) ≡ false
refused_name p k l e ms Less is refused rest found = ap (λ (b : Bool). p l && b) (rest found) ∙ and_none (p l)
refused_name p k l e ms Equal is refused rest found =
    ap (λ (b : Bool). b && list_all p (keys ms)) (ap p (sym (exact_bytes k l is)) ∙ refused)
refused_name p k l e ms Greater is refused rest found = ap (λ (b : Bool). p l && b) (rest found) ∙ and_none (p l)

not_only : (p : List ℕ → Bool) (k : List ℕ) (ms : Members) → p k ≡ false → is_some (get_member k ms) ≡ true → list_all p (keys ms) ≡ false
not_only p k no_members refused found = absurd (false≢true found)
not_only p k (member l e ms) refused found =
    refused_name p k l e ms (slice_cmp nat_cmp k l) refl refused (not_only p k ms refused) found

-- an object with a dump is no scenario
scenario_no_dump : (d : Data) → is_some (get (codes "dump") d) ≡ true → ¬ IsScenario d
unfolding scenario_of has_only is_one_of
scenario_no_dump null e is = false≢true e
scenario_no_dump (boolean b) e is = false≢true e
scenario_no_dump (number n) e is = false≢true e
scenario_no_dump (string s) e is = false≢true e
scenario_no_dump (array ds) e is = false≢true e
scenario_no_dump (object ms) e is = none-some is.script (sym (none_where _ _ (not_only _ (codes "dump") ms refl e)) ∙ is.reading)

-- what is taken -----------------------------------------------------------------------------------

neither : {A B : Type 0} → ¬ A → ¬ B → ¬ (A ⊎ B)
neither no_left no_right (inl a) = no_left a
neither no_left no_right (inr b) = no_right b

scenario_no_history : (d : Data) (a b : Bool) → is_some (as_array d) ≡ a → is_some (get (codes "dump") d) ≡ b → (a || b) ≡ true → ¬ IsScenario d
scenario_no_history d true b is has e = scenario_no_array d is
scenario_no_history d false true is has e = scenario_no_dump d has
scenario_no_history d false false is has e = absurd (false≢true e)

-- what has no dump is none
no_history : (d : Data) (a : Bool) (o : Option Data) → is_some (as_array d) ≡ a → get (codes "dump") d ≡ o → (a || is_some o) ≡ false
    → ¬ IsLawfulDump (dump_in d)
no_history d true o is has e = absurd (false≢true (sym e))
no_history d false (Some x) is has e = absurd (false≢true (sym e))
no_history d false None is has e = subst (λ (x : Data). ¬ IsLawfulDump x) (sym (itself d has)) (dump_array d is)

pub taken_history : {X E : Type 0} (d : Data) (answer : Result (Option X) E) → (is_some (as_array d) || is_some (get (codes "dump") d)) ≡ true
    → IfOk answer (SaysNothingWhere (IsLawfulDump (dump_in d))) → IfOk answer (SaysNothingWhere (IsTaken d))
taken_history d (Ok None) e is = inr is
taken_history d (Ok (Some told)) e is = neither (scenario_no_history d (is_some (as_array d)) (is_some (get (codes "dump") d)) refl refl e) is
taken_history d (Err error) e is = tt

pub taken_other : {X E : Type 0} (d : Data) (answer : Result (Option X) E) → (is_some (as_array d) || is_some (get (codes "dump") d)) ≡ false
    → IfOk answer (SaysNothingWhere (IsScenario d)) → IfOk answer (SaysNothingWhere (IsTaken d))
taken_other d (Ok None) e is = inl is
taken_other d (Ok (Some told)) e is = neither is (no_history d (is_some (as_array d)) (get (codes "dump") d) refl refl e)
taken_other d (Err error) e is = tt

-- what is accepted --------------------------------------------------------------------------------

pub one_value : (input : List ℕ) (d e : Data) → IsJsonOf input d → IsJsonOf input e → d ≡ e
one_value input d e a b = same_Some _ _ (sym a.value ∙ b.value)

pub accepted_by : {X E : Type 0} (input : List ℕ) (d : Data) (answer : Result (Option X) E) → length input ≤ most_bytes → IsJsonOf input d →
    IfOk answer (SaysNothingWhere (IsTaken d)) → IfOk answer (SaysNothingWhere (IsAccepted input))
accepted_by input d (Ok None) short json is = record { short = short; value = d; json = json; taken = is }
accepted_by input d (Ok (Some told)) short json is = λ a. is (subst IsTaken (one_value input a.value d a.json json) a.taken)
accepted_by input d (Err error) short json is = tt

pub too_many : (input : List ℕ) → most_bytes < length input → ¬ IsAccepted input
too_many input long a = let short = a.short in omega arith

pub no_json : (input : List ℕ) → (IsUtf8 input → read input ≡ None) → ¬ IsAccepted input
no_json input none a = none-some a.value (sym (none a.json.text) ∙ a.json.value)
