-- Names that are released one after another.
use Rattle.rx_live.proofs.Common.{◌≡◌, ℕ, ◌≤◌, ◌==◌, zero, suc, Bool, true, false, cond, List, [], ◌∷◌, ◌++◌, codes, length, map, Option, Some, None, refl}
use Rattle.rx_live.proofs.Common.{option_map, sym, ap, ◌∙◌, arith, subst, String, Global, string_bytes, IfSome, IfNone, is_some, not, ◌&&◌, ◌||◌, at}
use Rattle.rx_live.proofs.Common.{bytes_eq, Contains, list_any, option_map_or, append-nil, map-append, All-contains, none-some, bytes_eq-Decides, Taking}
use Rattle.rx_live.proofs.Common.{NameAct}
use Rattle.rx_live.proofs.Common.{Event, makes_resource, is_take_of, is_waiting, is_held, is_taken, Name, State, IsPromised, is_kept, take_request, Accepts}
use Rattle.rx_live.proofs.Common.{Spot, Names, spot_of, name_of_number, IsPaired, Forgets, name_text, joined, Session, IsSound, has_resource, released}
use Rattle.rx_live.proofs.Common.{LeadsNames, Takes}
use Rattle.rx_live.proofs.Common.{no_act, releases, none_taken, one_taken, WritesNames, AreNamesWritten, kept_taken, out_same}
use Rattle.rx_live.specs.Steps.{TakesName, DropsName, WritesName, WritesNoName}
use Rattle.rx_live.proofs.Laws.HeldStaysHeld.{leads_on}
use Rattle.rx_live.proofs.Soundness.{accepted_longer}
use Rattle.rx_live.proofs.AcceptedBindsNames.{placed_longer, some_gone}
use Rattle.rx_live.proofs.NamesOfOpenNodes.{free_forgot}
use Rattle.rx_live.proofs.Tellings.{array_more, array_end}
use Rattle.std.proofs.Common.{rules}

-- what waits is kept, and so has a name --------------------------------------------------------------

kept_shape : (made held gone : Bool) → (made && not held && not (made && gone)) ≡ true → (made && not gone) ≡ true
kept_shape x0 x1 gone p = search rules

waiting_kept : (h : List Event) (r : ℕ) → is_waiting h r ≡ true → is_kept h r ≡ true
unfolding is_waiting is_taken is_kept
waiting_kept h r waits = kept_shape (at makes_resource h r) (is_held h r) (list_any (is_take_of r) h) waits

Contains-map : {X Y : Type 0} (f : X → Y) (xs : List X) (x : X) → Contains xs x → Contains (map f xs) (f x)
Contains-map f [] x c = absurd (omega (arith, c.1))
Contains-map f (y ∷ xs) x (zero, within, at) = (0, omega arith, ap f at)
Contains-map f (y ∷ xs) x (suc k, within, at) = let c = Contains-map f xs x (k, omega arith, at) in (suc c.0, (let l = c.1 in omega arith), c.2)

pub contains_number : {L : Type 0} (number : L → ℕ) (ls : List L) (l : L) (r : ℕ) → Contains ls l → r ≡ number l → Contains (map number ls) r
contains_number number ls l r within is = subst (λ (n : ℕ). Contains (map number ls) n) (sym is) (Contains-map number ls l within)

pub waiting_named : (s : Session) (r : ℕ) → IsSound s → Contains (map (λ l. l.number) s.book.waiting) r → is_some (name_of_number s.resources r) ≡ true
waiting_named s r sound member = search (rules, waiting_kept, All-contains, map)

pub never_none : (result : Option (String Global)) (named : Option Name) (P : Type 0) → option_map string_bytes result ≡ named → is_some named ≡ true →
    IfNone result P
never_none x0 named x2 value some = search (rules, is_some)

pub none_left : (result : Option (String Global)) (P : Type 0) → P → IfNone result P
none_left x0 P holds = search rules

-- of the names t, what is told of resource q is gone, and was its name
pub record IsForgotten (s : Session) (q : ℕ) (told : Option (String Global)) (t : Names) : Type 0 where
  pub paired : IsPaired t
  pub value : option_map string_bytes told ≡ name_of_number s.resources q
  pub forgets : IfSome told (λ n. Forgets s.resources q (string_bytes n) t)

pub taken_sound : {s : Session} {book : State} {q : ℕ} {t : Names} {told : Option (String Global)} → IsSound s → IsPromised book →
    Accepts s.book (take_request q) book → is_some (name_of_number s.resources q) ≡ true → IsForgotten s q told t
    → IsSound (record s { book = book; resources = t })
taken_sound {told = None} sound kept accepts named gone = let e : false ≡ true = ap is_some gone.value ∙ named in absurd (cc)
taken_sound {s} {book} {q} {t} {told = Some n} sound kept accepts named gone =
    let forgets : Forgets s.resources q (string_bytes n) t = gone.forgets in
    let name : Name = string_bytes n in
    let longer : length s.book.history ≤ length book.history = accepted_longer s.book book (take_request q) accepts in
    record {
      kept = kept;
      node_pairs = sound.node_pairs;
      hub_pairs = sound.hub_pairs;
      resource_pairs = gone.paired;
      lease_pairs = sound.lease_pairs;
      nodes = placed_longer s.book.history book.history s.nodes sound.nodes longer;
      hubs = placed_longer s.book.history book.history s.hubs sound.hubs longer;
      resources = λ r. ap is_some (forgets.names r) ∙ some_gone (q == r) (name_of_number s.resources r)
          ∙ ap (λ (b : Bool). cond (q == r) false b) (sound.resources r)
          ∙ sym (kept_taken accepts.step r);
      leases = λ l. sound.leases l ∙ sym (out_same (Taking q) accepts.step refl l);
      unnamed = λ m is. free_after m (bytes_eq name m) refl (sound.unnamed m is);
    }
  where
    free_after : (m : Name) (b : Bool) → bytes_eq (string_bytes n) m ≡ b → spot_of s.resources m ≡ None → spot_of t m ≡ None
    free_after m true same free = gone.forgets.spots m ∙ ap (λ (b : Bool). cond b None (spot_of s.resources m)) same
    free_after m false apart free = gone.forgets.spots m ∙ ap (λ (b : Bool). cond b None (spot_of s.resources m)) apart ∙ free

-- one name ------------------------------------------------------------------------------------------

eq_sym : (m n : Name) → bytes_eq m n ≡ true → bytes_eq n m ≡ true
eq_sym m n same = (bytes_eq-Decides n m).1 (sym ((bytes_eq-Decides m n).0 same))

apart_sym : (m n : Name) → bytes_eq m n ≡ false → bytes_eq n m ≡ false
apart_sym m n apart = search (rules, bytes_eq, eq_sym)

or_true : (a b : Bool) → b ≡ true → (a || b) ≡ true
or_true x0 b p = search rules

pub or_none : (a b : Bool) → b ≡ false → (a || b) ≡ a
or_none x0 b p = search rules

-- the name of a resource that was taken before
pub dropped_unnamed : (s : Session) (name : Name) (rest : Option Name) → IsSound s → s.unnamed ≡ Some name → rest ≡ None →
    DropsName s name (record s { unnamed = rest })
dropped_unnamed s name rest sound is none = search (rules, or_true, is_some, option_map_or, bytes_eq, bytes_eq-Decides, none_taken, cond, apart_sym, or_none)

known_spot : (s : Session) (number : ℕ) (name : Name) → IsSound s → name_of_number s.resources number ≡ Some name → is_some (spot_of s.resources name) ≡ true
known_spot s number name sound known = by_spot (spot_of s.resources name) (sound.resource_pairs.numbered number name known) where
  by_spot : (o : Option Spot) → option_map (λ (p : Spot). p.number) o ≡ Some number → is_some o ≡ true
  by_spot None is = absurd (none-some number is)
  by_spot (Some p) is = refl

or_first : (a b : Bool) → a ≡ true → (a || b) ≡ true
or_first x0 b p = search rules

-- that of one which is taken now
dropped_one : (s new : Session) (name : Name) → s.unnamed ≡ None → IsSound s → TakesName s name new → DropsName s name new
dropped_one s new name none sound taken = record {
  was = or_first (is_some (spot_of s.resources name)) _ (known_spot s taken.number name sound taken.known);
  held = λ n. by_name n (bytes_eq name n) refl;
  free = free_forgot s.resources new.resources taken.number name taken.forgets;
  gone = unnamed;
  takes = one_taken s.book taken.number none_taken taken.accepts;
  rest = taken.rest ∙ (λ i. record s { book = new.book; resources = new.resources; unnamed = (none ∙ sym unnamed) i });
  fewer = let fewer = taken.fewer in
      let before : ◌≡◌ {A = ℕ} (option_map_or (λ (n : Name). 1) s.unnamed 0) 0 = ap (λ (o : Option Name). option_map_or (λ (n : Name). 1) o 0) none in
      let after : ◌≡◌ {A = ℕ} (option_map_or (λ (n : Name). 1) new.unnamed 0) 0 = ap (λ (o : Option Name). option_map_or (λ (n : Name). 1) o 0) unnamed in
      omega (arith, before, after);
} where
  unnamed : new.unnamed ≡ None
  unnamed = ap (λ (t : Session). t.unnamed) taken.rest ∙ none

  by_name : (n : Name) (b : Bool) → bytes_eq name n ≡ b → has_resource new n ≡ cond (bytes_eq name n) false (has_resource s n)
  by_name n b test =
      let gone : option_map_or (bytes_eq n) new.unnamed false ≡ false = ap (λ (o : Option Name). option_map_or (bytes_eq n) o false) unnamed in
      let other : option_map_or (bytes_eq n) s.unnamed false ≡ false = ap (λ (o : Option Name). option_map_or (bytes_eq n) o false) none in
      or_none (is_some (spot_of new.resources n)) _ gone ∙ ap is_some (taken.forgets.spots n) ∙ gone_spot (bytes_eq name n) (spot_of s.resources n)
      ∙ ap (λ (c : Bool). cond (bytes_eq name n) false c) (sym (or_none (is_some (spot_of s.resources n)) _ other))
    where
      gone_spot : (c : Bool) (o : Option Spot) → is_some (cond c None o) ≡ cond c false (is_some o)
      gone_spot true o = refl
      gone_spot false o = refl

pub dropped_taken : (s mid new : Session) (result : Option (String Global)) → mid ≡ s → s.unnamed ≡ None → IsSound s →
    IfSome result (λ n. TakesName mid (string_bytes n) new) → IfSome result (λ n. DropsName s (string_bytes n) new)
dropped_taken s mid new x3 same none sound taken = search (rules, dropped_one, string_bytes)

pub wrote_no_name : (s new : Session) (begun : List ℕ) → new ≡ s → s.book.waiting ≡ [] → WritesNoName s begun new begun
wrote_no_name s new begun same none = search (rules, none_taken)

-- many ------------------------------------------------------------------------------------------------

pub takes_on : {a b c : State} → Takes a b → Takes b c → Takes a c
takes_on p none_taken = p
takes_on p (one_taken mid r before accepts) = one_taken mid r (takes_on p before) accepts

names_rest : (a b c : Session) → b ≡ record a { book = b.book; resources = b.resources; unnamed = b.unnamed } →
    c ≡ record b { book = c.book; resources = c.resources; unnamed = c.unnamed } →
    c ≡ record a { book = c.book; resources = c.resources; unnamed = c.unnamed }
names_rest a b c p q = search rules

pub drop_leads : (a b : Session) (name : Name) → DropsName a name b → LeadsNames (has_resource a) (released name ∷ []) (has_resource b)
drop_leads a b name drops = releases name drops.was (no_act drops.held)

pub names_begun : (old now : Session) (begun text : List ℕ) → WritesName old begun (codes ",\"release\":[") now text → AreNamesWritten old begun now text
names_begun old now begun text one = search (rules, releases, drop_leads, codes, append-nil)

pub names_more : (old mid now : Session) (begun before text : List ℕ) → AreNamesWritten old begun mid before → WritesName mid before (codes ",") now text →
    AreNamesWritten old begun now text
names_more old mid now begun before text so_far one =
    let all = so_far.first ∷ so_far.more in
    record {
      first = so_far.first;
      more = so_far.more ++ one.name ∷ [];
      releases = record {
        leads = subst (λ (acts : List NameAct). LeadsNames (has_resource old) acts (has_resource now)) (sym (map-append released all (one.name ∷ [])))
            (leads_on so_far.releases.leads (drop_leads mid now one.name one.drops));
        takes = takes_on so_far.releases.takes one.drops.takes;
        rest = names_rest old mid now so_far.releases.rest one.drops.rest;
      };
      written = one.written ∙ array_more name_text begun (codes ",\"release\":[") so_far.first so_far.more one.name before so_far.written;
    }

pub names_ended : (old mid now : Session) (begun before text : List ℕ) → AreNamesWritten old begun mid before → WritesNoName mid before now text →
    WritesNames old begun now (text ++ codes "]")
names_ended old mid now begun before text so_far none =
    let all = so_far.first ∷ so_far.more in
    record {
      names = all;
      releases = record {
        leads = subst (λ (acts : List NameAct). LeadsNames (has_resource old) acts (has_resource now)) (append-nil (map released all))
            (leads_on so_far.releases.leads (no_act none.held));
        takes = takes_on so_far.releases.takes none.takes;
        rest = names_rest old mid now so_far.releases.rest none.rest;
      };
      all = none.all;
      written = ap (λ (t : List ℕ). t ++ codes "]") none.written ∙ array_end begun (codes ",\"release\":[") (joined (map name_text all)) before so_far.written;
    }

pub names_none : (old now : Session) (begun text : List ℕ) → WritesNoName old begun now text → WritesNames old begun now text
names_none old now begun text none = search (rules, releases, no_act, append-nil)
