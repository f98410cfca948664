-- The marbles of the first places, and those of one more.
use Rattle.rx_picture.proofs.Common.{◌≡◌, ℕ, ◌+◌, ◌≤◌, Bool, true, false, cond, List, [], ◌∷◌, ◌++◌, length, take, filter, Option, Some, None}
use Rattle.rx_picture.proofs.Common.{refl, sym, ap, ◌∙◌, append-nil, flat_map, option_and_then, range_with_len, Event, climb, told_in_track}
use Rattle.std.proofs.Common.{ℤ, rules, take_all}
use Rattle.std.proofs.lemmas.List.Sums.{fold-append}
use Rattle.std.proofs.lemmas.List.Concat.{flat_map-append}
use Rattle.std.specs.List.{filter_map, cons_option, fold}
use Rattle.std.specs.Option.{option_to_list}
use Rattle.rx_event.specs.declared.mail.Mail.{Mail}
use Rattle.rx_event.specs.declared.event.Event.TheVariants.{Item}
use Rattle.rx_event.specs.Climb.{Stop, stop_at, stops}
use Rattle.rx_event.specs.Notes.{mail_of, told}
use Rattle.rx_picture.specs.Told.{told_once, marbles_at}
use Rattle.rx_picture.proofs.RowsOfFirstPlaces.{next_filter}

-- an item -----------------------------------------------------------------------------------------

module _ (track : ℕ → Bool) (past : List Event) (value : ℤ) where
  told_mail : (o : Option Mail) (ms more : List Mail) → filter (λ m. track m.to) ms ≡ more →
      filter (λ m. track m.to) (cons_option o ms) ≡ filter (λ m. track m.to) (option_to_list o) ++ more
  told_mail None ms more same = same
  told_mail (Some m) ms more same = by_track (track m.to) where
    by_track : (b : Bool) → cond b (m ∷ filter (λ m. track m.to) ms) (filter (λ m. track m.to) ms) ≡ cond b (m ∷ []) [] ++ more
    by_track true = ap (λ (xs : List Mail). m ∷ xs) same
    by_track false = same

  told_stop : (o : Option Stop) (ss : List Stop) (more : List Mail) → filter (λ m. track m.to) (filter_map (told (length past) value) ss) ≡ more →
      filter (λ m. track m.to) (filter_map (told (length past) value) (cons_option o ss))
      ≡ filter (λ m. track m.to) (option_to_list (option_and_then (told (length past) value) o)) ++ more
  told_stop x0 ss more same = search (rules, told_mail, length)

  -- what the stops tell, visit by visit
  told_visits : (ns : List ℕ) → filter (λ m. track m.to) (filter_map (told (length past) value) (filter_map (stop_at past) ns))
      ≡ flat_map (told_in_track track past value) ns
  told_visits [] = refl
  told_visits (n ∷ ns) = search (rules, told_stop, flat_map, told_visits ns)

  pub item_told : (leaf : ℕ) → flat_map (told_in_track track past value) (climb past leaf) ≡ filter (λ m. track m.to) (mail_of past (Item leaf value))
  unfolding stops
  item_told leaf = sym (told_visits (climb past leaf))

-- one visit more, and one place more -----------------------------------------------------------------

pub once_more : (before : List Mail) (f : ℕ → List Mail) (ns : List ℕ) (n : ℕ)
    → fold told_once (fold told_once before (flat_map f ns)) (f n) ≡ fold told_once before (flat_map f (ns ++ n ∷ []))
once_more before f ns n =
    sym (fold-append told_once before (flat_map f ns) (f n)) ∙ ap (fold told_once before)
    (ap (λ (ms : List Mail). flat_map f ns ++ ms) (sym (append-nil (f n))) ∙ sym (flat_map-append f ns (n ∷ [])))

pub visits_whole : (old new : List Mail) (f : ℕ → List Mail) (ns : List ℕ) (i : ℕ)
    → length ns ≤ i → new ≡ fold told_once old (flat_map f (take i ns)) → new ≡ fold told_once old (flat_map f ns)
visits_whole old new f ns i whole is = is ∙ ap (λ (ks : List ℕ). fold told_once old (flat_map f ks)) (take_all i ns whole)

-- the marbles of the places before this one
abbrev pub marbles_to : (ℕ → Bool) → (ℕ → Bool) → List Event → ℕ → List Mail
marbles_to track place h n = flat_map (marbles_at track h) (filter place (range_with_len 0 n))

module _ (track place : ℕ → Bool) (h : List Event) (n : ℕ) where
  next_marbles : (b : Bool) → place n ≡ b → marbles_to track place h (n + 1) ≡ marbles_to track place h n ++ flat_map (marbles_at track h) (cond b (n ∷ []) [])
  next_marbles b is =
      ap (flat_map (marbles_at track h)) (next_filter place n ∙ ap (λ (x : Bool). filter place (range_with_len 0 n) ++ cond x (n ∷ []) []) is)
      ∙ flat_map-append (marbles_at track h) (filter place (range_with_len 0 n)) (cond b (n ∷ []) [])

  pub marbles_more : (shown told : List Mail) → place n ≡ true → shown ≡ marbles_to track place h n → told ≡ marbles_at track h n
      → shown ++ told ≡ marbles_to track place h (n + 1)
  marbles_more shown told here same is =
      ap (λ (ms : List Mail). ms ++ told) same ∙ ap (λ (ms : List Mail). marbles_to track place h n ++ ms) (is ∙ sym (append-nil (marbles_at track h n)))
      ∙ sym (next_marbles true here)

  pub marbles_skip : (shown : List Mail) → place n ≡ false → shown ≡ marbles_to track place h n → shown ≡ marbles_to track place h (n + 1)
  marbles_skip shown hidden same = same ∙ sym (next_marbles false hidden ∙ append-nil (marbles_to track place h n))

-- one note, where its track is shown and where it is not
pub note_shown : (shown : Mail → Bool) (ms : List Mail) (m : Mail) → shown m ≡ true
    → told_once ms m ≡ fold told_once ms (filter shown (m ∷ []))
note_shown shown ms m is = rw is refl

pub note_hidden : (shown : Mail → Bool) (ms : List Mail) (m : Mail) → shown m ≡ false → ms ≡ fold told_once ms (filter shown (m ∷ []))
note_hidden shown ms m hidden = rw hidden refl
