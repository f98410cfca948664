use Rattle.rx_audit.proofs.Common.{◌≡◌, ℕ, List, Option, Some, None, sym, ap, ◌∙◌, slice_get, Event}
use Rattle.std.proofs.Common.{Bor, option_copied}
use Rattle.std.specs.Slice.{IsItemAt}
use Rattle.std.proofs.lemmas.Option.{slice_get-get_or, slice_get_past}
use Rattle.rx_audit.proofs.event_tests.event_at.Goals as goal

copied_item : (h : List Event) (n : ℕ) (r : Option (Bor Event)) → IsItemAt h n r → option_copied r ≡ slice_get h n
copied_item h n None is = sym (slice_get_past h n is.3)
copied_item h n (Some e) is = sym (slice_get-get_or h n e.now is.3.0 ∙ ap Some (sym (is.3.1 e.now)))

pub returns : goal.returns
returns c = c.copied.ensures ∙ copied_item c.args.past.now c.args.n c.get.result c.get.ensures.lookup
