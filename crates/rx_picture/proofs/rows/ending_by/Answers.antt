use Rattle.rx_picture.proofs.Common.{◌≡◌, ℕ, Some, refl, eq-eqb, ne_eqb, Event, End}
use Rattle.rx_note.specs.declared.note.Terminal.{Terminal}
use Rattle.rx_picture.specs.Rows.{ending_by}
use Rattle.rx_picture.specs.declared.row.Ending.TheVariants.{Disposed}
use Rattle.rx_picture.proofs.rows.ending_by.Goals as goal

disposed : (n : ℕ) (e : Event) → ((m : ℕ) (t : Terminal) → e ≡ End m t → ⊥) → Disposed ≡ ending_by n (Some e)
disposed n (End m t) other = absurd (other m t refl)
disposed n _ other = refl

pub returns-then-m-n : goal.returns-then-m-n
returns-then-m-n c = rw (c.in-End.is, eq-eqb c.in-End.m c.args.n c.if-m-n.true) refl

pub returns-else-m-n : goal.returns-else-m-n
returns-else-m-n c = rw (c.in-End.is, ne_eqb c.in-End.m c.args.n c.if-m-n.false) refl

pub returns-in_default : goal.returns-in_default
returns-in_default c = disposed c.args.n c.args.event c.in_default.not-End
