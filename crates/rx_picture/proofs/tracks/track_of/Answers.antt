use Rattle.rx_picture.proofs.Common.{◌≡◌, ℕ, refl, Event, Lease}
use Rattle.rx_picture.specs.Rows.{track_of}
use Rattle.rx_picture.proofs.tracks.track_of.Goals as goal

own_track : (n : ℕ) (e : Event) → ((r : ℕ) → e ≡ Lease r → ⊥) → n ≡ track_of n e
own_track n (Lease r) other = absurd (other r refl)
own_track n _ other = refl

pub returns-in_default : goal.returns-in_default
returns-in_default c = own_track c.args.n c.args.made c.in_default.not-Lease
