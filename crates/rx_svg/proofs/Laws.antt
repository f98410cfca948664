-- What is proved of pictures as texts.
use Rattle.rx_svg.proofs.Common.{◌≡◌, ℕ, Option, List, length, sym, subst, Event, Verdict, Drawing, svg_text, IsWellFormed}
use Rattle.rx_audit.specs.Verdict.{IsVerdict}
use Rattle.rx_picture.specs.Drawn.{IsDrawing}
use Rattle.rx_svg.specs.Page.{IsPicture}
use Rattle.rx_svg.proofs.Documents.{svg_is_well_formed}

-- the document of any drawing, of any history and with any names and verdict, is well formed
pub the_text_is_well_formed : (d : Drawing) (names : ℕ → Option (List ℕ)) (end : ℕ) (verdict : Verdict) → IsWellFormed (svg_text d names end verdict)
the_text_is_well_formed = svg_is_well_formed

pub picture_of : (h : List Event) (names : ℕ → Option (List ℕ)) (d : Drawing) (verdict : Verdict) (text : List ℕ)
    → IsDrawing h d → IsVerdict h verdict → text ≡ svg_text d names (length h) verdict → IsPicture h names text
picture_of h names d verdict text is judges reads =
    record {
      drawing = d;
      is = is;
      verdict = verdict;
      judges = judges;
      reads = reads;
      well_formed =
          subst IsWellFormed (sym reads) (the_text_is_well_formed d names (length h) verdict);
    }
