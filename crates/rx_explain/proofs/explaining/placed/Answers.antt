use Rattle.std.specs.Prelude.{codes, string_bytes}
use Rattle.std.specs.Fmt.{decimal}
use Rattle.rx_explain.proofs.RefusalTold.{placed_so}
use Rattle.rx_explain.proofs.explaining.placed.Goals as goal

pub returns : goal.returns
returns c =
    placed_so (codes "event ") (decimal c.args.place) (codes ", ") (string_bytes c.in_ok-shown.shown) (codes ": ") c.args.told.now
    c.format.result c.format.ensures.ok
