use Rattle.std.proofs.Common.{refl}
use Rattle.rx_engine.proofs.TiedAfterPutting.{own_delivers}
use Rattle.rx_engine.proofs.parts.Parts.put_own.Goals as goal

pub returns-clause-puts : goal.returns-clause-puts
returns-clause-puts c = record {
  put = c.put.new.self;
  delivers = own_delivers c.args.self.now.lanes c.put.new.self c.args.name c.args.user c.args.value c.args.by c.requires.there c.put.ensures.puts;
  lanes = c.settle-many.ensures.settles;
  copies = refl;
  homes = refl;
  hears = refl;
  merges = refl;
  holds = refl;
  shares = refl;
  hubs = refl;
}
