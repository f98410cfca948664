use Rattle.std.proofs.Common.{◌∙◌, sym, ap, arith, Some, option_map}
use Rattle.rx_lanes.specs.Rows.{head_of}
use Rattle.rx_lanes.specs.declared.table.Row.{Row}
use Rattle.rx_lanes.proofs.RowsShowLanes.{open_at, read_row, shows_open}
use Rattle.rx_lanes.proofs.table.Table.open_row.Goals as goal

pub index-requires : goal.index-requires
index-requires g c =
    let there = open_at c.self.inside.rows.items c.self.inside.returned.items c.self.inside.queues c.args.place (rw (← c.self.view_is) at c.requires.open) in
    let within = there.within in omega (arith, within)

pub returns : goal.returns
returns g c =
    let there = open_at c.self.inside.rows.items c.self.inside.returned.items c.self.inside.queues c.args.place (rw (← c.self.view_is) at c.requires.open) in
    let was = read_row c.self.inside.rows.items c.args.place c.index.result.now there.within c.index.ensures in
    let is = ap (λ (r : Row). r.is_open) was ∙ there.is_open in
    rw (← c.self.view_is) ((λ i. Some (record { turn = (was i).turn; server = (was i).server; many = (was i).many; is_open = is i }))
    ∙ sym (ap (option_map head_of) (shows_open c.self.inside.rows.items c.self.inside.returned.items c.self.inside.queues c.args.place there.is_open)))
