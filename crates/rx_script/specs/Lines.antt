-- The lines of a report, from what happened and what its names stand for.
use Rattle.std.specs.Prelude.{ℕ, Bool, true, false, List, slice_get, filter, flat_map, count_by, unwrap_or, option_and_then, if◌then◌else◌}
use Rattle.std.specs.List.{enumerate_from}
use Rattle.rx_event.specs.declared.event.Place.TheVariants.{Root}
use Rattle.rx_event.specs.declared.event.Kind.TheVariants.{Flat, Switch}
use Rattle.rx_event.specs.declared.event.Event.{Event}
use Rattle.rx_event.specs.declared.event.Event.TheVariants.{Open}
use Rattle.rx_event.specs.Events.{makes_node}
use Rattle.rx_event.specs.Tree.{at, is_open}
use Rattle.rx_event.specs.Kept.{Kept, nothing_kept}
use Rattle.rx_event.specs.Resources.{is_held, is_taken, leases_of, uses}
use Rattle.rx_event.specs.Notes.{notes_to}
use Rattle.rx_event.specs.Totals.{open_count, accepted_count, held_count, waiting_count, taken_count}
use Rattle.rx_book.specs.State.{accepted_tag}
use Rattle.rx_agenda.specs.declared.answer.Answer.{Answer}
use Rattle.rx_agenda.specs.Bindings.{Binding}
use Rattle.rx_script.specs.declared.line.Whereabouts.{Whereabouts}
use Rattle.rx_script.specs.declared.line.Whereabouts.TheVariants.{Held, Waiting, Taken}
use Rattle.rx_script.specs.declared.line.Account.{Account}
use Rattle.rx_script.specs.declared.line.Totals.{Totals}
use Rattle.rx_script.specs.Text.{refused_line, node_line, res_line}

-- the steps that were refused, in order of execution
abbrev pub refused_lines : List Answer → List ℕ
refused_lines answers = flat_map (λ p. refused_line p.0 p.1) (enumerate_from 0 answers)

-- a root, or a FlatMap or Switch anywhere: the nodes that are told something
abbrev pub is_told : Event → Bool
is_told (Open Root kind) = true
is_told (Open place Flat) = true
is_told (Open place Switch) = true
is_told _ = false

-- a node that the scenario opened, with what it was told
abbrev pub line_of_node : List Event → Binding → List ℕ
line_of_node h b = node_line b.name (is_open h b.number) (notes_to h b.number)

abbrev pub node_lines : List Event → List Binding → List ℕ
node_lines h nodes = flat_map (line_of_node h) (filter (λ b. at is_told h b.number) nodes)

abbrev pub whereabouts : List Event → ℕ → Whereabouts
whereabouts h r = if is_held h r then Held else if is_taken h r then Taken else Waiting

abbrev pub account_of : List Event → ℕ → Account
account_of h r = record {
  tag = unwrap_or (option_and_then accepted_tag (slice_get h r)) 0;
  uses = uses nothing_kept h r;
  whereabouts = whereabouts h r;
  leases = leases_of h r;
}

-- a resource that the scenario handed in; what happened is told from its beginning
abbrev pub res_shown : List Event → Binding → List ℕ
res_shown h b = res_line b.name (account_of h b.number)

abbrev pub res_lines : List Event → List Binding → List ℕ
res_lines h resources = flat_map (res_shown h) resources

abbrev pub totals_reported : Kept → List Event → Totals
totals_reported base h = record {
  nodes = count_by makes_node h;
  open_nodes = open_count h;
  accepted = accepted_count base h;
  held = held_count h;
  waiting = waiting_count h;
  taken = taken_count base h;
}
