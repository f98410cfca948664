-- One write after the other, and writes beside a list of closed nodes that is begun anew.
use Rattle.rx_ground.proofs.Common.{[], ◌++◌, List, length, refl, ap, ◌∙◌, arith, length-append, Ghosts, Event, Ground}
use Rattle.rx_ground.proofs.Common.{Gathers, TakesNoMemory}
use Rattle.rx_register.proofs.Laws.Paid.{Writes-append}
use Rattle.rx_ground.specs.Wrote.{IsBetween, Wrote}
use Rattle.rx_ground.proofs.Memory.{no_memory, memory_on}
use Rattle.rx_ground.proofs.Laws.GoneStaysGone.{gathers_then, closes_none, closes_on}

module _ {T : Type 0} {g : Ghosts T} where
  pub wrote_then : {a b c : Ground T} {es fs : List Event} → Wrote g a es b → Wrote g b fs c → Wrote g a (es ++ fs) c
  wrote_then {a} {b} {c} {es} {fs} x y =
      let longer = ap (λ (k : List Event). length k) x.written.history ∙ length-append a.register.history es in
      record {
        written = Writes-append a.register b.register c.register es fs x.written y.written;
        between = y.between;
        nodes = λ key there older. x.nodes key (y.nodes key there (omega arith)) older;
        held = record { from = λ res held older. x.held.from res (y.held.from res held (omega arith)) older };
        leases = record { from = λ key out older. x.leases.from key (y.leases.from key out (omega arith)) older };
        closed = closes_on (omega arith) x.nodes x.closed y.closed (gathers_then es fs x.written y.written x.closed.gathers y.closed.gathers);
        memory = memory_on a b c x.memory y.memory;
      }

  -- what is between two events is so too where the list is begun
  pub between_begun : {b : Ground T} → IsBetween g b → IsBetween g (record b { closed = [] })
  between_begun is = record { tied = is.tied; leased = is.leased }

  -- and so are writes that close nothing
  pub wrote_begun : {a b : Ground T} {es : List Event} → Gathers a.register.history [] b.register.history [] → Wrote g a es b →
      Wrote g (record a { closed = [] }) es (record b { closed = [] })
  wrote_begun quiet x = record {
    written = x.written;
    between = between_begun x.between;
    nodes = x.nodes;
    held = x.held;
    leases = x.leases;
    closed = closes_none refl quiet;
    memory = record {
      events = x.memory.events;
      notes = x.memory.notes;
      nodes = x.memory.nodes;
      resources = x.memory.resources;
      hubs = x.memory.hubs;
      slots = x.memory.slots;
      closing = x.memory.closing;
    };
  }

-- where nothing changed no memory was taken
pub no_change : {T : Type 0} (b : Ground T) → TakesNoMemory b b
no_change b = no_memory b
