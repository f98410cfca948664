-- A front of the text is written.
use Rattle.std.proofs.Common.{◌≡◌, length, ◌-◌, ◌+◌, ◌≤◌, take}
use Rattle.std.specs.Io.KnownBytes.{Appends}
use Rattle.rx_device.specs.Device.{device_of, KeepsDevice, turns_of, has_failed, has_stopped}
use Rattle.rx_device.proofs.writing.write_text.Given as goal

abbrev pub invariant-loop-done : goal.invariant-loop-done
invariant-loop-done g l = record {
  same : KeepsDevice l.initial.writer l.writer;
  within : l.done ≤ length l.text;
  written : Appends (g.W.Write.contents (device_of l.initial.writer)) (g.W.Write.contents (device_of l.writer)) (take l.done l.text);
  unhurt : has_failed l.writer ≡ has_failed l.initial.writer;
  moved : has_stopped l.writer ≡ has_stopped l.initial.writer;
  bound : turns_of l.writer ≤ turns_of l.initial.writer + l.done;
  unasked : length l.text ≡ 0 → l.writer ≡ l.initial.writer;
}

abbrev pub decreases-loop-done : goal.decreases-loop-done
decreases-loop-done g l = length l.text - l.done
