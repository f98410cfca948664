-- What was read so far is gone from the reader, is within the limit, took a turn each time, and no turn failed.
use Rattle.std.proofs.Common.{◌≡◌, ◌≤◌, false, vec_len}
use Rattle.std.specs.Io.KnownBytes.{Consumes}
use Rattle.rx_device.specs.Device.{device_of, turns_of, has_failed, KeepsDevice}
use Rattle.rx_device.proofs.reading.read_all.Given as goal

abbrev pub invariant-loop-turn : goal.invariant-loop-turn
invariant-loop-turn g l = record {
  read : Consumes (g.R.Read.remaining (device_of l.initial.reader)) (g.R.Read.remaining (device_of l.reader)) l.bytes.items;
  same : KeepsDevice l.initial.reader l.reader;
  short : vec_len l.bytes ≤ 16777216;
  turns : turns_of l.reader ≡ l._turn;
  moved : l._turn ≤ vec_len l.bytes;
  unhurt : has_failed l.reader ≡ false;
}
