-- What was written to a stream that is watched.
use Rattle.std.specs.Prelude.{◌⊎◌, ℕ, List, Option}
use Rattle.std.specs.Io.KnownBytes.{Appends}
use Rattle.rx_device.specs.declared.watched.Watched.{Watched}
use Rattle.rx_device.specs.Device.{device_of, HasWriteFault, AppendsPrefix}

-- the bytes that a writer holds or a reader has left, where they are known
abbrev pub Bytes : Type 0
Bytes = Option (List ℕ)

-- the text was written, or a front of it where the stream failed or took no byte
abbrev pub IsTextWritten : {E : Type 0} → (E → Bytes) → Watched E → Watched E → List ℕ → Type 0
IsTextWritten contents old new text =
    Appends (contents (device_of old)) (contents (device_of new)) text
    ⊎ (AppendsPrefix (contents (device_of old)) (contents (device_of new)) text × HasWriteFault new)
