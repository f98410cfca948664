-- What is written of a text, where the result of the writing is not looked at.
use Rattle.rx_cli.proofs.Common.{List, ℕ, Result, Ok, Err, OnOk, OnErr, inl, inr, Appends, Watched, Bytes, IsTextWritten}
use Rattle.rx_device.specs.Device.{device_of, HasWriteFault, AppendsPrefix}

pub told_in_any_case : {D T E : Type 0} (contents : D → Bytes) (old new : Watched D) (text : List ℕ) (r : Result T E)
    → OnOk r (Appends (contents (device_of old)) (contents (device_of new)) text)
    → OnErr r (AppendsPrefix (contents (device_of old)) (contents (device_of new)) text) → OnErr r (HasWriteFault new)
    → IsTextWritten contents old new text
told_in_any_case contents old new text (Ok x) whole front failed = inl whole
told_in_any_case contents old new text (Err e) whole front failed = inr (front, failed)
