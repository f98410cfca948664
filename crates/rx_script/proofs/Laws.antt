-- What is proved here of runs, for crates above. Declares nothing.
pub use Rattle.rx_script.proofs.KeysByNumber.{has_res_key-is_held}
pub use Rattle.rx_script.proofs.WholeHistory.{kept_length, shown_length, stored_untold}
pub use Rattle.rx_script.proofs.TakenUp.{take_next, event_within, few_events}
pub use Rattle.rx_script.proofs.OneMoreStep.{IfOk-map}
pub use Rattle.rx_script.proofs.NotesHandedOut.{stays_on}
pub use Rattle.rx_script.proofs.EngineCarriesOut.{history_lawful, history_agrees}
pub use Rattle.rx_script.proofs.CheckpointCarriedOut.{all_told}
pub use Rattle.rx_script.proofs.CoursesInOrder.{course_in_order}
