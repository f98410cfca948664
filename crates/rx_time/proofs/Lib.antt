pub mod Laws
pub mod Entries
pub mod Next
pub mod AgendaMatchesEntries
pub mod SoundSchedule
pub mod SlotsInOrder
pub mod TwoLists
