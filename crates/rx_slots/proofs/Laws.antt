pub mod EntryByNumber
pub mod OthersKept
pub mod Places
pub mod Links
pub mod Rings
pub mod JoinsLeavesMerges
