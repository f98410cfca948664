pub mod NothingLost
pub mod HandsKept
pub mod CoursesTold
pub mod CallsAreCourses
pub mod NoLaneIsLost
