pub mod Heard
pub mod Courses
pub mod Passing
pub mod Refusals
pub mod Carried
pub mod Proved
pub mod Saying
