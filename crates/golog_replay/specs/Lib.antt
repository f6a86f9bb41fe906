pub mod Standings
pub mod Courses
pub mod Laws
