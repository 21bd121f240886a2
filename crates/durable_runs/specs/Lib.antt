pub mod Marks
pub mod Runs
pub mod Sources
pub mod Replicas
pub mod Behind
pub mod Laws
pub mod Worked
