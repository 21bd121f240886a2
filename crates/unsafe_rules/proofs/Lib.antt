pub mod All
pub mod Asked
pub mod Causing
pub mod Counting
pub mod Elements
pub mod Reasoned
pub mod Rounds
pub mod Valued
