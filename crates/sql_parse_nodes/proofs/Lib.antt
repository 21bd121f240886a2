pub mod Openings
pub mod KeptLaws
pub mod KeptLists
pub mod Turns
pub mod TreeLists
pub mod NodeLaws
pub mod Pushed
