pub mod Equations
pub mod InWay
pub mod Leading
pub mod Places
pub mod Storing
pub mod Taking
