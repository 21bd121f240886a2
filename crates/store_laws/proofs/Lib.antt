pub mod Bytes
pub mod Records
pub mod Snapshots
pub mod Forms
