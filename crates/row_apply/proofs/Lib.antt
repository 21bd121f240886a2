pub mod Alike
pub mod Making
pub mod Named
pub mod Raising
pub mod Refusing
pub mod Staying
