pub mod Field
pub mod LengthEncoded
pub mod Unroll
pub mod Laws
