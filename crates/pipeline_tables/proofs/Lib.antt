mod KnownKeys
pub mod Laws
