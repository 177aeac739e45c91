pub mod Held
pub mod RingPuts
pub mod RingPart
pub mod Locations
pub mod Laws
