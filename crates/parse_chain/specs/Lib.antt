pub mod Next
pub mod Chains
pub mod Climbs
