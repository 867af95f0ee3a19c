pub mod MapLemmas
pub mod SlotLemmas
pub mod HomeLemmas
pub mod Places
pub mod Rising
pub mod Listed
pub mod Sound
