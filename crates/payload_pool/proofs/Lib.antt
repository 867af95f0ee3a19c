pub mod TransferLemmas
pub mod CountLemmas
pub mod LawLemmas
pub mod NumberedSlots
