pub mod Points
pub mod Tables
pub mod Walks
pub mod Traced
pub mod SimModel
pub mod LawsRuns
