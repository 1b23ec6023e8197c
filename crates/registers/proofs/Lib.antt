pub mod Outputs
pub mod Commands
pub mod Writes
pub mod Sequence
pub mod Ways
pub mod Flags
pub mod Refusals
pub mod CasesHold
