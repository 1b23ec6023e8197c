pub mod Flags
pub mod Bits
pub mod Places
pub mod CasesHold
