pub mod ByteBlocks
pub mod Chains
