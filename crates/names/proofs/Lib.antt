pub mod Tally
pub mod Ranks
pub mod Filling
pub mod Seeking
pub mod Items
