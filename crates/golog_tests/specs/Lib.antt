pub mod Blockless
