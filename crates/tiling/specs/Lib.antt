pub mod Tile
pub mod Cell
pub mod Row
pub mod Ready
pub mod Found
pub mod Runs
pub mod Single
pub mod Tiled
