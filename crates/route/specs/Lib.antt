pub mod Same
pub mod Stations
pub mod LayoutRepeats
pub mod Route
pub mod Chain
pub mod Loading
