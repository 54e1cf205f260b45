-- What the code makes step by step, and what it asks for; the maps that come of it are defined in operation_maps.
pub mod Family
pub mod AxisDraft
pub mod SelectionDraft
pub mod ReshapeDraft
