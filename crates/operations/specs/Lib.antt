-- What the code asks for on its way; what it answers is defined in operation_maps.
pub mod Join
