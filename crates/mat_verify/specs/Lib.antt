pub mod Witnessing
pub mod WitnessOutcomes
pub mod WitnessRefusals
