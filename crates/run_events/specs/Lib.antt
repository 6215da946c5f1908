-- What is told of a run, and why an advertisement does not fit.
pub mod Telling
pub mod Settling
