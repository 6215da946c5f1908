pub mod AirLemmas
pub mod ChainLemmas
pub mod PassageLemmas
pub mod RecoveryLemmas
pub mod ServingLemmas
