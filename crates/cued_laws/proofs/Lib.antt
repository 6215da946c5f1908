pub mod UnitLemmas
pub mod PacketLemmas
pub mod TableLemmas
pub mod CuedLemmas
