pub mod PacketLemmas
pub mod SaidLemmas
pub mod UnitPacketLemmas
pub mod ReadBackLemmas
pub mod StampLemmas
pub mod PutLemmas
