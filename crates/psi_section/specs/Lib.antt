pub mod Crc
pub mod Sections
pub mod Storing
pub mod Assembling
pub mod Packetising
pub mod Laws
pub mod SectionsLeft
