pub mod ToldLemmas
pub mod TellingLemmas
pub mod SettlingLemmas
pub mod ReportLemmas
