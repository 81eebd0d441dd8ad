pub mod CardFaults
pub mod Cards
pub mod Names
pub mod SectionTexts
pub mod Sections
