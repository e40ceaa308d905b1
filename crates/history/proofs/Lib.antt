mod Scans
mod Greatest
pub mod LegalLaws
pub mod FirstEntry
