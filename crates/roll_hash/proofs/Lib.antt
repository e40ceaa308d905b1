pub mod FingerprintLaws
pub mod WindowLaws
