pub mod Rfc
pub mod RfcDomain
pub mod RfcQuoted
pub mod RfcEquality
