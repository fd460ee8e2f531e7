pub mod BitsLemmas
pub mod DigestLemmas
pub mod DigitLemmas
pub mod KindLemmas
pub mod KindTextLemmas
pub mod PrefixLemmas
pub mod TagLemmas
