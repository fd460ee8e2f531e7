mod CommandLineLemmas
mod WordBytesLemmas
mod WordLemmas
mod RequestLemmas
mod TextLemmas
pub mod PlainWordLemmas
