mod MessageLemmas
mod OperandLemmas
mod ProgramLemmas
mod CheckWords
mod WrittenIsGood
