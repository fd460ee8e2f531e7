-- Inputs over the readers of `std`.
use Rattle.sum_sources.specs.inputs.Input.{InputState}

-- a reader, and what its reads gave
pub record FromReadValue (R : Type 0) : Type 0 where
  pub reader : R
  pub log : InputState
