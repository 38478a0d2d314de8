-- What private contracts cite, and laws that an `impl` cites.
pub mod ChangeOf
pub mod GuardAlone
pub mod LookBack
pub mod Reached
pub mod StepSinkLaws
