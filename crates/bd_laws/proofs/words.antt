-- The words in which the laws' proofs speak: one line each in place of one for each module of the definitions.
pub mod Logic
pub mod Types
pub mod Space
pub mod Laws
