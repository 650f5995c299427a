pub mod Staying
pub mod Before
pub mod Setting
pub mod Standing
pub mod Many
pub mod Back
