pub mod Shapes
pub mod Givens
pub mod Traces
pub mod Laws
pub mod Stages
pub mod Settled
pub mod Viewing
pub mod Shares
