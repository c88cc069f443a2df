pub mod ArithShapes
pub mod ArithTable
pub mod Execute
pub mod FlowShapes
pub mod FlowTable
pub mod MemoryShapes
pub mod MemoryTable
