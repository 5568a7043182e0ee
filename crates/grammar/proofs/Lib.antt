pub mod Table
pub mod Cells
pub mod Marks
pub mod Depths
pub mod ProviderMarks
pub mod Counted
