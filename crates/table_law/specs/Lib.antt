pub mod WorkedWalks
pub mod KeptPoints
pub mod WorkedRows
