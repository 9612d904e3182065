pub mod ColdStarts
pub mod WorkedColdStarts
