pub mod Covered
pub mod FilteringBooks
pub mod LawfulScans
pub mod UnitsAndNotes
pub mod WholeBook
