pub mod SameValues
pub mod RowUnits
pub mod Places
pub mod Made
pub mod EachValue
pub mod MadeAsked
