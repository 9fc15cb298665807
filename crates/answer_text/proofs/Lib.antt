mod Fields
mod Growing
mod JsonRows
mod Plain
mod Rests
mod Texts
