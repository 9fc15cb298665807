mod Answered
mod Endings
mod Explanations
mod JsonTexts
mod Loads
mod Settings
mod Tasks
