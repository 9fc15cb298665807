mod LineTexts
mod RequestTexts
mod TwoMembers
mod Rounds
mod Holes
mod OddNumbers
