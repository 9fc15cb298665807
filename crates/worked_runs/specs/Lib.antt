pub mod TextWorld
