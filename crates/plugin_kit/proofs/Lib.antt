mod Items
mod Said
mod Writing
mod Lines
mod Steps
