pub mod AllReady
mod Ended
