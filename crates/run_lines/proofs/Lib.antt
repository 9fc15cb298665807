pub mod BlockLaws
mod CallLaws
mod ChildLaws
mod LostLaws
