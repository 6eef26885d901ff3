pub mod LineLaws
pub mod WalkLaws
pub mod ProgramLaws
