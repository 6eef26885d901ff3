pub mod LabelLaws
pub mod ChainedLaws
pub mod WriteLaws
pub mod FilledLaws
