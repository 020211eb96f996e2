-- Laws of the definitions in specs/.
pub mod CopyLaws
pub mod CutLaws
