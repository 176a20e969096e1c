-- What a run of bytes leaves where the module stays in its place (§1.7).
pub mod Board
