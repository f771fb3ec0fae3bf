-- Proofs, that nobody has to believe: the laws that the tests keep. They stand in specs/ because
-- an impl proves its laws by lemmas from there.
pub mod Leasts
pub mod MarginLaws
pub mod TestLaws
pub mod Times
