-- Proofs, that nobody has to believe: the laws that a test described by rows gets. They stand in
-- specs/ because an impl proves its laws by lemmas from there.
pub mod Choosing
pub mod Properness
pub mod Rows
pub mod Sets
