-- What the contracts of the crate cite. The definition that `check` is held to is that of the crate `definition`: the one here says the
-- same of a place on a tape, and only proofs see it.
pub mod Definition
