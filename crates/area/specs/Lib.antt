-- Work areas: what the contracts say of them.
-- Assumes nothing.
pub mod Area
