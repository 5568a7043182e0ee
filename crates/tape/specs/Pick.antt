-- One of two, by a test.
-- Assumes nothing.
pub use Rattle.grammar.specs.Pick.{pick}
