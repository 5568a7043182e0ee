-- Bytes in buffers: what the contracts say of them.
-- Assumes nothing.
pub mod Buffer
pub mod Message
