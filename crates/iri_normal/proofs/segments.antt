-- Segments of a path.
pub mod Slashes
pub mod DotKinds
pub mod CutPaths
pub mod DotBytes
pub mod FirstDots
