-- `--help` and `--version`.
pub mod Notices
