-- Hosts and authorities in normal form.
pub mod AsciiHosts
pub mod Authorities
