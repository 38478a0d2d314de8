pub mod FaultLaws
pub mod KindLaws
pub mod MadeLaws
pub mod PlainTails
pub mod Scans
pub mod UriLaws
