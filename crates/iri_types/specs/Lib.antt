pub mod Allowed
pub mod Texts
pub mod Prefixed
pub mod Components
pub mod ComponentsText
pub mod SplitText
pub mod Examples
pub mod inside
