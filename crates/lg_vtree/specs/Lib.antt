pub mod Token
pub mod Printed
pub mod Grammar
pub mod Depth
