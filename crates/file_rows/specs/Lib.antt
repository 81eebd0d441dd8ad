pub mod Files
pub mod Found
pub mod Rules
pub mod Customers
pub mod LogicalFormats
