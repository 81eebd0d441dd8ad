pub mod DecimalOrder
