pub mod Decimal
pub mod Values
pub mod Padded
pub mod Addresses
pub mod Pushed
