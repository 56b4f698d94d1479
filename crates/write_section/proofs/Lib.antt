pub mod Pages
pub mod Machine
pub mod Tables
pub mod Items
