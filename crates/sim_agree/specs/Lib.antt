pub mod Places
pub mod Facts
pub mod Inners
pub mod TablesOf
pub mod TablesAgree
pub mod ConstantAt
pub mod Order
