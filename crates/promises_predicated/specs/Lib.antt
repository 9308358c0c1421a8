pub mod Predicated
