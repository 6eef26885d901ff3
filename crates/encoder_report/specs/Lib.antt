pub mod Printed
pub mod Left
