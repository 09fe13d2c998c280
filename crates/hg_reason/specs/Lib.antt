-- Which texts are one line.
pub mod Printed
