pub mod Prec
