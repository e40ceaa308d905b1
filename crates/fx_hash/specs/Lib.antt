pub mod Fx
