pub mod Clang
