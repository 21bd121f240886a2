pub mod Arenas
