pub mod Automaton
pub mod Acts
pub mod Published
