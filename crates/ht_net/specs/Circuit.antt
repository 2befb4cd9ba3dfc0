-- A circuit: its nets and gates, their levels and loads, and what makes it well formed.
pub mod Lists
pub mod Netlist
pub mod Flat
pub mod Levels
pub mod CircuitOf
pub mod GateLevels
pub mod Loads
pub mod Cycle
pub mod LevelWalk
pub mod Readiness
pub mod Tail
