-- The values of a frame and of a run, in the good machine and with a stuck line.
pub mod Frame
pub mod Faults
pub mod Rows
pub mod VectorsOf
