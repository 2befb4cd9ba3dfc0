-- What runs show of a fault: where it is detected, and when no run detects it.
pub mod Detection
pub mod Silence
pub mod Undetectable
