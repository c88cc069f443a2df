-- Many cycles of a node at once: what functions of `pace` owe one another. No definition of a node rests on it.
pub mod Midway
pub mod Leaps
