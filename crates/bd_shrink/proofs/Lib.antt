mod Left
mod AllStays
mod Differing
mod Lowered
mod Parts
