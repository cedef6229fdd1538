mod Grows
mod Endings
