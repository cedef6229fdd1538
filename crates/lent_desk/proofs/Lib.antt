mod Names
mod Parts
mod Steps
