mod Activations
mod Sizes
