pub mod GeneratedProgram
