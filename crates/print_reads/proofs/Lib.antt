mod Behind
mod Fronts
mod Numbers
mod Constants
mod Shapes
mod Gaps
mod Ends
mod Joins
mod Fits
pub mod Neighbours
pub mod Readings
pub mod Programs
pub mod Sources
mod Leaves
mod Expressions
mod Trees
pub mod Printed
mod Carried
mod CarriedExpressions
mod CarriedDeclarations
mod CarriedStatements
mod CarriedBlocks
mod CarriedParts
mod Ahead
mod Carry
pub mod Backs
