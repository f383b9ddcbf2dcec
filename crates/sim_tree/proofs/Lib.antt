pub mod Bounded
pub mod Completion
pub mod Decide
pub mod Follow
pub mod Full
pub mod Laws
pub mod Leads
pub mod Leaf
pub mod Nests
pub mod Prefix
pub mod DerivationLemmas
pub mod Sizes
pub mod StatementLemmas
pub mod Statements
pub mod Steps
pub mod ProgramSyntaxLemmas
pub mod SyntaxLemmas
pub mod FirstTokens
pub mod ReadBack
pub mod ReadExpressions
pub mod ReadStatements
pub mod ReadPrograms
mod NamedExpressions
mod NamedPrograms
mod NamingTokens
mod Ends
mod OwnNames
pub mod Induction
mod Spots
pub mod Order
pub mod Filled
