-- Demand 3. What a reader must believe, top to bottom: runs, pages and operations, the demand, its last sentence, and all of it over the yard's shape. The laws are in proofs/.
pub mod Runs
pub mod Pages
pub mod Operations
pub mod Demand
pub mod Sent
pub mod Lending
pub mod LastSentence
pub mod Shapes
pub mod CodeRuns
