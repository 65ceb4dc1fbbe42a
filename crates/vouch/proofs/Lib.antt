-- Layouts as maps, pages, and what the proofs say of a run.
pub mod Layouts
pub mod Carried
pub mod Fields
-- Units and their history, the holder.
pub mod GoodMap
pub mod Walks
pub mod UnitIs
pub mod Untouched
pub mod Writing
pub mod Trimming
pub mod Sealing
pub mod Reading
pub mod Offers
pub mod Plans
-- Letters, clients and the tie.
pub mod Meaning
pub mod Lasting
pub mod Turns
pub mod Walking
pub mod Appends
pub mod Fills
pub mod Cuts
pub mod Reorganises
pub mod Replies
pub mod Machines
pub mod Together
pub mod Turning
pub mod Asking
pub mod Delivering
pub mod Stepping
pub mod Coming
-- Operations and the fields of their clients; how a read ends; demand 3.
pub mod Exchange
pub mod Beginning
pub mod Begun
pub mod Steady
pub mod Went
pub mod Operations
pub mod EndingSteps
pub mod ReadEnding
pub mod Demand
pub mod PageValues
pub mod Fitting
pub mod Reread
pub mod Reaching
pub mod Stated
pub mod Numbered
pub mod Lending
-- How many requests an operation sends.
pub mod Bag
pub mod Chains
pub mod Sending
pub mod Posting
pub mod Sent
-- The last sentence.
pub mod Dropping
pub mod Forward
pub mod Drops
pub mod Installing
pub mod Reorganising
pub mod LastSentence
pub mod Again
pub mod Soundness
pub mod Closing
-- Over both shapes.
pub mod Shapes
-- Runs that are computed, and shams refuted by some.
pub mod RunExample
pub mod AcrossExample
pub mod LastExample
pub mod LargeExample
pub mod Wrapped
pub mod ShamRuns
pub mod Shams
pub mod CountSham
pub mod SentExample
-- Over runs of the code.
pub mod CodeRuns
