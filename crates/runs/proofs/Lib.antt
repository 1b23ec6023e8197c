-- computed
pub mod Worked
-- the invariant, and the step that keeps it
pub mod Kept
pub mod Passed
pub mod Tracks
pub mod Follow
pub mod Raise
pub mod Marks
-- what a move finds is what the solution has
pub mod Fires
pub mod Decide
-- what a list of calls has done, and what holds after each
pub mod Counts
pub mod World
pub mod Move
pub mod Offers
pub mod Moving
pub mod Collecting
pub mod Start
-- rest
pub mod Rest
pub mod Numbers
-- what the solution says of the state
pub mod Waiting
pub mod Keeping
pub mod Reaching
pub mod Claimed
pub mod Reached
-- the claim
pub mod Whole
-- of every state of a run: room, tidiness, the order of moves
pub mod Room
pub mod Tidy
pub mod Local
pub mod RunTidy
pub mod Order
pub mod RunOrder
-- the premises are met
pub mod Premises
