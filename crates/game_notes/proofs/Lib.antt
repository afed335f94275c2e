pub mod FirstPlays
pub mod FollowLaws
pub mod SameBoards
pub mod LatestLaws
