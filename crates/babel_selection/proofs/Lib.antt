pub mod HearingLaws
pub mod HeardLaws
pub mod LinkLaws
pub mod SourceLaws
pub mod SelectionLaws
pub mod ToldLaws
pub mod OfferLaws
pub mod OwnLaws
