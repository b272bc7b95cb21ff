mod PairRows
mod NoFault
mod RoundTrip
mod Groups
mod Packets
mod OneText
pub mod OneOutcome
mod Boxes
mod Tables
mod Headline
mod Families
mod Fewest
mod Entries
mod Verdicts
pub mod OneVerdict
mod Normal
pub mod Told
pub mod HeldFor
pub mod CleanKeys
pub mod BestKeys
pub mod TableAnswers
pub mod AnswersTell
mod Numbered
mod ValueLists
mod SinkLaws
mod GridLaws
mod MappedBoxes
mod PackedDifferences
mod PackedLaws
mod PackedOrder
mod DifferenceLists
mod DifferenceLaws
pub mod OneDifferences
pub mod Views
mod ManyBoxes
mod JoinedRows
pub mod DifferingRows
pub mod RoutesHeadline
mod ManyDifferences
