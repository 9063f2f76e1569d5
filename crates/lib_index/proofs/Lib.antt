pub mod Digits
pub mod MemberSteps
pub mod IndexSteps
pub mod NameSteps
pub mod LeastLaws
pub mod MemberLaws
pub mod IndexLaws
pub mod LibraryLaws
