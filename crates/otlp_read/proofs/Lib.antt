pub mod IntegerLemmas
pub mod ContainerLemmas
pub mod ListLemmas
pub mod PointLemmas
pub mod WalkLemmas
pub mod TextLemmas
pub mod MemberLemmas
pub mod LookupLemmas
