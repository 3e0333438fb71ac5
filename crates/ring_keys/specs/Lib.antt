pub mod RingKey
pub mod HashLaws
pub mod LayoutLaws
pub mod CostLaws
pub mod FilledLaws
pub mod FillLaws
pub mod Gathered
pub mod GatherLaws
