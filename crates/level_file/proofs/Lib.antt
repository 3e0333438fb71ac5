-- What several proofs cite, and the two theorems on files.
pub mod DecodesLaws
pub mod Accepts
pub mod Accepted
mod FillLaws
mod HeadLaws
mod PartLaws
mod PutLaws
mod MeasureLaws
pub mod WriteLaws
pub mod Written
pub mod Room
pub mod SaidLaws
mod Sheet
