-- What a change of the keys leaves as it was. Each file says what it shows and why it holds.

-- rule S and any list of turns; rule W
pub mod ReorderLaws
pub mod EarlyLaws
-- the two theorems, of the answers of the public call
pub mod EarlyPages
pub mod Reordering
pub mod Calls
-- neither is empty, and 255 is exact
pub mod SteadyWitness
