-- What the W test says of every input with these settings and begins. Assumes nothing.
use Rattle.std.specs.Prelude.{◌≡◌, Bool, List, ℕ}
use Rattle.rules.specs.declared.Settings.{Settings}
use Rattle.rules.specs.Order.{Input}
use Rattle.listing.specs.Listing.{over_work}

pub record WorkTest (s : Settings) (begins : List ℕ) (r : Bool) : Type 0 where
  pub is : (i : Input) → i.settings ≡ s → i.begins ≡ begins → r ≡ over_work i
