-- What a call hands over in plain numbers: a level's settings, and how to sweep. Assumes nothing.
use Rattle.std.specs.Prelude.{ℕ, Bool}
use Rattle.rules.specs.declared.How.{How}
use Rattle.rules.specs.declared.Settings.{Settings}

abbrev pub settings_of : (m log2SliceLen ll sb buckets : ℕ) → Settings
settings_of m log2SliceLen ll sb buckets = record { m = m; log2_slice_len = log2SliceLen; ll = ll; sb = sb; buckets = buckets }

abbrev pub how_of : (bump : Bool) (chunks : ℕ) → How
how_of bump chunks = record { bump = bump; chunks = chunks }
