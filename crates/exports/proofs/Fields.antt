-- The table entries of a geometry whose settings are s. Assumes nothing.
use mathlib.Core.Path.{◌≡◌, ap, ◌∙◌}
use Rattle.rules.specs.declared.Settings.{Settings}
use Rattle.rules.specs.Geometry.{entries}
use Rattle.geometry.specs.declared.shape.Geometry.{Geometry}

pub entries_are : (g : Geometry) (s : Settings) → g.settings ≡ s → g.entries ≡ entries s
entries_are g s e = g.numbers.entries_is ∙ ap entries e
