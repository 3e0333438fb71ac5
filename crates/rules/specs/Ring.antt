-- The ring of a layout: a slice as n rows of 2^t columns, through which a rotation moves a key row by row. Assumes nothing.
use Rattle.std.specs.Prelude.{ℕ, ◌+◌, ◌*◌, ◌/◌, ◌%◌, ◌^◌}
use Rattle.rules.specs.declared.Settings.{Settings}
use Rattle.rules.specs.Geometry.{slice_len, scale, layout_offset, stride, ring_len}

module _ (s : Settings) where
  -- where layout r puts h in its slice before any rotation
  unfoldable pub ring_offset : (r h : ℕ) → ℕ
  ring_offset r h = (layout_offset s r h + r * 2 ^ scale s) % slice_len s

  -- its column, which no rotation changes
  unfoldable pub column_of : (r h : ℕ) → ℕ
  column_of r h = ring_offset r h % 2 ^ stride s

  -- its row after j rotations
  unfoldable pub row_of : (r h j : ℕ) → ℕ
  row_of r h j = (ring_offset r h / 2 ^ stride s + j) % ring_len s
