-- PHastR's default shape: slices of 1,024 slots, four layouts, seeds of 8 bits. Assumes nothing.
use Rattle.std.specs.Prelude.{◌≡◌, ℕ, Bool, ◌&&◌, ◌==◌, nat_le}
use Rattle.rules.specs.declared.Settings.{Settings}
use Rattle.geometry.specs.declared.shape.Geometry.{Geometry}

-- three numbers tell it: the others follow
pub record Usual (g : Geometry) : Type 0 where
  pub len : g.l ≡ 1024
  pub ll : g.settings.ll ≡ 2
  pub sb : g.settings.sb ≡ 8

unfoldable pub usual_numbers : (l : ℕ) → Settings → Bool
usual_numbers l s = l == 1024 && (s.ll == 2 && s.sb == 8)

unfoldable pub usual_shape : Geometry → Bool
usual_shape g = usual_numbers g.l g.settings

-- the default settings, with slots enough for a whole slice and no more than 5 allows
unfoldable pub usual_settings : Settings → Bool
usual_settings s =
    (s.log2_slice_len == 10) && (s.ll == 2 && (s.sb == 8 && (nat_le 1024 s.m && nat_le s.m 134217728)))
