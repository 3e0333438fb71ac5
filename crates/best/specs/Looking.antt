-- What the look for the best free rotation asks for: keys that have prices, free words that end with rotation n - 1 and are a power of two to a layout, the
-- number of their ones, and room behind them. Assumes nothing.
use Rattle.std.specs.Prelude.{◌≡◌, List, ℕ, ◌+◌, ◌*◌, ◌≤◌, length, drop}
use Rattle.words.specs.Map.{ones_to}
use Rattle.rings.specs.declared.Ring.{Ring}
use Rattle.rings.specs.Ring.{Shape}
use Rattle.rings.specs.Parts.{part}
use Rattle.best.specs.Prices.{Prices, EndedAll}
use Rattle.best.specs.Flat.{Power}

-- layout r has the `size` keys from work[at + r size] on and the `count` free words from work[to + r count] on; behind the last of these there is room for the
-- wrap points of a layout, and for a list of two words to each free word
pub record Looking (g : Ring) (table work : List ℕ) (at size to count layouts total : ℕ) : Type 0 where
  pub shape : Shape g
  pub prices : Prices g table (part work at (layouts * size))
  pub ended : EndedAll g.n (part work to (layouts * count)) count layouts
  pub power : Power count
  pub few : layouts ≤ 64
  pub sum : total ≡ ones_to (drop to work) (layouts * count)
  pub below : at + layouts * size ≤ to
  pub room : to + layouts * count + count ≤ length work
  pub list : to + 3 * (layouts * count) ≤ length work
