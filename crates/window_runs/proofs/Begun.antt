-- Made-up sizes and weights are an input's, and blank arrays are its window before the first turn. Assumes nothing.
use mathlib.Core.Path.{refl}
use mathlib.Core.List.{List, []}
use Prim.Native.Nat.{ℕ, ◌≤◌}
use native.Mathlib.Omega.{arith}
use lib.IntN.{ℤ}
use Rattle.rules.specs.Order.{Input, size_of}
use Rattle.window.specs.Key.{Within, Table}
use Rattle.window.specs.Window.{blank, Waiting}
use Rattle.window.proofs.WindowLaws.{start}
use Rattle.window_runs.specs.Sized.{Sized}

-- the settings play no part
input_of : List ℤ → List ℕ → Input
input_of ws begins =
    record { settings = record { m = 0; log2_slice_len = 0; ll = 0; sb = 0; buckets = 0 }; weights = ws; hashes = []; begins = begins; table = [] }

pub begun : (ws : List ℤ) (begins : List ℕ) (table : List ℤ) (lo hi : ℕ) → Sized begins → Within ws → Table ws table → lo ≤ hi → hi ≤ 1400 → Waiting begins table hi (blank lo)
unfolding input_of size_of
begun ws begins table lo hi s w t l h =
    record {
      i = input_of ws begins;
      lo = lo;
      k = 0;
      ranged = record {
        same = refl;
        few = omega arith;
        long = omega (arith, s.long);
        rises = λ b m. s.rises b (omega arith);
        sizes = λ b m. s.sizes b (omega arith);
        within = w;
        weights = t;
      };
      windowed = start (input_of ws begins) lo hi l;
    }
