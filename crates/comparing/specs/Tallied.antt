-- What one comparison does to a tally. Assumes nothing.
use Rattle.std.specs.Prelude.{ℕ, ◌+◌, ◌%◌, ◌^◌, cond, ◌==◌}
use Rattle.comparing.specs.declared.Tally.{Tally}

-- one more is compared, and one more differs unless the two are equal
unfoldable pub tallied : Tally → (here rust : ℕ) → Tally
tallied t here rust = record {
  compared = (t.compared + 1) % 2 ^ 64;
  differ = cond (here == rust) t.differ ((t.differ + 1) % 2 ^ 64);
}
