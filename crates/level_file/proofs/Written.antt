-- The theorem on both calls: where the writer gives a length, the lent bytes begin with that many bytes of a file, beyond which nothing changed, and the reader, lent
-- room enough, gives back the settings, seeds and holes. Assumes nothing.
use Prim.Native.Nat.{ℕ, ◌≤◌}
use mathlib.Core.Path.{◌≡◌, refl, ap, ◌∙◌}
use mathlib.Core.List.{List}
use lib.ListN.{length, take, drop}
use lib.Seq.{take_at}
use Rattle.rules.proofs.AnswerLaws.{kept_zero}
use Rattle.level_file.specs.Format.{Level, file_of, filled}
use Rattle.level_file.specs.Reading.{read_file}
use Rattle.level_file.specs.Reading.Read.{Got}
use Rattle.level_file.specs.Writing.{write_number, bytes_after}
use Rattle.level_file.proofs.Accepts.{read_written}
use Rattle.level_file.proofs.WriteLaws.{wrote}

module _ (l : Level) (before : List ℕ) (done : write_number l (length before) ≡ 0) where
  pub written : take (length (file_of l)) (bytes_after l before) ≡ file_of l
  unfolding bytes_after filled
  written = ap (take (length (file_of l))) (kept_zero (write_number l (length before)) _ _ done) ∙ take_at (file_of l) (drop (length (file_of l)) before) (length (file_of l)) refl

  pub written_read : (seedRoom holeRoom : ℕ) → l.settings.buckets ≤ seedRoom → length l.holes ≤ holeRoom
      → read_file (take (length (file_of l)) (bytes_after l before)) seedRoom holeRoom ≡ Got l (length (file_of l))
  written_read seedRoom holeRoom seedsFit holesFit =
      ap (λ (bytes : List ℕ). read_file bytes seedRoom holeRoom) written ∙ read_written l (wrote l (length before) done).0 seedRoom holeRoom seedsFit holesFit
