-- What reading and writing say fixes their answers: two answers that say the same are the same. Assumes nothing.
use mathlib.Core.Path.{◌≡◌, ap}
use lib.ListN.{get_or}
use Prim.Native.Nat.{ℕ}
use Rattle.std.specs.Prelude.{Result, Ok, Err}
use Rattle.rules.specs.declared.Refusal as R
use Rattle.rules.specs.Answers.{Said, Answer, Refusal, number_of}
use Rattle.rules.proofs.SaidLaws.{number_of_lem}
use Rattle.level_file.specs.declared.reading.Level.{Level}
use Rattle.level_file.specs.Format.{settings_numbers}
use Rattle.level_file.specs.Answer.{read_values, said_read}
use Rattle.level_file.specs.Writing.{said_written}

level_back : Said → Level
level_back (Answer xs) =
    record {
      settings = record { m = get_or xs 0 0; log2_slice_len = get_or xs 1 0; ll = get_or xs 2 0; sb = get_or xs 3 0; buckets = get_or xs 4 0 };
      hole_count = get_or xs 5 0;
    }
level_back (Refusal n xs) = record { settings = record { m = 0; log2_slice_len = 0; ll = 0; sb = 0; buckets = 0 }; hole_count = 0 }

pub said_read_same : (x y : Result Level R.Refusal) → said_read x ≡ said_read y → x ≡ y
unfolding said_read read_values settings_numbers level_back
said_read_same (Ok l) (Ok k) e = ap (λ (s : Said). Ok (level_back s)) e
said_read_same (Ok l) (Err why) e = cc
said_read_same (Err why) (Ok l) e = cc
said_read_same (Err why) (Err other) e = let n : number_of why ≡ number_of other = cc in ap Err (number_of_lem why other n)

pub said_written_same : (x y : Result ℕ R.Refusal) → said_written x ≡ said_written y → x ≡ y
unfolding said_written
said_written_same (Ok m) (Ok n) e = cc
said_written_same (Ok n) (Err why) e = cc
said_written_same (Err why) (Ok n) e = cc
said_written_same (Err why) (Err other) e = let n : number_of why ≡ number_of other = cc in ap Err (number_of_lem why other n)
