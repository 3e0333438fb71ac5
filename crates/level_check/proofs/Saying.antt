-- What a check says fixes its answer: two answers that say the same are the same. Assumes nothing.
use mathlib.Core.Path.{◌≡◌, refl, ap}
use Rattle.std.specs.Prelude.{Result, Ok, Err, ⊤}
use Rattle.rules.specs.declared.Stop.{Stop}
use Rattle.rules.specs.Answers.{said_stop}
use Rattle.rules.proofs.SaidLaws.{said_stop_lem}
use Rattle.level_check.specs.Check.{said_matched}

pub said_matched_lem : (x y : Result ⊤ Stop) → said_matched x ≡ said_matched y → x ≡ y
unfolding said_matched
said_matched_lem (Ok a) (Ok b) e = refl
said_matched_lem (Ok a) (Err t) e = unfold said_stop in cc
said_matched_lem (Err s) (Ok b) e = unfold said_stop in cc
said_matched_lem (Err s) (Err t) e = ap (λ (x : Stop). Err x) (said_stop_lem s t e)
