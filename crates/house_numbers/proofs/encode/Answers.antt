-- `encode` answers and leaves the bytes as `encoded_next` and `encoded_out` say, with room and without. Assumes nothing.
use Rattle.std.specs.Prelude.{Some}
use Rattle.house_numbers.specs.EncodeLaws.{next_none, out_kept, next_after, out_set}
use Rattle.house_numbers.specs.Encode.{encoded}
use lib.ListN.{length}
use mathlib.Core.Path.{ap, ◌∙◌}
use native.Mathlib.Omega.{arith}
use Prim.Native.Nat.{◌+◌, ◌<◌, ◌≤◌}
use Rattle.house_numbers.proofs.encode.Goals as goal

pub returns-in_err-room : goal.returns-in_err-room
returns-in_err-room c =
    let a = c.args in
    let h : length a.out.now < a.at + length (encoded a.value) = omega (arith, c.in_err-room.ensures) in
    record {
      answer = c.from_residual.ensures ∙ next_none a.value a.out.now a.at h;
      buffer = out_kept a.value a.out.now a.at h;
    }

pub returns-then-group_count-room : goal.returns-then-group_count-room
returns-then-group_count-room c =
    let a = c.args in
    let h : length a.out.now < a.at + length (encoded a.value) = omega (arith, c.in_ok-room.ensures) in
    record {
      answer = next_none a.value a.out.now a.at h;
      buffer = out_kept a.value a.out.now a.at h;
    }

pub returns : goal.returns
returns c =
    let a = c.args in
    let h : a.at + length (encoded a.value) ≤ length a.out.now = omega arith in
    record {
      answer = ap Some c.put_groups.ensures.value ∙ next_after a.value a.out.now a.at h;
      buffer = c.put_groups.ensures.out_after ∙ out_set a.value a.out.now a.at h;
    }
