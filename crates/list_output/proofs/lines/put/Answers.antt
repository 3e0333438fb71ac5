-- `put` copies bytes into a part of the buffer. Assumes nothing.
use borrow.Rule.Slice.PartMut.{put_mid}
use lib.ListN.{length, drop, take}
use lib.Seq.{sets, sets-eq, drop-drop}
use mathlib.Core.List.{List, ◌++◌, append_assoc}
use mathlib.Core.Path.{◌≡◌, sym, ap, ◌∙◌}
use native.Mathlib.Omega.{arith}
use Prim.Native.Nat.{ℕ, ◌+◌, ◌-◌, ◌≤◌}
use Rattle.list_output.proofs.lines.put.Goals as goal

-- a part overwritten is a run of stores
part_set : (out text : List ℕ) (at : ℕ) → at + length text ≤ length out → put_mid at (at + length text - at) out text ≡ sets out at text
part_set out text at room =
    let many : at + length text - at ≡ length text = omega arith in
    ap (λ (k : ℕ). put_mid at k out text) many
    ∙ ap (λ (rest : List ℕ). take at out ++ (text ++ rest)) (drop-drop (length text) at out)
    ∙ sym (append_assoc (take at out) text (drop (at + length text) out))
    ∙ sym (sets-eq text out at room)

pub returns-clause-out_after : goal.returns-clause-out_after
returns-clause-out_after c =
    let a = c.args in
    ap (λ (part : List ℕ). put_mid a.at (a.at + length a.text.now - a.at) a.out.now part) c.copy_from_slice.ensures.after
    ∙ part_set a.out.now a.text.now a.at c.requires
