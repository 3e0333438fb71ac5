-- `turn_over` makes each word of the part the complement in turn, and counts the ones; no other changes.
use Rattle.std.proofs.Common.{ℕ, List, ◌≡◌, ◌<◌, ◌+◌, ◌-◌, ◌^◌, zero-add, refl, get_or, set, bit_and, length, arith}
use Rattle.std.specs.Int.Count.{ones}
use Rattle.std.proofs.lemmas.Nat.{and_le_r}
use Rattle.rings.specs.BlockedLaws.{over_none, over_more}
use Rattle.rings.specs.Blocked.{TurnedOver}
use Rattle.rings.specs.Parts.{length_part}
use Rattle.rings.proofs.Middle.{put_over}
use Rattle.rings.proofs.free.turn_over.Goals as goal

small : (x own : ℕ) → own < 2 ^ 64 → bit_and (2 ^ 64 - 1 - x) own < 2 ^ 64
small x own h = omega (arith, and_le_r (2 ^ 64 - 1 - x) own)

next : {l now : List ℕ} {i own total n : ℕ} → i < length l → own < 2 ^ 64 → n ≡ ones (bit_and (2 ^ 64 - 1 - get_or now i 0) own) → TurnedOver l 0 i own total now
    → TurnedOver l 0 (i + 1) own (total + n) (set now i (bit_and (2 ^ 64 - 1 - get_or now i 0) own))
next {l} {now} {i} {own} {total} {n} lt h e a =
    rw zero-add at (over_more {to = 0} {f = bit_and (2 ^ 64 - 1 - get_or now i 0) own} (omega arith) a (rw zero-add refl) (small (get_or now i 0) own h) e)

pub loop-word-init : goal.loop-word-init
loop-word-init c = over_none _ _ _

pub loop-word-preserved : goal.loop-word-preserved
loop-word-preserved c = next c.loop-word-test.true c.ranges.own.fits c.from-total.ensures c.loop-word.invariant

pub returns : goal.returns
returns c =
    let e : c.loop-word.word-index ≡ c.args.words = omega (arith, length_part c.args.work.now c.args.to (c.args.to + c.args.words - c.args.to) (omega arith)) in
    put_over (omega arith) c.requires.0 (rw e at c.loop-word.invariant)
