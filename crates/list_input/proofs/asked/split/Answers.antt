-- `split` takes the groups apart as `hashes_of` and `begins_of` say: each turn keeps `Splitting`. Assumes nothing.
use Rattle.list_input.specs.SplitLaws.{split_start, hashes_most, hash_room, split_hash, begin_room, split_count, last_room, split_hashes, split_begins, split_keys}
use native.Mathlib.Omega.{arith}
use Prim.Native.Nat.{ℕ, ◌≤◌, ◌<◌, ◌+◌, ◌-◌}
use lib.ListN.{length, get_or, take, drop, length-drop}
use lib.Seq.{take_all, get_or-drop}
use mathlib.Core.List.{List}
use mathlib.Core.Path.{◌≡◌}
use Rattle.list_input.proofs.asked.split.Goals as goal
use Rattle.list_input.proofs.asked.split.Goals.{then-keys-gt0, else-keys-gt0}

-- the numbers after the head, as the code takes them
module _ (ns : List ℕ) (i : ℕ) where
  body_is : take (length ns - 13) (drop 13 ns) ≡ drop 13 ns
  body_is = take_all (length ns - 13) (drop 13 ns) (omega (arith, length-drop 13 ns))

  body_at : get_or (take (length ns - 13) (drop 13 ns)) i 0 ≡ get_or ns (13 + i) 0
  body_at = rw body_is (get_or-drop 13 ns i 0)

  body_long : length (take (length ns - 13) (drop 13 ns)) ≡ length ns - 13
  body_long = rw body_is (length-drop 13 ns)

pub loop-n-init : goal.loop-n-init
loop-n-init c = split_start _ _ _ c.requires.ns_value c.requires.ns_value_2

pub bounds-hashes-h : goal.bounds-hashes-h
bounds-hashes-h c = hash_room c.loop-n.invariant (omega (arith, body_long c.args.ns.now 0)) c.if-keys-gt0.true

pub bounds-begins-b : goal.bounds-begins-b
bounds-begins-b c = begin_room c.loop-n.invariant (omega (arith, body_long c.args.ns.now 0)) c.if-keys-gt0.false

pub loop-n-preserved : goal.loop-n-preserved
loop-n-preserved c =
    let ns = c.args.ns.now in
    let i = c.loop-n.n-index in
    let inside : 13 + i < length ns = omega (arith, body_long ns 0) in
    let next : 13 + (i + 1) ≡ 13 + i + 1 = omega arith in
    elim c.if-keys-gt0.branch [
      | then-keys-gt0 w ↦ rw (next, w.hashes-is, w.begins-is, w.h-is, w.b-is, w.keys-is, body_at ns i) (split_hash c.loop-n.invariant inside w.if-keys-gt0.true)
      | else-keys-gt0 w ↦ rw (next, w.hashes-is, w.begins-is, w.h-is, w.b-is, w.keys-is, body_at ns i) (split_count c.loop-n.invariant inside w.if-keys-gt0.false)
    ]

pub bounds-begins-b-2 : goal.bounds-begins-b-2
bounds-begins-b-2 c = last_room c.loop-n.invariant (omega (arith, body_long c.args.ns.now 0))

pub returns : goal.returns
returns c =
    let s = c.loop-n.invariant in
    let past : length c.args.ns.now ≤ 13 + c.loop-n.n-index = omega (arith, body_long c.args.ns.now 0) in
    record {
      value = (split_keys s past, hashes_most s);
      hashes_after = split_hashes s past;
      begins_after = split_begins s past;
    }
