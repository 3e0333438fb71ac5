-- `bucket_lines` writes a line at each turn, from the bucket's keys and seed. Assumes nothing.
use Rattle.list_output.specs.Writing.{Writing}
use Rattle.list_output.specs.Text.{bucket_line}
use Rattle.rules.specs.Lists.{below, count_from, concat_map}
use lib.ListN.{length}
use Prim.Native.Nat.{◌+◌, ◌*◌, ◌-◌, ◌≤◌}
use Rattle.list_output.proofs.text.bucket_lines.Given as goal

abbrev pub invariant-loop-b : goal.invariant-loop-b
invariant-loop-b l =
    (Writing l.initial.out l.at (concat_map (bucket_line l.begins l.seeds) (below (length l.seeds))) l.out l.place (concat_map (bucket_line l.begins l.seeds) (count_from l.b (length l.seeds - l.b))))
    × (l.place ≤ l.at + 70 * l.b)
