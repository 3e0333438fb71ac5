-- The numbers kept and the scan are at each turn those of the bytes read so far, so that what is printed is their listing.
-- Assumes nothing.
use Prim.Native.Nat.{ℕ}
use mathlib.Core.List.{List, [], ◌++◌}
use mathlib.Core.Path.{◌≡◌, refl, sym, ◌∙◌}
use Rattle.list_input.specs.declared.Scan.{Scan}
use Rattle.list_input.specs.Scan.{fed_scan, fed_numbers}
use Rattle.listing.specs.Fed.{Fed}
use Rattle.listing.proofs.FedLaws.{fed_none, fed_more}
use Rattle.sweep_list.proofs.main.Goals as goal
use Rattle.sweep_list.proofs.main.Goals.{else-loop-test, then-loop-test+then-n-lt65536}

-- a chunk more was fed
fed_on : (chunk : List ℕ) (s t : Scan) (ns after : List ℕ) → Fed s ns → t ≡ fed_scan s chunk → after ≡ fed_numbers s ns chunk → Fed t after
fed_on chunk s t ns after f e g = record { bytes = f.bytes ++ chunk; by = fed_more f.bytes chunk s t ns after f.by e g }

pub loop-init : goal.loop-init
loop-init c = (record { bytes = []; by = fed_none _ _ c.start-scan.ensures refl }, sym c.large_buffer-buffer.ensures)

pub loop-preserved : goal.loop-preserved
loop-preserved c = (fed_on _ _ _ _ _ c.loop.invariant.0 c.feed-scan.ensures.value c.feed-scan.ensures.numbers_after, c.read_full-n.auto.buf ∙ c.loop.invariant.1)

pub finish-end-requires-clause-fed : goal.finish-end-requires-clause-fed
finish-end-requires-clause-fed c =
    elim c.loop-test.branch [
      | else-loop-test w ↦ rw (w.scan-is, w.numbers-is) c.loop.invariant.0
      | then-loop-test+then-n-lt65536 w ↦ rw (w.scan-is, w.numbers-is) (fed_on _ _ _ _ _ c.loop.invariant.0 w.feed-scan.ensures.value w.feed-scan.ensures.numbers_after)
    ]
