-- `feed` takes bytes as `fed_scan` and `fed_numbers` say: feeding the rest from the present state gives at each turn what feeding all of
-- them gives. Assumes nothing.
use Rattle.list_input.specs.Scan.{fed_scan, fed_numbers}
use lib.ListN.{drop}
use mathlib.Core.Path.{◌≡◌}
use Rattle.list_input.proofs.stream.feed.Given as goal

abbrev pub invariant-loop-byte : goal.invariant-loop-byte
invariant-loop-byte l = (fed_scan l.now (drop l.byte-index l.chunk) ≡ fed_scan l.initial.now l.chunk) × (fed_numbers l.now l.numbers (drop l.byte-index l.chunk) ≡ fed_numbers l.initial.now l.initial.numbers l.chunk)
