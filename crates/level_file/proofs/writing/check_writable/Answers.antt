-- `check_writable`: check after check, and the file's length from its measured parts. Assumes nothing.
use Rattle.level_file.proofs.WriteLaws.{number_7, number_13, bad_seeds, bad_holes, few_seeds, few_holes, no_room, has_room_lem}
use Rattle.level_file.specs.Format.{level_of}
use Rattle.rules.specs.declared.Refusal as R
use Rattle.rules.specs.declared.Refusal.TheVariants as Why
use Rattle.rules.specs.Answers.{number_of}
use Rattle.std.specs.Prelude.{Option, None, Err}
use Rattle.std.specs.Option.{ok_or}
use Rattle.std.proofs.lemmas.Result.{err_from_is_err_and}
use Rattle.std.proofs.Common.{arith, ℕ, ◌≡◌, ap, sym, ◌∙◌}
use Rattle.level_file.proofs.writing.check_writable.Goals as goal

-- the refusal of a part that may not be written
bad_value : (part : Option ℕ) (why : R.Refusal) → part ≡ None → Err why ≡ ok_or part Why.FileValue → number_of why ≡ 24
bad_value part why e i =
    let is = rw e at i in
    let same : why ≡ Why.FileValue = cc in
    ap number_of same

pub returns-in_err-check_settings : goal.returns-in_err-check_settings
returns-in_err-check_settings c =
    let a = c.args in
    let p = err_from_is_err_and c.from_residual.result c.from_residual.ensures.1 in
    rw (p.1, p.2) (number_7 (level_of a.settings a.seeds.now a.holes.now) a.room _ c.in_err-check_settings.ensures.number)

pub returns-then-seeds-settings : goal.returns-then-seeds-settings
returns-then-seeds-settings c =
    let a = c.args in
    number_13 (level_of a.settings a.seeds.now a.holes.now) a.room (sym c.in_ok-check_settings.ensures.number) c.if-seeds-settings.true

pub returns-in_err-first : goal.returns-in_err-first
returns-in_err-first c =
    let a = c.args in
    let p = err_from_is_err_and c.from_residual-in_err-first.result c.from_residual-in_err-first.ensures.1 in
    let e = c.in_err-first.ensures in
    rw (p.1, p.2)
    (bad_value _ _ e.ok_part e.value
    ∙ bad_seeds a.settings a.seeds.now a.holes.now a.room _ (sym c.in_ok-check_settings.ensures.number) c.if-seeds-settings.false c.power_of_two.ensures.0 _ c.measure_seeds.ensures e.ok_part)

pub returns-in_err-second : goal.returns-in_err-second
returns-in_err-second c =
    let a = c.args in
    let p = err_from_is_err_and c.from_residual-in_err-second.result c.from_residual-in_err-second.ensures.1 in
    let e = c.in_err-second.ensures in
    rw (p.1, p.2)
    (bad_value _ _ e.ok_part e.value
    ∙ bad_holes a.settings a.seeds.now a.holes.now a.room _ (sym c.in_ok-check_settings.ensures.number) c.if-seeds-settings.false c.power_of_two.ensures.0 _ c.measure_seeds.ensures _ c.in_ok-first.ensures.ok_part _ c.measure_holes.ensures e.ok_part)

pub overflow_add-measure_head : goal.overflow_add-measure_head
overflow_add-measure_head c =
    let a = c.args in
    let x = few_seeds a.settings a.seeds.now a.holes.now a.room _ (sym c.in_ok-check_settings.ensures.number) c.if-seeds-settings.false c.power_of_two.ensures.0 _ c.measure_seeds.ensures _ c.in_ok-first.ensures.ok_part _ c.measure_holes.ensures _ c.in_ok-second.ensures.ok_part in
    omega (arith, x, c.measure_head.ensures.1)

pub overflow_add-measure_head-2 : goal.overflow_add-measure_head-2
overflow_add-measure_head-2 c =
    let a = c.args in
    let x = few_seeds a.settings a.seeds.now a.holes.now a.room _ (sym c.in_ok-check_settings.ensures.number) c.if-seeds-settings.false c.power_of_two.ensures.0 _ c.measure_seeds.ensures _ c.in_ok-first.ensures.ok_part _ c.measure_holes.ensures _ c.in_ok-second.ensures.ok_part in
    let y = few_holes a.settings a.seeds.now a.holes.now a.room _ (sym c.in_ok-check_settings.ensures.number) c.if-seeds-settings.false c.power_of_two.ensures.0 _ c.measure_seeds.ensures _ c.in_ok-first.ensures.ok_part _ c.measure_holes.ensures _ c.in_ok-second.ensures.ok_part in
    omega (arith, x, y, c.measure_head.ensures.1)

pub returns-then-measure_head-first : goal.returns-then-measure_head-first
returns-then-measure_head-first c =
    let a = c.args in
    no_room a.settings a.seeds.now a.holes.now a.room _ (sym c.in_ok-check_settings.ensures.number) c.if-seeds-settings.false c.power_of_two.ensures.0 _ c.measure_seeds.ensures _ c.in_ok-first.ensures.ok_part _ c.measure_holes.ensures _ c.in_ok-second.ensures.ok_part _ c.measure_head.ensures.0 c.if-measure_head-first.true

pub returns : goal.returns
returns c =
    let a = c.args in
    has_room_lem a.settings a.seeds.now a.holes.now a.room _ (sym c.in_ok-check_settings.ensures.number) c.if-seeds-settings.false c.power_of_two.ensures.0 _ c.measure_seeds.ensures _ c.in_ok-first.ensures.ok_part _ c.measure_holes.ensures _ c.in_ok-second.ensures.ok_part _ c.measure_head.ensures.0 c.if-measure_head-first.false
