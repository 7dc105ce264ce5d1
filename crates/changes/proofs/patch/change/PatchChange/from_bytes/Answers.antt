use Rattle.std.proofs.Common.{◌≡◌, ◌+◌, ◌-◌, ◌≤◌, true, get_or, drop, ◌∙◌, arith}
use Rattle.std.proofs.lemmas.Bool.{both_ways}
use Rattle.format.specs.Bytes.{all_zero}
use Rattle.format.proofs.Rows.{all_zero_part}
use Rattle.changes.proofs.PatchReads.{stands, no_patch, patch_reads, patch_stands}
use Rattle.changes.proofs.patch.change.PatchChange.from_bytes.Goals as goal
use Rattle.changes.proofs.patch.change.PatchChange.from_bytes.Goals.{then-end-gt36-via-then-end-gt36, then-end-gt36-via-else-end-gt36+then-not-all_zero}

pub returns-in_default-2 : goal.returns-in_default-2
returns-in_default-2 c = no_patch c.args.bytes.now (λ e. let s = stands c.args.bytes.now e in omega arith)

pub returns-in_default-3 : goal.returns-in_default-3
returns-in_default-3 c = no_patch c.args.bytes.now (λ e. let s = stands c.args.bytes.now e in omega arith)

pub returns-then-end-gt36 : goal.returns-then-end-gt36
returns-then-end-gt36 c =
    let b = c.args.bytes.now in
    no_patch b (λ e. let s = stands b e in
    elim c.then-end-gt36.branch [
      | then-end-gt36-via-then-end-gt36 w ↦ omega (arith, w.if-end-gt36.true)
      | then-end-gt36-via-else-end-gt36+then-not-all_zero w ↦
          both_ways _ (all_zero_part b (4 + get_or b 2 0) (40 - (4 + get_or b 2 0)) w.all_zero.result w.all_zero.ensures (omega arith) ∙ w.if-not-all_zero.true) s.rest
    ])

pub returns : goal.returns
returns c =
    let b = c.args.bytes.now in
    let rest : all_zero (drop (4 + get_or b 2 0) b) ≡ true = all_zero_part b (4 + get_or b 2 0) (40 - (4 + get_or b 2 0)) c.all_zero.result c.all_zero.ensures (omega arith) ∙ c.if-not-all_zero.false in
    let few : get_or b 2 0 ≤ 32 = omega arith in
    let first : get_or b 0 0 ≡ 1 = omega arith in
    let fourth : get_or b 3 0 ≡ 0 = omega arith in
    record {
      reads = c.new.ensures.made ∙ patch_reads b c.told-bytes first fourth few rest;
      forms = c.new.ensures.range ∙ patch_stands b c.told-bytes first fourth few rest;
    }
