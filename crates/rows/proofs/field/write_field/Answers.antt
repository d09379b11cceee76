use Rattle.std.proofs.Common.{◌≡◌, ◌+◌, ◌-◌, ◌/◌, ◌%◌, ◌<◌, length, set, decimal, sym, ◌∙◌, subst, arith, length-set}
use Rattle.std.proofs.lemmas.Fmt.{decimal_nonempty}
use Rattle.std.proofs.lemmas.Bool.{lt-ltb, le-ltb}
use Rattle.rows.specs.Fields.{shown}
use Rattle.rows.proofs.Shows.{last_byte, ShownFrom, shown_begun, shown_more}
use Rattle.rows.proofs.field.write_field.Goals as goal
use Rattle.rows.proofs.field.write_field.Goals.{then-left-gt0, else-left-gt0}

pub loop-i-init : goal.loop-i-init
loop-i-init c =
    let some : 0 < length (decimal c.args.value) = decimal_nonempty c.args.value (omega arith) in
    let n = length c.args.out.now - 1 in
    let begun = shown_begun c.args.out.now n c.args.value (omega arith) (omega arith) (omega arith) in (
      subst (λ m. ShownFrom (shown m c.args.value) (set c.args.out.now n (48 + c.args.value % 10)) n (c.args.value / 10)) (sym (length-set c.args.out.now n (48 + c.args.value % 10))) begun,
      simp length-set (omega arith),
      omega arith,
    )

pub loop-i-preserved : goal.loop-i-preserved
loop-i-preserved c =
    let x : c.if-left-gt0.out ≡ last_byte c.loop-i.left = elim c.if-left-gt0.branch [
      | then-left-gt0 w ↦ w.out-is ∙ simp (lt-ltb 0 c.loop-i.left w.if-left-gt0.true)
      | else-left-gt0 w ↦ w.out-is ∙ simp (le-ltb 0 c.loop-i.left w.if-left-gt0.false)
    ] in (
      shown_more _ c.loop-i.out c.loop-i.i c.loop-i.left c.if-left-gt0.out (omega arith) (omega arith) (omega arith) x c.loop-i.invariant.0,
      simp length-set (omega arith),
      omega arith,
    )
