use Rattle.std.proofs.Common.{inl, inr, arith}
use Rattle.rows.proofs.RowWriting.{field_left, row_ends}
use Rattle.rows.proofs.layout.Layout.write_fields.Goals as goal

pub write_field-requires : goal.write_field-requires
write_field-requires g c =
    let st = field_left _ _ _ _ _ _ _ c.in-Some.column.now c.in-Some.value.now c.loop-column.invariant c.in-Some.ensures.steps.0 c.in-Some.ensures.steps.1 in
    omega (arith, st.digits, st.long)

pub loop-column-preserved : goal.loop-column-preserved
loop-column-preserved g c =
    let st = field_left _ _ _ _ _ _ _ c.in-Some.column.now c.in-Some.value.now c.loop-column.invariant c.in-Some.ensures.steps.0 c.in-Some.ensures.steps.1 in
    st.then c.write_field.new.out (rw st.long at c.write_field.ensures)

pub returns : goal.returns
returns g c = row_ends _ _ _ _ _ c.loop-column.invariant (elim c.in-None.ensures.steps [ inl h ↦ inl h.1.0 | inr h ↦ inr h.1.0 ])
