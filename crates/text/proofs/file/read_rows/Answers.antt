use Rattle.std.proofs.Common.{◌≡◌, ℕ, ◌+◌, ◌*◌, ◌<◌, ◌≤◌, length, Err, sym, ap, ◌∙◌, arith, length-append}
use Rattle.std.proofs.lemmas.Result.{err_from_is_err_and}
use Rattle.text.specs.declared.fault.FileFault.TheVariants.{Row}
use Rattle.rows.proofs.Layers.{numbered_ok, numbered_err}
use Rattle.text.proofs.FileReading.{reached_more, reached_stops, reached_all, row_is_left, no_row_is_left}
use Rattle.text.proofs.file.read_rows.Goals as goal

-- a row that comes is one of the file's
row_comes : (size count width rows left next row : ℕ) → size ≡ width → width * count + left ≡ width * rows → left ≡ row + next → row ≡ size → 1 ≤ width → count < rows
row_comes size count width rows left next row e k cut long some = row_is_left width rows count left k (omega arith) some

pub take_row-requires : goal.take_row-requires
take_row-requires g c =
    let k = c.loop-i.invariant in
    let steps = c.in-Some.ensures.steps in
    let st = k.reached c.requires.room.0 c.requires.room.1 in
    let h = row_comes _ _ _ _ _ _ _ k.size (k.left ∙ sym c.requires.whole) (ap length steps.0.1.0 ∙ length-append c.in-Some.row.now c.next.new.self.iter.rest.now) steps.0.1.1 c.requires.wide in
    (st.state, st.stood, omega (arith, st.spare, c.requires.room.2, h))

pub loop-i-preserved : goal.loop-i-preserved
loop-i-preserved g c =
    let k = c.loop-i.invariant in
    let steps = c.in-Some.ensures.steps in
    let cut = ap length steps.0.1.0 ∙ length-append c.in-Some.row.now c.next.new.self.iter.rest.now in
    let h = row_comes _ _ _ _ _ _ _ k.size (k.left ∙ sym c.requires.whole) cut steps.0.1.1 c.requires.wide in
    let e = numbered_ok _ c.take_row.result _ c.in_ok-at_number.ensures in
    record {
      size = steps.0.0 ∙ k.size;
      left = rw steps.2 (omega (arith, k.left, k.size, cut, steps.0.1.1));
      reached = λ s stood. rw steps.2 (reached_more _ _ _ _ _ _ s _ _ _ _ _ _ h (steps.0.1.1 ∙ k.size) steps.0.1.0 (k.reached s stood) g.met.T.RowTaker.takes_room _ _ e c.take_row.ensures);
    }

pub returns-in_err-at_number : goal.returns-in_err-at_number
returns-in_err-at_number g c =
    let k = c.loop-i.invariant in
    let steps = c.in-Some.ensures.steps in
    let cut = ap length steps.0.1.0 ∙ length-append c.in-Some.row.now c.next.new.self.iter.rest.now in
    let h = row_comes _ _ _ _ _ _ _ k.size (k.left ∙ sym c.requires.whole) cut steps.0.1.1 c.requires.wide in
    let p = err_from_is_err_and c.from_residual.result c.from_residual.ensures.1 in
    let q = numbered_err _ c.take_row.result c.in_err-at_number.field-0.0 c.in_err-at_number.ensures in
    let e : c.from_residual.result ≡ Err (Row (record { number = c.loop-i.i-iterator.count + 1; fault = q.0 })) =
    p.1 ∙ ap Err p.2 ∙ ap (λ f. Err (Row f)) q.2 ∙ ap (λ n. Err (Row (record { number = n + 1; fault = q.0 }))) steps.1 in
    λ s stood. rw e (reached_stops _ _ _ _ _ _ s _ _ _ _ _ _ h (steps.0.1.1 ∙ k.size) steps.0.1.0 (k.reached s stood) _ q.0 q.1 c.take_row.ensures)

pub returns : goal.returns
returns g c =
    let k = c.loop-i.invariant in
    let none = no_row_is_left _ _ _ _ (k.left ∙ sym c.requires.whole) (omega (arith, k.size, c.in-None.ensures.steps.0.1.0)) in
    λ s stood. reached_all _ _ _ _ _ _ s _ _ _ none (k.reached s stood)
