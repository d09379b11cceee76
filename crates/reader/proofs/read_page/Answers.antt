use Rattle.std.proofs.Common.{◌≡◌, ℕ, ◌-◌, ◌*◌, List, length, take, drop, Err, sym, ap, ◌∙◌, subst, arith, length-drop, take_all}
use Rattle.std.proofs.lemmas.Result.{err_from_is_err_and}
use Rattle.text.specs.Lists.{over}
use Rattle.tally.specs.declared.line.PageRow.{PageRow}
use Rattle.tally.specs.Tallies.{begun, tallied, foot_of}
use Rattle.reader.specs.PageFiles.{Fits, foot_read, foot_ending, answer_of, read_of, reading}
use Rattle.reader.proofs.WholePages.{rows_taken, stop_answer, foot_answer}
use Rattle.reader.proofs.PageAnswers.{page_exact}
use Rattle.reader.proofs.PageRuns.{reads_back}
use Rattle.reader.proofs.read_page.Goals as goal

pub returns-in_err-rows : goal.returns-in_err-rows
returns-in_err-rows g c =
    let quanta = g.P.Pace.quanta c.args.quanta.now in
    let bytes = c.args.bytes.now in
    let o : ℕ = c.args.opening.value in
    let p = err_from_is_err_and c.from_residual.result c.from_residual.ensures.1 in
    let count = c.in_err-rows.ensures.value in
    let value = p.1 ∙ (ap Err p.2 ∙ ap (answer_of quanta o bytes) count) in
    record {
      value = value;
      after = ap (λ x. over (read_of o bytes x) c.args.out.now) count;
      exact = page_exact quanta o bytes (length c.args.out.now) _ value;
      back = reads_back quanta o bytes (length c.args.out.now) c.args.opening.high (g.met.P.Pace.lawful c.args.quanta.now).quantum_low _ value;
    }

pub returns-in_err-read_lines : goal.returns-in_err-read_lines
returns-in_err-read_lines g c =
    let quanta = g.P.Pace.quanta c.args.quanta.now in
    let bytes = c.args.bytes.now in
    let o : ℕ = c.args.opening.value in
    let n : ℕ = c.in_ok-rows.rows in
    let count = c.in_ok-rows.ensures.value in
    let p = err_from_is_err_and c.from_residual-in_err-read_lines.result c.from_residual-in_err-read_lines.ensures.1 in
    let value = p.1 ∙ (ap Err p.2 ∙ stop_answer quanta o bytes n (reading o bytes n).left (reading o bytes n).fault _ c.in_err-read_lines.ensures.value)
    ∙ ap (answer_of quanta o bytes) count in
    record {
      value = value;
      after = c.read_lines.ensures.after ∙ ap (λ x. over (read_of o bytes x) c.args.out.now) count;
      exact = page_exact quanta o bytes (length c.args.out.now) _ value;
      back = reads_back quanta o bytes (length c.args.out.now) c.args.opening.high (g.met.P.Pace.lawful c.args.quanta.now).quantum_low _ value;
    }

pub check_foot-requires : goal.check_foot-requires
check_foot-requires g c =
    let bytes = c.args.bytes.now in
    let o : ℕ = c.args.opening.value in
    let n : ℕ = c.in_ok-rows.rows in
    let w = c.in_ok-rows.ensures.within in
    let read = rows_taken o bytes n c.args.out.now c.read_lines.new.out c.in_ok-read_lines.field-0 (omega (arith, w)) c.in_ok-read_lines.ensures.value c.read_lines.ensures.after in
    record {
      fits = subst (Fits (begun o)) (sym read.front) read.rows.fits;
      few = omega (arith, ap length read.front, read.rows.count, w);
    }

pub returns : goal.returns
returns g c =
    let quanta = g.P.Pace.quanta c.args.quanta.now in
    let bytes = c.args.bytes.now in
    let o : ℕ = c.args.opening.value in
    let n : ℕ = c.in_ok-rows.rows in
    let w = c.in_ok-rows.ensures.within in
    let count = c.in_ok-rows.ensures.value in
    let read = rows_taken o bytes n c.args.out.now c.read_lines.new.out c.in_ok-read_lines.field-0 (omega (arith, w)) c.in_ok-read_lines.ensures.value c.read_lines.ensures.after in
    let rs : List PageRow = (reading o bytes n).left in
    let line = take (length bytes - 36 * n) (drop (36 * n) bytes) in
    let whole : line ≡ drop (36 * n) bytes = take_all (length bytes - 36 * n) (drop (36 * n) bytes) (omega (arith, length-drop (36 * n) bytes)) in
    let value = c.check_foot.ensures
    ∙ ap (λ x. foot_ending (length x) (foot_read (foot_of quanta (tallied o x)) line)) read.front
    ∙ ap (λ x. foot_ending (length rs) (foot_read (foot_of quanta (tallied o rs)) x)) whole
    ∙ foot_answer quanta o bytes n (length rs) rs (reading o bytes n).fault read.none read.rows.count
    ∙ ap (answer_of quanta o bytes) count in
    record {
      value = value;
      after = c.read_lines.ensures.after ∙ ap (λ x. over (read_of o bytes x) c.args.out.now) count;
      exact = page_exact quanta o bytes (length c.args.out.now) _ value;
      back = reads_back quanta o bytes (length c.args.out.now) c.args.opening.high (g.met.P.Pace.lawful c.args.quanta.now).quantum_low _ value;
    }
