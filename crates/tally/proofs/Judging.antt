-- What a page has of a row that it took.
use Rattle.std.proofs.Common.{◌≡◌, ℕ, ◌+◌, ◌*◌, ◌<◌, ◌≤◌, Bool, true, false, ltb, leb, Ok, refl, arith}
use Rattle.std.proofs.lemmas.Bool.{and_parts, leb-true, ltb-true}
use Rattle.tally.specs.declared.line.PageRow.{PageRow}
use Rattle.tally.specs.declared.account.Tally.{Tally}
use Rattle.tally.specs.Tallies.{orderly, roomy, verdict, row_answer}

pub record Taken (t : Tally) (r : PageRow) (room : ℕ) : Type 0 where
  pub known : r.«class» ≤ 7
  pub orderly : orderly t r ≡ true
  pub few : t.rows < 50000
  pub fits : 36 * t.rows + 72 ≤ room

pub taken_parts : (t : Tally) (r : PageRow) (room : ℕ) → row_answer t r room ≡ Ok tt → Taken t r room
taken_parts t r room e = go (leb r.«class» 7) refl (orderly t r) refl (roomy t room) refl e
  where
    go : (a : Bool) → leb r.«class» 7 ≡ a → (b : Bool) → orderly t r ≡ b → (c : Bool) → roomy t room ≡ c → verdict a b c ≡ Ok tt → Taken t r room
    go false ea b eb c ec h = let z : ◌≡◌ {A = ℕ} 0 1 = cc in absurd (omega arith)
    go true ea false eb c ec h = let z : ◌≡◌ {A = ℕ} 0 1 = cc in absurd (omega arith)
    go true ea true eb false ec h = let z : ◌≡◌ {A = ℕ} 0 1 = cc in absurd (omega arith)
    go true ea true eb true ec h =
        let p = and_parts (ltb t.rows 50000) (leb (36 * t.rows + 72) room) ec in
        record {
          known = leb-true r.«class» 7 ea;
          orderly = eb;
          few = ltb-true t.rows 50000 p.0;
          fits = leb-true (36 * t.rows + 72) room p.1;
        }
