-- Driving a gate onto a page, one release after another.
use Rattle.std.proofs.Common.{◌≡◌, ℕ, ◌+◌, ◌*◌, ◌<◌, ◌≤◌, true, false, ltb, List, [], ◌∷◌, ◌++◌, length, Ok, Err, Option, Result, sym, refl, ap, ◌∙◌, subst, arith}
use Rattle.std.specs.Result.{result_err}
use Rattle.std.proofs.lemmas.Bool.{le-leb, lt-ltb, leb-true, and_parts}
use Rattle.source.specs.declared.reply.Reply.{Reply}
use Rattle.source.specs.declared.reply.End.{End}
use Rattle.promise.specs.declared.release.Release.{Release}
use Rattle.promise.specs.Rules.{Rules}
use Rattle.promise.specs.Views.{View, all, release, reply_of, answer, next, Timely}
use Rattle.promise.proofs.Nexts.{Moves, moves, all_grows}
use Rattle.tally.specs.declared.account.Tally.{Tally}
use Rattle.tally.specs.Tallies.{begun, taken, orderly, roomy, verdict, row_answer, foot_of}
use Rattle.page.specs.Pages.{row_bytes, foot_bytes, lined}
use Rattle.driver.specs.Replays.{row_of, Releases, tallied, filled, Stops, Fills, Replays}

module _ {B : Type 0} where
  releases_more : (m : Rules) (v w : View B) (xs : List (Release B)) (x : Release B) → Releases m v xs w → release m w ≡ Ok x
      → Releases m v (xs ++ x ∷ []) (next m w)
  releases_more m v w [] x r e = (subst (λ y. release m y ≡ Ok x) r e, ap (next m) r)
  releases_more m v w (y ∷ xs) x r e = (r.0, releases_more m (next m v) w xs x r.1 e)

  tallied_more : (t : Tally) (xs : List (Release B)) (x : Release B) → taken (tallied t xs) (row_of x) ≡ tallied t (xs ++ x ∷ [])
  tallied_more t [] x = refl
  tallied_more t (y ∷ xs) x = tallied_more (taken t (row_of y)) xs x

  filled_more : (t : Tally) (xs : List (Release B)) (x : Release B) (buf : List ℕ)
      → lined (tallied t xs).rows (row_bytes ((tallied t xs).rows + 1) (row_of x)) (filled t xs buf) ≡ filled t (xs ++ x ∷ []) buf
  filled_more t [] x buf = refl
  filled_more t (y ∷ xs) x buf = filled_more (taken t (row_of y)) xs x (lined t.rows (row_bytes (t.rows + 1) (row_of y)) buf)

  -- a page has as many rows more as there were releases
  pub tallied_rows : (t : Tally) (xs : List (Release B)) → (tallied t xs).rows ≡ t.rows + length xs
  tallied_rows t [] = omega arith
  tallied_rows t (y ∷ xs) = omega (arith, tallied_rows (taken t (row_of y)) xs)

  -- where the loop stands
  pub record Driven (m : Rules) (v₀ v : View B) (t₀ t : Tally) (buf₀ buf : List ℕ) : Type 0 where
    pub row_list : List (Release B)
    pub releases : Releases m v₀ row_list v
    pub tally : t ≡ tallied t₀ row_list
    pub bytes : buf ≡ filled t₀ row_list buf₀
    pub room : 36 * t.rows + 36 ≤ length buf
    pub clock : t.clock ≡ v.standing.clock
    pub misses : t.misses ≤ all v.standing

  module _ (m : Rules) (v₀ v w : View B) (t₀ t : Tally) (buf₀ buf : List ℕ) (x : Release B)
      (d : Driven m v₀ v t₀ t buf₀ buf) (out : Ok x ≡ release m v) (is : w ≡ next m v) (inside : x.reply.«class» < length v.standing.misses) where
    moved : Moves v w x
    moved = subst (λ y. Moves v y x) (sym is) (moves m v x out)

    -- the row of a release is accepted where the page has room
    pub accepted : Timely v.standing.clock x → all w.standing ≤ 232 → roomy t (length buf) ≡ true
        → row_answer t (row_of x) (length buf) ≡ Ok tt
    accepted timely few roomy_is =
        let grows = all_grows v w x moved inside in
        let order : orderly t (row_of x) ≡ true =
        rw (
          le-leb x.reply.asked x.reply.ready timely.asked,
          lt-ltb t.clock x.reply.ready (omega (arith, timely.after, d.clock)),
          le-leb x.reply.ready 1000000000 timely.within,
          le-leb x.misses 29 timely.few,
          le-leb (t.misses + x.misses) 9999 (omega (arith, grows, d.misses)),
        ) refl in
        ap (λ b. verdict b (orderly t (row_of x)) (roomy t (length buf))) (le-leb x.reply.«class» 7 timely.known)
        ∙ ap (λ b. verdict true b (roomy t (length buf))) order ∙ ap (verdict true true) roomy_is

    pub driven_more : (u : Tally) (buf' : List ℕ) → u ≡ taken t (row_of x) → buf' ≡ lined t.rows (row_bytes (t.rows + 1) (row_of x)) buf
        → length buf' ≡ length buf → roomy t (length buf) ≡ true → Driven m v₀ w t₀ u buf₀ buf'
    driven_more u buf' ut bytes kept roomy_is =
        let fits : 36 * t.rows + 72 ≤ length buf = leb-true (36 * t.rows + 72) (length buf) (and_parts (ltb t.rows 50000) _ roomy_is).1 in
        let grows = all_grows v w x moved inside in
        let rows : u.rows ≡ t.rows + 1 = ap (λ (y : Tally). y.rows) ut in
        let clock : u.clock ≡ x.reply.ready = ap (λ (y : Tally). y.clock) ut in
        let misses : u.misses ≡ t.misses + x.misses = ap (λ (y : Tally). y.misses) ut in
        record {
          row_list = d.row_list ++ x ∷ [];
          releases = subst (λ y. Releases m v₀ (d.row_list ++ x ∷ []) y) (sym is) (releases_more m v₀ v d.row_list x d.releases (sym out));
          tally = ut ∙ ap (λ y. taken y (row_of x)) d.tally ∙ tallied_more t₀ d.row_list x;
          bytes = bytes ∙ ap (λ (y : Tally). lined y.rows (row_bytes (y.rows + 1) (row_of x)) buf) d.tally
              ∙ ap (lined (tallied t₀ d.row_list).rows (row_bytes ((tallied t₀ d.row_list).rows + 1) (row_of x))) d.bytes
              ∙ filled_more t₀ d.row_list x buf₀;
          room = omega (arith, rows, kept, fits);
          clock = clock ∙ sym moved.clock;
          misses = omega (arith, misses, grows, d.misses);
        }

  -- why the driving stops where the page takes no further row: by what head answers
  pub stopped : (m : Rules) (v : View B) (t : Tally) (room : ℕ) (r : Result (Reply B) End) → r ≡ answer m v → roomy t room ≡ false → Stops m v t room (result_err r)
  stopped m v t room r e full = go (release m v) refl r e
    where
      go : (o : Result (Release B) End) → release m v ≡ o → (r : Result (Reply B) End) → r ≡ reply_of o → Stops m v t room (result_err r)
      go (Ok x) is (Ok y) h = ((x, is), full)
      go (Ok x) is (Err e) h = absurd (let z : ◌≡◌ {A = ℕ} 0 1 = cc in omega arith)
      go (Err x) is (Ok y) h = absurd (let z : ◌≡◌ {A = ℕ} 0 1 = cc in omega arith)
      go (Err x) is (Err e) h = let same : x ≡ e = cc in is ∙ ap Err same

  -- a page that was begun, filled and closed
  pub replays : (m : Rules) (v w : View B) (t u : Tally) (buf buf₁ buf₂ : List ℕ) (quanta : ℕ → ℕ) (rows len : ℕ) (end : Option End)
      → t ≡ begun v.standing.clock → Fills m v w t u buf buf₁ end → quanta ≡ m.quantum
      → 36 * u.rows + 36 ≤ length buf₁ → rows ≡ u.rows → buf₂ ≡ lined u.rows (foot_bytes (foot_of quanta u)) buf₁
      → length buf₁ ≡ length buf → len ≡ 36 * rows + 36
      → Replays m v w buf buf₂ (record { length = len; end = end })
  replays m v w t u buf buf₁ buf₂ quanta rows len end begins f q room rows_is foot kept long =
      let xs = f.row_list in
      let t₀ = begun v.standing.clock in
      let ut : u ≡ tallied t₀ xs = f.tally ∙ ap (λ y. tallied y xs) begins in
      let n : u.rows ≡ length xs = ap (λ (y : Tally). y.rows) ut ∙ (let e = tallied_rows t₀ xs in omega (arith, e)) in
      record {
        row_list = xs;
        releases = f.releases;
        length_is = omega (arith, long, rows_is, n);
        bytes =
            foot ∙ ap (λ k. lined k (foot_bytes (foot_of quanta u)) buf₁) n
            ∙ ap (λ p. lined (length xs) (foot_bytes (foot_of p u)) buf₁) q
            ∙ ap (λ y. lined (length xs) (foot_bytes (foot_of m.quantum y)) buf₁) ut
            ∙ ap (lined (length xs) (foot_bytes (foot_of m.quantum (tallied t₀ xs)))) (f.bytes ∙ ap (λ y. filled y xs buf) begins);
        inside = omega (arith, long, rows_is, room, kept);
        stops = subst (λ y. Stops m w y (length buf) end) ut f.stops;
      }
