-- Shifts: the answer for one job, and the plan read from a place on.
use Rattle.std.specs.Prelude.{◌≡◌, ℕ, ◌+◌, ◌<◌, ◌≤◌, true, ◌⊎◌, List, [], ◌∷◌, length, take, drop, IfOk, Some, None, Ok, Err, Option, Result, nat_le, refl, zero, suc, max, slice_index, slice_set}
use Rattle.std.proofs.Common.{sym, ◌∙◌, ap, inl, inr, arith, length-take, length-drop}
use Rattle.std.specs.List.{slice_get}
use Rattle.std.specs.Option.{ok_or}
use Rattle.std.proofs.lemmas.List.{drop-drop, get_or-take}
use Rattle.std.proofs.lemmas.Bool.{and_parts, cases_Bool, both_ways, leb-true, leb-false, le-leb, lt-leb}
use Rattle.source.specs.declared.reply.End.{End}
use Rattle.source.specs.declared.reply.End.TheVariants.{Dry, Horizon}
use Rattle.bench.specs.declared.Job.{Job}
use Rattle.bench.specs.declared.Shift.{Shift}
use Rattle.bench.specs.declared.Bench.{Bench}
use Rattle.bench.specs.Benches.{free_of, InRange, job_follows, shift_of, shift_answer, freed, plan, plan_mark, first_shift, shifts, shifts_mark, NextOf, earliest, worked}
use Rattle.source.specs.Places.{drop_some, drop_none}
use Rattle.bench.specs.declared.Servers.{Servers}

pub cases_result : {X Y : Type 0} (r : Result X Y) → ((x : X) × (r ≡ Ok x)) ⊎ ((y : Y) × (r ≡ Err y))
cases_result (Ok x) = inl (x, refl)
cases_result (Err y) = inr (y, refl)

pub take_set : {A : Type 0} (n : ℕ) (l : List A) (i : ℕ) (a : A) → take n (slice_set l i a) ≡ slice_set (take n l) i a
take_set zero l i a = refl
take_set (suc n) [] i a = refl
take_set (suc n) (x ∷ xs) zero a = refl
take_set (suc n) (x ∷ xs) (suc i) a = ap (λ l. x ∷ l) (take_set n xs i a)

-- a start that was worked out from the servers' own array
pub kept_start : (s : Servers) (server asked start : ℕ) → server < s.number.count → start ≡ max asked (slice_index s.free server) → start ≡ max asked (slice_index (free_of s) server)
kept_start s server asked start known from = from ∙ ap (max asked) (sym (get_or-take s.number.count s.free server 0 known))

module _ {B : Type 0} where
  pub job_in_range : (last : ℕ) (j : Job B) → job_follows last j ≡ true → InRange last j
  job_in_range last j e =
      let p = and_parts (nat_le last j.asked) _ e in
      let q = and_parts (nat_le j.asked 1000000000) _ p.1 in
      let s = and_parts (nat_le j.«class» 7) _ q.1 in
      record {
        rises = leb-true last j.asked p.0;
        within = leb-true j.asked 1000000000 q.0;
        known = leb-true j.«class» 7 s.0;
        little = leb-true j.work 1000000 s.1;
      }

  -- the answer for a job that follows
  module _ (last : ℕ) (free : List ℕ) (j : Job B) (ok : job_follows last j ≡ true) (server start : ℕ) (first : server ≡ earliest free) (from : start ≡ max j.asked (slice_index free server)) where
    its_shift : worked j server start ≡ shift_of free j
    its_shift = ap (worked j server) from ∙ ap (λ s. worked j s (max j.asked (slice_index free s))) first

    its_ready : start + j.work ≡ (shift_of free j).reply.ready
    its_ready = ap (λ x. x.reply.ready) its_shift

    pub shift_taken : start + j.work ≤ 1000000000 → Ok (worked j server start) ≡ shift_answer last free j
    shift_taken h = ap Ok its_shift ∙ rw (ok, le-leb (shift_of free j).reply.ready 1000000000 (omega (arith, its_ready)), shift_answer) refl

    pub shift_late : 1000000000 < start + j.work → Err Horizon ≡ shift_answer last free j
    shift_late h = rw (ok, lt-leb (shift_of free j).reply.ready 1000000000 (omega (arith, its_ready)), shift_answer) refl

  -- a job whose shift is not taken
  pub in_range_follows : (last : ℕ) (j : Job B) → InRange last j → job_follows last j ≡ true
  in_range_follows last j f = rw (le-leb last j.asked f.rises, le-leb j.asked 1000000000 f.within, le-leb j.«class» 7 f.known, le-leb j.work 1000000 f.little) refl

  pub answer_over : (last : ℕ) (free : List ℕ) (j : Job B) (m : End) → shift_answer last free j ≡ Err m
      → ((m ≡ Dry) × (InRange last j → ⊥)) ⊎ ((m ≡ Horizon) × InRange last j × (1000000000 < (shift_of free j).reply.ready))
  answer_over last free j m h =
      elim (cases_Bool (job_follows last j)) [
        | inl ok ↦ elim (cases_Bool (nat_le (shift_of free j).reply.ready 1000000000)) [
          | inl le ↦ let given : shift_answer last free j ≡ Ok (shift_of free j) = rw (ok, le, shift_answer) refl in absurd (never (sym given ∙ h))
          | inr gt ↦ let late : shift_answer last free j ≡ Err Horizon = rw (ok, gt, shift_answer) refl in inr (same (sym h ∙ late), job_in_range last j ok, leb-false (shift_of free j).reply.ready 1000000000 gt)
        ]
        | inr bad ↦ let dry : shift_answer last free j ≡ Err Dry = rw (bad, shift_answer) refl in inl (same (sym h ∙ dry), λ f. both_ways (job_follows last j) bad (in_range_follows last j f))
      ]
    where
      never : {x : Shift B} → ◌≡◌ {A = Result (Shift B) End} (Ok x) (Err m) → ⊥
      never p = let z : ◌≡◌ {A = ℕ} 0 1 = cc in omega arith

      same : {d : End} → ◌≡◌ {A = Result (Shift B) End} (Err m) (Err d) → m ≡ d
      same p = cc

  -- a job whose shift is taken
  pub record Taken (last : ℕ) (free : List ℕ) (j : Job B) (x : Shift B) : Type 0 where
    pub in_range : InRange last j
    pub is : x ≡ shift_of free j
    pub in_time : x.reply.ready ≤ 1000000000

  pub answer_taken : (last : ℕ) (free : List ℕ) (j : Job B) (x : Shift B) → shift_answer last free j ≡ Ok x → Taken last free j x
  answer_taken last free j x h =
      elim (cases_Bool (job_follows last j)) [
        | inl ok ↦ elim (cases_Bool (nat_le (shift_of free j).reply.ready 1000000000)) [
          | inl le ↦
              let given : shift_answer last free j ≡ Ok (shift_of free j) = rw (ok, le, shift_answer) refl in
              let same : x ≡ shift_of free j = cc in
              let ready : x.reply.ready ≡ (shift_of free j).reply.ready = ap (λ y. y.reply.ready) same in
              record { in_range = job_in_range last j ok; is = same; in_time = omega (arith, ready, leb-true (shift_of free j).reply.ready 1000000000 le) }
          | inr gt ↦ let late : shift_answer last free j ≡ Err Horizon = rw (ok, gt, shift_answer) refl in absurd (never (sym h ∙ late))
        ]
        | inr bad ↦ let dry : shift_answer last free j ≡ Err Dry = rw (bad, shift_answer) refl in absurd (never (sym h ∙ dry))
      ]
    where
      never : {d : End} → ◌≡◌ {A = Result (Shift B) End} (Ok x) (Err d) → ⊥
      never p = let z : ◌≡◌ {A = ℕ} 0 1 = cc in omega arith

  -- the plan after one job
  module _ (last : ℕ) (free : List ℕ) (j : Job B) (js : List (Job B)) where
    pub plan_taken : (x : Shift B) → shift_answer last free j ≡ Ok x → plan last free (j ∷ js) ≡ x ∷ plan j.asked (freed free x) js
    plan_taken x e = rw (e, plan) refl

    pub plan_over : (m : End) → shift_answer last free j ≡ Err m → plan last free (j ∷ js) ≡ []
    plan_over m e = rw (e, plan) refl

    pub mark_taken : (x : Shift B) → shift_answer last free j ≡ Ok x → plan_mark last free (j ∷ js) ≡ plan_mark j.asked (freed free x) js
    mark_taken x e = rw (e, plan_mark) refl

    pub mark_over : (m : End) → shift_answer last free j ≡ Err m → plan_mark last free (j ∷ js) ≡ m
    mark_over m e = rw (e, plan_mark) refl

    pub first_answer : shift_answer last free j ≡ first_shift (plan last free (j ∷ js)) (plan_mark last free (j ∷ js))
    first_answer =
        elim (cases_result (shift_answer last free j)) [
          | inl (x, e) ↦ e ∙ sym (ap (λ xs. first_shift xs (plan_mark last free (j ∷ js))) (plan_taken x e))
          | inr (m, e) ↦ e ∙ sym (ap (λ xs. first_shift xs (plan_mark last free (j ∷ js))) (plan_over m e) ∙ ap Err (mark_over m e))
        ]

  module _ (js : List (Job B)) (k last : ℕ) (free : List ℕ) where
    pub next_answer : (j : Job B) → slice_get js k ≡ Some j → shift_answer last free j ≡ first_shift (plan last free (drop k js)) (plan_mark last free (drop k js))
    next_answer j at = rw (drop_some js k j at) (first_answer last free j (drop (k + 1) js))

    pub next_none : slice_get js k ≡ None → Err Dry ≡ first_shift (plan last free (drop k js)) (plan_mark last free (drop k js))
    next_none at = rw (drop_none js k at) refl

  -- the same, of what was found at the place
  module _ (js : List (Job B)) (k last : ℕ) (free : List ℕ) (found : Option (Job B)) (at : found ≡ slice_get js k) where
    pub found_answer : (j : Job B) → ok_or found Dry ≡ Ok j → shift_answer last free j ≡ first_shift (plan last free (drop k js)) (plan_mark last free (drop k js))
    found_answer j ok = next_answer js k last free j (sym at ∙ some_found found ok)
      where
        some_found : (o : Option (Job B)) → ok_or o Dry ≡ Ok j → o ≡ Some j
        some_found None e = let z : ◌≡◌ {A = ℕ} 0 1 = cc in absurd (omega arith)
        some_found (Some x) e = let s : x ≡ j = cc in ap Some s

    pub found_none : (e : End) → ok_or found Dry ≡ Err e → Err e ≡ first_shift (plan last free (drop k js)) (plan_mark last free (drop k js))
    found_none e err = let n = none_found found err in let same : e ≡ Dry = cc in rw same (next_none js k last free (sym at ∙ n))
      where
        none_found : (o : Option (Job B)) → ok_or o Dry ≡ Err e → o ≡ None
        none_found None h = refl
        none_found (Some x) h = let z : ◌≡◌ {A = ℕ} 0 1 = cc in absurd (omega arith)

  -- a shift that was read first: the job that it is of
  pub first_planned : (js : List (Job B)) (last : ℕ) (free : List ℕ) (m : End) (x : Shift B) → Ok x ≡ first_shift (plan last free js) m
      → (j : Job B) × (js ≡ j ∷ drop 1 js) × (shift_answer last free j ≡ Ok x)
  first_planned [] last free m x h = let z : ◌≡◌ {A = ℕ} 0 1 = cc in absurd (omega arith)
  first_planned (j ∷ js) last free m x h =
      elim (cases_result (shift_answer last free j)) [
        | inl (y, e) ↦ let same : x ≡ y = ok_same (h ∙ ap (λ xs. first_shift xs m) (plan_taken last free j js y e)) in (j, refl, e ∙ ap Ok (sym same))
        | inr (d, e) ↦ absurd (never (h ∙ ap (λ xs. first_shift xs m) (plan_over last free j js d e)))
      ]
    where
      ok_same : {a b : Shift B} → ◌≡◌ {A = Result (Shift B) End} (Ok a) (Ok b) → a ≡ b
      ok_same p = cc

      never : {a : Shift B} {d : End} → ◌≡◌ {A = Result (Shift B) End} (Ok a) (Err d) → ⊥
      never p = let z : ◌≡◌ {A = ℕ} 0 1 = cc in omega arith

  -- and what is left after it, read from the next place on
  pub record Read (js : List (Job B)) (k last : ℕ) (free : List ℕ) (x : Shift B) : Type 0 where
    pub inside : k < length js
    pub others : plan last free (drop k js) ≡ x ∷ plan x.reply.asked (freed free x) (drop (k + 1) js)
    pub same_mark : plan_mark x.reply.asked (freed free x) (drop (k + 1) js) ≡ plan_mark last free (drop k js)

  read_at : (js : List (Job B)) (k last : ℕ) (free : List ℕ) (j : Job B) (x : Shift B) → drop k js ≡ j ∷ drop (k + 1) js → shift_answer last free j ≡ Ok x → Read js k last free x
  read_at js k last free j x here is_ok =
      let t = answer_taken last free j x is_ok in
      let asked : x.reply.asked ≡ j.asked = ap (λ y. y.reply.asked) t.is in
      let n : length (drop k js) ≡ length (j ∷ drop (k + 1) js) = ap length here in
      record {
        inside = omega (arith, simp length-drop at n);
        others = ap (plan last free) here ∙ (plan_taken last free j (drop (k + 1) js) x is_ok ∙ ap (λ a. x ∷ plan a (freed free x) (drop (k + 1) js)) (sym asked));
        same_mark = ap (λ a. plan_mark a (freed free x) (drop (k + 1) js)) asked ∙ (sym (mark_taken last free j (drop (k + 1) js) x is_ok) ∙ sym (ap (plan_mark last free) here));
      }

  pub shift_read : (js : List (Job B)) (k last : ℕ) (free : List ℕ) (m : End) (x : Shift B) → Ok x ≡ first_shift (plan last free (drop k js)) m → Read js k last free x
  shift_read js k last free m x h =
      let p = first_planned (drop k js) last free m x h in
      read_at js k last free p.0 x (p.1 ∙ ap (λ l. p.0 ∷ l) (drop-drop 1 k js)) p.2

  -- the same, of a bench
  pub next_is : {J : Type 0} (held : List (Job B)) (b : Bench J) (r : Result (Shift B) End) → IfOk r (λ x. x.server < b.servers.number.count) → r ≡ first_shift (shifts held b) (shifts_mark held b) → NextOf held b r
  next_is held b (Err m) known h = tt
  next_is held b (Ok x) known h =
      let r = shift_read (take 50000 held) b.taken b.last (free_of b.servers) (shifts_mark held b) x h in
      record { inside = omega (arith, r.inside, length-take 50000 held); known = known; others = r.others; same_mark = sym r.same_mark }
