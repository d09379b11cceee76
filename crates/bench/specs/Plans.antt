-- Plans: their replies are lawful, no server works on two jobs at once, and each job starts as early as it can.
use Rattle.std.specs.Prelude.{◌≡◌, ℕ, ◌+◌, ◌<◌, ◌≤◌, max, List, [], ◌∷◌, length, replicate, ◌≢◌, slice_index, slice_index_or, refl}
use Rattle.std.proofs.Common.{sym, ◌∙◌, ap, subst, inl, inr, arith}
use Rattle.std.proofs.lemmas.List.{get_or-set_same, get_or-set_other, get_or-replicate, length-set, length-replicate}
use Rattle.std.proofs.lemmas.Bool.{cases_eq}
use Rattle.bench.specs.declared.Job.{Job}
use Rattle.bench.specs.declared.Shift.{Shift}
use Rattle.source.specs.Replies.{LawfulFrom}
use Rattle.bench.specs.Benches.{earliest, shift_of, shift_answer, freed, plan, plan_mark, replies, Idle, Planned, Plan}
use Rattle.bench.specs.Earliest.{FirstUpTo, earliest_first}
use Rattle.bench.specs.Shifts.{cases_result, Taken, answer_taken, answer_over, plan_taken, plan_over, mark_taken, mark_over}

module _ {B : Type 0} where
  taken_ready : (last : ℕ) (free : List ℕ) (j : Job B) (x : Shift B) → Taken last free j x → (x.reply.asked ≡ j.asked) × (x.reply.«class» ≡ j.«class») × (j.asked ≤ x.reply.ready)
  taken_ready last free j x t =
      let ready : x.reply.ready ≡ max j.asked (slice_index free (earliest free)) + j.work = ap (λ y. y.reply.ready) t.is in
      (ap (λ y. y.reply.asked) t.is, ap (λ y. y.reply.«class») t.is, omega arith)

  pub plan_lawful : (last : ℕ) (free : List ℕ) (js : List (Job B)) → LawfulFrom last (replies (plan last free js))
  plan_lawful last free [] = tt
  plan_lawful last free (j ∷ js) =
      elim (cases_result (shift_answer last free j)) [
        | inl (x, e) ↦
            let t = answer_taken last free j x e in
            let f = taken_ready last free j x t in
            let asked = f.0 in
            rw (plan_taken last free j js x e) (
              record { rises = omega (arith, t.in_range.rises); waits = omega (arith, f.2); within = t.in_time; known = omega (arith, f.1, t.in_range.known) },
              rw f.0 (plan_lawful j.asked (freed free x) js),
            )
        | inr (m, e) ↦ rw (plan_over last free j js m e) tt
      ]

  -- an idle server stays idle
  pub idle_later : (xs : List (Shift B)) (s t u : ℕ) → t ≤ u → Idle xs s t → Idle xs s u
  idle_later [] s t u h i = tt
  idle_later (x ∷ xs) s t u h i = ((λ e. omega (arith, i.0 e)), idle_later xs s t u h i.1)

  -- the free ticks are the earliest at which the servers are idle after the shifts so far
  pub record FreeAfter (free : List ℕ) (before : List (Shift B)) : Type 0 where
    pub idle : (s : ℕ) → s < length free → Idle before s (slice_index free s)
    pub soonest : (s t : ℕ) → s < length free → Idle before s t → slice_index free s ≤ t

  -- one job more
  module _ (free : List ℕ) (before : List (Shift B)) (f : FreeAfter free before) (some : 0 < length free) (j : Job B) where
    first : FirstUpTo free (length free) (earliest free)
    first = earliest_first free some

    idle_first : Idle before (earliest free) (slice_index free (earliest free))
    idle_first = f.idle (earliest free) first.known

    pub planned : Planned (length free) before j (shift_of free j)
    planned =
        record {
          known = first.known;
          works = refl;
          asked_first = omega arith;
          alone = idle_later before (earliest free) (slice_index free (earliest free)) (shift_of free j).start (omega arith) idle_first;
          soonest = λ s t known asked idle. omega (arith, f.soonest s t known idle, first.least s known);
          freest = λ s t known idle. idle_later before (earliest free) (slice_index free (earliest free)) t (omega (arith, f.soonest s t known idle, first.least s known)) idle_first;
          lowest = λ s below as_early. omega (arith, first.lowest s below, f.soonest s (slice_index free (earliest free)) (omega (arith, first.known)) (as_early (slice_index free (earliest free)) idle_first));
        }

    here : slice_index_or (freed free (shift_of free j)) (earliest free) 0 ≡ (shift_of free j).reply.ready
    here = get_or-set_same free (earliest free) (shift_of free j).reply.ready 0 first.known

    there : (s : ℕ) → (s ≢ earliest free) → slice_index (freed free (shift_of free j)) s ≡ slice_index free s
    there s ne = get_or-set_other free (earliest free) s (shift_of free j).reply.ready 0 ne

    pub free_length : length (freed free (shift_of free j)) ≡ length free
    free_length = length-set free (earliest free) (shift_of free j).reply.ready

    pub free_next : FreeAfter (freed free (shift_of free j)) (shift_of free j ∷ before)
    free_next =
        record {
          idle = λ s h. elim (cases_eq s (earliest free)) [
            | inl e ↦ rw (e, here) ((λ _. omega arith), idle_later before (earliest free) (slice_index free (earliest free)) (shift_of free j).reply.ready (omega arith) idle_first)
            | inr ne ↦ rw (there s ne) ((λ e. absurd (ne (sym e))), f.idle s (omega (arith, free_length)))
          ];
          soonest = λ s t h i. elim (cases_eq s (earliest free)) [
            | inl e ↦ rw (e, here) (i.0 (sym e))
            | inr ne ↦ rw (there s ne) (f.soonest s t (omega (arith, free_length)) i.1)
          ];
        }

  -- a job that would be ready past the horizon would be so on every server
  module _ (free : List ℕ) (before : List (Shift B)) (f : FreeAfter free before) (some : 0 < length free) (j : Job B) where
    pub late_anyway : 1000000000 < (shift_of free j).reply.ready → (x : Shift B) → Planned (length free) before j x → 1000000000 < x.reply.ready
    late_anyway late x p =
        let ready : x.reply.ready ≡ x.start + j.work = ap (λ y. y.reply.ready) p.works in
        let first = (planned free before f some j).soonest x.server x.start p.known p.asked_first p.alone in
        omega arith

  pub plan_kept : (n last : ℕ) (free : List ℕ) (before : List (Shift B)) (js : List (Job B)) → length free ≡ n → 0 < n → FreeAfter free before
      → Plan n before last js (plan last free js) (plan_mark last free js)
  plan_kept n last free before [] long some f = refl
  plan_kept n last free before (j ∷ js) long some f =
      let some_free : 0 < length free = omega arith in
      elim (cases_result (shift_answer last free j)) [
        | inl (x, e) ↦
            let t = answer_taken last free j x e in
            let in_time : (shift_of free j).reply.ready ≤ 1000000000 = subst (λ y. y.reply.ready ≤ 1000000000) t.is t.in_time in
            rw (plan_taken last free j js x e, mark_taken last free j js x e, t.is) (
              t.in_range,
              subst (λ m. Planned m before j (shift_of free j)) long (planned free before f some_free j),
              in_time,
              plan_kept n j.asked (freed free (shift_of free j)) (shift_of free j ∷ before) js (free_length free before f some_free j ∙ long) some (free_next free before f some_free j),
            )
        | inr (m, e) ↦
            rw (plan_over last free j js m e, mark_over last free j js m e) (
            elim (answer_over last free j m e) [
              | inl dry ↦ inl dry
              | inr late ↦ inr (late.0, late.1, subst (λ k. (x : Shift B) → Planned k before j x → 1000000000 < x.reply.ready) long (late_anyway free before f some_free j late.2))
            ])
      ]

  -- at the start every server is free at tick 0
  pub free_at_start : (n : ℕ) → FreeAfter (replicate n 0) []
  free_at_start n = record { idle = λ s h. tt; soonest = λ s t h i. omega (arith, get_or-replicate {A = ℕ} n s 0 0 (omega (arith, length-replicate {A = ℕ} n 0))) }
