-- The gate that a job opens.
use Rattle.std.proofs.Common.{◌≡◌, ℕ, ◌&&◌, leb, List, take, drop, Ok, Err, sum, Result, refl, ap, ◌∙◌, subst, inl, inr, arith, Bor}
use Rattle.std.proofs.lemmas.Bool.{cases_Bool}
use Rattle.source.specs.declared.reply.Reply.{Reply}
use Rattle.source.specs.declared.reply.End.TheVariants.{Dry}
use Rattle.source.specs.declared.trace.Trace.{Trace}
use Rattle.source.specs.declared.fault.OutOfRange.{OutOfRange}
use Rattle.source.specs.Replies.{beginning}
use Rattle.source.specs.Settings.{checked}
use Rattle.pace.specs.declared.steps.Steps.{Steps}
use Rattle.pace.specs.Steps.{ladders_of}
use Rattle.pace.specs.declared.rules.OwnRule.{OwnRule}
use Rattle.gate.specs.declared.Gate.{Gate}
use Rattle.gate.specs.Rows.{releases_in}
use Rattle.promise.specs.Rules.{Rules}
use Rattle.promise.specs.Views.{View, opened}
use Rattle.gate.specs.Gates.{standing_of}
use Rattle.tally.specs.declared.line.PageFault.{PageFault}
use Rattle.driver.specs.declared.replay.Replayed.{Replayed}
use Rattle.driver.specs.Replays.{Replays, ReplayLeaves}
use Rattle.driver.specs.Jobs.{job_rules, job_view}

-- a setting that was checked is the number itself
pub checked_same : (lowest highest n m : ℕ) → Ok m ≡ checked lowest highest n → m ≡ n
checked_same lowest highest n m e =
    elim (cases_Bool (leb lowest n && leb n highest)) [
      | inl t ↦ (let is : checked lowest highest n ≡ Ok n = rw (t, checked) refl in same (e ∙ is))
      | inr t ↦ (let is : checked lowest highest n ≡ Err (record {}) = rw (t, checked) refl in absurd (never (e ∙ is)))
    ]
  where
    same : {a b : ℕ} → ◌≡◌ {A = Result ℕ OutOfRange} (Ok a) (Ok b) → a ≡ b
    same p = cc

    never : {a : ℕ} {f : OutOfRange} → ◌≡◌ {A = Result ℕ OutOfRange} (Ok a) (Err f) → ⊥
    never p = let z : ◌≡◌ {A = ℕ} 0 1 = cc in omega arith

-- what a gate over a trace of replies shows
abbrev pub trace_view : Gate (Trace (Bor (List (Reply ℕ)))) Steps OwnRule → View ℕ
trace_view g =
    record {
      coming = beginning g.source.last (drop g.source.taken (take 50000 g.source.records.now));
      mark = Dry;
      standing = standing_of g.ledger;
      taken = sum (releases_in g.ledger.rows);
    }

-- what a new trace of the replies shows under a gate opened at 0
pub opened_view : (t : Trace (Bor (List (Reply ℕ)))) (xs : Bor (List (Reply ℕ))) (tick : ℕ) → t ≡ record { records = xs; taken = 0; last = 0 } → tick ≡ 0
    → opened (beginning t.last (drop t.taken (take 50000 t.records.now))) Dry tick ≡ job_view xs.now
opened_view t xs tick e h =
    ap (λ (y : Trace (Bor (List (Reply ℕ)))). opened (beginning y.last (drop y.taken (take 50000 y.records.now))) Dry tick) e
    ∙ ap (λ n. opened (beginning 0 (take 50000 xs.now)) Dry n) h

pub opened_rules : (s u : Steps) → s ≡ u → job_rules (ladders_of s) ≡ job_rules (ladders_of u)
opened_rules s u e = ap (λ x. job_rules (ladders_of x)) e

-- a page of the same rules and the same view
pub leaves_same : (m m' : Rules) (v v' w : View ℕ) (buf buf' : List ℕ) (r : Result Replayed PageFault) → m ≡ m' → v ≡ v'
    → ReplayLeaves m v w buf buf' r → (w : View ℕ) × ReplayLeaves m' v' w buf buf' r
leaves_same m m' v v' w buf buf' r em ev h =
    (w, subst (λ x. ReplayLeaves x v' w buf buf' r) em (subst (λ x. ReplayLeaves m x w buf buf' r) ev h))

pub replays_same : (m m' : Rules) (v v' w : View ℕ) (buf buf' : List ℕ) (d : Replayed) → m ≡ m' → v ≡ v'
    → Replays m v w buf buf' d → (w : View ℕ) × Replays m' v' w buf buf' d
replays_same m m' v v' w buf buf' d em ev h = leaves_same m m' v v' w buf buf' (Ok d) em ev h
