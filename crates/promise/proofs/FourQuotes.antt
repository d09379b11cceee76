-- The gates of four quotes: their lists, worked out.
use Rattle.std.proofs.Common.{◌≡◌, ℕ, zero, suc, ◌≤◌, List, [], ◌∷◌, get_or, take, replicate, refl, ap, ◌∙◌, subst, le_refl, arith}
use native.Mathlib.Nat.{min-le_right}
use Rattle.source.specs.declared.reply.Reply.{Reply}
use Rattle.source.specs.declared.reply.End.TheVariants.{Dry}
use Rattle.source.specs.Replies.{Lawful, beginning}
use Rattle.source.specs.Beginnings.{beginning_lawful}
use Rattle.promise.specs.Rules.{Laws}
use Rattle.promise.specs.Views.{settled}
use Rattle.promise.specs.Runs.{run}
use Rattle.promise.specs.Promise.{keys_of, Seen, up_to}
use Rattle.promise.specs.Telling.{tens, quotes, prompt, asking, gate_over, Leaves, Telling}
use Rattle.promise.proofs.Requests.{runs_run}

quantum_bounds : (n c : ℕ) → (1 ≤ get_or (replicate n 10) c 1000000) × (get_or (replicate n 10) c 1000000 ≤ 1000000)
quantum_bounds zero c = (omega arith, omega arith)
quantum_bounds (suc n) zero = (omega arith, omega arith)
quantum_bounds (suc n) (suc c) = quantum_bounds n c

laws : Laws tens
laws =
    record {
      pace = record {
        quantum_low = λ c _. (quantum_bounds 8 c).0;
        quantum_high = λ c _. (quantum_bounds 8 c).1;
        wait_low = λ c e _. le_refl _;
        wait_high = λ c e _. min-le_right _ _;
      };
      penalty = λ own all h. (le_refl own, h);
    }

-- what a trace shows whole is lawful
lawful : (records : List (Reply (Unit {0}))) → beginning 0 (take 50000 records) ≡ records → Lawful records
lawful records e = subst Lawful e (beginning_lawful 0 (take 50000 records))

slow : Leaves quotes (10 ∷ 42 ∷ 52 ∷ 192 ∷ []) (0 ∷ 1 ∷ 0 ∷ 2 ∷ [])
unfolding settled
slow =
    record {
      traced = refl;
      lawful = lawful quotes refl;
      runs = runs_run tens (gate_over quotes) asking;
      released = refl;
      missed = refl;
    }

quick : Leaves prompt (10 ∷ 22 ∷ 32 ∷ 60 ∷ []) (0 ∷ 0 ∷ 0 ∷ 0 ∷ [])
unfolding settled
quick =
    record {
      traced = refl;
      lawful = lawful prompt refl;
      runs = runs_run tens (gate_over prompt) asking;
      released = refl;
      missed = refl;
    }

-- a list that is left within the horizon of the count can be seen
seen : (records : List (Reply (Unit {0}))) (releases misses : List ℕ) → Leaves records releases misses → keys_of records ≡ keys_of quotes
    → up_to 192 releases ≡ releases → Seen tens 0 (keys_of quotes) 192 releases
seen records releases misses l agrees within =
    record {
      rules = tens;
      laws = laws;
      alike = record { quantum = λ c _. refl; wait = λ c e _. refl; epoch = λ own all. refl };
      coming = beginning 0 (take 50000 records);
      lawful = beginning_lawful 0 (take 50000 records);
      agrees = ap keys_of l.traced ∙ agrees;
      mark = Dry;
      steps = run tens (gate_over records) asking;
      runs = l.runs;
      shows = ap (up_to 192) l.released ∙ within;
    }

abbrev second : List ℕ → ℕ
second [] = 0
second (x ∷ []) = 0
second (x ∷ y ∷ xs) = y

pub telling : Telling (10 ∷ 42 ∷ 52 ∷ 192 ∷ []) (0 ∷ 1 ∷ 0 ∷ 2 ∷ []) (10 ∷ 22 ∷ 32 ∷ 60 ∷ []) (0 ∷ 0 ∷ 0 ∷ 0 ∷ [])
telling =
    record {
      laws = laws;
      slow = slow;
      quick = quick;
      agree = refl;
      seen = (seen quotes _ _ slow refl refl, (seen prompt _ _ quick refl refl, tt));
      different = (((λ e. let z : 42 ≡ 22 = ap second e in absurd (omega arith)), tt), (tt, tt));
    }
