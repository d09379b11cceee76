-- A gate whose timing tells something, so that the promise is about more than nothing. Nothing is assumed.
--   tens       the rules of a doubling pace with a quantum of 10 for every class, where each class counts its own misses
--   quotes     four replies; `prompt`, four with the same asked ticks and classes that are ready as soon as asked
--   asking     every kind of call, takes past the end of the list and a class that does not exist among them
--   Telling    a trace of either is a lawful list, its gate runs by lawful rules and leaves these release lists and
--              miss records, and so two different lists can be seen
use Rattle.std.specs.Prelude.{◌≡◌, ℕ, List, [], ◌∷◌, take, replicate}
use Rattle.source.specs.declared.reply.Reply.{Reply}
use Rattle.source.specs.declared.reply.End.TheVariants.{Dry}
use Rattle.source.specs.Replies.{Lawful, beginning}
use Rattle.pace.specs.Doubling.{quantum_at}
use Rattle.pace.specs.Steps.{doubled}
use Rattle.promise.specs.declared.event.Request.{Request}
use Rattle.promise.specs.declared.event.Request.TheVariants.{Head, Lapses, Take, Misses, Clock, Released}
use Rattle.promise.specs.Rules.{Rules, Laws}
use Rattle.promise.specs.Views.{View, opened}
use Rattle.promise.specs.Runs.{Runs, run, release_list, miss_record}
use Rattle.promise.specs.Promise.{keys_of, All, Different, Seen}

abbrev pub tens : Rules
tens =
    record {
      quantum = λ c. quantum_at (replicate 8 10) c;
      wait = λ c e. doubled (quantum_at (replicate 8 10) c) e;
      epoch = λ own all. own;
    }

abbrev pub reply : ℕ → ℕ → ℕ → Reply (Unit {0})
reply asked c ready = record { asked = asked; «class» = c; ready = ready; body = tt }

abbrev pub quotes : List (Reply (Unit {0}))
quotes = reply 0 0 7 ∷ reply 12 0 40 ∷ reply 15 1 41 ∷ reply 50 0 120 ∷ []

abbrev pub prompt : List (Reply (Unit {0}))
prompt = reply 0 0 0 ∷ reply 12 0 12 ∷ reply 15 1 15 ∷ reply 50 0 50 ∷ []

abbrev pub asking : List Request
asking =
    Head ∷ Head ∷ Take ∷ Lapses ∷ Take ∷ Misses 0 ∷ Misses 8 ∷ Take ∷ Clock ∷ Take ∷ Take ∷ Head ∷ Released ∷ Take ∷ []

-- a gate opened at 0 over a trace of some records
abbrev pub gate_over : List (Reply (Unit {0})) → View (Unit {0})
gate_over records = opened (beginning 0 (take 50000 records)) Dry 0

-- a gate over a trace of these records leaves these lists
pub record Leaves (records : List (Reply (Unit {0}))) (releases misses : List ℕ) : Type 0 where
  pub traced : beginning 0 (take 50000 records) ≡ records
  pub lawful : Lawful records
  pub runs : Runs tens (gate_over records) (run tens (gate_over records) asking)
  pub released : release_list (run tens (gate_over records) asking) ≡ releases
  pub missed : miss_record (gate_over records) (run tens (gate_over records) asking) ≡ misses

pub record Telling (late late_misses early early_misses : List ℕ) : Type 0 where
  pub laws : Laws tens
  pub slow : Leaves quotes late late_misses
  pub quick : Leaves prompt early early_misses
  pub agree : keys_of prompt ≡ keys_of quotes
  pub seen : All (Seen tens 0 (keys_of quotes) 192) (late ∷ early ∷ [])
  pub different : Different (late ∷ early ∷ [])
