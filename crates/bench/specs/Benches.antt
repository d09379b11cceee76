-- A bench: jobs worked off by servers. Nothing is assumed.
--   free ticks   the tick at which each server is free, by the server's number
--   earliest     the server free earliest, the lowest-numbered on a tie
--   shift        a job on its server: when it starts, and the reply that it gives
--   plan         the shifts of the jobs in order, up to the job that ends the list
--   plan_mark    how the list ends
--   shifts       the plan of the first 50,000 jobs of a bench, less those taken
--   Idle         a server whose earlier shifts are over at a tick
--   Planned      a shift as it should be: its server works on no other job, the job starts at the earliest tick that
--                some server allows, and is ready after its work; its server is idle whenever another is, and none
--                with a lower number is so
--   Plan         what a plan keeps: each shift is Planned, in time and of a job in range, and it ends only where it must
use Rattle.std.specs.Prelude.{◌≡◌, ℕ, suc, ◌+◌, ◌<◌, ◌≤◌, max, Bool, true, false, ◌&&◌, ◌⊎◌, List, [], ◌∷◌, map, take, drop, Ok, Err, Result, nat_le, slice_index, slice_index_or, slice_set}
use Rattle.source.specs.declared.reply.Reply.{Reply}
use Rattle.source.specs.declared.reply.End.{End}
use Rattle.source.specs.declared.reply.End.TheVariants.{Dry, Horizon}
use Rattle.bench.specs.declared.Job.{Job}
use Rattle.bench.specs.declared.Shift.{Shift}
use Rattle.bench.specs.declared.Bench.{Bench}
use Rattle.bench.specs.declared.Servers.{Servers}
use Rattle.source.specs.Replies.{horizon}

abbrev pub free_of : Servers → List ℕ
free_of s = take s.number.count s.free

abbrev pub earliest : List ℕ → ℕ
earliest [] = 0
earliest (t ∷ ts) = elim (nat_le t (slice_index_or ts (earliest ts) t)) [ true ↦ 0 | false ↦ suc (earliest ts) ]

module _ {B : Type 0} where
  -- a job in range that may follow one asked at `last`
  pub record InRange (last : ℕ) (j : Job B) : Type 0 where
    pub rises : last ≤ j.asked
    pub within : j.asked ≤ horizon
    pub known : j.«class» ≤ 7
    pub little : j.work ≤ 1000000

  -- whether a job is so
  abbrev pub job_follows : ℕ → Job B → Bool
  job_follows last j = nat_le last j.asked && (nat_le j.asked horizon && (nat_le j.«class» 7 && nat_le j.work 1000000))

  -- a job on a server from a tick on
  abbrev pub worked : Job B → ℕ → ℕ → Shift B
  worked j server start =
      record { server = server; start = start; reply = record { asked = j.asked; «class» = j.«class»; ready = start + j.work; body = j.body } }

  abbrev pub shift_of : List ℕ → Job B → Shift B
  shift_of free j = worked j (earliest free) (max j.asked (slice_index free (earliest free)))

  -- the shift of a job, or the mark that it ends the list with
  abbrev pub shift_answer : ℕ → List ℕ → Job B → Result (Shift B) End
  shift_answer last free j =
      elim (job_follows last j) [
        | true ↦ elim (nat_le (shift_of free j).reply.ready horizon) [ true ↦ Ok (shift_of free j) | false ↦ Err Horizon ]
        | false ↦ Err Dry
      ]

  -- the free ticks after a shift
  abbrev pub freed : List ℕ → Shift B → List ℕ
  freed free x = slice_set free x.server x.reply.ready

  abbrev pub plan : ℕ → List ℕ → List (Job B) → List (Shift B)
  plan last free [] = []
  plan last free (j ∷ js) = elim (shift_answer last free j) [ Ok x ↦ x ∷ plan j.asked (freed free x) js | Err e ↦ [] ]

  abbrev pub plan_mark : ℕ → List ℕ → List (Job B) → End
  plan_mark last free [] = Dry
  plan_mark last free (j ∷ js) = elim (shift_answer last free j) [ Ok x ↦ plan_mark j.asked (freed free x) js | Err e ↦ e ]

  abbrev pub replies : List (Shift B) → List (Reply B)
  replies xs = map (λ x. x.reply) xs

  -- the shifts that a bench has still to come, of the jobs that its buffer holds, and how they end
  abbrev pub shifts : {J : Type 0} → List (Job B) → Bench J → List (Shift B)
  shifts held b = plan b.last (free_of b.servers) (drop b.taken (take 50000 held))

  abbrev pub shifts_mark : {J : Type 0} → List (Job B) → Bench J → End
  shifts_mark held b = plan_mark b.last (free_of b.servers) (drop b.taken (take 50000 held))

  -- the first shift, or the end mark
  abbrev pub first_shift : List (Shift B) → End → Result (Shift B) End
  first_shift [] e = Err e
  first_shift (x ∷ xs) e = Ok x

  -- a shift that comes first, and what comes after it
  pub record Next {J : Type 0} (held : List (Job B)) (b : Bench J) (x : Shift B) : Type 0 where
    pub inside : b.taken < 50000
    pub known : x.server < b.servers.number.count
    pub others : shifts held b ≡ x ∷ plan x.reply.asked (freed (free_of b.servers) x) (drop (b.taken + 1) (take 50000 held))
    pub same_mark : shifts_mark held b ≡ plan_mark x.reply.asked (freed (free_of b.servers) x) (drop (b.taken + 1) (take 50000 held))

  abbrev pub NextOf : {J : Type 0} → List (Job B) → Bench J → Result (Shift B) End → Type 0
  NextOf held b (Ok x) = Next held b x
  NextOf held b (Err e) = Unit {0}

  abbrev pub Idle : List (Shift B) → ℕ → ℕ → Type 0
  Idle [] s t = Unit {0}
  Idle (x ∷ xs) s t = (x.server ≡ s → x.reply.ready ≤ t) × Idle xs s t

  -- a shift of a job after the shifts before it, on so many servers
  pub record Planned (servers : ℕ) (before : List (Shift B)) (j : Job B) (x : Shift B) : Type 0 where
    pub known : x.server < servers
    pub works : x ≡ worked j x.server x.start
    pub asked_first : j.asked ≤ x.start
    pub alone : Idle before x.server x.start
    pub soonest : (s t : ℕ) → s < servers → j.asked ≤ t → Idle before s t → x.start ≤ t
    pub freest : (s t : ℕ) → s < servers → Idle before s t → Idle before x.server t
    pub lowest : (s : ℕ) → s < x.server → ((t : ℕ) → Idle before x.server t → Idle before s t) → ⊥

  -- how a plan ends: with the last job; before one out of range or asked earlier than `last`, the one before it; or
  -- before one that would be ready past the horizon
  abbrev pub Ends : ℕ → List (Shift B) → ℕ → List (Job B) → End → Type 0
  Ends servers before last [] m = m ≡ Dry
  Ends servers before last (j ∷ js) m =
      ((m ≡ Dry) × (InRange last j → ⊥))
      ⊎ ((m ≡ Horizon) × InRange last j × ((x : Shift B) → Planned servers before j x → horizon < x.reply.ready))

  -- the shifts of the first jobs, in order, and how they end
  abbrev pub Plan : ℕ → List (Shift B) → ℕ → List (Job B) → List (Shift B) → End → Type 0
  Plan servers before last js [] m = Ends servers before last js m
  Plan servers before last [] (x ∷ xs) m = ⊥
  Plan servers before last (j ∷ js) (x ∷ xs) m =
      InRange last j × Planned servers before j x × (x.reply.ready ≤ horizon) × Plan servers (x ∷ before) j.asked js xs m
