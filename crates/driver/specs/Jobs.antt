-- The whole job: from the bytes of a schedule and a list to the bytes printed. Nothing is assumed.
--   place_of    where a job was refused: the file, and the refusal with its row and field
--   file_number   the number that a file is named with
--   job_rules   the rules of the gate: the schedule's steps, and each class counts its own misses
--   job_view    what the gate shows when it is opened at 0 over a trace of the replies
--   Ready       both texts are read, and every class of the list has a step
--   Refused     the first refusal in order: schedule, list, pair, page
--   JobLeaves   that refusal, or the page of that gate
--   line_of     a refusal line
--   Prints      what is printed for both texts
use Rattle.std.specs.Prelude.{◌≡◌, ℕ, ◌<◌, ◌≤◌, List, [], ◌∷◌, length, take, None, Ok, Err, Result}
use Rattle.source.specs.declared.reply.Reply.{Reply}
use Rattle.source.specs.declared.reply.End.TheVariants.{Dry}
use Rattle.source.specs.Replies.{beginning}
use Rattle.pace.specs.Steps.{no_steps, ladder, steps_quantum, steps_wait}
use Rattle.promise.specs.Rules.{Rules}
use Rattle.promise.specs.Views.{View, opened}
use Rattle.rows.specs.Columns.{refusal_line}
use Rattle.rows.specs.Rows.{row_shown}
use Rattle.std.specs.Option.{unwrap_or}
use Rattle.source.specs.Refusals.{number_of}
use Rattle.text.specs.Refusals.{refusal, refusal_of, no_step_refusal}
use Rattle.text.specs.Lists.{list_answer, list_read}
use Rattle.text.specs.Schedules.{schedule_answer, schedule_read}
use Rattle.text.specs.Pairs.{pair_answer}
use Rattle.tally.specs.declared.line.PageFault.TheVariants.{Room}
use Rattle.tally.specs.Refusals.{page_fault_code}
use Rattle.driver.specs.declared.replay.Replayed.{Replayed}
use Rattle.driver.specs.declared.job.Place.{Place}
use Rattle.driver.specs.declared.job.JobFault.{JobFault}
use Rattle.driver.specs.declared.job.JobFault.TheVariants as fault
use Rattle.driver.specs.declared.job.File.{File}
use Rattle.driver.specs.declared.job.File.TheVariants as file
use Rattle.driver.specs.Replays.{Replays}

abbrev pub place_of : JobFault → Place
place_of (fault.Schedule f) = record { file = file.Schedule; refusal = refusal_of f }
place_of (fault.List f) = record { file = file.List; refusal = refusal_of f }
place_of (fault.Pair f) = record { file = file.List; refusal = no_step_refusal f }
place_of (fault.Page f) = record { file = file.Page; refusal = refusal (page_fault_code f) None None }

abbrev pub file_number : File → ℕ
file_number file.Schedule = 1
file_number file.List = 2
file_number file.Page = 3

abbrev pub job_rules : List (List ℕ) → Rules
job_rules ladders =
    record {
      quantum = λ c. steps_quantum (ladder ladders c);
      wait = λ c e. steps_wait (ladder ladders c) e;
      epoch = λ own all. own;
    }

abbrev pub job_view : List (Reply ℕ) → View ℕ
job_view rs = opened (beginning 0 (take 50000 rs)) Dry 0

pub record Ready (schedule list : List ℕ) (room : ℕ) : Type 0 where
  pub rows : ℕ
  pub scheduled : schedule_answer schedule ≡ Ok rows
  pub count : ℕ
  pub listed : list_answer list room ≡ Ok count
  pub paired : pair_answer (schedule_read no_steps schedule) (list_read list room) ≡ Ok tt

-- the first refusal in order; where only the page is left to refuse, it has no room for its foot
abbrev pub Refused : List ℕ → List ℕ → ℕ → JobFault → Type 0
Refused schedule list room (fault.Schedule f) = schedule_answer schedule ≡ Err f
Refused schedule list room (fault.List f) = ((n : ℕ) × (schedule_answer schedule ≡ Ok n)) × (list_answer list room ≡ Err f)
Refused schedule list room (fault.Pair f) =
    ((n : ℕ) × (schedule_answer schedule ≡ Ok n)) × ((n : ℕ) × (list_answer list room ≡ Ok n))
    × (pair_answer (schedule_read no_steps schedule) (list_read list room) ≡ Err f)
Refused schedule list room (fault.Page f) = Ready schedule list room × (f ≡ Room)

-- a refusal by the page comes only where the buffer is too short
abbrev pub Short : JobFault → List ℕ → Type 0
Short (fault.Schedule f) buf = Unit {0}
Short (fault.List f) buf = Unit {0}
Short (fault.Pair f) buf = Unit {0}
Short (fault.Page f) buf = length buf < 36

-- what reading both texts leaves: the ladders of the schedule, and the replies of the list at the front
abbrev pub Prepares : List ℕ → List ℕ → ℕ → List (List ℕ) → List (Reply ℕ) → Result ℕ JobFault → Type 0
Prepares schedule list room ladders records (Ok n) =
    Ready schedule list room × (ladders ≡ schedule_read no_steps schedule) × (n ≤ length records) × (take n records ≡ list_read list room)
Prepares schedule list room ladders records (Err f) = Refused schedule list room f × ((buf : List ℕ) → Short f buf)

abbrev pub JobLeaves : List ℕ → List ℕ → ℕ → List ℕ → List ℕ → Result Replayed JobFault → Type 0
JobLeaves schedule list room buf buf' (Err f) = Refused schedule list room f × Short f buf × (buf' ≡ buf)
JobLeaves schedule list room buf buf' (Ok d) =
    Ready schedule list room
    × ((w : View ℕ) × Replays (job_rules (schedule_read no_steps schedule)) (job_view (list_read list room)) w buf buf' d)

-- the numbers of a place as they are printed, 0 for a row or a field that it does not name
abbrev pub line_of : Place → List ℕ
line_of p = row_shown refusal_line (number_of p.refusal.code ∷ file_number p.file ∷ unwrap_or p.refusal.row 0 ∷ unwrap_or p.refusal.field 0 ∷ [])

-- what is printed: the page of the gate at the front of the buffer, or the line of the first refusal
abbrev pub Prints : List ℕ → List ℕ → ℕ → List ℕ → List ℕ → Result ℕ (List ℕ) → Type 0
Prints schedule list room buf buf' (Err bytes) =
    (f : JobFault) × Refused schedule list room f × Short f buf × (bytes ≡ line_of (place_of f)) × (buf' ≡ buf)
Prints schedule list room buf buf' (Ok n) =
    Ready schedule list room
    × ((w : View ℕ) × (d : Replayed) × (n ≡ d.length)
    × Replays (job_rules (schedule_read no_steps schedule)) (job_view (list_read list room)) w buf buf' d)
