-- Writing list files. Nothing is assumed.
--   check_answer        a list may be written where it is lawful and has at most 50,000 replies; else the fault
--   list_write_answer   the bytes written, or the fault: the list is judged before the room
--   ListWritten         what a writing leaves
--   ReadsBack           what was written reads as the replies, and no other bytes do
use Rattle.std.specs.Prelude.{◌≡◌, ℕ, ◌+◌, ◌*◌, ◌≤◌, true, false, List, [], ◌∷◌, length, take, Some, None, Ok, Err, Option, Result, nat_le}
use Rattle.source.specs.declared.reply.Reply.{Reply}
use Rattle.source.specs.Replies.{follows}
use Rattle.rows.specs.declared.fault.Numbered.{Numbered}
use Rattle.rows.specs.declared.fault.RowFault.{RowFault}
use Rattle.rows.specs.declared.fault.RowFault.TheVariants.{Order}
use Rattle.text.specs.declared.fault.FileFault.{FileFault}
use Rattle.text.specs.declared.fault.FileFault.TheVariants.{Row, Size}
use Rattle.text.specs.declared.fault.ListFault.{ListFault}
use Rattle.text.specs.declared.fault.ListFault.TheVariants.{File, Room}
use Rattle.text.specs.Lists.{list_shown, list_answer, list_read, over}

-- the first reply that may not stand where it stands; the first of the list is row k
abbrev pub unlawful : ℕ → ℕ → List (Reply ℕ) → Option (Numbered RowFault)
unlawful k last [] = None
unlawful k last (r ∷ rs) = elim (follows last r) [ true ↦ unlawful (k + 1) r.asked rs | false ↦ Some (record { number = k; fault = Order }) ]

abbrev pub judged_by : Option (Numbered RowFault) → Result (Unit {0}) FileFault
judged_by None = Ok tt
judged_by (Some f) = Err (Row f)

abbrev pub check_answer : List (Reply ℕ) → Result (Unit {0}) FileFault
check_answer rs = elim (nat_le (length rs) 50000) [ true ↦ judged_by (unlawful 1 0 rs) | false ↦ Err Size ]

abbrev pub in_room : List (Reply ℕ) → ℕ → Result (Unit {0}) FileFault → Result ℕ ListFault
in_room rs room (Ok u) = elim (nat_le (35 * length rs) room) [ true ↦ Ok (35 * length rs) | false ↦ Err Room ]
in_room rs room (Err f) = Err (File f)

abbrev pub list_write_answer : List (Reply ℕ) → ℕ → Result ℕ ListFault
list_write_answer rs room = in_room rs room (check_answer rs)

-- a refused writing leaves the buffer as it was, and a writing what lies after the list
abbrev pub ListWritten : List (Reply ℕ) → List ℕ → List ℕ → Result ℕ ListFault → Type 0
ListWritten rs old new (Ok n) = new ≡ over (list_shown rs) old
ListWritten rs old new (Err f) = new ≡ old

-- in every buffer with room for the replies; and whatever bytes read as these replies are the bytes written
abbrev pub ReadsBack : List (Reply ℕ) → List ℕ → Result ℕ ListFault → Type 0
ReadsBack rs new (Ok n) =
    ((room : ℕ) → length rs ≤ room → (list_answer (take n new) room ≡ Ok (length rs)) × (list_read (take n new) room ≡ rs))
    × ((bytes : List ℕ) (room m : ℕ) → list_answer bytes room ≡ Ok m → list_read bytes room ≡ rs → bytes ≡ take n new)
ReadsBack rs new (Err f) = Unit {0}
