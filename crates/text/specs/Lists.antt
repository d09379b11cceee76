-- List files: a row is a reply whose body is a word. Nothing is assumed.
--   numbers_of    the numbers of a reply's row: asked, class, ready, word
--   list_shown    the rows of replies, one after another
--   reply_of      the reply of a row's numbers
--   reply_read    the reply of a row, or the row's fault; its order is judged last
--   reply_after   the reply of a row that comes after replies; `list_step` adds it to them
--   list_answer   the number of replies in a file, or its first fault
--   list_read     the replies of a file, up to the first fault
--   ListExact     what makes an answer right: the file is the rows of a lawful list, which is what was read; or its size
--                 is that of no list; or its first rows are those of a lawful list, and the next is refused
--   over          a list written over the front of another
use Rattle.std.specs.Prelude.{◌≡◌, ℕ, ◌+◌, ◌*◌, ◌<◌, ◌≤◌, min, true, false, ◌&&◌, ◌⊎◌, List, [], ◌∷◌, ◌++◌, length, take, drop, Ok, Err, Result, ◌≢◌, nat_le, slice_index}
use Rattle.std.specs.List.{flat_map}
use Rattle.source.specs.declared.reply.Reply.{Reply}
use Rattle.source.specs.Replies.{Lawful}
use Rattle.rows.specs.declared.fault.Numbered.{Numbered}
use Rattle.rows.specs.declared.fault.RowFault.{RowFault}
use Rattle.rows.specs.declared.fault.RowFault.TheVariants.{Order}
use Rattle.text.specs.declared.fault.FileFault.{FileFault}
use Rattle.text.specs.declared.fault.FileFault.TheVariants.{Row, Size}
use Rattle.rows.specs.Columns.{list_row}
use Rattle.rows.specs.Rows.{row_shown, Within, row_read, FirstFault}
use Rattle.text.specs.Files.{file_answer, file_read}

abbrev pub numbers_of : Reply ℕ → List ℕ
numbers_of r = r.asked ∷ r.«class» ∷ r.ready ∷ r.body ∷ []

abbrev pub reply_shown : Reply ℕ → List ℕ
reply_shown r = row_shown list_row (numbers_of r)

abbrev pub list_shown : List (Reply ℕ) → List ℕ
list_shown rs = flat_map reply_shown rs

abbrev pub reply_of : List ℕ → Reply ℕ
reply_of vs = record { asked = slice_index vs 0; «class» = slice_index vs 1; ready = slice_index vs 2; body = slice_index vs 3 }

-- a reply that may follow one asked at `last`
abbrev pub ordered : ℕ → Reply ℕ → Result (Reply ℕ) RowFault
ordered last r = elim (nat_le last r.asked && nat_le r.asked r.ready) [ true ↦ Ok r | false ↦ Err Order ]

abbrev pub reply_from : ℕ → Result (List ℕ) RowFault → Result (Reply ℕ) RowFault
reply_from last (Ok vs) = ordered last (reply_of vs)
reply_from last (Err f) = Err f

abbrev pub reply_read : ℕ → List ℕ → Result (Reply ℕ) RowFault
reply_read last row = reply_from last (row_read 1 list_row row)

-- the asked tick of the last reply, or `a` where there is none
abbrev pub last_asked : ℕ → List (Reply ℕ) → ℕ
last_asked a [] = a
last_asked a (r ∷ rs) = last_asked r.asked rs

-- the reply of a row after replies, whatever the buffer is called
abbrev pub reply_after : ℕ → List (Reply ℕ) → List ℕ → Result (Reply ℕ) RowFault
reply_after name rs row = reply_read (last_asked 0 rs) row

abbrev pub onto : List (Reply ℕ) → Result (Reply ℕ) RowFault → Result (List (Reply ℕ)) RowFault
onto rs (Ok r) = Ok (rs ++ r ∷ [])
onto rs (Err f) = Err f

-- a row adds its reply to those read before it
abbrev pub list_step : List (Reply ℕ) → List ℕ → Result (List (Reply ℕ)) RowFault
list_step rs row = onto rs (reply_read (last_asked 0 rs) row)

-- `room` is how many replies the buffer holds
abbrev pub list_answer : List ℕ → ℕ → Result ℕ FileFault
list_answer bytes room = file_answer list_step 35 [] bytes (min 50000 room)

abbrev pub list_read : List ℕ → ℕ → List (Reply ℕ)
list_read bytes room = file_read list_step 35 [] bytes (min 50000 room) []

-- a row is refused for its first fault; or it shows a reply within the limits that may not follow one asked at `last`
abbrev pub ReplyRefused : ℕ → List ℕ → RowFault → Type 0
ReplyRefused last row f =
    FirstFault 1 list_row row f
    ⊎ ((r : Reply ℕ) × (row ≡ reply_shown r) × Within list_row (numbers_of r) × (f ≡ Order) × ((r.asked < last) ⊎ (r.ready < r.asked)))

-- rs are the replies of the rows before the faulty one
abbrev pub FaultAfter : List (Reply ℕ) → List ℕ → Numbered RowFault → Type 0
FaultAfter rs bytes f =
    (take (35 * length rs) bytes ≡ list_shown rs) × Lawful rs × (f.number ≡ length rs + 1)
    × ReplyRefused (last_asked 0 rs) (take 35 (drop (35 * length rs) bytes)) f.fault

abbrev pub ListExact : List ℕ → ℕ → Result ℕ FileFault → Type 0
ListExact bytes room (Ok n) = (bytes ≡ list_shown (list_read bytes room)) × Lawful (list_read bytes room) × (length (list_read bytes room) ≡ n)
ListExact bytes room (Err Size) = (n : ℕ) → n ≤ 50000 → n ≤ room → length bytes ≢ 35 * n
ListExact bytes room (Err (Row f)) = FaultAfter (list_read bytes room) bytes f

module _ {A : Type 0} where
  abbrev pub over : List A → List A → List A
  over new old = new ++ drop (length new) old
