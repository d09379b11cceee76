-- Whole list files: what was written reads back, what reads well was written so, and what each refusal means.
use Rattle.std.proofs.Common.{◌≡◌, ℕ, ◌*◌, ◌≤◌, min, List, [], ◌∷◌, ◌++◌, length, take, drop, Ok, Err, Result, sym, ap, ◌∙◌, subst, append_assoc, arith}
use Rattle.std.proofs.lemmas.List.{append-nil}
use Rattle.source.specs.declared.reply.Reply.{Reply}
use Rattle.source.specs.Replies.{LawfulFrom}
use Rattle.source.specs.Beginnings.{follows_so}
use Rattle.rows.specs.declared.fault.Numbered.{Numbered}
use Rattle.rows.specs.declared.fault.RowFault.{RowFault}
use Rattle.text.specs.declared.fault.FileFault.{FileFault}
use Rattle.text.specs.declared.fault.FileFault.TheVariants.{Row, Size}
use Rattle.text.specs.Lists.{list_shown, FaultAfter, ListExact, last_asked, list_step, list_answer, list_read}
use Rattle.text.proofs.ListReading.{last_push}
use Rattle.text.proofs.FileLaws.{put_all, FitAll}
use Rattle.text.proofs.WholeFiles.{whole_back, whole_only, whole_size, whole_stops}
use Rattle.text.proofs.ListLaws.{list_kind, reply_refused}

abbrev pub ListFits : List (Reply ℕ) → List (Reply ℕ) → Type 0
ListFits before rs = FitAll list_step 35 list_kind before rs

put_all_is : (before rs : List (Reply ℕ)) → put_all list_step 35 list_kind before rs ≡ before ++ rs
put_all_is before [] = sym (append-nil before)
put_all_is before (r ∷ rs) = put_all_is (before ++ r ∷ []) rs ∙ append_assoc before (r ∷ []) rs

lawful : (before rs : List (Reply ℕ)) → ListFits before rs → LawfulFrom (last_asked 0 before) rs
lawful before [] f = tt
lawful before (r ∷ rs) f =
    (follows_so (last_asked 0 before) r f.0.0, subst (λ a. LawfulFrom a rs) (last_push 0 before r) (lawful (before ++ r ∷ []) rs f.1))

-- the rows of a lawful list read back
pub list_back : (rs : List (Reply ℕ)) (room : ℕ) → ListFits [] rs → length rs ≤ 50000 → length rs ≤ room
    → (list_answer (list_shown rs) room ≡ Ok (length rs)) × (list_read (list_shown rs) room ≡ rs)
list_back rs room f few fits =
    let b = whole_back list_step 35 list_kind (omega arith) [] (min 50000 room) [] rs f (omega arith) in
    (b.0, b.1 ∙ put_all_is [] rs)

-- what reads well is the rows of what was read
pub list_only : (bytes : List ℕ) (room m : ℕ) → list_answer bytes room ≡ Ok m
    → (bytes ≡ list_shown (list_read bytes room)) × ListFits [] (list_read bytes room) × (length (list_read bytes room) ≡ m)
list_only bytes room m e =
    let w = whole_only list_step 35 list_kind (omega arith) [] (min 50000 room) [] bytes m e in
    let same : w.items ≡ list_read bytes room = sym (w.left ∙ put_all_is [] w.items) in
    subst (λ x. (bytes ≡ list_shown x) × ListFits [] x × (length x ≡ m)) same (w.shows, w.fits, w.long)

-- a list that was read has as many replies as rows, at most 50,000 and at most the room
pub list_held : (bytes : List ℕ) (room m : ℕ) → list_answer bytes room ≡ Ok m → (length (list_read bytes room) ≡ m) × (m ≤ 50000) × (m ≤ room)
list_held bytes room m e =
    let w = whole_only list_step 35 list_kind (omega arith) [] (min 50000 room) [] bytes m e in
    ((list_only bytes room m e).2, omega (arith, w.few), omega (arith, w.few))

-- a row that is refused comes after the rows of a lawful list
row_exact : (bytes : List ℕ) (room : ℕ) (f : Numbered RowFault) → list_answer bytes room ≡ Err (Row f) → FaultAfter (list_read bytes room) bytes f
row_exact bytes room f e =
    let w = whole_stops list_step 35 list_kind (omega arith) [] (min 50000 room) [] bytes f e in
    let left : list_read bytes room ≡ w.items = w.left ∙ put_all_is [] w.items in
    let row = take 35 (drop (35 * length w.items) bytes) in
    subst (λ rs. FaultAfter rs bytes f) (sym left) (
      w.shows,
      lawful [] w.items w.fits,
      w.number ∙ omega arith,
      reply_refused w.items row f.fault (ap (λ rs. list_step rs row) (sym left) ∙ w.refused),
    )

-- the promise of a reading
pub list_exact : (bytes : List ℕ) (room : ℕ) (r : Result ℕ FileFault) → r ≡ list_answer bytes room → ListExact bytes room r
list_exact bytes room (Ok n) e = let o = list_only bytes room n (sym e) in (o.0, lawful [] (list_read bytes room) o.1, o.2)
list_exact bytes room (Err Size) e = λ n few fits l. whole_size list_step 35 list_kind (omega arith) [] (min 50000 room) [] bytes (sym e) n (omega arith) l
list_exact bytes room (Err (Row f)) e = row_exact bytes room f (sym e)
