-- Writing a list row by row: the turns of the writer's loop, and what it leaves.
use Rattle.std.proofs.Common.{◌≡◌, ℕ, ◌+◌, ◌-◌, ◌*◌, ◌<◌, ◌≤◌, true, List, [], ◌++◌, length, get_or, take, drop, Ok, sym, ap, ◌∙◌, arith, length-append, below_more}
use borrow.Rule.Slice.PartMut.{put_mid}
use Rattle.std.proofs.lemmas.List.{take_more, take_all, take_at, flat_map_more}
use Rattle.source.specs.declared.reply.Reply.{Reply}
use Rattle.rows.specs.Columns.{list_row}
use Rattle.rows.specs.Rows.{fits}
use Rattle.text.specs.Lists.{numbers_of, reply_shown, list_shown, list_answer, list_read, over}
use Rattle.text.specs.ListWriting.{check_answer}
use Rattle.rows.proofs.RowWriting.{grow, part_written}
use Rattle.text.proofs.ListFiles.{list_back, list_only}
use Rattle.text.proofs.ListChecking.{blank, checked, list_fits}

-- after i rows: they stand at the front, and what lies after them is as it was
pub record RowsWritten (rs : List (Reply ℕ)) (old out : List ℕ) (i : ℕ) : Type 0 where
  pub is : out ≡ list_shown (take i rs) ++ drop (35 * i) old
  pub long : length (list_shown (take i rs)) ≡ 35 * i
  pub within : (k : ℕ) → k < i → fits list_row (numbers_of (get_or rs k blank)) ≡ true

pub rows_more : (rs : List (Reply ℕ)) (old out row : List ℕ) (i : ℕ) → i < length rs → length row ≡ 35 → row ≡ reply_shown (get_or rs i blank)
    → fits list_row (numbers_of (get_or rs i blank)) ≡ true → RowsWritten rs old out i → RowsWritten rs old (put_mid (35 * i) (35 * i + 35 - 35 * i) out row) (i + 1)
rows_more rs old out row i h l e small st =
    let m : 35 * i + 35 ≡ 35 * (i + 1) = omega arith in
    let more : list_shown (take i rs) ++ row ≡ list_shown (take (i + 1) rs) =
    ap (λ t. list_shown (take i rs) ++ t) e ∙ (flat_map_more reply_shown [] (take i rs) (get_or rs i blank) ∙ ap list_shown (sym (take_more rs i blank h))) in
    record {
      is = part_written out row (35 * i) 35 ∙ (grow out old (list_shown (take i rs)) row (35 * i) (35 * i + 35) st.is st.long (omega arith)
          ∙ (ap (λ t. t ++ drop (35 * i + 35) old) more ∙ ap (λ n. list_shown (take (i + 1) rs) ++ drop n old) m));
      long = sym (ap length more) ∙ (length-append (list_shown (take i rs)) row ∙ omega (arith, st.long));
      within = below_more _ _ st.within small;
    }

module _ (rs : List (Reply ℕ)) (old out : List ℕ) (i : ℕ) (h : i ≡ length rs) (st : RowsWritten rs old out i) where
  all : take i rs ≡ rs
  all = take_all i rs (omega arith)

  long : length (list_shown rs) ≡ 35 * length rs
  long = sym (ap (λ t. length (list_shown t)) all) ∙ (st.long ∙ ap (λ n. 35 * n) h)

  rows_all : out ≡ over (list_shown rs) old
  rows_all =
      st.is ∙ (ap (λ t. list_shown t ++ drop (35 * i) old) all
      ∙ ap (λ n. list_shown rs ++ drop n old) (ap (λ n. 35 * n) h ∙ sym long))

  -- what was written reads back, and nothing else reads so
  pub rows_back : (u : Unit {0}) → Ok u ≡ check_answer rs
      → ((room : ℕ) → length rs ≤ room → (list_answer (take (35 * length rs) out) room ≡ Ok (length rs)) × (list_read (take (35 * length rs) out) room ≡ rs))
      × ((bytes : List ℕ) (room m : ℕ) → list_answer bytes room ≡ Ok m → list_read bytes room ≡ rs → bytes ≡ take (35 * length rs) out)
  rows_back u ok =
      let t : take (35 * length rs) out ≡ list_shown rs = ap (take (35 * length rs)) rows_all ∙ take_at (list_shown rs) (drop (length (list_shown rs)) old) (35 * length rs) long in
      let c = checked rs u ok in
      let f = list_fits [] rs 1 c.1 (λ k l. st.within k (omega arith)) in (
        λ room fit. let b = list_back rs room f c.0 fit in (ap (λ x. list_answer x room) t ∙ b.0, ap (λ x. list_read x room) t ∙ b.1),
        λ bytes room m e is. (list_only bytes room m e).0 ∙ (ap list_shown is ∙ sym t),
      )
