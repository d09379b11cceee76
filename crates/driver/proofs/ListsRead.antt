-- What a list that was read has: as many replies as rows.
use Rattle.std.proofs.Common.{◌≡◌, ℕ, zero, suc, ◌+◌, ◌-◌, ◌/◌, ◌%◌, ◌≤◌, min, ◌&&◌, eqb, leb, List, [], ◌∷◌, ◌++◌, length, take, drop, Some, None, Ok, Err, Option, Result, sym, refl, ap, ◌∙◌, inl, inr, arith}
use Rattle.std.proofs.lemmas.List.{length_push, take_at, take_all}
use Rattle.std.specs.Result.{MatchResult, is_ok}
use Rattle.std.proofs.lemmas.Bool.{both_ways, cases_Bool, and_parts, leb-true}
use Rattle.source.specs.declared.reply.Reply.{Reply}
use Rattle.rows.specs.declared.fault.Numbered.{Numbered}
use Rattle.rows.specs.declared.fault.RowFault.{RowFault}
use Rattle.text.specs.declared.fault.FileFault.{FileFault}
use Rattle.text.specs.declared.fault.FileFault.TheVariants.{Size}
use Rattle.text.specs.Files.{Reading, row_count, ending, on_row, read_rows, answer_of, left_of}
use Rattle.text.specs.Pairs.{pair_answer}
use Rattle.text.specs.Lists.{reply_read, last_asked, onto, list_step, list_answer, list_read, over}

-- what came through a change of the fault alone was there before
pub mapped_ok : {T E D : Type 0} (r : Result T E) (q : Result T D) (n : T) (Says : E → Type 0) → MatchResult r (λ x. q ≡ Ok x) Says → is_ok q ≡ is_ok r
    → q ≡ Ok n → r ≡ Ok n
mapped_ok (Ok x) q n Says h alike e = let s : x ≡ n = cc in ap Ok s
mapped_ok (Err f) q n Says h alike e = absurd (both_ways (is_ok q) alike (ap is_ok e))

-- n rows without a fault add n replies
after_row : (n : ℕ) (next : List (Reply ℕ) → Reading (List (Reply ℕ))) (k : ℕ) (rs : List (Reply ℕ)) (r : Result (Reply ℕ) RowFault)
    → ((ts : List (Reply ℕ)) → (next ts).fault ≡ None → length (next ts).left ≡ length ts + n)
    → (on_row k rs (onto rs r) next).fault ≡ None → length (on_row k rs (onto rs r) next).left ≡ length rs + suc n
after_row n next k rs (Ok r) ih h = omega (arith, ih (rs ++ r ∷ []) h, length_push rs r)
after_row n next k rs (Err f) ih h = absurd (let z : ◌≡◌ {A = ℕ} 0 1 = cc in omega arith)

rows_length : (n : ℕ) (bytes : List ℕ) (k : ℕ) (rs : List (Reply ℕ)) → (read_rows list_step 35 n bytes k rs).fault ≡ None
    → length (read_rows list_step 35 n bytes k rs).left ≡ length rs + n
rows_length zero bytes k rs e = omega arith
rows_length (suc n) bytes k rs e =
    after_row n (λ t. read_rows list_step 35 n (drop 35 bytes) (k + 1) t) k rs (reply_read (last_asked 0 rs) (take 35 bytes))
    (λ ts h. rows_length n (drop 35 bytes) (k + 1) ts h) e

ending_none : (n m : ℕ) (o : Option (Numbered RowFault)) → Ok m ≡ ending n o → (o ≡ None) × (m ≡ n)
ending_none n m None e = (refl, cc)
ending_none n m (Some f) e = absurd (let z : ◌≡◌ {A = ℕ} 0 1 = cc in omega arith)

-- a size that was accepted is a number of rows within the limit
pub count_within : (width most size n : ℕ) → Ok n ≡ row_count width most size → n ≤ most
count_within width most size n e =
    elim (cases_Bool (eqb (size % width) 0 && leb (size / width) most)) [
      | inl t ↦
          (let is : row_count width most size ≡ Ok (size / width) = rw (t, row_count) refl in
          let s : n ≡ size / width = ok_same (e ∙ is) in
          omega (arith, s, leb-true (size / width) most (and_parts (eqb (size % width) 0) _ t).1))
      | inr t ↦ (let is : row_count width most size ≡ Err Size = rw (t, row_count) refl in absurd (never (e ∙ is)))
    ]
  where
    ok_same : {a b : ℕ} → ◌≡◌ {A = Result ℕ FileFault} (Ok a) (Ok b) → a ≡ b
    ok_same p = cc

    never : {a : ℕ} {f : FileFault} → ◌≡◌ {A = Result ℕ FileFault} (Ok a) (Err f) → ⊥
    never p = let z : ◌≡◌ {A = ℕ} 0 1 = cc in omega arith

-- a size is refused in one way
pub count_refused : (width most size : ℕ) (f : FileFault) → Err f ≡ row_count width most size → f ≡ Size
count_refused width most size f e =
    elim (cases_Bool (eqb (size % width) 0 && leb (size / width) most)) [
      | inl t ↦ (let is : row_count width most size ≡ Ok (size / width) = rw (t, row_count) refl in absurd (never (e ∙ is)))
      | inr t ↦ (let is : row_count width most size ≡ Err Size = rw (t, row_count) refl in same (e ∙ is))
    ]
  where
    same : {g h : FileFault} → ◌≡◌ {A = Result ℕ FileFault} (Err g) (Err h) → g ≡ h
    same p = cc

    never : {a : ℕ} {g : FileFault} → ◌≡◌ {A = Result ℕ FileFault} (Err g) (Ok a) → ⊥
    never p = let z : ◌≡◌ {A = ℕ} 0 1 = cc in omega arith

-- a list that was read: its replies are as many as its rows, at most 50,000 and at most the room
pub record Listed (bytes : List ℕ) (room count : ℕ) : Type 0 where
  pub long : length (list_read bytes room) ≡ count
  pub few : count ≤ 50000
  pub held : count ≤ room

pub listed : (bytes : List ℕ) (room count : ℕ) → Ok count ≡ list_answer bytes room → Listed bytes room count
listed bytes room count e = go (row_count 35 (min 50000 room) (length bytes)) refl e
  where
    go : (o : Result ℕ FileFault) → row_count 35 (min 50000 room) (length bytes) ≡ o
        → Ok count ≡ answer_of list_step 35 [] bytes o → Listed bytes room count
    go (Ok n) is h =
        let d = ending_none n count (read_rows list_step 35 n bytes 1 []).fault h in
        let l = rows_length n bytes 1 [] d.0 in
        let w = count_within 35 (min 50000 room) (length bytes) n (sym is) in
        record {
          long = ap (λ x. length (left_of list_step 35 [] bytes [] x)) is ∙ omega (arith, l, d.1);
          few = omega (arith, w, d.1);
          held = omega (arith, w, d.1);
        }
    go (Err f) is h = absurd (let z : ◌≡◌ {A = ℕ} 0 1 = cc in omega arith)

-- the replies at the front of the buffer
pub front : (bytes : List ℕ) (room count : ℕ) (old new : List (Reply ℕ)) → Listed bytes room count → new ≡ over (list_read bytes room) old
    → take count new ≡ list_read bytes room
front bytes room count old new l e = ap (take count) e ∙ take_at (list_read bytes room) (drop (length (list_read bytes room)) old) count l.long

pub all_few : (bytes : List ℕ) (room count : ℕ) → Listed bytes room count → take 50000 (list_read bytes room) ≡ list_read bytes room
all_few bytes room count l = take_all 50000 (list_read bytes room) (omega (arith, l.long, l.few))

-- what is paired is the list that was read
pub pairs : (bytes : List ℕ) (room count : ℕ) (ladders ladders' : List (List ℕ)) (new : List (Reply ℕ)) → Listed bytes room count
    → ladders ≡ ladders' → take count new ≡ list_read bytes room
    → pair_answer ladders (take 50000 (take (count - 0) new)) ≡ pair_answer ladders' (list_read bytes room)
pairs bytes room count ladders ladders' new l s f =
    let n : count - 0 ≡ count = omega arith in
    ap (λ k. pair_answer ladders (take 50000 (take k new))) n
    ∙ ap (λ x. pair_answer ladders (take 50000 x)) f
    ∙ ap (pair_answer ladders) (all_few bytes room count l)
    ∙ ap (λ x. pair_answer x (list_read bytes room)) s
