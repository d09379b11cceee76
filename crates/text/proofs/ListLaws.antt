-- Lists as files of rows: what is shown is read, what is read is shown and lawful, and nothing else reads as it.
use Rattle.std.proofs.Common.{◌≡◌, ℕ, ◌<◌, ◌≤◌, true, ◌&&◌, leb, ◌⊎◌, List, [], ◌∷◌, ◌++◌, Ok, Err, Result, sym, refl, ap, ◌∙◌, subst, inl, inr, arith}
use Rattle.std.proofs.lemmas.Bool.{cases_lt, le-leb, leb-true, and_from, and_parts, cases_Bool}
use Rattle.source.specs.declared.reply.Reply.{Reply}
use Rattle.source.specs.Replies.{follows}
use Rattle.source.specs.Beginnings.{follows_so}
use Rattle.rows.specs.declared.fault.RowFault.{RowFault}
use Rattle.rows.specs.declared.fault.RowFault.TheVariants.{Order}
use Rattle.rows.specs.Columns.{list_row}
use Rattle.rows.specs.Rows.{Within, row_read, row_shown}
use Rattle.text.specs.Lists.{numbers_of, reply_shown, reply_of, ordered, reply_from, last_asked, onto, list_step, ReplyRefused}
use Rattle.rows.proofs.Fitting.{AllSound}
use Rattle.rows.proofs.Tables.{sound_table, row_placed}
use Rattle.rows.proofs.RowLaws.{length_row, row_back, row_shown_is, first_fault}
use Rattle.text.proofs.FileLaws.{Kind}

pub list_sound : AllSound list_row
list_sound = sound_table list_row refl

-- a reply that may follow the replies before it, with a row of its own
abbrev pub ReplyFits : List (Reply ℕ) → Reply ℕ → Type 0
ReplyFits rs r = (follows (last_asked 0 rs) r ≡ true) × Within list_row (numbers_of r)

reply_ordered : (last : ℕ) (r : Reply ℕ) → last ≤ r.asked → r.asked ≤ r.ready → ordered last r ≡ Ok r
reply_ordered last r a b = rw (and_from (leb last r.asked) (leb r.asked r.ready) (le-leb last r.asked a) (le-leb r.asked r.ready b), ordered)

pub reply_back : (rs : List (Reply ℕ)) (r : Reply ℕ) → ReplyFits rs r → list_step rs (reply_shown r) ≡ Ok (rs ++ r ∷ [])
reply_back rs r f =
    let l = last_asked 0 rs in
    let so = follows_so l r f.0 in
    ap (λ x. onto rs (reply_from l x)) (row_back 1 list_row (numbers_of r) list_sound f.1) ∙ ap (onto rs) (reply_ordered l r so.rises so.waits)

-- the numbers of a row within the limits are those of its reply
numbers_back : (vs : List ℕ) → Within list_row vs → vs ≡ numbers_of (reply_of vs)
numbers_back vs w = row_placed list_row vs w

ordered_so : (last : ℕ) (q r : Reply ℕ) → ordered last q ≡ Ok r → (q ≡ r) × (last ≤ q.asked) × (q.asked ≤ q.ready)
ordered_so last q r e =
    elim (cases_Bool (leb last q.asked && leb q.asked q.ready)) [
      | inl t ↦
          let p = and_parts (leb last q.asked) (leb q.asked q.ready) t in
          let o : ordered last q ≡ Ok q = rw (t, ordered) in
          (same (sym o ∙ e), leb-true last q.asked p.0, leb-true q.asked q.ready p.1)
      | inr t ↦ let o : ordered last q ≡ Err Order = rw (t, ordered) in absurd (never (sym o ∙ e))
    ]
  where
    same : {a b : Reply ℕ} → ◌≡◌ {A = Result (Reply ℕ) RowFault} (Ok a) (Ok b) → a ≡ b
    same p = cc

    never : {a : Reply ℕ} {f : RowFault} → ◌≡◌ {A = Result (Reply ℕ) RowFault} (Err f) (Ok a) → ⊥
    never p = let z : ◌≡◌ {A = ℕ} 0 1 = cc in omega arith

follows_from : (last : ℕ) (r : Reply ℕ) → last ≤ r.asked → r.asked ≤ r.ready → Within list_row (numbers_of r) → follows last r ≡ true
follows_from last r a b w =
    and_from (leb last r.asked) _ (le-leb last r.asked a)
    (and_from (leb r.asked r.ready) _ (le-leb r.asked r.ready b)
    (and_from (leb r.ready 1000000000) (leb r.«class» 7) (le-leb r.ready 1000000000 w.1.1.0) (le-leb r.«class» 7 w.1.0)))

-- what a step that went well read
step_parts : (rs t : List (Reply ℕ)) (x : Result (List ℕ) RowFault) → onto rs (reply_from (last_asked 0 rs) x) ≡ Ok t
    → (vs : List ℕ) × (x ≡ Ok vs) × (t ≡ rs ++ reply_of vs ∷ []) × (last_asked 0 rs ≤ (reply_of vs).asked) × ((reply_of vs).asked ≤ (reply_of vs).ready)
step_parts rs t (Err f) e = let z : ◌≡◌ {A = ℕ} 0 1 = cc in absurd (omega arith)
step_parts rs t (Ok vs) e = parts (ordered (last_asked 0 rs) (reply_of vs)) refl e
  where
    parts : (o : Result (Reply ℕ) RowFault) → ordered (last_asked 0 rs) (reply_of vs) ≡ o → onto rs o ≡ Ok t
        → (us : List ℕ) × (◌≡◌ {A = Result (List ℕ) RowFault} (Ok vs) (Ok us)) × (t ≡ rs ++ reply_of us ∷ []) × (last_asked 0 rs ≤ (reply_of us).asked) × ((reply_of us).asked ≤ (reply_of us).ready)
    parts (Ok r) is h =
        let p = ordered_so (last_asked 0 rs) (reply_of vs) r is in
        let u : rs ++ r ∷ [] ≡ t = cc in
        (vs, refl, sym u ∙ ap (λ q. rs ++ q ∷ []) (sym p.0), p.1, p.2)
    parts (Err f) is h = let z : ◌≡◌ {A = ℕ} 0 1 = cc in absurd (omega arith)

pub reply_only : (rs : List (Reply ℕ)) (row : List ℕ) (t : List (Reply ℕ)) → list_step rs row ≡ Ok t
    → (r : Reply ℕ) × (row ≡ reply_shown r) × (t ≡ rs ++ r ∷ []) × ReplyFits rs r
reply_only rs row t e =
    let p = step_parts rs t (row_read 1 list_row row) e in
    let s = row_shown_is 1 list_row row p.0 list_sound p.1 in
    let n = numbers_back p.0 s.1 in
    let w : Within list_row (numbers_of (reply_of p.0)) = subst (Within list_row) n s.1 in
    (reply_of p.0, s.0 ∙ ap (row_shown list_row) n, p.2, (follows_from (last_asked 0 rs) (reply_of p.0) p.3 p.4 w, w))

-- a reply out of order
ordered_not : (last : ℕ) (q : Reply ℕ) (f : RowFault) → ordered last q ≡ Err f → (f ≡ Order) × ((q.asked < last) ⊎ (q.ready < q.asked))
ordered_not last q f e = (fault, where_it_breaks)
  where
    never : {a : Reply ℕ} {g : RowFault} → ◌≡◌ {A = Result (Reply ℕ) RowFault} (Ok a) (Err g) → ⊥
    never p = let z : ◌≡◌ {A = ℕ} 0 1 = cc in omega arith

    same : {g h : RowFault} → ◌≡◌ {A = Result (Reply ℕ) RowFault} (Err g) (Err h) → g ≡ h
    same p = cc

    fault : f ≡ Order
    fault = elim (cases_Bool (leb last q.asked && leb q.asked q.ready)) [
      | inl t ↦ let o : ordered last q ≡ Ok q = rw (t, ordered) in absurd (never (sym o ∙ e))
      | inr t ↦ let o : ordered last q ≡ Err Order = rw (t, ordered) in same (sym e ∙ o)
    ]

    where_it_breaks : (q.asked < last) ⊎ (q.ready < q.asked)
    where_it_breaks = elim (cases_lt q.asked last) [
      | inl falls ↦ inl falls
      | inr rises ↦ elim (cases_lt q.ready q.asked) [
        | inl early ↦ inr early
        | inr waits ↦ absurd (never (sym (reply_ordered last q rises waits) ∙ e))
      ]
    ]

-- a step that was refused
pub reply_refused : (rs : List (Reply ℕ)) (row : List ℕ) (f : RowFault) → list_step rs row ≡ Err f → ReplyRefused (last_asked 0 rs) row f
reply_refused rs row f e = at_row (row_read 1 list_row row) refl e
  where
    last : ℕ
    last = last_asked 0 rs

    at_reply : (o : Result (Reply ℕ) RowFault) → onto rs o ≡ Err f → o ≡ Err f
    at_reply (Ok r) h = let z : ◌≡◌ {A = ℕ} 0 1 = cc in absurd (omega arith)
    at_reply (Err g) h = let same : g ≡ f = cc in ap Err same

    at_row : (x : Result (List ℕ) RowFault) → row_read 1 list_row row ≡ x → onto rs (reply_from last x) ≡ Err f → ReplyRefused last row f
    at_row (Err g) is h = let same : g ≡ f = cc in inl (first_fault 1 list_row row f list_sound (is ∙ ap Err same))
    at_row (Ok vs) is h =
        let s = row_shown_is 1 list_row row vs list_sound is in
        let n = numbers_back vs s.1 in
        let o = ordered_not last (reply_of vs) f (at_reply (ordered last (reply_of vs)) h) in
        inr (reply_of vs, s.0 ∙ ap (row_shown list_row) n, subst (Within list_row) n s.1, o.0, o.1)

abbrev pub list_kind : Kind (List (Reply ℕ)) (Reply ℕ) list_step 35
list_kind = record {
  show = reply_shown;
  put = λ rs r. rs ++ r ∷ [];
  Fits = ReplyFits;
  long = λ rs r f. length_row list_row (numbers_of r) list_sound f.1;
  back = reply_back;
  only = reply_only;
}
