-- Reading a list into a buffer, row by row.
use Rattle.std.proofs.Common.{◌≡◌, ℕ, List, [], ◌∷◌, ◌++◌, Ok, Err, refl, ap}
use Rattle.source.specs.declared.reply.Reply.{Reply}
use Rattle.rows.specs.declared.fault.RowFault.{RowFault}
use Rattle.text.specs.Lists.{last_asked, reply_after, onto, list_step}

pub last_push : (a : ℕ) (rs : List (Reply ℕ)) (r : Reply ℕ) → last_asked a (rs ++ r ∷ []) ≡ r.asked
last_push a [] r = refl
last_push a (q ∷ rs) r = last_push q.asked rs r

pub list_takes : (name : ℕ) (rs : List (Reply ℕ)) (row : List ℕ) (r : Reply ℕ) → reply_after name rs row ≡ Ok r → list_step rs row ≡ Ok (rs ++ r ∷ [])
list_takes name rs row r e = ap (onto rs) e

pub list_refuses : (name : ℕ) (rs : List (Reply ℕ)) (row : List ℕ) (f : RowFault) → reply_after name rs row ≡ Err f → list_step rs row ≡ Err f
list_refuses name rs row f e = ap (onto rs) e
