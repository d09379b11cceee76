-- What a pace answered for a class that it knows.
use Rattle.std.proofs.Common.{◌≡◌, ℕ, ◌≤◌, Ok, refl, ◌∙◌}
use Rattle.std.proofs.lemmas.Bool.{le-leb}
use Rattle.pace.specs.Laws.{of_class}

pub known_class : (c n x : ℕ) → c ≤ 7 → Ok x ≡ of_class c n → x ≡ n
known_class c n x h e = let s : of_class c n ≡ Ok n = rw (le-leb c 7 h, of_class) refl in let t = e ∙ s in cc
