-- Files of rows: reading inverts showing, and nothing else reads as the same items. Proved once, for every kind of row
-- whose reading inverts its showing.
use Rattle.std.proofs.Common.{◌≡◌, ℕ, zero, suc, ◌+◌, ◌*◌, ◌≤◌, List, [], ◌∷◌, ◌++◌, length, take, drop, Some, None, Ok, Err, Option, Result, sym, refl, ap, ◌∙◌, subst, mul-zero, mul-suc, arith, length-append, length-drop}
use Rattle.std.specs.List.{flat_map}
use Rattle.std.proofs.lemmas.List.{take_at, drop_at, take-append-drop, take-take, drop-take, drop-drop, nil_from_length}
use Rattle.rows.specs.declared.fault.Numbered.{Numbered}
use Rattle.rows.specs.declared.fault.RowFault.{RowFault}
use Rattle.text.specs.Files.{Reading, on_row, read_rows}

take_both : (n m : ℕ) (xs : List ℕ) → take (n + m) xs ≡ take n xs ++ take m (drop n xs)
take_both n m xs =
    let le : n ≤ n + m = omega arith in
    sym (take-append-drop n (take (n + m) xs)) ∙ (ap (λ x. x ++ drop n (take (n + m) xs)) (take-take n (n + m) xs le) ∙ ap (λ x. take n xs ++ x) (drop-take n m xs))

same_fault : {f g : Numbered RowFault} → ◌≡◌ {A = Option (Numbered RowFault)} (Some f) (Some g) → f ≡ g
same_fault p = cc

-- a kind of row: the row of an item, the state after it, and which items may come in a state
pub record Kind (S A : Type 0) (step : S → List ℕ → Result S RowFault) (width : ℕ) : Type 1 where
  pub show : A → List ℕ
  pub put : S → A → S
  pub Fits : S → A → Type 0
  pub long : (s : S) (a : A) → Fits s a → length (show a) ≡ width
  pub back : (s : S) (a : A) → Fits s a → step s (show a) ≡ Ok (put s a)
  pub only : (s : S) (row : List ℕ) (t : S) → step s row ≡ Ok t → (a : A) × (row ≡ show a) × (t ≡ put s a) × Fits s a

module _ {S A : Type 0} (step : S → List ℕ → Result S RowFault) (width : ℕ) (kind : Kind S A step width) where
  abbrev pub put_all : S → List A → S
  put_all s [] = s
  put_all s (a ∷ xs) = put_all (kind.put s a) xs

  abbrev pub FitAll : S → List A → Type 0
  FitAll s [] = Unit {0}
  FitAll s (a ∷ xs) = kind.Fits s a × FitAll (kind.put s a) xs

  pub length_file : (s : S) (xs : List A) → FitAll s xs → length (flat_map kind.show xs) ≡ width * length xs
  length_file s [] f = sym (mul-zero width)
  length_file s (a ∷ xs) f =
      length-append (kind.show a) (flat_map kind.show xs)
      ∙ (let x = kind.long s a f.0 in let y = length_file (kind.put s a) xs f.1 in let z = mul-suc width (length xs) in omega arith)

  -- what is shown is read
  pub file_back : (k : ℕ) (s : S) (xs : List A) → FitAll s xs
      → read_rows step width (length xs) (flat_map kind.show xs) k s ≡ record { left = put_all s xs; fault = None }
  file_back k s [] f = refl
  file_back k s (a ∷ xs) f =
      let n = kind.long s a f.0 in
      let rest = flat_map kind.show xs in
      let t : take width (kind.show a ++ rest) ≡ kind.show a = take_at (kind.show a) rest width n in
      let d : drop width (kind.show a ++ rest) ≡ rest = drop_at (kind.show a) rest width n in
      ap (λ x. on_row k s x (λ u. read_rows step width (length xs) (drop width (kind.show a ++ rest)) (k + 1) u)) (ap (step s) t ∙ kind.back s a f.0)
      ∙ (ap (λ x. read_rows step width (length xs) x (k + 1) (kind.put s a)) d ∙ file_back (k + 1) (kind.put s a) xs f.1)

  -- a reading without a fault took its first row
  took : (k : ℕ) (s : S) (r : Result S RowFault) (next : S → Reading S) (t : S) → on_row k s r next ≡ record { left = t; fault = None }
      → (u : S) × (r ≡ Ok u) × (next u ≡ record { left = t; fault = None })
  took k s (Ok u) next t e = (u, refl, e)
  took k s (Err f) next t e = let x = ap (λ (r : Reading S). r.fault) e in let z : ◌≡◌ {A = ℕ} 0 1 = cc in absurd (omega arith)

  -- what is read is shown
  pub file_only : (n : ℕ) (bytes : List ℕ) (k : ℕ) (s t : S) → length bytes ≡ width * n → read_rows step width n bytes k s ≡ record { left = t; fault = None }
      → (xs : List A) × (length xs ≡ n) × (bytes ≡ flat_map kind.show xs) × (t ≡ put_all s xs) × FitAll s xs
  file_only zero bytes k s t l e = ([], refl, nil_from_length bytes (l ∙ mul-zero width), sym (ap (λ (r : Reading S). r.left) e), tt)
  file_only (suc n) bytes k s t l e =
      let w = took k s (step s (take width bytes)) (λ u. read_rows step width n (drop width bytes) (k + 1) u) t e in
      let o = kind.only s (take width bytes) w.0 w.1 in
      let m : length (drop width bytes) ≡ width * n = length-drop width bytes ∙ (let z = mul-suc width n in omega arith) in
      let r = file_only n (drop width bytes) (k + 1) w.0 t m w.2 in
      joined_up bytes w.0 o.0 r.0 r.1 (sym (take-append-drop width bytes) ∙ (ap (λ x. x ++ drop width bytes) o.1 ∙ ap (λ x. kind.show o.0 ++ x) r.2)) o.2 r.3 o.3 r.4
    where
      joined_up : (bytes : List ℕ) (u : S) (a : A) (xs : List A) → length xs ≡ n → bytes ≡ kind.show a ++ flat_map kind.show xs → u ≡ kind.put s a → t ≡ put_all u xs → kind.Fits s a → FitAll u xs
          → (xs : List A) × (length xs ≡ suc n) × (bytes ≡ flat_map kind.show xs) × (t ≡ put_all s xs) × FitAll s xs
      joined_up bytes u a xs l b p q f g =
          (a ∷ xs, ap suc l, b, q ∙ ap (λ x. put_all x xs) p, (f, subst (λ x. FitAll x xs) p g))

  -- a reading that stopped: the rows before the faulty one are shown, and that one is refused
  pub record Stopped (bytes : List ℕ) (k : ℕ) (s t : S) (f : Numbered RowFault) : Type 0 where
    pub items : List A
    pub number : f.number ≡ k + length items
    pub shows : take (width * length items) bytes ≡ flat_map kind.show items
    pub left : t ≡ put_all s items
    pub fits : FitAll s items
    pub refused : step t (take width (drop (width * length items) bytes)) ≡ Err f.fault

  stopped_here : (bytes : List ℕ) (k : ℕ) (s t : S) (g : RowFault) (f : Numbered RowFault) → step s (take width bytes) ≡ Err g
      → s ≡ t → record { number = k; fault = g } ≡ f → Stopped bytes k s t f
  stopped_here bytes k s t g f e same is =
      let z : width * 0 ≡ 0 = mul-zero width in
      record {
        items = [];
        number = sym (ap (λ (x : Numbered RowFault). x.number) is) ∙ omega arith;
        shows = ap (λ n. take n bytes) z;
        left = sym same;
        fits = tt;
        refused = ap (λ n. step t (take width (drop n bytes))) z ∙ (ap (λ x. step x (take width bytes)) (sym same) ∙ (e ∙ ap (λ (x : Numbered RowFault). Err x.fault) is));
      }

  stopped_later : (bytes : List ℕ) (k : ℕ) (s t : S) (f : Numbered RowFault) (a : A) → take width bytes ≡ kind.show a → kind.Fits s a
      → Stopped (drop width bytes) (k + 1) (kind.put s a) t f → Stopped bytes k s t f
  stopped_later bytes k s t f a is fit later =
      let m = length later.items in
      let n : width * suc m ≡ width + width * m = mul-suc width m ∙ omega arith in
      record {
        items = a ∷ later.items;
        number = later.number ∙ omega arith;
        shows = ap (λ x. take x bytes) n ∙ (take_both width (width * m) bytes ∙ (ap (λ x. x ++ take (width * m) (drop width bytes)) is ∙ ap (λ x. kind.show a ++ x) later.shows));
        left = later.left;
        fits = (fit, later.fits);
        refused = ap (λ x. step t (take width x)) (ap (λ x. drop x bytes) n ∙ sym (drop-drop (width * m) width bytes)) ∙ later.refused;
      }

  pub file_stops : (n : ℕ) (bytes : List ℕ) (k : ℕ) (s t : S) (f : Numbered RowFault)
      → read_rows step width n bytes k s ≡ record { left = t; fault = Some f } → Stopped bytes k s t f
  file_stops zero bytes k s t f e = let x = ap (λ (r : Reading S). r.fault) e in let z : ◌≡◌ {A = ℕ} 0 1 = cc in absurd (omega arith)
  file_stops (suc n) bytes k s t f e = at_row (step s (take width bytes)) refl e (λ u h. file_stops n (drop width bytes) (k + 1) u t f h)
    where
      at_row : (r : Result S RowFault) → step s (take width bytes) ≡ r
          → on_row k s r (λ u. read_rows step width n (drop width bytes) (k + 1) u) ≡ record { left = t; fault = Some f }
          → ((u : S) → read_rows step width n (drop width bytes) (k + 1) u ≡ record { left = t; fault = Some f } → Stopped (drop width bytes) (k + 1) u t f)
          → Stopped bytes k s t f
      at_row (Err g) is h next =
          stopped_here bytes k s t g f is (ap (λ (r : Reading S). r.left) h) (same_fault (ap (λ (r : Reading S). r.fault) h))
      at_row (Ok u) is h next =
          let o = kind.only s (take width bytes) u is in
          stopped_later bytes k s t f o.0 o.1 o.3 (subst (λ x. Stopped (drop width bytes) (k + 1) x t f) o.2 (next u h))
