-- The promise is kept: from any start on, and so from an opening.
use Rattle.std.proofs.Common.{◌≡◌, ℕ, suc, ◌+◌, ◌-◌, ◌*◌, ◌^◌, ◌≤◌, true, ◌↔◌, List, length, sym, refl, ap, ◌∙◌, subst, mul-one, arith}
use native.Mathlib.Nat.{mul-sub}
use Rattle.source.specs.declared.reply.Reply.{Reply}
use Rattle.source.specs.declared.reply.End.{End}
use Rattle.source.specs.Replies.{horizon, Lawful}
use Rattle.promise.specs.Rules.{Rules, Laws, Alike}
use Rattle.promise.specs.Leaks.{Most, share, over}
use Rattle.promise.specs.Views.{Standing, View, own, all, fresh, opened, released}
use Rattle.promise.specs.Runs.{Step, Runs, replies, release_list, miss_record, takes, left}
use Rattle.promise.specs.Promise.{Key, keys_of, Freed, All, Different, Seen, Promise, occurs, up_to}
use Rattle.promise.proofs.Sums.{sum_from, sum_from_is}
use Rattle.promise.proofs.Standings.{Start, weight, sound_start, start_fresh, none_at}
use Rattle.promise.proofs.Running.{Known, Outcome, outcome, known_lawful, tallied}
use Rattle.promise.proofs.Listing.{listed}
use Rattle.promise.proofs.Bodiless.{bodiless}
use Rattle.promise.proofs.Ticks.{ticks, ticks_tell, freed_ticks, freed_length, freed_alike, known_keys, length_keys}
use Rattle.promise.proofs.Pigeons.{In, pigeons, all_map, all_both}
use Rattle.promise.proofs.Records.{every, in_every, every_length}
use Rattle.promise.proofs.Cuts.{Cut, Fine, cut, occurs_each}

-- FROM ANY START

ran : {B : Type 0} (m : Rules) → Laws m → (v : View B) → Start v.standing → Known v.coming → (h : List (Step B)) → Runs m v h
    → Outcome m v.standing.clock (weight m v.standing) v (left v h) (replies h) (miss_record v h) (takes h)
ran m laws v start known h u =
    outcome m laws v.standing.clock (weight m v.standing) v h (sound_start m v.standing start) known u

-- timing tells the misses and nothing more
pub same_on : {A B : Type 0} (m n : Rules) → Laws m → Laws n → Alike m n → (v : View A) (w : View B) → v.standing ≡ w.standing
    → Start v.standing → Known v.coming → Known w.coming → keys_of v.coming ≡ keys_of w.coming
    → (h : List (Step A)) → Runs m v h → (i : List (Step B)) → Runs n w i
    → (release_list h ≡ release_list i) ↔ (miss_record v h ≡ miss_record w i)
same_on m n lm ln alike v w est start kv kw ek h uh i ui =
    let st : Standing = v.standing in
    let ds : List Key = keys_of v.coming in
    let ks : List ℕ = miss_record v h in
    let js : List ℕ = miss_record w i in
    let f : Freed m st v.coming (replies h) ks = (ran m lm v start kv h uh).freed in
    let g₀ : Freed n w.standing w.coming (replies i) js = (ran n ln w (subst Start est start) kw i ui).freed in
    let g : Freed m st w.coming (replies i) js
    = freed_alike m n alike st w.coming (replies i) js kw (subst (λ z. Freed n z w.coming (replies i) js) (sym est) g₀) in
    let ef : release_list h ≡ ticks m st ds ks = freed_ticks m st v.coming (replies h) ks f in
    let eg : release_list i ≡ ticks m st ds js = freed_ticks m st w.coming (replies i) js g ∙ ap (λ z. ticks m st z js) (sym ek) in (
      λ e. ticks_tell m lm st ds ks js (known_keys v.coming kv)
          (omega (arith, freed_length m st v.coming (replies h) ks f, length_keys v.coming))
          (omega (arith, freed_length m st w.coming (replies i) js g, length_keys w.coming, ap length ek))
          (sym ef ∙ e ∙ eg),
      λ e. ef ∙ ap (ticks m st ds) e ∙ sym eg,
    )

-- a release list up to t that some calls of some gate leave which stands so, over a source with these keys
pub record SeenOn (m : Rules) (st : Standing) (keys : List Key) (t : ℕ) (xs : List ℕ) : Type 0 where
  pub rules : Rules
  pub laws : Laws rules
  pub alike : Alike m rules
  pub view : View (Unit {0})
  pub stands : view.standing ≡ st
  pub known : Known view.coming
  pub agrees : keys_of view.coming ≡ keys
  pub steps : List (Step (Unit {0}))
  pub runs : Runs rules view steps
  pub shows : up_to t (release_list steps) ≡ xs

-- up to t there is room for n c more misses of class c
abbrev pub Room : Rules → Standing → ℕ → (ℕ → ℕ) → Type 0
Room m st t n = (c : ℕ) → c ≤ 7 → (i : ℕ) → m.quantum c * 2 ^ i + st.clock ≤ t + weight m st c → i ≤ own st c + n c

module _ (m : Rules) (laws : Laws m) (st : Standing) (start : Start st) (keys : List Key) (t : ℕ) (n : ℕ → ℕ) (room : Room m st t n) where
  caps : ℕ → ℕ
  caps c = own st c + share (n c) (occurs keys c)

  caps_sum : sum_from caps 0 8 ≡ all st + over 8 n (occurs keys)
  unfolding caps
  caps_sum = omega (arith, sum_from_is st.misses 8 start.size)

  -- such a list has a code among the lists of few misses
  coded : (xs : List ℕ) → SeenOn m st keys t xs
      → (js : List ℕ) × In js (every (length keys) (over 8 n (occurs keys))) × (xs ≡ ticks m st keys js)
  unfolding caps
  coded xs w =
      let rs : List (Reply (Unit {0})) = w.view.coming in
      let ks : List ℕ = miss_record w.view w.steps in
      let f₀ : Freed w.rules w.view.standing rs (replies w.steps) ks
      = (ran w.rules w.laws w.view (subst Start (sym w.stands) start) w.known w.steps w.runs).freed in
      let f : Freed m st rs (replies w.steps) ks
      = freed_alike m w.rules w.alike st rs (replies w.steps) ks w.known
      (subst (λ z. Freed w.rules z rs (replies w.steps) ks) w.stands f₀) in
      let fine : All (Fine m st.clock t (weight m st) caps) rs
      = all_both (λ r. r.«class» ≤ 7) (λ r. occurs (keys_of rs) r.«class» ≡ true) (Fine m st.clock t (weight m st) caps)
      (λ r hc oc. (
        hc,
        λ i hi.
            subst (λ z. i ≤ own st r.«class» + z)
            (ap (share (n r.«class»)) (sym (subst (λ z. occurs z r.«class» ≡ true) w.agrees oc)))
            (room r.«class» hc i hi),
      ))
      rs w.known (occurs_each rs) in
      let c : Cut m t (sum_from caps 0 8) st (keys_of rs) (release_list w.steps)
      = cut m laws st.clock t (weight m st) caps st (sound_start m st start) (λ d hd. omega arith) rs fine (replies w.steps) ks f in
      let js : List ℕ = c.misses in (
        js,
        in_every (length keys) (over 8 n (occurs keys)) js (omega (arith, c.short, ap length w.agrees)) (omega (arith, c.small, caps_sum)),
        sym w.shows ∙ c.shows ∙ ap (λ z. ticks m st z js) w.agrees,
      )

  -- there are few release lists
  pub few_on : (lists : List (List ℕ)) → All (SeenOn m st keys t) lists → Different lists
      → length lists ≤ (length keys + 1) ^ (1 + over 8 n (occurs keys))
  few_on lists seen different =
      let s : ℕ = over 8 n (occurs keys) in
      let a : length lists ≤ length (every (length keys) s)
      = pigeons (λ xs js. xs ≡ ticks m st keys js) (λ x z y p q. p ∙ sym q) lists (every (length keys) s)
      (all_map (SeenOn m st keys t) (λ xs. (js : List ℕ) × In js (every (length keys) s) × (xs ≡ ticks m st keys js)) coded lists seen) different in
      let b : length (every (length keys) s) ≤ suc (length keys) ^ suc s = every_length (length keys) s in
      let e₁ : suc (length keys) ≡ length keys + 1 = omega arith in
      let e₂ : suc s ≡ 1 + s = omega arith in
      let c : suc (length keys) ^ suc s ≡ (length keys + 1) ^ (1 + s) = ap (λ z. z ^ suc s) e₁ ∙ ap (λ z. (length keys + 1) ^ z) e₂ in
      omega (arith, a, b, c)

-- FROM AN OPENING

no_misses : (m : Rules) (o c : ℕ) → weight m (fresh o) c ≡ m.quantum c
no_misses m o c = rw (none_at 8 c) (omega (arith, mul-one (m.quantum c)))

slow_form : (q n o x : ℕ) → q * 2 ^ n + o ≤ x + q → o ≤ x → q * (2 ^ n - 1) ≤ x - o
slow_form q n o x h k = rw (mul-sub q (2 ^ n) 1) (omega arith)

seen_on : (m : Rules) (o : ℕ) (keys : List Key) (t : ℕ) (xs : List ℕ) → Seen m o keys t xs → SeenOn m (fresh o) keys t xs
seen_on m o keys t xs w =
    record {
      rules = w.rules;
      laws = w.laws;
      alike = w.alike;
      view = opened w.coming w.mark o;
      stands = refl;
      known = known_lawful 0 w.coming w.lawful;
      agrees = w.agrees;
      steps = w.steps;
      runs = w.runs;
      shows = w.shows;
    }

room_fresh : (m : Rules) (o t : ℕ) → o ≤ t → (n : ℕ → ℕ) → ((c : ℕ) → c ≤ 7 → Most (m.quantum c) (t - o) (n c)) → Room m (fresh o) t n
room_fresh m o t ot n most c hc i h =
    let g = (most c hc).largest i (slow_form (m.quantum c) i o t (omega (arith, h, no_misses m o c)) ot) in
    omega (arith, g)

-- there are few release lists over any keys, up to any tick from the opening on
pub few_keys : (m : Rules) → Laws m → (o t : ℕ) → o ≤ horizon → o ≤ t → (keys : List Key)
    → (n : ℕ → ℕ) → ((c : ℕ) → c ≤ 7 → Most (m.quantum c) (t - o) (n c))
    → (lists : List (List ℕ)) → All (Seen m o keys t) lists → Different lists
    → length lists ≤ (length keys + 1) ^ (1 + over 8 n (occurs keys))
few_keys m laws o t ho ot keys n most lists seen different =
    few_on m laws (fresh o) (start_fresh o ho) keys t n (room_fresh m o t ot n most) lists
    (all_map (Seen m o keys t) (SeenOn m (fresh o) keys t) (λ xs w. seen_on m o keys t xs w) lists seen) different

pub kept : {B : Type 0} (m : Rules) → Laws m → (rs : List (Reply B)) → Lawful rs → (e : End) (o : ℕ) → o ≤ horizon → Promise m rs e o
kept m laws rs lawful e o ho =
    let start : Start (fresh o) = start_fresh o ho in
    let known : Known rs = known_lawful 0 rs lawful in
    record {
      faithful = λ h u.
          let out = ran m laws (opened rs e o) start known h u in
          record {
            in_order = out.freed;
            whole = released m (fresh o) rs;
            by_rules = listed m laws o (weight m (fresh o)) (fresh o) (sound_start m (fresh o) start) 0 rs lawful;
            each_take = out.each;
            tallied = tallied m o (weight m (fresh o)) (opened rs e o) h out;
          };
      bodiless = λ h u. bodiless m rs lawful e o h u;
      same = λ n ln alike ss ls ek d h uh i ui el.
          same_on m n laws ln alike (opened rs e o) (opened ss d o) refl start known (known_lawful 0 ss ls) ek h uh i ui;
      slow = λ h u c hc.
          let s = (ran m laws (opened rs e o) start known h u).sound in
          slow_form (m.quantum c) (own (left (opened rs e o) h).standing c) o (left (opened rs e o) h).standing.clock
          (omega (arith, s.slowly c hc, no_misses m o c)) s.since;
      few = λ t ot ht n most lists seen different.
          subst (λ z. length lists ≤ (z + 1) ^ (1 + over 8 n (occurs (keys_of rs)))) (length_keys rs)
          (few_keys m laws o t ho ot (keys_of rs) n most lists seen different);
    }
