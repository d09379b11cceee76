-- A release list up to a tick is told by few misses: no class has more of them than its cap.
use Rattle.std.proofs.Common.{◌≡◌, ℕ, ◌+◌, ◌*◌, ◌^◌, ◌<◌, ◌≤◌, true, eqb, leb, List, [], ◌∷◌, length, sum, sym, refl, ap, ◌∙◌, subst, inl, inr, arith}
use Rattle.std.proofs.lemmas.List.Sums.{sum_by-cons}
use Rattle.std.proofs.lemmas.Bool.{leb-true, cases_eq, cases_Bool, or_left, or_right, eq-eqb}
use Rattle.std.proofs.lemmas.List.{get_or-set_other}
use Rattle.source.specs.declared.reply.Reply.{Reply}
use Rattle.promise.specs.declared.release.Settled.{Settled}
use Rattle.promise.specs.Rules.{Rules, Laws}
use Rattle.promise.specs.Views.{Standing, own, all, charged, SettlesAt}
use Rattle.promise.specs.Runs.{ticks_of}
use Rattle.promise.specs.Promise.{Key, key_of, keys_of, Freed, All, stands, up_to, occurs}
use Rattle.promise.proofs.Sums.{sum_set, sum_from, sum_capped}
use Rattle.promise.proofs.Standings.{Sound, sound_charged}
use Rattle.promise.proofs.Ticks.{reach_at, ticks, ticks_none, settles_reach}
use Rattle.promise.proofs.Pigeons.{all_map}

-- the first ticks of a list, up to t, come of misses that are no more than the replies, with a small sum
pub record Cut (m : Rules) (t limit : ℕ) (st : Standing) (ds : List Key) (xs : List ℕ) : Type 0 where
  pub misses : List ℕ
  pub shows : up_to t xs ≡ ticks m st ds misses
  pub short : length misses ≤ length ds
  pub small : all st + sum misses ≤ limit

abbrev pub Capped : (ℕ → ℕ) → Standing → Type 0
Capped cap st = (c : ℕ) → c ≤ 7 → own st c ≤ cap c

-- a class that comes has no room for more misses than its cap before t
abbrev pub Fine : {B : Type 0} → Rules → ℕ → ℕ → (ℕ → ℕ) → (ℕ → ℕ) → Reply B → Type 0
Fine m o t z cap r = (r.«class» ≤ 7) × ((i : ℕ) → m.quantum r.«class» * 2 ^ i + o ≤ t + z r.«class» → i ≤ cap r.«class»)

module _ (m : Rules) (laws : Laws m) (o t : ℕ) (z cap : ℕ → ℕ) where
  all_capped : (st : Standing) → Sound m o z st → Capped cap st → all st ≤ sum_from cap 0 8
  all_capped st sound h =
      subst (λ n. all st ≤ sum_from cap 0 n) sound.size
      (sum_capped cap 0 st.misses (λ j hj. let e : j ≡ 0 + j = omega arith in subst (λ n. own st j ≤ cap n) e (h j (omega (arith, sound.size)))))

  cut_none : (st : Standing) → Sound m o z st → Capped cap st → (ds : List Key) (xs : List ℕ) → up_to t xs ≡ [] → Cut m t (sum_from cap 0 8) st ds xs
  cut_none st sound h ds xs e =
      record {
        misses = [];
        shows = e ∙ sym (ticks_none m st ds);
        short = omega arith;
        small = omega (arith, all_capped st sound h);
      }

  module _ {B : Type 0} where
    capped_charged : (st : Standing) → Sound m o z st → Capped cap st → (r : Reply B) → Fine m o t z cap r
        → (s : Settled) → s.tick ≤ t → SettlesAt m st r s.misses s.tick → Capped cap (charged st r.«class» s)
    capped_charged st sound h r fine s hs by c hc =
        let d : ℕ = r.«class» in
        let after = (sound_charged m laws o z st sound r fine.0 s by).0 in
        elim (cases_eq c d) [
          | inl e ↦ subst (λ i. own (charged st d s) i ≤ cap i) (sym e) (fine.1 (own (charged st d s) d) (omega (arith, after.slowly d fine.0)))
          | inr ne ↦ rw (get_or-set_other st.misses d c (own st d + s.misses) 0 ne) (h c hc)
        ]

    cut_more : (st : Standing) (r : Reply B) (ds : List Key) (limit k x : ℕ) (xs : List ℕ) → SettlesAt m st r k x
        → r.«class» < length st.misses → leb x t ≡ true
        → Cut m t limit (stands st r k x) ds xs → Cut m t limit st (key_of r ∷ ds) (x ∷ xs)
    cut_more st r ds limit k x xs by inside le g =
        let e : x ≡ reach_at m st (key_of r) k = settles_reach m r.«class» r.ready _ _ _ k x by in
        let here : up_to t (x ∷ xs) ≡ x ∷ up_to t xs = rw (le, up_to) refl in
        record {
          misses = k ∷ g.misses;
          shows = here ∙ ap (λ ys. x ∷ ys) g.shows ∙ ap (λ y. y ∷ ticks m (stands st r k y) ds g.misses) e;
          short = omega (arith, g.short);
          small = omega (arith, g.small, sum_set st.misses r.«class» k inside, sum_by-cons (λ y. y) k g.misses);
        }

    pub cut : (st : Standing) → Sound m o z st → Capped cap st → (rs : List (Reply B)) → All (Fine m o t z cap) rs
        → (xs : List (Reply B)) (ks : List ℕ) → Freed m st rs xs ks → Cut m t (sum_from cap 0 8) st (keys_of rs) (ticks_of xs)
    cut st sound h rs fine [] [] f = cut_none st sound h (keys_of rs) [] refl
    cut st sound h rs fine [] (k ∷ ks) f = elim f [ ]
    cut st sound h rs fine (x ∷ xs) [] f = elim f [ ]
    cut st sound h [] fine (x ∷ xs) (k ∷ ks) f = elim f [ ]
    cut st sound h (r ∷ rs) fine (x ∷ xs) (k ∷ ks) f =
        let s : Settled = record { tick = x.ready; misses = k } in
        elim (cases_Bool (leb x.ready t)) [
          | inl le ↦ cut_more st r (keys_of rs) (sum_from cap 0 8) k x.ready (ticks_of xs) f.2 (omega (arith, sound.size, fine.0.0)) le
              (cut (stands st r k x.ready)
              (sound_charged m laws o z st sound r fine.0.0 s f.2).0
              (capped_charged st sound h r fine.0 s (leb-true x.ready t le) f.2)
              rs fine.1 xs ks f.3)
          | inr gt ↦ cut_none st sound h (keys_of (r ∷ rs)) (x.ready ∷ ticks_of xs) (rw (gt, up_to) refl)
        ]

-- each reply's class occurs
pub occurs_each : {B : Type 0} (rs : List (Reply B)) → All (λ (r : Reply B). occurs (keys_of rs) r.«class» ≡ true) rs
occurs_each [] = tt
occurs_each {B} (r ∷ rs) = (
  or_left (eqb r.«class» r.«class») (occurs (keys_of rs) r.«class») (eq-eqb r.«class» r.«class» refl),
  all_map (λ (x : Reply B). occurs (keys_of rs) x.«class» ≡ true) (λ (x : Reply B). occurs (keys_of (r ∷ rs)) x.«class» ≡ true)
      (λ x e. or_right (eqb x.«class» r.«class») (occurs (keys_of rs) x.«class») e) rs (occurs_each rs),
)
