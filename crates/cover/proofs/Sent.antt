-- Laws of sending an atom's places: what the map has after it, and that it is taken back whole. Assumes nothing.
use mathlib.Core.Path.{◌≡◌, refl, sym, ◌∙◌, ap, subst}
use mathlib.Core.Bool.{Bool, true, false, cond, ◌&&◌}
use mathlib.Core.Logic.{◌⊎◌, inl, inr}
use mathlib.Core.List.{List, [], ◌∷◌}
use mathlib.Core.Option.{none, some}
use Prim.Native.Nat.{ℕ, zero, suc, ◌+◌, ◌-◌, ◌≤◌, ◌<◌}
use native.Mathlib.Omega.{arith}
use native.Mathlib.Numerals.{add-one}
use borrow.Author.Tests.{eqb-true, eqb-false, eq-eqb, ne_eqb, ltb-true, ltb-false, lt-ltb, le-ltb}
use lib.Dec.{T, eqb, ltb}
use lib.ListN.{length, get_or, set, length-set}
use lib.Seq.{get_or-set_same, get_or-set_other}
use Rattle.covering.specs.Lists.{is_some}
use Rattle.covering.specs.Search.{place_term}
use Rattle.covering.specs.Record.{term_of}
use Rattle.cover.specs.HeldMap.{part_of, put, sent_to, HadBefore, taken_back}
use Rattle.covering.proofs.Tests.{either, le_or_lt}
use Rattle.cover.proofs.Maps.{place_new, place_old, place_constant}

-- a byte written and written back
pub set_back : (m : List ℕ) (t u : ℕ) → set (set m t u) t (get_or m t 0) ≡ m
set_back [] t u = refl
set_back (x ∷ m) zero u = refl
set_back (x ∷ m) (suc t) u = ap (λ l. x ∷ l) (set_back m t u)

pub set_same : (m : List ℕ) (t : ℕ) → set m t (get_or m t 0) ≡ m
set_same [] t = refl
set_same (x ∷ m) zero = refl
set_same (x ∷ m) (suc t) = ap (λ l. x ∷ l) (set_same m t)

-- the ways of one place
module _ (m : List ℕ) (t u : ℕ) where
  pub put_new : t < 96 → get_or m t 0 ≡ 255 → put m t u ≡ set m t u
  unfolding put
  put_new v e = rw (lt-ltb t 96 v, eq-eqb (get_or m t 0) 255 e)

  pub put_old : (get_or m t 0 ≡ 255 → ⊥) → put m t u ≡ m
  unfolding put
  put_old f = go (ltb t 96)
    where
      go : (b : Bool) → cond (b && eqb (get_or m t 0) 255) (set m t u) m ≡ m
      go true = rw (ne_eqb (get_or m t 0) 255 f)
      go false = refl

  pub put_constant : 96 ≤ t → put m t u ≡ m
  unfolding put
  put_constant h = rw (le-ltb t 96 h)

  pub length_put : length (put m t u) ≡ length m
  unfolding put
  length_put = go (ltb t 96 && eqb (get_or m t 0) 255)
    where
      go : (b : Bool) → length (cond b (set m t u) m) ≡ length m
      go true = length-set m t u
      go false = refl

  -- another variable's byte stays
  pub put_other : (n : ℕ) → (t ≡ n → ⊥) → get_or (put m t u) n 0 ≡ get_or m n 0
  unfolding put
  put_other n f = go (ltb t 96 && eqb (get_or m t 0) 255)
    where
      go : (b : Bool) → get_or (cond b (set m t u) m) n 0 ≡ get_or m n 0
      go true = get_or-set_other m t n u 0 (λ e. f (sym e))
      go false = refl

  -- and so does one that goes somewhere
  pub put_keeps : (n : ℕ) → (get_or m n 0 ≡ 255 → ⊥) → get_or (put m t u) n 0 ≡ get_or m n 0
  put_keeps n f = go (either (eqb t n))
    where
      go : (eqb t n ≡ true) ⊎ (eqb t n ≡ false) → get_or (put m t u) n 0 ≡ get_or m n 0
      go (inl e) = ap (λ l. get_or l n 0) (put_old (λ q. f (ap (λ x. get_or m x 0) (sym (eqb-true t n e)) ∙ q)))
      go (inr e) = put_other n (eqb-false t n e)

  -- what was put is taken back by writing what was there
  pub put_back : t < 96 → set (put m t u) t (get_or m t 0) ≡ m
  put_back v = go (either (eqb (get_or m t 0) 255))
    where
      go : (eqb (get_or m t 0) 255 ≡ true) ⊎ (eqb (get_or m t 0) 255 ≡ false) → set (put m t u) t (get_or m t 0) ≡ m
      go (inl e) = ap (λ l. set l t (get_or m t 0)) (put_new v (eqb-true _ _ e)) ∙ set_back m t u
      go (inr e) = ap (λ l. set l t (get_or m t 0)) (put_old (eqb-false _ _ e)) ∙ set_same m t

  -- a place that can be sent is sent
  pub term_sends : length m ≡ 96 → (96 ≤ t → 128 ≤ t) → (u ≡ 255 → ⊥)
      → T (is_some (place_term (part_of m) (term_of t) (term_of u)))
      → place_term (part_of m) (term_of t) (term_of u) ≡ some (part_of (put m t u))
  term_sends l c f s = go (le_or_lt 96 t) (either (eqb (get_or m t 0) 255))
    where
      held : (b : Bool) → T (is_some (cond b (some (part_of m)) none)) → cond b (some (part_of m)) none ≡ some (part_of m)
      held false x = elim x [ ]
      held true x = refl

      go : (96 ≤ t) ⊎ (t < 96) → (eqb (get_or m t 0) 255 ≡ true) ⊎ (eqb (get_or m t 0) 255 ≡ false)
          → place_term (part_of m) (term_of t) (term_of u) ≡ some (part_of (put m t u))
      go (inl h) b =
          let e = place_constant m t u (c h) in
          e
          ∙ held (eqb t u) (subst (λ o. T (is_some o)) e s)
          ∙ ap (λ n. some (part_of n)) (sym (put_constant h))
      go (inr h) (inl b) =
          place_new m t u (omega arith) (omega arith) f (eqb-true _ _ b)
          ∙ ap (λ n. some (part_of n)) (sym (put_new h (eqb-true _ _ b)))
      go (inr h) (inr b) =
          let e = place_old m t u (omega arith) (omega arith) (eqb-false _ _ b) in
          e
          ∙ held (eqb (get_or m t 0) u) (subst (λ o. T (is_some o)) e s)
          ∙ ap (λ n. some (part_of n)) (sym (put_old (eqb-false _ _ b)))

-- the places one after the other
module _ (m F S : List ℕ) where
  abbrev W : ℕ → List ℕ
  W j = sent_to m F S j

  pub sent_none : W 0 ≡ m
  unfolding sent_to
  sent_none = refl

  pub sent_more : (j : ℕ) → W (j + 1) ≡ put (W j) (get_or F j 0) (get_or S j 0)
  unfolding sent_to
  sent_more j = rw (add-one, sent_to) refl

  pub length_sent : (j : ℕ) → length (W j) ≡ length m
  unfolding sent_to
  length_sent zero = refl
  length_sent (suc j) = length_put (W j) (get_or F j 0) (get_or S j 0) ∙ length_sent j

  -- a variable that goes somewhere goes there still
  pub sent_keeps : (t n d : ℕ) → (get_or (W n) t 0 ≡ 255 → ⊥) → get_or (W (n + d)) t 0 ≡ get_or (W n) t 0
  sent_keeps t n zero f = ap (λ j. get_or (W j) t 0) (omega arith)
  sent_keeps t n (suc d) f =
      let before = sent_keeps t n d f in
      ap (λ j. get_or (W j) t 0) (omega arith)
      ∙ ap (λ l. get_or l t 0) (sent_more (n + d))
      ∙ put_keeps (W (n + d)) (get_or F (n + d) 0) (get_or S (n + d) 0) t (λ e. f (sym before ∙ e))
      ∙ before

  pub sent_kept : (t j : ℕ) → (get_or m t 0 ≡ 255 → ⊥) → get_or (W j) t 0 ≡ get_or m t 0
  unfolding sent_to
  sent_kept t j f =
      let e : j ≡ 0 + j = omega arith in
      ap (λ n. get_or (W n) t 0) e ∙ sent_keeps t 0 j f

  -- one that goes nowhere yet goes where its first place is sent
  pub sent_first : (t n j : ℕ) → n < j → t < 96 → length m ≡ 96 → get_or F n 0 ≡ t → get_or (W n) t 0 ≡ 255
      → (get_or S n 0 ≡ 255 → ⊥) → get_or (W j) t 0 ≡ get_or S n 0
  sent_first t n j lt v l e free used =
      let there : get_or (W (n + 1)) t 0 ≡ get_or S n 0 = at_once in
      ap (λ x. get_or (W x) t 0) (omega arith)
      ∙ sent_keeps t (n + 1) (j - (n + 1)) (λ q. used (sym there ∙ q))
      ∙ there
    where
      at_once : get_or (W (n + 1)) t 0 ≡ get_or S n 0
      at_once =
          ap (λ x. get_or x t 0)
          (sent_more n
          ∙ ap (λ x. put (W n) x (get_or S n 0)) e
          ∙ put_new (W n) t (get_or S n 0) v free)
          ∙ get_or-set_same (W n) t (get_or S n 0) 0 (let q = length_sent n in omega arith)

  pub sent_passes : (t n : ℕ) → (get_or F n 0 ≡ t → ⊥) → get_or (W n) t 0 ≡ 255 → get_or (W (n + 1)) t 0 ≡ 255
  sent_passes t n f free =
      ap (λ x. get_or x t 0) (sent_more n) ∙ put_other (W n) (get_or F n 0) (get_or S n 0) t f ∙ free

  -- what was sent is taken back, the last place first
  pub back_whole : (j : ℕ) (h : List ℕ) → HadBefore m F S j h → taken_back (W j) F h j ≡ m
  unfolding sent_to taken_back
  back_whole zero h b = refl
  back_whole (suc j) h b = ap (λ l. taken_back l F h j) (go (either (ltb t 96))) ∙ back_whole j h less
    where
      t : ℕ
      t = get_or F j 0

      less : HadBefore m F S j h
      less = record { room = b.room; had = λ n lt v. b.had n (omega arith) v }

      go : (ltb t 96 ≡ true) ⊎ (ltb t 96 ≡ false)
          → cond (ltb t 96) (set (W (suc j)) t (get_or h j 0)) (W (suc j)) ≡ W j
      go (inl e) =
          rw (e, b.had j (omega arith) (ltb-true t 96 e)) (put_back (W j) t (get_or S j 0) (ltb-true t 96 e))
      go (inr e) = rw e (put_constant (W j) t (get_or S j 0) (ltb-false t 96 e))

  pub had_none : (h : List ℕ) → length h ≡ 6 → HadBefore m F S 0 h
  had_none h e = record { room = e; had = λ n lt v. absurd (omega arith) }

  -- one more place, and what the map had for it
  pub had_more : (j : ℕ) (h : List ℕ) (x : ℕ) → j < 6 → HadBefore m F S j h
      → x ≡ cond (ltb (get_or F j 0) 96) (get_or (W j) (get_or F j 0) 0) 255
      → HadBefore m F S (j + 1) (set h j x)
  had_more j h x lt b e = record { room = length-set h j x ∙ b.room; had = λ n l v. go n l v (either (eqb n j)) }
    where
      go : (n : ℕ) → n < j + 1 → get_or F n 0 < 96 → (eqb n j ≡ true) ⊎ (eqb n j ≡ false)
          → get_or (set h j x) n 0 ≡ get_or (W n) (get_or F n 0) 0
      go n l v (inl q) =
          let same = eqb-true n j q in
          rw same
          (get_or-set_same h j x 0 (let r = b.room in omega arith)
          ∙ e
          ∙ rw (lt-ltb (get_or F j 0) 96 (subst (λ y. get_or F y 0 < 96) same v)) refl)
      go n l v (inr q) =
          let other = eqb-false n j q in
          get_or-set_other h j n x 0 other ∙ b.had n (omega arith) v

-- the places taken back one at a time
module _ (m F h : List ℕ) (left : ℕ) where
  pub back_none : left ≡ 0 → taken_back m F h left ≡ m
  unfolding taken_back
  back_none e = rw (e, taken_back) refl

  pub back_writes : 0 < left → get_or F (left - 1) 0 < 96
      → taken_back m F h left
      ≡ taken_back (set m (get_or F (left - 1) 0) (get_or h (left - 1) 0)) F h (left - 1)
  unfolding taken_back
  back_writes lt v =
      let e : left ≡ suc (left - 1) = omega arith in
      ap (taken_back m F h) e ∙ rw (taken_back, lt-ltb (get_or F (left - 1) 0) 96 v) refl

  pub back_passes : 0 < left → 96 ≤ get_or F (left - 1) 0 → taken_back m F h left ≡ taken_back m F h (left - 1)
  unfolding taken_back
  back_passes lt v =
      let e : left ≡ suc (left - 1) = omega arith in
      ap (taken_back m F h) e ∙ rw (taken_back, le-ltb (get_or F (left - 1) 0) 96 v) refl
