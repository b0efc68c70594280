-- Laws of the test of a candidate: where an atom's places can be sent, sending them is placing the atom. Assumes nothing.
use mathlib.Core.Path.{◌≡◌, refl, sym, ◌∙◌, ap, ap₂, subst}
use mathlib.Core.Bool.{Bool, true, false, cond}
use mathlib.Core.Logic.{◌⊎◌, inl, inr}
use mathlib.Core.List.{List}
use mathlib.Core.Option.{Option, none, some}
use Prim.Native.Nat.{ℕ, zero, suc, ◌+◌, ◌-◌, ◌<◌}
use native.Mathlib.Omega.{arith}
use borrow.Author.Tests.{eqb-true, eqb-false}
use lib.Dec.{T, eqb}
use lib.ListN.{length, get_or}
use Rattle.covering.specs.Lists.{is_some}
use Rattle.covering.specs.Search.{Part, place_term, place_terms, place_atom}
use Rattle.covering.specs.Record.{stored, term_of, args_at, atom_at, is_term, unused, used_first}
use Rattle.cover.specs.HeldMap.{part_of, sent_to, HadBefore}
use Rattle.covering.proofs.Tests.{either, true→T, false→no}
use Rattle.covering.proofs.Lists.{none_of}
use Rattle.covering.proofs.Bytes.{term_constant}
use Rattle.cover.proofs.Parts.{used_on, used_off, unused_on, unused_off}
use Rattle.cover.proofs.Maps.{places_done, places_end, places_short}
use Rattle.cover.proofs.Maps.{places_clash, places_next, atoms_apart, atoms_meet}
use Rattle.cover.proofs.Sent.{put_constant, term_sends, sent_more, length_sent}

-- the places of S that are sent so far, and one more, are used
pub one_used : (S : List ℕ) (j : ℕ) → ((n : ℕ) → n < j → get_or S n 0 ≡ 255 → ⊥) → (get_or S j 0 ≡ 255 → ⊥)
    → (n : ℕ) → n < j + 1 → get_or S n 0 ≡ 255 → ⊥
one_used S j before here n lt e = go (either (eqb n j))
  where
    go : (eqb n j ≡ true) ⊎ (eqb n j ≡ false) → ⊥
    go (inl q) = here (subst (λ x. get_or S x 0 ≡ 255) (eqb-true n j q) e)
    go (inr q) = let other = eqb-false n j q in before n (omega arith) e

pub not_some : {A : Type 0} (o : Option A) → is_some o ≡ false → o ≡ none
not_some o e = none_of o (false→no _ e)

pub some_if : {A : Type 0} (b : Bool) (x : A) → is_some (cond b (some x) none) ≡ b
some_if true x = refl
some_if false x = refl

-- 255 is no term
no_term : is_term stored 255 ≡ false
unfolding is_term
no_term = refl

-- once F's places end nothing more is sent
module _ (m F S : List ℕ) (w : ℕ) where
  pub stops : (j : ℕ) → j < w → T (used_first stored F j (w - j)) → get_or F j 0 ≡ 255
      → T (unused F j (w - j))
  stops j lt u q = subst T (used_off F j w lt (ap (is_term stored) q ∙ no_term)) u

  pub sent_end : (d j : ℕ) → j + d ≡ w → T (unused F j (w - j)) → sent_to m F S w ≡ sent_to m F S j
  sent_end zero j e u = ap (sent_to m F S) (omega arith)
  sent_end (suc d) j e u = go (sent_end d (j + 1) (omega arith)) (either (eqb (get_or F j 0) 255))
    where
      go : (T (unused F (j + 1) (w - (j + 1))) → sent_to m F S w ≡ sent_to m F S (j + 1))
          → (eqb (get_or F j 0) 255 ≡ true) ⊎ (eqb (get_or F j 0) 255 ≡ false)
          → sent_to m F S w ≡ sent_to m F S j
      go onward (inl b) =
          let free = eqb-true _ _ b in
          onward (subst T (unused_on F j w (omega arith) free) u)
          ∙ sent_more m F S j
          ∙ put_constant (sent_to m F S j) (get_or F j 0) (get_or S j 0) (omega arith)
      go onward (inr b) = absurd (subst T (unused_off F j w (omega arith) (eqb-false _ _ b)) u)

  -- and nothing more is to be kept
  pub had_end : (h : List ℕ) (d j : ℕ) → j + d ≡ w → T (unused F j (w - j)) → HadBefore m F S j h
      → HadBefore m F S w h
  had_end h zero j e u b = record { room = b.room; had = λ n lt v. b.had n (omega arith) v }
  had_end h (suc d) j e u b = go (had_end h d (j + 1) (omega arith)) (either (eqb (get_or F j 0) 255))
    where
      one : get_or F j 0 ≡ 255 → (n : ℕ) → n < j + 1 → get_or F n 0 < 96 → (eqb n j ≡ true) ⊎ (eqb n j ≡ false)
          → get_or h n 0 ≡ get_or (sent_to m F S n) (get_or F n 0) 0
      one free n lt v (inl q) =
          let here : get_or F j 0 < 96 = subst (λ x. get_or F x 0 < 96) (eqb-true n j q) v in
          absurd (omega arith)
      one free n lt v (inr q) = let other = eqb-false n j q in b.had n (omega arith) v

      go : (T (unused F (j + 1) (w - (j + 1))) → HadBefore m F S (j + 1) h → HadBefore m F S w h)
          → (eqb (get_or F j 0) 255 ≡ true) ⊎ (eqb (get_or F j 0) 255 ≡ false) → HadBefore m F S w h
      go onward (inl c) =
          let free = eqb-true _ _ c in
          onward (subst T (unused_on F j w (omega arith) free) u)
          record { room = b.room; had = λ n lt v. one free n lt v (either (eqb n j)) }
      go onward (inr c) = absurd (subst T (unused_off F j w (omega arith) (eqb-false _ _ c)) u)

-- w places of which j are passed: where all can be sent, they are
module _ (m F S : List ℕ) (w : ℕ) (l : length m ≡ 96) where
  abbrev sent : ℕ → List ℕ
  sent j = sent_to m F S j

  abbrev rest : ℕ → Option Part
  rest j = place_terms (part_of (sent j)) (args_at F j (w - j)) (args_at S j (w - j))

  module _ (j : ℕ) (lt : j < w) (u : T (used_first stored F j (w - j)))
      (used : get_or F j 0 ≡ 255 → ⊥) (used' : get_or S j 0 ≡ 255 → ⊥) where
    -- one place that can be sent is sent
    pub sent_next : is_some (place_term (part_of (sent j)) (term_of (get_or F j 0)) (term_of (get_or S j 0))) ≡ true
        → rest j ≡ rest (j + 1)
    sent_next b =
        let more = used_on F j w lt u used in
        let size = length_sent m F S j ∙ l in
        places_next F S j w lt _ used used'
        (term_sends (sent j) _ _ size (term_constant stored _ more.0) used' (true→T _ b)
        ∙ ap (λ n. some (part_of n)) (sym (sent_more m F S j)))

  pub sent_all : (d j : ℕ) → j + d ≡ w → T (used_first stored F j (w - j)) → T (is_some (rest j))
      → rest j ≡ some (part_of (sent w))
  sent_all zero j e u s =
      places_done F S j j (w - j) _ (omega arith) ∙ ap (λ n. some (part_of (sent n))) (omega arith)
  sent_all (suc d) j e u s =
      ends (sent_all d (j + 1) (omega arith)) (either (eqb (get_or F j 0) 255)) (either (eqb (get_or S j 0) 255))
    where
      -- the same of the places after this one
      Onward : Type 0
      Onward = T (used_first stored F (j + 1) (w - (j + 1))) → T (is_some (rest (j + 1)))
          → rest (j + 1) ≡ some (part_of (sent w))

      lt : j < w
      lt = omega arith

      -- what is none is not some
      never : rest j ≡ none → rest j ≡ some (part_of (sent w))
      never q = absurd (subst (λ o. T (is_some o)) q s)

      step : Option Part
      step = place_term (part_of (sent j)) (term_of (get_or F j 0)) (term_of (get_or S j 0))

      going_on : Onward → (get_or F j 0 ≡ 255 → ⊥) → (get_or S j 0 ≡ 255 → ⊥)
          → (is_some step ≡ true) ⊎ (is_some step ≡ false) → rest j ≡ some (part_of (sent w))
      going_on onward used used' (inl b) =
          let more = used_on F j w lt u used in
          let size = length_sent m F S j ∙ l in
          let it : step ≡ some (part_of (sent (j + 1)))
          = term_sends (sent j) _ _ size (term_constant stored _ more.0) used' (true→T _ b)
          ∙ ap (λ n. some (part_of n)) (sym (sent_more m F S j)) in
          let next = places_next F S j w lt _ used used' it in
          next ∙ onward more.1 (subst (λ o. T (is_some o)) next s)
      going_on onward used used' (inr b) = never (places_clash F S j w lt _ used used' (not_some step b))

      ends : Onward → (eqb (get_or F j 0) 255 ≡ true) ⊎ (eqb (get_or F j 0) 255 ≡ false)
          → (eqb (get_or S j 0) 255 ≡ true) ⊎ (eqb (get_or S j 0) 255 ≡ false)
          → rest j ≡ some (part_of (sent w))
      ends onward (inl a) (inl b) =
          places_end F S j w lt _ (eqb-true _ _ a)
          ∙ rw b (ap (λ n. some (part_of n)) (sym (sent_end m F S w (suc d) j e (stops m F S w j lt u (eqb-true _ _ a)))))
      ends onward (inl a) (inr b) = never (places_end F S j w lt _ (eqb-true _ _ a) ∙ rw b refl)
      ends onward (inr a) (inl b) = never (places_short F S j w lt _ (eqb-false _ _ a) (eqb-true _ _ b))
      ends onward (inr a) (inr b) = going_on onward (eqb-false _ _ a) (eqb-false _ _ b) (either (is_some step))

-- an atom that can be placed is placed by sending its places, T, to the candidate's, U
pub atom_placed : (m F S T' U : List ℕ) (i k : ℕ) → length m ≡ 96 → T (used_first stored T' 0 6)
    → args_at T' 0 6 ≡ args_at F (i + 1) 6 → args_at U 0 6 ≡ args_at S (k + 1) 6
    → T (is_some (place_atom (part_of m) (atom_at stored F i) (atom_at stored S k)))
    → place_atom (part_of m) (atom_at stored F i) (atom_at stored S k) ≡ some (part_of (sent_to m T' U 6))
unfolding sent_to
atom_placed m F S T' U i k l used x y s = go (either (eqb (get_or F i 0) (get_or S k 0)))
  where
    go : (eqb (get_or F i 0) (get_or S k 0) ≡ true) ⊎ (eqb (get_or F i 0) (get_or S k 0) ≡ false)
        → place_atom (part_of m) (atom_at stored F i) (atom_at stored S k) ≡ some (part_of (sent_to m T' U 6))
    go (inl b) =
        let meet = atoms_meet stored F S i k (part_of m) (eqb-true _ _ b) in
        let there : place_terms (part_of m) (args_at T' 0 6) (args_at U 0 6)
        ≡ place_terms (part_of m) (args_at F (i + 1) 6) (args_at S (k + 1) 6)
        = ap₂ (place_terms (part_of m)) x y in
        meet ∙ sym there ∙ sent_all m T' U 6 l 6 0 refl used (subst (λ o. T (is_some o)) (meet ∙ sym there) s)
    go (inr b) =
        absurd (subst (λ o. T (is_some o)) (atoms_apart stored F S i k (part_of m) (eqb-false _ _ b)) s)
