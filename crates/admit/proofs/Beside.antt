-- Laws of the sets beside the working array (`specs/Sets`): the set of the member at hand, those of two parts of the
-- members, and one more. Assumes nothing.
use mathlib.Core.Path.{◌≡◌, refl, sym, ◌∙◌, ap, subst}
use mathlib.Core.Bool.{Bool, true, false, cond}
use mathlib.Core.List.{List, [], ◌∷◌, ◌++◌}
use Prim.Native.Nat.{ℕ, suc, ◌+◌, ◌-◌, ◌≤◌, ◌<◌}
use native.Mathlib.Omega.{arith}
use Rattle.std.proofs.lemmas.List.{get_or_append_left}
use lib.ListN.{length, get_or, set, take, drop, length-append, length-drop}
use lib.Seq.{get_or-set_same, get_or-set_other, get_or-take, get_or-drop, length-take-le}
use Rattle.covering.specs.Lists.{keep}
use Rattle.covering.specs.Term.{Question}
use Rattle.covering.specs.Record.{stored, question_of, record_bytes, width}
use Rattle.covering.proofs.Lists.{keep_few}
use Rattle.records.specs.Relations.{relations_of}
use Rattle.reading.specs.Word.{byte}
use Rattle.exploration.specs.Union.{first_at}
use Rattle.exploration.specs.Held.{held_bytes, held_from, held_end, Standing}
use Rattle.exploration.proofs.HeldBytes.{held_last}
use Rattle.exploration.proofs.Members.{ending, members_step, members_more, members_split, member_width, members_count}
use Rattle.admit.specs.Sets.{SetsFrom, Beside}

-- where all are kept they are the same
pub keep_whole : {A : Type 0} (p : A → Bool) (l : List A) → length l ≤ length (keep p l) → keep p l ≡ l
keep_whole p [] h = refl
keep_whole {A} p (x ∷ l) h = go (p x) (keep_few p l) (keep_whole p l) h
  where
    go : (b : Bool) → length (keep p l) ≤ length l → (length l ≤ length (keep p l) → keep p l ≡ l)
        → suc (length l) ≤ length (cond b (x ∷ keep p l) (keep p l))
        → cond b (x ∷ keep p l) (keep p l) ≡ x ∷ l
    go true few same h = ap (λ (r : List A). x ∷ r) (same (omega arith))
    go false few same h = absurd (omega arith)

module _ (S : List ℕ) where
  -- the set of the member at hand, the j-th of n, and those of the others
  pub sets_here : (W : List ℕ) (at j n i : ℕ) → j < n → SetsFrom S i (held_from W at (n - j))
      → (get_or S i 0 ≡ relations_of (question_of stored (drop at W)))
      × SetsFrom S (i + 1) (held_from W (held_end W at) (n - (j + 1)))
  unfolding SetsFrom
  sets_here W at j n i h s = subst (SetsFrom S i) (members_more W at n j h) s

  -- the same members, where they stand by another name
  pub sets_at : (W : List ℕ) (i at to n : ℕ) → to ≡ at → SetsFrom S i (held_from W at n) → SetsFrom S i (held_from W to n)
  sets_at W i at to n e s = subst (λ (k : ℕ). SetsFrom S i (held_from W k n)) (sym e) s

  -- whatever sets come after them
  pub sets_longer : (U : List Question) (i : ℕ) (R : List ℕ) → i + length U ≤ length S → SetsFrom S i U → SetsFrom (S ++ R) i U
  unfolding SetsFrom
  sets_longer [] i R h s = tt
  sets_longer (M ∷ U) i R h s =
      (get_or_append_left S R 0 i (omega arith) ∙ s.0, sets_longer U (i + 1) R (omega arith) s.1)

  -- those of two parts
  pub sets_split : (A B : List Question) (i : ℕ) → SetsFrom S i (A ++ B) → SetsFrom S i A × SetsFrom S (i + length A) B
  unfolding SetsFrom
  sets_split [] B i s = (tt, subst (λ (k : ℕ). SetsFrom S k B) none s)
    where
      none : i ≡ i + 0
      none = omega arith
  sets_split (M ∷ A) B i s =
      let r = sets_split A B (i + 1) s.1 in
      ((s.0, r.0), subst (λ (k : ℕ). SetsFrom S k B) next r.1)
    where
      next : i + 1 + length A ≡ i + suc (length A)
      next = omega arith

  -- one more
  pub sets_more : (U : List Question) (P : Question) (i k v : ℕ) → k ≡ i + length U → k < length S
      → v ≡ relations_of P → SetsFrom S i U → SetsFrom (set S k v) i (U ++ P ∷ [])
  unfolding SetsFrom
  sets_more [] P i k v e l is s = (ap (λ (j : ℕ). get_or (set S k v) j 0) here ∙ get_or-set_same S k v 0 l ∙ is, tt)
    where
      here : i ≡ k
      here = omega (arith, e)
  sets_more (M ∷ U) P i k v e l is s = (
    get_or-set_other S k i v 0 (λ d. apart d) ∙ s.0,
    sets_more U P (i + 1) k v (omega (arith, e)) l is s.1,
  )
    where
      apart : i ≡ k → ⊥
      apart d = omega (arith, d, e)

-- the sets of members that stand in a part, in that part alone
sets_part : (S : List ℕ) (i k j : ℕ) (U : List Question) → j + length U ≤ k → SetsFrom S (i + j) U
    → SetsFrom (take k (drop i S)) j U
unfolding SetsFrom
sets_part S i k j [] h s = tt
sets_part S i k j (M ∷ U) h s = (
  get_or-take k (drop i S) j 0 (omega arith) ∙ get_or-drop i S j 0 ∙ s.0,
  sets_part S i k (j + 1) U (omega arith) (subst (λ (n : ℕ). SetsFrom S n U) one_more s.1),
)
  where
    one_more : i + j + 1 ≡ i + (j + 1)
    one_more = omega arith

-- n sets from the i-th on, for the n members from `at` on
sets_of : (S W : List ℕ) (i n at : ℕ) → i + n ≤ length S → SetsFrom S i (held_from W at n)
    → (length (take n (drop i S)) ≡ n) × SetsFrom (take n (drop i S)) 0 (held_from W at n)
sets_of S W i n at h s = (
  length-take-le n (drop i S) (omega (arith, length-drop i S)),
  sets_part S i n 0 (held_from W at n) (omega (arith, members_count W at n)) (subst (λ (k : ℕ). SetsFrom S k (held_from W at n)) none s),
)
  where
    none : i ≡ i + 0
    none = omega arith

-- n members that stand in W from `at` on, with the list F of their sets
pub record Lent (W F : List ℕ) (at n : ℕ) : Type 0 where
  pub long : length F ≡ n
  pub standing : Standing W at (length F)
  pub sets : SetsFrom F 0 (held_from W at (length F))

pub lent_part : (S W : List ℕ) (i n at : ℕ) → i + n ≤ length S → Standing W at n → SetsFrom S i (held_from W at n)
    → Lent W (take n (drop i S)) at n
lent_part S W i n at h s t =
    let p = sets_of S W i n at h t in
    record {
      long = p.0;
      standing = subst (Standing W at) (sym p.0) s;
      sets = subst (λ (k : ℕ). SetsFrom (take n (drop i S)) 0 (held_from W at k)) (sym p.0) p.1;
    }

-- all of them
pub lent_all : {S W : List ℕ} {n : ℕ} → n ≤ 64 → Standing W first_at n → Beside S W n → Lent W (take n S) first_at n
lent_all {S} {W} {n} h s b = lent_part S W 0 n first_at (omega (arith, b.size)) s b.sets

-- the i-th member of the array, which stands where those before it end
module _ (W : List ℕ) (at i : ℕ) (is : at ≡ ending W first_at i) where
  pub next_members : held_from W first_at (i + 1) ≡ held_from W first_at i ++ question_of stored (drop at W) ∷ []
  unfolding held_from
  next_members =
      members_split W first_at i 1
      ∙ ap (λ (j : ℕ). held_from W first_at i ++ held_from W j 1) (sym is)
      ∙ ap (λ (U : List Question). held_from W first_at i ++ U) (members_step W at 0)

  pub next_end : at + width stored (byte W at) ≡ ending W first_at (i + 1)
  next_end =
      omega (
        arith,
        is,
        ap (λ (U : List Question). length (held_bytes U)) next_members,
        ap length (held_last (held_from W first_at i) (question_of stored (drop at W))),
        length-append (held_bytes (held_from W first_at i)) (record_bytes stored (question_of stored (drop at W))),
        member_width W at,
      )

  pub sets_next : (S : List ℕ) (v : ℕ) → i < length S → v ≡ relations_of (question_of stored (drop at W))
      → SetsFrom S 0 (held_from W first_at i) → SetsFrom (set S i v) 0 (held_from W first_at (i + 1))
  sets_next S v l e s =
      subst (SetsFrom (set S i v) 0) (sym next_members)
      (sets_more S (held_from W first_at i) (question_of stored (drop at W)) 0 i v (omega (arith, members_count W first_at i)) l e s)
