-- Laws of a run's states: who is a member after an admission, who is explored, who is taken up next. Assumes nothing.
use mathlib.Core.Path.{◌≡◌, refl, sym, ◌∙◌, ap, subst}
use mathlib.Core.Bool.{Bool, not}
use mathlib.Core.Logic.{◌⊎◌, inl, inr}
use mathlib.Core.List.Memᴰ
use mathlib.Core.List.{List, [], ◌∷◌, ◌++◌, append_assoc}
use mathlib.Core.Option.{none, some, some-injective}
use Prim.Native.Nat.{ℕ, zero, suc}
use lib.Dec.{T}
use lib.ListN.{length, take, drop, take-append-drop}
use lib.Seq.{take-append_seam}
use Rattle.covering.specs.Lists.{◌∈◌, keep, head}
use Rattle.covering.specs.Term.{Question}
use Rattle.covering.proofs.Lists.{keep_in, keep_out, keep_append}
use Rattle.covering.proofs.Tests.{none≢some, cond_yes}
use Rattle.exploration.specs.Run.{Test, State, oldest, taken_up, appended, remaining}

module _ {A : Type 0} where
  -- of those in front the ones that are kept stay in front
  pub keep_front : (p : A → Bool) (n : ℕ) (l k : List A)
      → take (length (keep p (take n l))) (keep p l ++ k) ≡ keep p (take n l)
  keep_front p n l k =
      ap (take (length (keep p (take n l))))
      (ap (λ (r : List A). r ++ k)
      (ap (keep p) (sym (take-append-drop n l)) ∙ keep_append p (take n l) (drop n l))
      ∙ append_assoc (keep p (take n l)) (keep p (drop n l)) k)
      ∙ take-append_seam (keep p (take n l)) (keep p (drop n l) ++ k)

  head_next : (n : ℕ) (l : List A) (a : A) → head (drop n l) ≡ some a → take (suc n) l ≡ take n l ++ a ∷ []
  head_next zero [] a e = absurd (none≢some e)
  head_next zero (x ∷ l) a e = ap (λ (y : A). y ∷ []) (some-injective x a e)
  head_next (suc n) [] a e = absurd (none≢some e)
  head_next (suc n) (x ∷ l) a e = ap (λ (r : List A). x ∷ r) (head_next n l a e)

  head_in : (n : ℕ) (l : List A) (a : A) → head (drop n l) ≡ some a → a ∈ l
  head_in zero [] a e = absurd (none≢some e)
  head_in zero (x ∷ l) a e = Memᴰ.head (sym (some-injective x a e))
  head_in (suc n) [] a e = absurd (none≢some e)
  head_in (suc n) (x ∷ l) a e = Memᴰ.tail (head_in n l a e)

  head_out : (n : ℕ) (l : List A) → head (drop n l) ≡ none → take n l ≡ l
  head_out zero [] e = refl
  head_out zero (x ∷ l) e = absurd (none≢some (sym e))
  head_out (suc n) [] e = refl
  head_out (suc n) (x ∷ l) e = ap (λ (r : List A). x ∷ r) (head_out n l e)

-- the explored members
abbrev pub explored : State → List Question
explored s = take s.explored s.members

-- taking up
module _ (s : State) (M : Question) (e : oldest s ≡ some M) where
  pub oldest_in : M ∈ s.members
  oldest_in = head_in s.explored s.members M e

  -- it is the last of the explored ones
  pub taken_last : explored (taken_up s) ≡ explored s ++ M ∷ []
  taken_last = head_next s.explored s.members M e

  pub taken_cases : {N : Question} → N ∈ explored (taken_up s) → (N ∈ explored s) ⊎ (N ≡ M)
  taken_cases {N} m =
      go
      (Memᴰ.append_cases (explored s)
      (subst (λ (l : List Question). N ∈ l) taken_last m))
    where
      go : (N ∈ explored s) ⊎ (N ∈ M ∷ []) → (N ∈ explored s) ⊎ (N ≡ M)
      go (inl x) = inl x
      go (inr x) = inr (Memᴰ.eq_of_singleton x)

-- "When none is unexplored"
pub all_explored : (s : State) → oldest s ≡ none → explored s ≡ s.members
all_explored s e = head_out s.explored s.members e

module _ (cov : Test) (s : State) (P : Question) where
  -- after an admission: those that stay, and the new one
  pub stays : {N : Question} → N ∈ s.members → T (not (cov P N)) → N ∈ (appended cov s P).members
  stays m t = Memᴰ.append_left (P ∷ []) (keep_in (λ N. not (cov P N)) s.members m t)

  pub new_in : P ∈ (appended cov s P).members
  new_in = Memᴰ.append_right (remaining cov P s.members) (Memᴰ.head refl)

  pub member_cases : {N : Question} → N ∈ (appended cov s P).members → ((N ∈ s.members) × T (not (cov P N))) ⊎ (N ≡ P)
  member_cases {N} m = go (Memᴰ.append_cases (remaining cov P s.members) m)
    where
      go : (N ∈ remaining cov P s.members) ⊎ (N ∈ P ∷ []) → ((N ∈ s.members) × T (not (cov P N))) ⊎ (N ≡ P)
      go (inl x) = inl (keep_out (λ N. not (cov P N)) s.members x)
      go (inr x) = inr (Memᴰ.eq_of_singleton x)

  -- the explored ones are those of before that stay, so they stand in front again
  pub explored_stay : explored (appended cov s P) ≡ remaining cov P (explored s)
  explored_stay = keep_front (λ N. not (cov P N)) s.explored s.members (P ∷ [])

  pub explored_out : {N : Question} → N ∈ explored (appended cov s P) → (N ∈ explored s) × T (not (cov P N))
  explored_out {N} m =
      keep_out (λ N. not (cov P N)) (explored s) (subst (λ (l : List Question). N ∈ l) explored_stay m)

  -- what each member has and the new one has
  pub each_member : (G : Question → Type 0) → ((N : Question) → N ∈ s.members → G N) → G P
      → (N : Question) → N ∈ (appended cov s P).members → G N
  each_member G each new N m = go (member_cases m)
    where
      go : ((N ∈ s.members) × T (not (cov P N))) ⊎ (N ≡ P) → G N
      go (inl x) = each N x.0
      go (inr e) = subst G (sym e) new

  -- the last of the explored ones stays the last unless it is removed
  pub last_stays : (M : Question) (front : List Question) → T (not (cov P M)) → explored s ≡ front ++ M ∷ []
      → explored (appended cov s P) ≡ remaining cov P front ++ M ∷ []
  last_stays M front t e =
      explored_stay
      ∙ ap (remaining cov P) e
      ∙ keep_append (λ N. not (cov P N)) front (M ∷ [])
      ∙ ap (λ (l : List Question). remaining cov P front ++ l) (cond_yes (not (cov P M)) (M ∷ []) [] t)
