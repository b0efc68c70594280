-- What a run keeps, by any covering test that decides a preorder and any lister: the question is covered, each
-- rewriting of each explored member is covered, no member covers another, and there is room for all of them. So a
-- complete run leaves a closed union. Assumes nothing.
use mathlib.Core.Path.{◌≡◌, refl, sym, subst}
use mathlib.Core.Bool.{Bool, true, false, cond, not}
use mathlib.Core.Logic.{◌⊎◌, inl, inr, ◌↔◌}
use mathlib.Core.List.Memᴰ
use mathlib.Core.List.{List, [], ◌∷◌, ◌++◌}
use mathlib.Core.Option.{some}
use Prim.Native.Nat.{ℕ, ◌≤◌}
use native.Mathlib.Omega.{arith}
use lib.Dec.{T}
use lib.ListN.{length, length-append}
use Rattle.covering.specs.Lists.{◌∈◌, keep}
use Rattle.covering.specs.Term.{Question}
use Rattle.covering.specs.Form.{form}
use Rattle.covering.proofs.Lists.{any_in, any_out, keep_out}
use Rattle.covering.proofs.Tests.{decide, clash}
use Rattle.exploration.specs.Run.{Test, Limits, State, oldest, taken_up, covered, remaining, appended}
use Rattle.exploration.specs.Steps.{Position, between, within, Admitted, Reaches}
use Rattle.exploration.specs.Chain.{Apart}
use Rattle.exploration.proofs.Invariant.{admissions_keep, KeptByExploration, explorations_keep, state_at}
use Rattle.exploration.proofs.States.{explored, oldest_in, taken_cases, stays, new_in}
use Rattle.exploration.proofs.States.{explored_out, each_member}

-- some member covers it
abbrev pub CoveredBy : (Question → Question → Type 0) → List Question → Question → Type 0
CoveredBy Cov U X = (N : Question) × (N ∈ U) × Cov N X

module _ (cov : Test) (Cov : Question → Question → Type 0) (decides : (A B : Question) → T (cov A B) ↔ Cov A B) where
  -- no member covers another: a rewriting is appended only where none covers it, and those that it covers are gone
  abbrev Free : Question → Question → Type 0
  Free M N = (¬ Cov M N) × (¬ Cov N M)

  apart_keep : (p : Question → Bool) (U : List Question) → Apart Cov U → Apart Cov (keep p U)
  apart_keep p [] a = tt
  apart_keep p (M ∷ U) a = go (p M) (apart_keep p U a.1)
    where
      go : (b : Bool) → Apart Cov (keep p U) → Apart Cov (cond b (M ∷ keep p U) (keep p U))
      go true k = (λ N x. a.0 N (keep_out p U x).0, k)
      go false k = k

  apart_last : (U : List Question) (P : Question) → Apart Cov U → ((N : Question) → N ∈ U → Free P N)
      → Apart Cov (U ++ P ∷ [])
  apart_last [] P a h = (λ N x. absurd (Memᴰ.not-nil x), tt)
  apart_last (M ∷ U) P a h = (
    λ N x. at N (Memᴰ.append_cases U x),
    apart_last U P a.1 (λ N x. h N (Memᴰ.tail x)),
  )
    where
      at : (N : Question) → (N ∈ U) ⊎ (N ∈ P ∷ []) → Free M N
      at N (inl x) = a.0 N x
      at N (inr x) =
          let f = h M (Memᴰ.head refl) in subst (Free M) (sym (Memᴰ.eq_of_singleton x)) (f.1, f.0)

  none_covers : (U : List Question) (P : Question) → T (not (covered cov P U)) → (N : Question) → N ∈ U → ¬ Cov N P
  none_covers U P t N m c = clash (covered cov P U) (any_in (λ M. cov M P) U m ((decides N P).1 c)) t

  apart_appended : (s : State) (P : Question) → T (not (covered cov P s.members)) → Apart Cov s.members
      → Apart Cov (appended cov s P).members
  apart_appended s P t a =
      apart_last (remaining cov P s.members) P (apart_keep (λ N. not (cov P N)) s.members a)
      (λ N x. free N (keep_out (λ M. not (cov P M)) s.members x))
    where
      free : (N : Question) → (N ∈ s.members) × T (not (cov P N)) → Free P N
      free N h = ((λ c. clash (cov P N) ((decides P N).1 c) h.1), none_covers s.members P t N h.0)

  module _ (itself : (A : Question) → Cov A A) (chain : (A B C : Question) → Cov A B → Cov B C → Cov A C) where
    -- a member that goes is covered by the one that comes
    still_covered : (s : State) (P X : Question) → CoveredBy Cov s.members X
        → CoveredBy Cov (appended cov s P).members X
    still_covered s P X c = go (decide (cov P c.0))
      where
        go : T (cov P c.0) ⊎ T (not (cov P c.0)) → CoveredBy Cov (appended cov s P).members X
        go (inl t) = (P, new_in cov s P, chain P c.0 X ((decides P c.0).0 t) c.2)
        go (inr t) = (c.0, stays cov s P c.1 t, c.2)

    new_covered : (s : State) (P : Question) → CoveredBy Cov (appended cov s P).members P
    new_covered s P = (P, new_in cov s P, itself P)

    module _ (lim : Limits) (steps : Question → List Question) (allowed : ℕ) (Q : Question) where
      pub members_apart : {p : Position} → Reaches cov lim steps allowed Q p → Apart Cov (state_at p).members
      members_apart =
          admissions_keep cov lim steps allowed Q {I = λ s. Apart Cov s.members}
          (record {
            first = (λ N x. absurd (Memᴰ.not-nil x), tt);
            takes = λ s M e a. a;
            admits = λ s P m a. apart_appended s P m.new.uncovered a;
          })

      pub members_some : {p : Position} → Reaches cov lim steps allowed Q p → 1 ≤ length (state_at p).members
      members_some =
          admissions_keep cov lim steps allowed Q {I = λ s. 1 ≤ length s.members}
          (record {
            first = omega arith;
            takes = λ s M e a. a;
            admits = λ s P m a. omega (arith, length-append (remaining cov P s.members) (P ∷ []));
          })

      pub members_room : 1 ≤ lim.room → {p : Position} → Reaches cov lim steps allowed Q p
          → length (state_at p).members ≤ lim.room
      members_room one =
          admissions_keep cov lim steps allowed Q {I = λ s. length s.members ≤ lim.room}
          (record {
            first = one;
            takes = λ s M e a. a;
            admits =
                λ s P m a. let h = m.fits in omega (arith, length-append (remaining cov P s.members) (P ∷ []));
          })

      pub question_covered : Cov (form Q) Q → {p : Position} → Reaches cov lim steps allowed Q p
          → CoveredBy Cov (state_at p).members Q
      question_covered c =
          admissions_keep cov lim steps allowed Q {I = λ s. CoveredBy Cov s.members Q}
          (record {
            first = (form Q, Memᴰ.head refl, c);
            takes = λ s M e a. a;
            admits = λ s P m a. still_covered s P Q a;
          })

      -- Each rewriting of an explored member is covered; of the one being explored, each but those yet to come. Where
      -- that one is removed nothing is yet to come: it is no member any more.
      abbrev pub Closed : State → Type 0
      Closed s = (N : Question) → N ∈ explored s → (X : Question) → X ∈ steps N → CoveredBy Cov s.members X

      abbrev ClosedBut : Question → List Question → State → Type 0
      ClosedBut M Ps s =
          (N : Question) → N ∈ explored s → (X : Question) → X ∈ steps N
          → CoveredBy Cov s.members X ⊎ ((N ≡ M) × (X ∈ Ps))

      -- once P is covered
      dealt_with : (M P : Question) (Ps U : List Question) (N X : Question) → CoveredBy Cov U P
          → CoveredBy Cov U X ⊎ ((N ≡ M) × (X ∈ P ∷ Ps)) → CoveredBy Cov U X ⊎ ((N ≡ M) × (X ∈ Ps))
      dealt_with M P Ps U N X c (inl h) = inl h
      dealt_with M P Ps U N X c (inr h) = go (Memᴰ.cases_cons h.1)
        where
          go : (X ≡ P) ⊎ (X ∈ Ps) → CoveredBy Cov U X ⊎ ((N ≡ M) × (X ∈ Ps))
          go (inl e) = inl (subst (CoveredBy Cov U) (sym e) c)
          go (inr k) = inr (h.0, k)

      opens_closed : (s : State) (M : Question) → oldest s ≡ some M → Closed s → ClosedBut M (steps M) (taken_up s)
      opens_closed s M e c N m X x = go (taken_cases s M e m)
        where
          go : (N ∈ explored s) ⊎ (N ≡ M) → CoveredBy Cov s.members X ⊎ ((N ≡ M) × (X ∈ steps M))
          go (inl k) = inl (c N k X x)
          go (inr q) = inr (q, subst (λ (Y : Question). X ∈ steps Y) q x)

      drops_closed : (M P : Question) (Ps : List Question) (s : State) → T (covered cov P s.members)
          → ClosedBut M (P ∷ Ps) s → ClosedBut M Ps s
      drops_closed M P Ps s t c N m X x =
          let y = any_out (λ K. cov K P) s.members t in
          dealt_with M P Ps s.members N X (y.0, y.1, (decides y.0 P).0 y.2) (c N m X x)

      appends_closed : (M P : Question) (Ps : List Question) (s : State) → ClosedBut M (P ∷ Ps) s
          → ClosedBut M Ps (appended cov s P)
      appends_closed M P Ps s c N m X x =
          dealt_with M P Ps (appended cov s P).members N X (new_covered s P)
          (go (c N (explored_out cov s P m).0 X x))
        where
          go : CoveredBy Cov s.members X ⊎ ((N ≡ M) × (X ∈ P ∷ Ps))
              → CoveredBy Cov (appended cov s P).members X ⊎ ((N ≡ M) × (X ∈ P ∷ Ps))
          go (inl h) = inl (still_covered s P X h)
          go (inr h) = inr h

      stops_closed : (M P : Question) (Ps : List Question) (s : State) → T (cov P M) → ClosedBut M (P ∷ Ps) s
          → Closed (appended cov s P)
      stops_closed M P Ps s t c N m X x = go (explored_out cov s P m)
        where
          at : T (not (cov P N)) → CoveredBy Cov s.members X ⊎ ((N ≡ M) × (X ∈ P ∷ Ps))
              → CoveredBy Cov (appended cov s P).members X
          at u (inl h) = still_covered s P X h
          at u (inr h) = absurd (clash (cov P N) (subst (λ (Y : Question). T (cov P Y)) (sym h.0) t) u)

          go : (N ∈ explored s) × T (not (cov P N)) → CoveredBy Cov (appended cov s P).members X
          go k = at k.1 (c N k.0 X x)

      closes_closed : (M : Question) (s : State) → ClosedBut M [] s → Closed s
      closes_closed M s c N m X x = go (c N m X x)
        where
          go : CoveredBy Cov s.members X ⊎ ((N ≡ M) × (X ∈ [])) → CoveredBy Cov s.members X
          go (inl h) = h
          go (inr h) = absurd (Memᴰ.not-nil h.1)

      pub explored_closed : {s : State} {n : ℕ} → Reaches cov lim steps allowed Q (between s n) → Closed s
      explored_closed =
          explorations_keep cov lim steps allowed Q {I = Closed} {J = ClosedBut}
          (record {
            first = λ N m X x. absurd (Memᴰ.not-nil m);
            opens = opens_closed;
            drops = drops_closed;
            appends = λ M P Ps s a t c. appends_closed M P Ps s c;
            stops = λ M P Ps s a t c. stops_closed M P Ps s t c;
            closes = closes_closed;
          })

      -- what steps preserve, members have
      module _ (Good : Question → Type 0) (first_good : Good (form Q))
          (step-good : (M : Question) → Good M → (P : Question) → P ∈ steps M → length P ≤ lim.cap → Good P)
        where
          abbrev AllGood : State → Type 0
          AllGood s = (N : Question) → N ∈ s.members → Good N

          record GoodWithin (M : Question) (Ps : List Question) (s : State) : Type 0 where
            members : AllGood s
            taken : Good M
            pending : (P : Question) → P ∈ Ps → P ∈ steps M

          tail_good : {M P : Question} {Ps : List Question} {s t : State} → AllGood t → GoodWithin M (P ∷ Ps) s
              → GoodWithin M Ps t
          tail_good a g = record { members = a; taken = g.taken; pending = λ X x. g.pending X (Memᴰ.tail x) }

          appended_good : (M P : Question) (Ps : List Question) (s : State) → Admitted cov lim s P
              → GoodWithin M (P ∷ Ps) s → AllGood (appended cov s P)
          appended_good M P Ps s a g =
              each_member cov s P Good g.members
              (step-good M g.taken P (g.pending P (Memᴰ.head refl)) a.new.short)

          all_kept : KeptByExploration cov lim steps allowed Q AllGood GoodWithin
          all_kept =
              record {
                first = λ N m. subst Good (sym (Memᴰ.eq_of_singleton m)) first_good;
                opens = λ s M e g. record { members = g; taken = g M (oldest_in s M e); pending = λ P x. x };
                drops = λ M P Ps s t g. tail_good g.members g;
                appends = λ M P Ps s a t g. tail_good (appended_good M P Ps s a g) g;
                stops = λ M P Ps s a t g. appended_good M P Ps s a g;
                closes = λ M s g. g.members;
              }

          pub members_good : {s : State} {n : ℕ} → Reaches cov lim steps allowed Q (between s n)
              → (N : Question) → N ∈ s.members → Good N
          members_good c = explorations_keep cov lim steps allowed Q all_kept c

          -- and so has the one being explored
          pub taken_good : {M : Question} {Ps : List Question} {s : State} {n : ℕ}
              → Reaches cov lim steps allowed Q (within M Ps s n) → Good M
          taken_good c = (explorations_keep cov lim steps allowed Q all_kept c).taken
